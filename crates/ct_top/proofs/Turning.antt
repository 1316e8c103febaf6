-- Turns that are due, by what was found.
use Rattle.std.proofs.Common.{◌≡◌, ◌==◌, ℕ, List, [], ◌∷◌, length, arith, true, false, Option, Some, None, Result, Ok, Err, refl, sym, ap, subst, inl, inr}
use Rattle.std.proofs.lemmas.Bool.{eqb-true}
use Rattle.ct_entry.specs.declared.rows.Owner.{Owner}
use Rattle.def_image.specs.Parts.{PartsRow}
use Rattle.def_port.specs.Bytes.{SinkView}
use Rattle.def_image.specs.Accepted.{IsImage}
use Rattle.def_desc.specs.Rows.{DescRow}
use Rattle.def_desc.specs.WellFormed.{fault}
use Rattle.def_desc.specs.Walk.{place}
use Rattle.def_link.specs.declared.LinkFault.{LinkFault}
use Rattle.def_link.specs.declared.LinkFault.TheVariants as link
use Rattle.def_program.specs.declared.Status.{Status}
use Rattle.def_program.specs.declared.Status.TheVariants as status
use Rattle.def_program.specs.Commands.{Command}
use Rattle.def_policy.specs.declared.PolicyFault.{PolicyFault}
use Rattle.def_policy.specs.declared.PolicyFault.TheVariants as policy
use Rattle.def_policy.specs.Denials.{AllDenied}
use Rattle.def_policy.specs.Rulings.{Ruling}
use Rattle.def_policy.specs.Texts.{IsPolicyCause, ReadsAsPolicy}
use Rattle.def_script.specs.declared.ScriptFault.{ScriptFault}
use Rattle.def_script.specs.declared.ScriptFault.TheVariants as scripts
use Rattle.def_script.specs.Script as script
use Rattle.def_script.specs.Script.{Due}
use Rattle.def_program.specs.Runs.{run_text}
use Rattle.def_program.specs.Lines.{allow_line, link_status, link_text, name_line}
use Rattle.def_program.specs.Turns.{Turn, Ends, OfImage, OfParts, OfLinked, OfDescription, OfRun, OfScript, OfText, NamesFound}
use Rattle.ct_desc.specs.declared.DescFault.{DescFault}
use Rattle.ct_desc.specs.declared.DescFault.TheVariants as description
use Rattle.ct_desc.specs.Answers.{Refused}
use Rattle.ct_image.specs.declared.fault.ImageFault.{ImageFault}
use Rattle.ct_image.specs.declared.fault.ImageFault.TheVariants as image
use Rattle.ct_image.specs.Answers.{RefusesBytes}
use Rattle.ct_link_objects.specs.Objects as object
use Rattle.ct_commands.specs.Closing.{Closes}
use Rattle.ct_commands.specs.Settled.{IsLast, Settles}
use Rattle.ct_commands.proofs.Endings.{ends_with}
use Rattle.ct_commands.specs.Found.{IsFound}
use Rattle.ct_top.specs.Done.{IsDone, IsRefusal, Judges, description_turn, image_turn, link_turn, policy_turn, script_turn, wants_memory}

-- ---- done

pub is_done : (Due : Turn → Type 0) (text : List ℕ) (before after : SinkView) (result : Status)
    → Due (Ends status.Done text) → IsDone before after text result → Settles Due before after result
is_done Due text before after result due (inl closes) = ends_with Due status.Done text before after result tt due closes
is_done Due text before after result due (inr silent) = inr silent

-- ---- names

found_line : (p : PartsRow) (o : Option Owner) (c : Option ℕ) (text : List ℕ) → IsFound p o c (Some text) → NamesFound p o c (Ends status.Done text)
found_line p (Some owner) (Some c) text found =
    let is : Some text ≡ Some found.0 = found.1 in
    let same : text ≡ found.0 = cc in
    (found.0, (found.2, ap (λ t. Ends status.Done t) same))
found_line p (Some owner) None text found = absurd (let none : Some text ≡ None = found in cc)
found_line p None c text found = absurd (let none : Some text ≡ None = found in cc)

found_none : (p : PartsRow) (o : Option Owner) (c : Option ℕ) → IsFound p o c None → NamesFound p o c (Ends status.Name name_line)
found_none p (Some owner) (Some c) found = absurd (let none : None ≡ Some found.0 = found.1 in cc)
found_none p (Some owner) None found = refl
found_none p None c found = refl

pub named : (p : PartsRow) (o : Option Owner) (c : Option ℕ) (text : List ℕ) (before after : SinkView) (result : Status)
    → IsFound p o c (Some text) → Closes before after text status.Done result → Settles (NamesFound p o c) before after result
named p o c text before after result found closes =
    ends_with (NamesFound p o c) status.Done text before after result tt (found_line p o c text found) closes

pub unnamed : (p : PartsRow) (o : Option Owner) (c : Option ℕ) (before after : SinkView) (result : Status)
    → IsFound p o c None → Closes before after name_line status.Name result → Settles (NamesFound p o c) before after result
unnamed p o c before after result found closes =
    ends_with (NamesFound p o c) status.Name name_line before after result tt (found_none p o c found) closes

-- ---- faults

pub description_fault : (c : Command) (bytes : List ℕ) (sources : List (List ℕ)) (e : DescFault) (t : Turn) → Refused bytes e → IsRefusal (description_turn e) t → OfDescription c bytes sources t
description_fault c bytes sources (description.At number part index item) t refused due = inl (record { fault = fault number (place part index item); is = refused; due = due })
description_fault c bytes sources description.NoMemory t refused due = elim due [ ]

pub image_fault : (c : Command) (bytes : List ℕ) (more : List (List ℕ)) (e : ImageFault) (t : Turn) → RefusesBytes bytes e → IsRefusal (image_turn e) t → OfImage c bytes more t
image_fault c bytes more (image.At number place) t refused due = inl (record { fault = record { number = number; place = place }; is = refused; due = due })
image_fault c bytes more image.NoMemory t refused due = elim due [ ]

pub image_parts : (c : Command) (bytes : List ℕ) (p : PartsRow) (more : List (List ℕ)) (t : Turn) → IsImage bytes p → OfParts c p more t → OfImage c bytes more t
image_parts c bytes p more t is due = inr (p, (is, due))

pub linked_parts : (c : Command) (d : DescRow) (r : Result PartsRow LinkFault) (p : PartsRow) (more : List (List ℕ)) (t : Turn) → r ≡ Ok p → OfParts c p more t → OfLinked c d r more t
linked_parts c d r p more t is due = subst (λ (x : Result PartsRow LinkFault). OfLinked c d x more t) (sym is) due

refused_link : (c : Command) (d : DescRow) (r : Result PartsRow LinkFault) (e : LinkFault) (more : List (List ℕ)) (t : Turn) → r ≡ Err e
    → t ≡ Ends (link_status e) (link_text d e) → OfLinked c d r more t
refused_link c d r e more t is due = subst (λ (x : Result PartsRow LinkFault). OfLinked c d x more t) (sym is) due

pub link_fault : (c : Command) (d : DescRow) (r : Result PartsRow LinkFault) (e : LinkFault) (more : List (List ℕ)) (t : Turn) → object.RefusesLink r e → IsRefusal (link_turn d e) t → OfLinked c d r more t
link_fault c d r (link.Asm owner number line) more t refused due = refused_link c d r (link.Asm owner number line) more t refused due
link_fault c d r (link.Export owner item) more t refused due = refused_link c d r (link.Export owner item) more t refused due
link_fault c d r (link.NoRoom needed has) more t refused due = refused_link c d r (link.NoRoom needed has) more t refused due
link_fault c d r (link.Import owner line) more t refused due = refused_link c d r (link.Import owner line) more t refused due
link_fault c d r (link.Initial owner) more t refused due = refused_link c d r (link.Initial owner) more t refused due
link_fault c d r link.NoMemory more t refused due = elim due [ ]

pub link_due : (d : DescRow) (e : LinkFault) → wants_memory e ≡ false → IsRefusal (link_turn d e) (Ends (link_status e) (link_text d e))
link_due d (link.Asm owner number line) some = refl
link_due d (link.Export owner item) some = refl
link_due d (link.NoRoom needed has) some = refl
link_due d (link.Import owner line) some = refl
link_due d (link.Initial owner) some = refl
link_due d link.NoMemory some = absurd (let clash : true ≡ false = some in cc)

pub link_last : (e : LinkFault) → wants_memory e ≡ false → IsLast (link_status e)
link_last (link.Asm owner number line) some = tt
link_last (link.Export owner item) some = tt
link_last (link.NoRoom needed has) some = tt
link_last (link.Import owner line) some = tt
link_last (link.Initial owner) some = tt
link_last link.NoMemory some = absurd (let clash : true ≡ false = some in cc)

-- ---- policies

pub text_fault : (p : PartsRow) (text : List ℕ) (e : PolicyFault) (t : Turn) → IsPolicyCause p text e → IsRefusal (policy_turn e) t → OfText p text t
text_fault p text (policy.At number line) t fault due = inl (record { fault = record { number = number; place = line }; is = fault; due = due })
text_fault p text policy.NoMemory t fault due = elim due [ ]

pub text_judged : (p : PartsRow) (text : List ℕ) (rulings : List Ruling) (lines : List ℕ) (t : Turn) → ReadsAsPolicy p text rulings → AllDenied p 1 rulings lines → Judges lines t → OfText p text t
text_judged p text rulings lines t reads denied due = inr (record { rulings = rulings; reads = reads; text = lines; denied = denied; due = due })

pub allowed : (lines : List ℕ) (before after : SinkView) (result : Status)
    → (length lines == 0) ≡ true → Closes before after allow_line status.Done result → Settles (Judges lines) before after result
allowed [] before after result none closes = ends_with (Judges []) status.Done allow_line before after result tt refl closes
allowed (c ∷ cs) before after result none closes = absurd (let empty : length (c ∷ cs) ≡ 0 = eqb-true (length (c ∷ cs)) 0 none in omega (arith, empty))

pub denied : (lines : List ℕ) (before after : SinkView) (result : Status)
    → (length lines == 0) ≡ false → Closes before after lines status.Denied result → Settles (Judges lines) before after result
denied [] before after result some closes = absurd (let clash : true ≡ false = some in cc)
denied (c ∷ cs) before after result some closes = ends_with (Judges (c ∷ cs)) status.Denied (c ∷ cs) before after result tt refl closes

-- ---- scripts

pub script_fault : (p : PartsRow) (limit : ℕ) (text : List ℕ) (e : ScriptFault) (t : Turn) → script.IsScriptCause p.devices text e → IsRefusal (script_turn e) t → OfScript p limit text t
script_fault p limit text (scripts.At number line) t cause due = inl (record { fault = record { number = number; place = line }; is = cause; due = due })
script_fault p limit text scripts.NoMemory t cause due = elim due [ ]

pub script_played : (p : PartsRow) (limit : ℕ) (text : List ℕ) (dues : List Due) (before after : SinkView) (result : Status)
    → script.ReadsAsScript p.devices text dues → Closes before after (run_text p dues limit) status.Done result → Settles (OfScript p limit text) before after result
script_played p limit text dues before after result reads closes =
    ends_with (OfScript p limit text) status.Done (run_text p dues limit) before after result tt (inr (record { dues = dues; reads = reads; due = refl })) closes

-- a run without a script
pub played : (p : PartsRow) (limit : ℕ) (before after : SinkView) (result : Status)
    → Closes before after (run_text p [] limit) status.Done result → Settles (OfRun p limit None []) before after result
played p limit before after result closes = ends_with (OfRun p limit None []) status.Done (run_text p [] limit) before after result tt refl closes
