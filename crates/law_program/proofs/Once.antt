-- A command and its files have no two turns.
use Rattle.std.proofs.Common.{◌≡◌, ℕ, Bool, true, false, List, [], ◌∷◌, length, take, drop, Option, Some, None, Result, Ok, Err, slice_get, inl, inr, sym, ap, ◌∙◌, subst}
use Rattle.ct_entry.specs.declared.rows.Owner.{Owner}
use Rattle.def_image.specs.Parts.{PartsRow}
use Rattle.def_policy.specs.Denials.{AllDenied}
use Rattle.def_desc.specs.Rows.{DescRow}
use Rattle.def_link.specs.declared.LinkFault.{LinkFault}
use Rattle.def_link.specs.Linked.{linked}
use Rattle.def_program.specs.declared.Status.TheVariants as status
use Rattle.def_script.specs.Script.{Due}
use Rattle.def_program.specs.Commands.{Command, Audit, Image, Run, RunImage, Why, Upgrade, Check, Demo, generated_by, reads_image}
use Rattle.def_program.specs.Lines.{description_line, image_line, script_line, policy_line}
use Rattle.def_program.specs.Paths.{IsWhyLine, path_line, owner_named, compartment_named}
use Rattle.def_desc.specs.Reading.{description_of}
use Rattle.def_gen.specs.Description.{firmware}
use Rattle.def_gen.specs.Sources as texts_of
use Rattle.def_program.specs.Turns.{Turn, Ends, NamesFound, OfText, verdict, OfPolicy, OfScript, OfRun, OfParts, OfLinked, OfSources, OfRows, OfDescription, OfImage, OfFirst, FollowsBy, OfFiles, Follows, source_names}
use Rattle.law_desc.proofs.Judging.{not_both, same_rows, same_fault}
use Rattle.law_image.proofs.Backs.{one_reading}
use Rattle.law_image.proofs.Faults.{no_fault, one_fault}
use Rattle.law_paths.proofs.Once.{same_path}
use Rattle.law_policy.proofs.Denials.{same_denials}
use Rattle.law_policy.proofs.Texts as texts
use Rattle.law_script.proofs.Scripts as scripts
use Rattle.def_program.specs.Runs.{run_text}

-- ---- one line

same_line : (p : PartsRow) (o : Owner) (c : ℕ) (a b : List ℕ) → IsWhyLine p o c a → IsWhyLine p o c b → a ≡ b
same_line p o c a b (inl x) (inl y) = x.1 ∙ sym y.1
same_line p o c a b (inl x) (inr y) = absurd (x.0 y.1.0)
same_line p o c a b (inr x) (inl y) = absurd (y.0 x.1.0)
same_line p o c a b (inr x) (inr y) = x.1.2 ∙ ap (path_line p) (same_path _ o c x.0 y.0 x.1.1 y.1.1) ∙ sym y.1.2

-- ---- of parts

of_names : (p : PartsRow) (o : Option Owner) (c : Option ℕ) (s t : Turn) → NamesFound p o c s → NamesFound p o c t → s ≡ t
of_names p (Some o) (Some c) s t a b = a.1.1 ∙ ap (Ends status.Done) (same_line p o c a.0 b.0 a.1.0 b.1.0) ∙ sym b.1.1
of_names p (Some o) None s t a b = a ∙ sym b
of_names p None c s t a b = a ∙ sym b

of_policy : (p : PartsRow) (bytes : List ℕ) (s t : Turn) → OfText p bytes s → OfText p bytes t → s ≡ t
of_policy p bytes s t (inl a) (inl b) =
    let one = texts.one_fault p bytes a.fault.number b.fault.number a.fault.place b.fault.place a.is b.is in
    a.due ∙ ap (λ n. Ends status.Policy (policy_line n a.fault.place)) one.0 ∙ ap (λ n. Ends status.Policy (policy_line b.fault.number n)) one.1 ∙ sym b.due
of_policy p bytes s t (inl a) (inr b) = absurd (texts.not_both p bytes a.fault.number a.fault.place b.rulings a.is b.reads)
of_policy p bytes s t (inr a) (inl b) = absurd (texts.not_both p bytes b.fault.number b.fault.place a.rulings b.is a.reads)
of_policy p bytes s t (inr a) (inr b) =
    let rules : a.rulings ≡ b.rulings = texts.one_reading p bytes a.rulings b.rulings a.reads b.reads in
    let there : AllDenied p 1 b.rulings a.text = subst (λ rs. AllDenied p 1 rs a.text) rules a.denied in
    a.due ∙ ap verdict (same_denials p 1 b.rulings a.text b.text there b.denied) ∙ sym b.due

of_check : (policy : List ℕ) (p : PartsRow) (more : List (List ℕ)) (s t : Turn) → OfPolicy policy p more s → OfPolicy policy p more t → s ≡ t
of_check policy p [] s t a b = a ∙ sym b
of_check policy p (bytes ∷ more) s t a b = of_policy p bytes s t a b

of_script : (p : PartsRow) (limit : ℕ) (bytes : List ℕ) (s t : Turn) → OfScript p limit bytes s → OfScript p limit bytes t → s ≡ t
of_script p limit bytes s t (inl a) (inl b) =
    let one = scripts.one_fault p.devices bytes a.fault.number a.fault.place b.fault.number b.fault.place a.is b.is in
    a.due ∙ ap (λ n. Ends status.Script (script_line n a.fault.place)) one.0 ∙ ap (λ n. Ends status.Script (script_line b.fault.number n)) one.1 ∙ sym b.due
of_script p limit bytes s t (inl a) (inr b) = absurd (scripts.no_reading p.devices bytes b.dues a.fault.number a.fault.place a.is b.reads)
of_script p limit bytes s t (inr a) (inl b) = absurd (scripts.no_reading p.devices bytes a.dues b.fault.number b.fault.place b.is a.reads)
of_script p limit bytes s t (inr a) (inr b) =
    let dues : a.dues ≡ b.dues = scripts.one_reading p.devices bytes a.dues b.dues a.reads b.reads in
    a.due ∙ ap (λ (ds : List Due). Ends status.Done (run_text p ds limit)) dues ∙ sym b.due

of_run : (p : PartsRow) (limit : ℕ) (script : Option (List ℕ)) (more : List (List ℕ)) (s t : Turn) → OfRun p limit script more s → OfRun p limit script more t → s ≡ t
of_run p limit None more s t a b = a ∙ sym b
of_run p limit (Some name) [] s t a b = a ∙ sym b
of_run p limit (Some name) (bytes ∷ more) s t a b = of_script p limit bytes s t a b

of_parts : (c : Command) (p : PartsRow) (more : List (List ℕ)) (s t : Turn) → OfParts c p more s → OfParts c p more t → s ≡ t
of_parts (Audit name) p more s t a b = a ∙ sym b
of_parts (Image name) p more s t a b = a ∙ sym b
of_parts (Run name limit script) p more s t a b = of_run p limit script more s t a b
of_parts (RunImage name limit script) p more s t a b = of_run p limit script more s t a b
of_parts (Why name owner compartment) p more s t a b = of_names p (owner_named p owner) (compartment_named p compartment) s t a b
of_parts (Upgrade name) p more s t a b = a ∙ sym b
of_parts (Check name policy) p more s t a b = of_check policy p more s t a b
of_parts (Demo number) p more s t a b = a ∙ sym b

-- ---- of descriptions

of_linked : (c : Command) (d : DescRow) (r : Result PartsRow LinkFault) (more : List (List ℕ)) (s t : Turn) → OfLinked c d r more s → OfLinked c d r more t → s ≡ t
of_linked c d (Err e) more s t a b = a ∙ sym b
of_linked c d (Ok p) more s t a b = of_parts c p more s t a b

of_sources : (c : Command) (d : DescRow) (sources more : List (List ℕ)) (o : Option (List ℕ)) (s t : Turn) → OfSources c d sources more o s → OfSources c d sources more o t → s ≡ t
of_sources c d sources more (Some name) s t a b = a ∙ sym b
of_sources c d sources more None s t a b = of_linked c d (linked d sources) more s t a b

of_description : (c : Command) (bytes : List ℕ) (sources : List (List ℕ)) (s t : Turn) → OfDescription c bytes sources s → OfDescription c bytes sources t → s ≡ t
of_description c bytes sources s t (inl a) (inl b) = a.due ∙ ap (λ f. Ends status.Description (description_line f)) (same_fault bytes a.fault b.fault a.is b.is) ∙ sym b.due
of_description c bytes sources s t (inl a) (inr b) = absurd (not_both bytes b.0 a.fault b.1.0 a.is)
of_description c bytes sources s t (inr a) (inl b) = absurd (not_both bytes a.0 b.fault a.1.0 b.is)
of_description c bytes sources s t (inr a) (inr b) =
    let there : OfRows c b.0 sources s = subst (λ d. OfRows c d sources s) (same_rows bytes a.0 b.0 a.1.0 b.1.0) a.1.1 in
    of_sources c b.0 (take (length (source_names b.0)) sources) (drop (length (source_names b.0)) sources) (slice_get (source_names b.0) (length sources)) s t there b.1.1

-- ---- of images

of_image : (c : Command) (bytes : List ℕ) (files : List (List ℕ)) (s t : Turn) → OfImage c bytes files s → OfImage c bytes files t → s ≡ t
of_image c bytes files s t (inl a) (inl b) =
    let one = one_fault bytes a.fault.number b.fault.number a.fault.place b.fault.place a.is b.is in
    a.due ∙ ap (λ n. Ends status.Image (image_line n a.fault.place)) one.0 ∙ ap (λ n. Ends status.Image (image_line b.fault.number n)) one.1 ∙ sym b.due
of_image c bytes files s t (inl a) (inr b) = absurd (no_fault bytes b.0 a.fault.number a.fault.place b.1.0 a.is)
of_image c bytes files s t (inr a) (inl b) = absurd (no_fault bytes a.0 b.fault.number b.fault.place a.1.0 b.is)
of_image c bytes files s t (inr a) (inr b) =
    let same : a.0 ≡ b.0 = one_reading a.0 b.0 a.1.0.0.spellable b.1.0.0.spellable (sym a.1.0.1 ∙ b.1.0.1) in
    of_parts c b.0 files s t (subst (λ p. OfParts c p files s) same a.1.1) b.1.1

-- ---- of files

of_first : (image : Bool) (c : Command) (bytes : List ℕ) (files : List (List ℕ)) (s t : Turn) → OfFirst image c bytes files s → OfFirst image c bytes files t → s ≡ t
of_first true c bytes files s t a b = of_image c bytes files s t a b
of_first false c bytes files s t a b = of_description c bytes files s t a b

of_files : (c : Command) (files : List (List ℕ)) (s t : Turn) → OfFiles c files s → OfFiles c files t → s ≡ t
of_files c [] s t a b = a ∙ sym b
of_files c (bytes ∷ files) s t a b = of_first (reads_image c) c bytes files s t a b

-- ---- of a number, or of files

by_either : (c : Command) (o : Option ℕ) (files : List (List ℕ)) (s t : Turn) → FollowsBy c o files s → FollowsBy c o files t → s ≡ t
by_either c None files s t a b = of_files c files s t a b
by_either c (Some number) files s t a b =
    of_linked c (description_of (firmware number)) (linked (description_of (firmware number)) (texts_of.sources number)) files s t a b

pub once : (c : Command) (files : List (List ℕ)) (s t : Turn) → Follows c files s → Follows c files t → s ≡ t
once c files s t a b = by_either c (generated_by c) files s t a b
