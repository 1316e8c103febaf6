-- A command has a turn after any files.
use Rattle.std.proofs.Common.{ℕ, ◌≡◌, ◌≢◌, inl, inr, Bool, true, false, List, [], ◌∷◌, length, take, drop, Option, Some, None, Result, Ok, Err, slice_get, refl, sym, subst}
use Rattle.ct_entry.specs.declared.rows.Owner.{Owner}
use Rattle.ct_entry.specs.declared.rows.Owner.TheVariants.{Trusted, Compartment, Library}
use Rattle.def_image.specs.Accepted.{IsFaultless}
use Rattle.def_image.specs.Parts.{PartsRow, upgraded}
use Rattle.def_image.specs.Spelling.{image_bytes}
use Rattle.def_boot.specs.Gates.{entries_of}
use Rattle.def_desc.specs.Rows.{DescRow}
use Rattle.def_desc.specs.WellFormed.{WellFormed}
use Rattle.def_link.specs.declared.LinkFault.{LinkFault}
use Rattle.def_link.specs.Linked.{linked}
use Rattle.def_report.specs.Report.{report_line}
use Rattle.def_program.specs.declared.Status.TheVariants as status
use Rattle.def_program.specs.Commands.{Command, Audit, Image, Run, RunImage, Why, Upgrade, Check, Demo, generated_by, file_of, reads_image}
use Rattle.def_program.specs.Lines.{description_line, link_status, link_text, image_line, name_line, script_line, policy_line}
use Rattle.def_program.specs.Paths.{IsWhyLine, none_line, path_line, or_library, compartment_named, library_named}
use Rattle.def_program.specs.Runs.{demo_text, run_text}
use Rattle.def_program.specs.Turns.{Turn, Asks, Ends, NamesFound, verdict, OfPolicy, OfRun, OfParts, OfLinked, OfSources, OfDescription, OfImage, OfFirst, OfFiles, OfNumber, FollowsBy, source_names}
use Rattle.def_desc.specs.Reading.{description_of}
use Rattle.def_gen.specs.Description.{firmware}
use Rattle.def_gen.specs.Sources as generated
use Rattle.law_gen.proofs.Faultless as well
use Rattle.law_gen.proofs.Linking as links
use Rattle.law_desc.proofs.Judging.{one}
use Rattle.law_link.proofs.Whole.{faultless}
use Rattle.law_desc.proofs.Lawfuls.{bytes_lawful, value_lawful}
use Rattle.def_reach.specs.There.{LeadsOrNot}
use Rattle.law_paths.proofs.There.{there}
use Rattle.ct_policy.proofs.Untrusted.{untrusted}
use Rattle.def_policy.specs.Denied.{ReadsOrHasFault}
use Rattle.law_policy.proofs.Denials.{denials_there, few}
use Rattle.law_policy.proofs.There.{policy_or_fault}
use Rattle.def_program.specs.Following.{IsContent, AreContents, HasTurn}
use Rattle.law_program.proofs.Images.{image_or_flaw}
use Rattle.law_program.proofs.Scripts as scripts
use Rattle.law_program.proofs.Scripts.{script_or_fault}

-- ---- of parts

abbrev HasLine : PartsRow → Owner → ℕ → Type 0
HasLine p o c = (text : List ℕ) × IsWhyLine p o c text

line_by : (p : PartsRow) (o : Owner) (c : ℕ) → LeadsOrNot (entries_of p) o c → HasLine p o c
line_by p o c (inl l) = (path_line p l.owners, inr (l.owners, (l.reached, l.path, refl)))
line_by p o c (inr not) = (none_line, inl (not, refl))

line_there : (p : PartsRow) (o : Owner) (c : ℕ) → IsFaultless p → o ≢ Trusted → HasLine p o c
line_there p o c f other = line_by p o c (there (entries_of p) o c (few p f) other)

compartments_differ : (c : ℕ) → Compartment c ≢ Trusted
compartments_differ c h = absurd (let clash : Compartment c ≡ Trusted = h in cc)

libraries_differ : (l : ℕ) → Library l ≢ Trusted
libraries_differ l h = absurd (let clash : Library l ≡ Trusted = h in cc)

abbrev HasNames : PartsRow → Option Owner → Option ℕ → Type 0
HasNames p o c = (turn : Turn) × NamesFound p o c turn

names_found : (p : PartsRow) → IsFaultless p → (o l c : Option ℕ) → HasNames p (or_library o l) c
names_found p f (Some o) l (Some c) = let line = line_there p (Compartment o) c f (compartments_differ o) in (Ends status.Done line.0, (line.0, (line.1, refl)))
names_found p f None (Some l) (Some c) = let line = line_there p (Library l) c f (libraries_differ l) in (Ends status.Done line.0, (line.0, (line.1, refl)))
names_found p f None None c = (Ends status.Name name_line, refl)
names_found p f (Some o) l None = (Ends status.Name name_line, refl)
names_found p f None (Some l) None = (Ends status.Name name_line, refl)

abbrev HasPolicy : List ℕ → PartsRow → List (List ℕ) → Type 0
HasPolicy policy p files = (turn : Turn) × OfPolicy policy p files turn

by_text : (policy : List ℕ) (p : PartsRow) (bytes : List ℕ) (more : List (List ℕ)) → IsFaultless p → ReadsOrHasFault p bytes → HasPolicy policy p (bytes ∷ more)
by_text policy p bytes more f (inl r) =
    let lines = denials_there p f 1 r.rulings (untrusted p bytes r.rulings r.reads) in
    (verdict lines.text, inr (record { rulings = r.rulings; reads = r.reads; text = lines.text; denied = lines.is; due = refl }))
by_text policy p bytes more f (inr x) =
    (Ends status.Policy (policy_line x.number x.line), inl (record { fault = record { number = x.number; place = x.line }; is = x.fault; due = refl }))

of_policy : (policy : List ℕ) (p : PartsRow) → IsFaultless p → (files : List (List ℕ)) → HasPolicy policy p files
of_policy policy p f [] = (Asks policy, refl)
of_policy policy p f (bytes ∷ more) = by_text policy p bytes more f (policy_or_fault p bytes)

abbrev HasRun : PartsRow → ℕ → Option (List ℕ) → List (List ℕ) → Type 0
HasRun p limit script files = (turn : Turn) × OfRun p limit script files turn

by_script : (p : PartsRow) (limit : ℕ) (name bytes : List ℕ) (more : List (List ℕ)) → scripts.IsTold p.devices bytes → HasRun p limit (Some name) (bytes ∷ more)
by_script p limit name bytes more (inl s) = (Ends status.Done (run_text p s.dues limit), inr (record { dues = s.dues; reads = s.reads; due = refl }))
by_script p limit name bytes more (inr x) = (Ends status.Script (script_line x.number x.line), inl (record { fault = record { number = x.number; place = x.line }; is = x.fault; due = refl }))

of_run : (p : PartsRow) (limit : ℕ) (script : Option (List ℕ)) (files : List (List ℕ)) → HasRun p limit script files
of_run p limit None files = (Ends status.Done (run_text p [] limit), refl)
of_run p limit (Some name) [] = (Asks name, refl)
of_run p limit (Some name) (bytes ∷ more) = by_script p limit name bytes more (script_or_fault p.devices bytes)

abbrev HasParts : Command → PartsRow → List (List ℕ) → Type 0
HasParts c p files = (turn : Turn) × OfParts c p files turn

of_parts : (c : Command) (p : PartsRow) → IsFaultless p → (files : List (List ℕ)) → HasParts c p files
of_parts (Audit name) p f files = (Ends status.Done (report_line p), refl)
of_parts (Image name) p f files = (Ends status.Done (image_bytes p), refl)
of_parts (Run name limit script) p f files = of_run p limit script files
of_parts (RunImage name limit script) p f files = of_run p limit script files
of_parts (Why name owner compartment) p f files = names_found p f (compartment_named p owner) (library_named p owner) (compartment_named p compartment)
of_parts (Upgrade name) p f files = (Ends status.Done (image_bytes (upgraded p)), refl)
of_parts (Check name policy) p f files = of_policy policy p f files
of_parts (Demo number) p f files = (Ends status.Done (demo_text p), refl)

-- ---- of descriptions

abbrev HasLinked : Command → DescRow → Result PartsRow LinkFault → List (List ℕ) → Type 0
HasLinked c d r more = (turn : Turn) × OfLinked c d r more turn

of_linked : (c : Command) (bytes : List ℕ) (d : DescRow) (sources more : List (List ℕ)) → WellFormed bytes d → (r : Result PartsRow LinkFault) → linked d sources ≡ r → HasLinked c d r more
of_linked c bytes d sources more w (Err e) is = (Ends (link_status e) (link_text d e), refl)
of_linked c bytes d sources more w (Ok p) is = of_parts c p (faultless d sources p (record { lawful = bytes_lawful bytes d w; linked = is })) more

abbrev HasSources : Command → DescRow → List (List ℕ) → List (List ℕ) → Option (List ℕ) → Type 0
HasSources c d sources more o = (turn : Turn) × OfSources c d sources more o turn

of_sources : (c : Command) (bytes : List ℕ) (d : DescRow) (sources more : List (List ℕ)) → WellFormed bytes d → (o : Option (List ℕ)) → HasSources c d sources more o
of_sources c bytes d sources more w (Some name) = (Asks name, refl)
of_sources c bytes d sources more w None = of_linked c bytes d sources more w (linked d sources) refl

abbrev HasDescription : Command → List ℕ → List (List ℕ) → Type 0
HasDescription c bytes sources = (turn : Turn) × OfDescription c bytes sources turn

of_description : (c : Command) (bytes : List ℕ) (sources : List (List ℕ)) → HasDescription c bytes sources
of_description c bytes sources = elim (one bytes) [
  | inl d ↦
      let next = of_sources c bytes d.0 (take (length (source_names d.0)) sources) (drop (length (source_names d.0)) sources) d.1 (slice_get (source_names d.0) (length sources)) in
      (next.0, inr (d.0, (d.1, next.1)))
  | inr f ↦ (Ends status.Description (description_line f.0), inl (record { fault = f.0; is = f.1; due = refl }))
]

-- ---- of images

abbrev HasImage : Command → List ℕ → List (List ℕ) → Type 0
HasImage c bytes files = (turn : Turn) × OfImage c bytes files turn

of_image : (c : Command) (bytes : List ℕ) (files : List (List ℕ)) → IsContent bytes → HasImage c bytes files
of_image c bytes files content = elim (image_or_flaw bytes content) [
  | inl t ↦ let next = of_parts c t.parts t.image.0 files in (next.0, inr (t.parts, (t.image, next.1)))
  | inr f ↦
      (Ends status.Image (image_line f.number f.place), inl (record { fault = record { number = f.number; place = f.place }; is = f.fault; due = refl }))
]

-- ---- of files

abbrev HasFirst : Bool → Command → List ℕ → List (List ℕ) → Type 0
HasFirst image c bytes sources = (turn : Turn) × OfFirst image c bytes sources turn

of_first : (image : Bool) (c : Command) (bytes : List ℕ) (sources : List (List ℕ)) → IsContent bytes → HasFirst image c bytes sources
of_first true c bytes sources content = of_image c bytes sources content
of_first false c bytes sources content = of_description c bytes sources

abbrev HasFiles : Command → List (List ℕ) → Type 0
HasFiles c files = (turn : Turn) × OfFiles c files turn

of_files : (c : Command) (files : List (List ℕ)) → AreContents files → HasFiles c files
of_files c [] contents = (Asks (file_of c), refl)
of_files c (bytes ∷ sources) contents = of_first (reads_image c) c bytes sources contents.0

-- ---- of a number

abbrev HasNumber : Command → ℕ → List (List ℕ) → Type 0
HasNumber c number files = (turn : Turn) × OfNumber c number files turn

of_number : (c : Command) (number : ℕ) (files : List (List ℕ)) → HasNumber c number files
of_number c number files =
    let d : DescRow = description_of (firmware number) in
    let p : PartsRow = links.parts_of_seed number in
    let f = faultless d (generated.sources number) p (record { lawful = value_lawful (firmware number) (well.faultless number); linked = links.generated_links number }) in
    let next = of_parts c p f files in
    (next.0, subst (λ r. OfLinked c d r files next.0) (sym (links.generated_links number)) next.1)

-- ---- of either

abbrev HasEither : Command → Option ℕ → List (List ℕ) → Type 0
HasEither c o files = (turn : Turn) × FollowsBy c o files turn

of_either : (c : Command) (o : Option ℕ) (files : List (List ℕ)) → AreContents files → HasEither c o files
of_either c None files contents = of_files c files contents
of_either c (Some number) files contents = of_number c number files

pub follows : (c : Command) (files : List (List ℕ)) → AreContents files → HasTurn c files
follows c files contents = of_either c (generated_by c) files contents
