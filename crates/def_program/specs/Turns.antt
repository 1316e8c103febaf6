-- The dialogue: what is due after the files that were read so far.
use Rattle.std.specs.Prelude.{ℕ, ◌≡◌, ◌⊎◌, List, [], ◌∷◌, ◌++◌, length, take, drop, Bool, true, false, Option, Some, None, Result, Ok, Err, map, slice_get}
use Rattle.ct_entry.specs.declared.rows.Owner.{Owner}
use Rattle.def_image.specs.Parts.{PartsRow, upgraded}
use Rattle.def_image.specs.Accepted.{IsImage, FaultAt}
use Rattle.def_image.specs.Spelling.{image_bytes}
use Rattle.def_desc.specs.Rows.{DescCode, DescCompartment, LibraryRow, DescRow}
use Rattle.def_desc.specs.WellFormed.{WellFormed, IsFaulty}
use Rattle.def_desc.specs.Reading.{description_of}
use Rattle.def_gen.specs.Description.{firmware}
use Rattle.def_gen.specs.Sources as generated
use Rattle.def_link.specs.declared.LinkFault.{LinkFault}
use Rattle.def_link.specs.Linked.{linked}
use Rattle.def_report.specs.Report.{report_line}
use Rattle.def_policy.specs.Denials.{AllDenied}
use Rattle.def_policy.specs.Rulings.{Ruling}
use Rattle.def_policy.specs.Texts.{IsPolicyFault, ReadsAsPolicy}
use Rattle.def_script.specs.Script.{Due}
use Rattle.def_script.specs.Script as script
use Rattle.def_program.specs.declared.Status.{Status}
use Rattle.def_program.specs.declared.Status.TheVariants as status
use Rattle.def_program.specs.Commands.{Command, Audit, Image, Run, RunImage, Why, Upgrade, Check, Demo, generated_by, file_of, reads_image}
use Rattle.def_program.specs.Lines.{description_line, link_status, link_text, image_line, name_line, script_line, policy_line, allow_line}
use Rattle.def_program.specs.Runs.{demo_text, run_text}
use Rattle.def_program.specs.Paths.{IsWhyLine, owner_named, compartment_named}

-- the file of this name is due; or the call ends with this status, and this text is due
pub data Turn : Type 0 where
  Asks : List ℕ → Turn
  Ends : Status → List ℕ → Turn

-- ---- the files of sources, in the order of their owners

abbrev pub with_file : Option (List ℕ) → List (List ℕ) → List (List ℕ)
with_file None names = names
with_file (Some name) names = name ∷ names

abbrev pub files_in : List DescCode → List (List ℕ)
files_in [] = []
files_in (c ∷ cs) = with_file c.file (files_in cs)

abbrev pub source_names : DescRow → List (List ℕ)
source_names d =
    files_in
    (map (λ (c : DescCompartment). c.code) d.compartments
    ++ map (λ (l : LibraryRow). l.code) d.libraries)

-- ---- refusals

-- a fault by its number, and by its place in bytes or its line
pub record NumberedFault : Type 0 where
  pub number : ℕ
  pub place : ℕ

-- the turn is the refusal of a fault of this kind
pub record Refuses {A : Type 0} (IsSuchFault : A → Type 0) (refusal : A → Turn) (turn : Turn)
    : Type 0 where
  pub fault : A
  pub is : IsSuchFault fault
  pub due : turn ≡ refusal fault

abbrev pub RefusesDescription : List ℕ → Turn → Type 0
RefusesDescription bytes turn =
    Refuses (IsFaulty bytes) (λ f. Ends status.Description (description_line f)) turn

abbrev pub RefusesImage : List ℕ → Turn → Type 0
RefusesImage bytes turn =
    Refuses (λ (f : NumberedFault). FaultAt bytes f.number f.place)
    (λ f. Ends status.Image (image_line f.number f.place)) turn

abbrev pub RefusesScript : PartsRow → List ℕ → Turn → Type 0
RefusesScript p bytes turn =
    Refuses (λ (f : NumberedFault). script.IsScriptFault p.devices bytes f.number f.place)
    (λ f. Ends status.Script (script_line f.number f.place)) turn

abbrev pub RefusesPolicy : PartsRow → List ℕ → Turn → Type 0
RefusesPolicy p bytes turn =
    Refuses (λ (f : NumberedFault). IsPolicyFault p bytes f.number f.place)
    (λ f. Ends status.Policy (policy_line f.number f.place)) turn

-- ---- what a command writes of an image's parts

-- two names that are looked up: both stand for something, and the line says how one reaches the
-- other; or one of them doesn't
abbrev pub NamesFound : PartsRow → Option Owner → Option ℕ → Turn → Type 0
NamesFound p (Some owner) (Some c) turn =
    (text : List ℕ) × (IsWhyLine p owner c text × (turn ≡ Ends status.Done text))
NamesFound p (Some owner) None turn = turn ≡ Ends status.Name name_line
NamesFound p None c turn = turn ≡ Ends status.Name name_line

-- what denies a policy; where nothing does, it is allowed
abbrev pub verdict : List ℕ → Turn
verdict [] = Ends status.Done allow_line
verdict (c ∷ cs) = Ends status.Denied (c ∷ cs)

-- the rules of a policy's text, and the lines that deny them
pub record IsJudged (p : PartsRow) (bytes : List ℕ) (turn : Turn) : Type 0 where
  pub rulings : List Ruling
  pub reads : ReadsAsPolicy p bytes rulings
  pub text : List ℕ
  pub denied : AllDenied p 1 rulings text
  pub due : turn ≡ verdict text

-- of a policy's text
abbrev pub OfText : PartsRow → List ℕ → Turn → Type 0
OfText p bytes turn = RefusesPolicy p bytes turn ⊎ IsJudged p bytes turn

-- the policy is due; or it was read, and nothing else is
abbrev pub OfPolicy : List ℕ → PartsRow → List (List ℕ) → Turn → Type 0
OfPolicy policy p [] turn = turn ≡ Asks policy
OfPolicy policy p (bytes ∷ more) turn = OfText p bytes turn

-- what a script's text says, and the run with it
pub record IsPlayed (p : PartsRow) (limit : ℕ) (bytes : List ℕ) (turn : Turn) : Type 0 where
  pub dues : List Due
  pub reads : script.ReadsAsScript p.devices bytes dues
  pub due : turn ≡ Ends status.Done (run_text p dues limit)

-- of a script's text
abbrev pub OfScript : PartsRow → ℕ → List ℕ → Turn → Type 0
OfScript p limit bytes turn = RefusesScript p bytes turn ⊎ IsPlayed p limit bytes turn

-- a run without a script; or the script is due; or it was read, and nothing else is
abbrev pub OfRun : PartsRow → ℕ → Option (List ℕ) → List (List ℕ) → Turn → Type 0
OfRun p limit None more turn = turn ≡ Ends status.Done (run_text p [] limit)
OfRun p limit (Some name) [] turn = turn ≡ Asks name
OfRun p limit (Some name) (bytes ∷ more) turn = OfScript p limit bytes turn

-- of parts, and of the files that were read after those that stand for them
abbrev pub OfParts : Command → PartsRow → List (List ℕ) → Turn → Type 0
OfParts (Audit name) p more turn = turn ≡ Ends status.Done (report_line p)
OfParts (Image name) p more turn = turn ≡ Ends status.Done (image_bytes p)
OfParts (Run name limit script) p more turn = OfRun p limit script more turn
OfParts (RunImage name limit script) p more turn = OfRun p limit script more turn
OfParts (Why name owner compartment) p more turn =
    NamesFound p (owner_named p owner) (compartment_named p compartment) turn
OfParts (Upgrade name) p more turn = turn ≡ Ends status.Done (image_bytes (upgraded p))
OfParts (Check name policy) p more turn = OfPolicy policy p more turn
OfParts (Demo number) p more turn = turn ≡ Ends status.Done (demo_text p)

-- ---- descriptions

abbrev pub OfLinked : Command → DescRow → Result PartsRow LinkFault → List (List ℕ) → Turn → Type 0
OfLinked c d (Err e) more turn = turn ≡ Ends (link_status e) (link_text d e)
OfLinked c d (Ok p) more turn = OfParts c p more turn

-- the next source, or what all of them are linked to
abbrev pub OfSources : Command → DescRow → List (List ℕ) → List (List ℕ) → Option (List ℕ) → Turn
    → Type 0
OfSources c d sources more (Some name) turn = turn ≡ Asks name
OfSources c d sources more None turn = OfLinked c d (linked d sources) more turn

-- of the files after a description: its sources, and those after them
abbrev pub OfRows : Command → DescRow → List (List ℕ) → Turn → Type 0
OfRows c d files turn =
    OfSources c d (take (length (source_names d)) files) (drop (length (source_names d)) files)
    (slice_get (source_names d) (length files)) turn

abbrev pub OfDescription : Command → List ℕ → List (List ℕ) → Turn → Type 0
OfDescription c bytes files turn =
    RefusesDescription bytes turn
    ⊎ ((d : DescRow) × (WellFormed bytes d × OfRows c d files turn))

-- ---- images

abbrev pub OfImage : Command → List ℕ → List (List ℕ) → Turn → Type 0
OfImage c bytes files turn =
    RefusesImage bytes turn
    ⊎ ((p : PartsRow) × (IsImage bytes p × OfParts c p files turn))

-- ---- turns

abbrev pub OfFirst : Bool → Command → List ℕ → List (List ℕ) → Turn → Type 0
OfFirst true c bytes files turn = OfImage c bytes files turn
OfFirst false c bytes files turn = OfDescription c bytes files turn

-- of a generated firmware: what its description and sources are linked to tells
abbrev pub OfNumber : Command → ℕ → List (List ℕ) → Turn → Type 0
OfNumber c number files turn =
    OfLinked c (description_of (firmware number))
    (linked (description_of (firmware number)) (generated.sources number)) files turn

-- of files: first the command's own is due
abbrev pub OfFiles : Command → List (List ℕ) → Turn → Type 0
OfFiles c [] turn = turn ≡ Asks (file_of c)
OfFiles c (bytes ∷ files) turn = OfFirst (reads_image c) c bytes files turn

abbrev pub FollowsBy : Command → Option ℕ → List (List ℕ) → Turn → Type 0
FollowsBy c None files turn = OfFiles c files turn
FollowsBy c (Some number) files turn = OfNumber c number files turn

-- what follows after these files, in the order in which they were read
abbrev pub Follows : Command → List (List ℕ) → Turn → Type 0
Follows c files turn = FollowsBy c (generated_by c) files turn
