-- That each deed of the run that a command asks for is licensed by the entries of the image, and which
-- parts the files of a command stand for.
use Rattle.std.specs.Prelude.{ℕ, ◌≡◌, List, [], ◌∷◌, length, Bool, true, false, Option, Some, None, Ok}
use Rattle.def_confined.specs.Telling.{AllLicensed}
use Rattle.def_step.specs.Events.{happenings_of}
use Rattle.def_machine.specs.Platform.{MachineRow}
use Rattle.def_image.specs.Parts.{PartsRow}
use Rattle.def_image.specs.Accepted.{IsImage}
use Rattle.def_boot.specs.Boot.{booted_machine}
use Rattle.def_boot.specs.Gates.{entries_of}
use Rattle.def_desc.specs.Rows.{DescRow}
use Rattle.def_desc.specs.WellFormed.{WellFormed}
use Rattle.def_desc.specs.Reading.{description_of}
use Rattle.def_gen.specs.Description.{firmware}
use Rattle.def_gen.specs.Sources as generated
use Rattle.def_program.specs.declared.TheConstants.{DEMO_STEPS}
use Rattle.def_link.specs.Linked.{linked}
use Rattle.def_program.specs.Commands.{Command, Run, RunImage, Demo, generated_by, reads_image}
use Rattle.def_program.specs.Runs.{events_until}
use Rattle.def_script.specs.Script.{Due}
use Rattle.def_program.specs.Turns.{source_names}

-- whatever the script says, what a machine tells, up to its end or so many steps, is licensed by the image's entries
abbrev pub TellsLicensed : PartsRow → MachineRow → ℕ → Type 0
TellsLicensed p m limit =
    (script : List Due)
    → AllLicensed (entries_of p) (happenings_of m.board m.state (events_until m script p.quantum limit))

-- each deed and each span with interrupts off of the run that a command asks for is licensed
abbrev pub IsLicensedCommand : Command → PartsRow → Type 0
IsLicensedCommand (Run name limit script) p = TellsLicensed p (booted_machine p) limit
IsLicensedCommand (RunImage name limit script) p = TellsLicensed p (booted_machine p) limit
IsLicensedCommand (Demo number) p = TellsLicensed p (booted_machine p) DEMO_STEPS
IsLicensedCommand _ p = Unit {0}

-- ---- files

-- a well-formed description, with one source for each that it names, links to these parts
pub record LinksTo (bytes : List ℕ) (sources : List (List ℕ)) (p : PartsRow) : Type 0 where
  pub description : DescRow
  pub well : WellFormed bytes description
  pub whole : length sources ≡ length (source_names description)
  pub links : linked description sources ≡ Ok p

-- an image's bytes, or a description and its sources
abbrev pub FirstStandsFor : Bool → List ℕ → List (List ℕ) → PartsRow → Type 0
FirstStandsFor true bytes sources p = IsImage bytes p
FirstStandsFor false bytes sources p = LinksTo bytes sources p

abbrev pub FilesStandFor : Bool → List (List ℕ) → PartsRow → Type 0
FilesStandFor image [] p = ⊥
FilesStandFor image (bytes ∷ sources) p = FirstStandsFor image bytes sources p

-- a generated firmware links to these parts
abbrev pub NumberStandsFor : ℕ → PartsRow → Type 0
NumberStandsFor number p = linked (description_of (firmware number)) (generated.sources number) ≡ Ok p

abbrev pub StandBy : Option ℕ → Bool → List (List ℕ) → PartsRow → Type 0
StandBy None image files p = FilesStandFor image files p
StandBy (Some number) image files p = NumberStandsFor number p

-- the parts that a command's image, or its description and sources, stand for, or those of the firmware that is
-- generated for it; a script and a policy aren't among these files
abbrev pub StandFor : Command → List (List ℕ) → PartsRow → Type 0
StandFor c files p = StandBy (generated_by c) (reads_image c) files p
