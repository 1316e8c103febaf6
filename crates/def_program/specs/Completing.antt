-- What follows from the answers: the status of a call whose files the folder tells, and the statuses
-- that are left where no fault is counted.
use Rattle.std.specs.Prelude.{◌≡◌, ◌≤◌, ◌⊎◌, ℕ, List, [], ◌∷◌, length, Bool, true, false, Option, Some, None}
use Rattle.ct_entry.specs.declared.rows.Owner.{Owner}
use Rattle.def_port.specs.Bytes.{FaultsRose}
use Rattle.def_port.specs.Told.{File}
use Rattle.def_image.specs.Accepted.{IsImage}
use Rattle.def_image.specs.Parts.{PartsRow}
use Rattle.def_policy.specs.Rulings.{Ruling}
use Rattle.def_policy.specs.Texts.{ReadsAsPolicy}
use Rattle.def_script.specs.Script.{Due}
use Rattle.def_script.specs.Script as script
use Rattle.def_program.specs.Commands.{Command, Audit, Image, Run, RunImage, Why, Upgrade, Check, Demo, command_form, generated_by, file_of, reads_image}
use Rattle.def_program.specs.Calls.{CallRecord, most}
use Rattle.def_program.specs.Licences.{LinksTo, NumberStandsFor}
use Rattle.def_program.specs.Paths.{owner_named, compartment_named}
use Rattle.def_program.specs.Turns.{source_names}
use Rattle.def_program.specs.declared.Status.{Status}
use Rattle.def_program.specs.declared.Status.TheVariants as status

-- no fault was counted in the call
pub record NoFault (e : CallRecord) : Type 0 where
  pub reads : FaultsRose e.folder.faults e.folder_after.faults → ⊥
  pub writes : FaultsRose e.sink.faults e.sink_after.faults → ⊥

-- ---- what is asked

-- the folder tells a file, of a size that is taken
pub record IsTold (e : CallRecord) (name bytes : List ℕ) : Type 0 where
  pub told : e.folder.file name ≡ File bytes
  pub size : length bytes ≤ most

-- of each name the file in its place
abbrev pub AreTold : CallRecord → List (List ℕ) → List (List ℕ) → Type 0
AreTold e [] [] = Unit {0}
AreTold e [] (b ∷ bs) = ⊥
AreTold e (n ∷ ns) [] = ⊥
AreTold e (n ∷ ns) (b ∷ bs) = IsTold e n b × AreTold e ns bs

-- an image's bytes, or a description whose sources the folder tells, stand for these parts
abbrev pub Stand : CallRecord → Bool → List ℕ → List (List ℕ) → PartsRow → Type 0
Stand e true bytes sources p = IsImage bytes p
Stand e false bytes sources p =
    (l : LinksTo bytes sources p) × AreTold e (source_names l.description) sources

-- the folder tells a policy of these parts
pub record IsRuled (e : CallRecord) (p : PartsRow) (name : List ℕ) : Type 0 where
  pub bytes : List ℕ
  pub told : IsTold e name bytes
  pub rulings : List Ruling
  pub reads : ReadsAsPolicy p bytes rulings

-- the folder tells a script for these parts
pub record IsPlanned (e : CallRecord) (p : PartsRow) (name : List ℕ) : Type 0 where
  pub bytes : List ℕ
  pub told : IsTold e name bytes
  pub dues : List Due
  pub reads : script.ReadsAsScript p.devices bytes dues

abbrev pub IsPlannedIfNamed : CallRecord → PartsRow → Option (List ℕ) → Type 0
IsPlannedIfNamed e p None = Unit {0}
IsPlannedIfNamed e p (Some name) = IsPlanned e p name

-- of `check` the folder tells the policy too, and of a run with a script the script
abbrev pub AlsoStands : CallRecord → Command → PartsRow → Type 0
AlsoStands e (Run name limit script) p = IsPlannedIfNamed e p script
AlsoStands e (RunImage name limit script) p = IsPlannedIfNamed e p script
AlsoStands e (Check name policy) p = IsRuled e p policy
AlsoStands e _ p = Unit {0}

-- the folder tells a command's files, which stand for these parts
pub record AreGiven (e : CallRecord) (c : Command) (p : PartsRow) : Type 0 where
  pub bytes : List ℕ
  pub sources : List (List ℕ)
  pub first : IsTold e (file_of c) bytes
  pub stand : Stand e (reads_image c) bytes sources p
  pub also : AlsoStands e c p

-- a generated firmware needs no file
abbrev pub GivenFiles : CallRecord → Command → Option ℕ → PartsRow → Type 0
GivenFiles e c None p = AreGiven e c p
GivenFiles e c (Some number) p = NumberStandsFor number p

-- the words are a form, whose files, or whose number, stand for these parts
pub record IsAsked (e : CallRecord) (p : PartsRow) : Type 0 where
  pub command : Command
  pub form : command_form e.words ≡ Some command
  pub given : GivenFiles e command (generated_by command) p

-- ---- how it ends

abbrev pub looked_status : Option Owner → Option ℕ → Status
looked_status (Some owner) (Some c) = status.Done
looked_status (Some owner) None = status.Name
looked_status None c = status.Name

-- Done; but of names that stand for nothing Name, and of a policy Done or Denied
abbrev pub Finishes : Command → PartsRow → Status → Type 0
Finishes (Audit name) p s = s ≡ status.Done
Finishes (Image name) p s = s ≡ status.Done
Finishes (Run name limit script) p s = s ≡ status.Done
Finishes (RunImage name limit script) p s = s ≡ status.Done
Finishes (Why name owner compartment) p s =
    s ≡ looked_status (owner_named p owner) (compartment_named p compartment)
Finishes (Upgrade name) p s = s ≡ status.Done
Finishes (Check name policy) p s = (s ≡ status.Done) ⊎ (s ≡ status.Denied)
Finishes (Demo number) p s = s ≡ status.Done

-- where no fault is counted, what is asked of files that stand for parts ends so, or wants memory
abbrev pub Completes : CallRecord → Status → Type 0
Completes e s =
    (p : PartsRow) (a : IsAsked e p) → NoFault e
    → Finishes a.command p s ⊎ (s ≡ status.NoMemory)

-- where no fault is counted, `demo` of any number is done, or wants memory
abbrev pub CompletesDemo : CallRecord → Status → Type 0
CompletesDemo e s =
    (number : ℕ) → command_form e.words ≡ Some (Demo number) → NoFault e
    → (s ≡ status.Done) ⊎ (s ≡ status.NoMemory)

-- words that aren't a form are a usage fault, unless its line could not be written
abbrev pub RefusesMisuse : CallRecord → Status → Type 0
RefusesMisuse e s = command_form e.words ≡ None → (s ≡ status.Usage) ⊎ (s ≡ status.WriteFault)

-- a status that a folder and a sink which never fail may leave
abbrev pub IsSteady : Status → Type 0
IsSteady status.ReadFault = ⊥
IsSteady status.WriteFault = ⊥
IsSteady s = Unit {0}
