-- What a line of a policy says of a run.
use Rattle.std.specs.Prelude.{ℕ, ◌≡◌, List, Some}
use Rattle.ct_entry.specs.declared.acts.Happened.{Happened}
use Rattle.def_boot.specs.Gates.{entries_of}
use Rattle.def_image.specs.Parts.{PartsRow}
use Rattle.def_policy.specs.Rules.{Rule}
use Rattle.def_policy.specs.Rulings.{Ruling, meant}
use Rattle.def_step.specs.declared.Event.{Event}
use Rattle.def_program.specs.Accesses.{AllListed}
use Rattle.def_program.specs.Named.{IsOnDevice}
use Rattle.def_program.specs.AllowedRuns.{KeepsOver}

-- there is one device of the line's name, and each access to it is by an owner that the line lists
pub record IsHeldDevice (p : PartsRow) (name : List ℕ) (owners : List (List ℕ))
    (hs : List Happened) : Type 0 where
  pub ruling : Ruling
  pub on : IsOnDevice p name owners ruling
  pub listed : AllListed (entries_of p) ruling on.device on.row.base hs

-- what a line's rule means, and that it holds of the run of these events
pub record IsKeptLine (p : PartsRow) (rule : Rule) (es : List Event) : Type 0 where
  pub ruling : Ruling
  pub means : meant p rule ≡ Some ruling
  pub keeps : KeepsOver p ruling ruling.subject es
