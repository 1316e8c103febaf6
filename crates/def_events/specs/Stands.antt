-- That what a routine comes to stands.
use Rattle.std.specs.Prelude.{ℕ, Option, Some, None}
use Rattle.ct_entry.specs.declared.acts.Act.{Act}
use Rattle.def_machine.specs.Image.{Image}
use Rattle.def_machine.specs.State.{State}
use Rattle.def_confined.specs.Keeps.{Keeps}
use Rattle.def_confined.specs.Licensed.{Licensed, IsTrap}
use Rattle.def_step.specs.Instructions.{deed_told}
use Rattle.def_step.specs.Routines.{Ran, Traps, Leaves}

-- what thread t's routine did is licensed, as a deed of the frame that called it
abbrev pub RoutineTellsLicensed : Image → State → ℕ → Option (ℕ × Act) → Type 0
RoutineTellsLicensed i s t None = Unit {0}
RoutineTellsLicensed i s t (Some told) = Licensed i.entries (deed_told s t told)

-- its trap may be told; where it leaves a state, all that events keep holds of it, and what it did is licensed
abbrev pub RoutineKeeps : Image → State → ℕ → Ran → Type 0
RoutineKeeps i s t (Traps why) = IsTrap why.cause why.code why.register
RoutineKeeps i s t (Leaves after told) = Keeps i after × RoutineTellsLicensed i s t told
