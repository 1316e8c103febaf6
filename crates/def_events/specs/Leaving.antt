-- What holds where a routine leaves a state and tells what it did.
use Rattle.std.specs.Prelude.{ℕ, Option, Some, None}
use Rattle.ct_entry.specs.declared.acts.Act.{Act}
use Rattle.def_machine.specs.State.{State}
use Rattle.def_step.specs.Routines.{Ran, Traps, Leaves}

abbrev pub Left : (State → Option (ℕ × Act) → Type 0) → Ran → Type 0
Left Q (Traps why) = Unit {0}
Left Q (Leaves s told) = Q s told

abbrev pub IfRan : (Ran → Type 0) → Option Ran → Type 0
IfRan P None = Unit {0}
IfRan P (Some r) = P r
