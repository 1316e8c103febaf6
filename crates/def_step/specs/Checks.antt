-- *Instruction step*: an instruction has a list of checks, and the trap is that of the first that fails.
use Rattle.std.specs.Prelude.{Bool, List, [], ◌∷◌, Option, Some, None, if◌then◌else◌}
use Rattle.def_words.specs.declared.Trap.{Trap}

-- what has to hold, and the trap where it doesn't
abbrev pub Check : Type 0
Check = Bool × Trap

abbrev pub first_failed : List Check → Option Trap
first_failed [] = None
first_failed (c ∷ cs) = if c.0 then first_failed cs else Some c.1
