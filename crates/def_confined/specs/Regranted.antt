-- A granule that gets another capability.
use Rattle.std.specs.Prelude.{ℕ}
use Rattle.def_words.specs.declared.Cap.{Cap}
use Rattle.def_memory.specs.declared.Granule.{Granule}
use Rattle.def_machine.specs.State.{State, granule}

-- granule k with another capability; its mark stays
abbrev pub granule_holding : State → ℕ → Cap → Granule
granule_holding s k c = record { cap = c; mark = (granule s k).mark }
