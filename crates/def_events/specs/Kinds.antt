-- How many events of each kind have come.
use Rattle.std.specs.Prelude.{ℕ, ◌≡◌, ◌+◌, List, [], ◌∷◌}
use Rattle.def_machine.specs.State.{Counts}
use Rattle.def_step.specs.declared.Event.{Event}
use Rattle.def_step.specs.declared.Event.TheVariants.{Step, Tick, Sweep, Input}

pub record Kinds : Type 0 where
  pub steps : ℕ
  pub ticks : ℕ
  pub sweeps : ℕ
  pub inputs : ℕ

abbrev pub kinds : Counts → Kinds
kinds c = record { steps = c.steps; ticks = c.ticks; sweeps = c.sweeps; inputs = c.inputs }

-- one event more
abbrev pub one_more : Event → Kinds → Kinds
one_more Step k = record k { steps = k.steps + 1 }
one_more Tick k = record k { ticks = k.ticks + 1 }
one_more Sweep k = record k { sweeps = k.sweeps + 1 }
one_more (Input n byte) k = record k { inputs = k.inputs + 1 }

-- these events more
abbrev pub all_more : List Event → Kinds → Kinds
all_more [] k = k
all_more (e ∷ es) k = all_more es (one_more e k)

-- no event was counted, as at boot
pub record IsUncounted (c : Counts) : Type 0 where
  pub steps : c.steps ≡ 0
  pub ticks : c.ticks ≡ 0
  pub sweeps : c.sweeps ≡ 0
  pub inputs : c.inputs ≡ 0
