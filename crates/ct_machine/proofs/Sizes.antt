-- A deed counts once, and an object that is made.
use Rattle.std.proofs.Common.{ℕ, ◌≤◌, ◌+◌, Option, Some, None, arith}
use Rattle.ct_entry.specs.declared.acts.Act.{Act}
use Rattle.ct_entry.specs.declared.acts.Act.TheVariants.{Call, Load, Store, Allocate, Free, Trap}
use Rattle.ct_entry.specs.declared.acts.Deed.{Deed}
use Rattle.def_machine.specs.State.{Counts}
use Rattle.def_step.specs.Events.{with_deed, with_act}
use Rattle.ct_machine.specs.Parts.{IsCounted, deeds_of}

act_counts : (c : Counts) (a : Act) (time next : ℕ) → IsCounted c time next → deeds_of c + 1 ≤ c.steps → IsCounted (with_act c a) time next
act_counts c (Call export) time next h room = record { steps = h.steps; ticks = h.ticks; sweeps = h.sweeps; inputs = h.inputs; deeds = omega (arith, room); clock = h.clock; made = h.made }
act_counts c (Load address width value) time next h room = record { steps = h.steps; ticks = h.ticks; sweeps = h.sweeps; inputs = h.inputs; deeds = omega (arith, room); clock = h.clock; made = h.made }
act_counts c (Store address width value) time next h room = record { steps = h.steps; ticks = h.ticks; sweeps = h.sweeps; inputs = h.inputs; deeds = omega (arith, room); clock = h.clock; made = h.made }
act_counts c (Allocate number base size live) time next h room = h
act_counts c (Free number base size live) time next h room = record { steps = h.steps; ticks = h.ticks; sweeps = h.sweeps; inputs = h.inputs; deeds = omega (arith, room); clock = h.clock; made = h.made }
act_counts c (Trap cause code register) time next h room = record { steps = h.steps; ticks = h.ticks; sweeps = h.sweeps; inputs = h.inputs; deeds = omega (arith, room); clock = h.clock; made = h.made }

pub deed_counts : (c : Counts) (d : Option Deed) (time next : ℕ) → IsCounted c time next → deeds_of c + 1 ≤ c.steps → IsCounted (with_deed c d) time next
deed_counts c None time next h room = h
deed_counts c (Some d) time next h room = act_counts c d.act time next h room

-- ---- objects that are made

pub few_by : (c : Counts) (time next : ℕ) → IsCounted c time next → next ≤ c.steps → next ≤ 4000000000
few_by c time next h few = let most = h.steps in omega (arith, few, most)

-- a step makes one at most
pub made_by : (c : Counts) (time next new : ℕ) → IsCounted c time next → next ≤ c.steps → new ≤ next + 1 → IsCounted c time new
made_by c time next new h few one = record { steps = h.steps; ticks = h.ticks; sweeps = h.sweeps; inputs = h.inputs; deeds = h.deeds; clock = h.clock; made = omega (arith, few, one) }
