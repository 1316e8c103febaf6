-- A step of a burst is the written step, tells nothing, and keeps the posture and as much RAM as there was.
use Rattle.std.proofs.Common.{ℕ, ◌≡◌, List, length, Option, None, option_map, Result, Ok, Err, refl, sym, ap, ◌∙◌}
use Rattle.std.proofs.lemmas.List.{length-set}
use Rattle.ct_entry.specs.Listed.{Listed}
use Rattle.ct_entry.specs.declared.acts.Act.{Act}
use Rattle.def_words.specs.declared.Cap.{Cap}
use Rattle.def_words.specs.declared.Trap.{Trap}
use Rattle.def_memory.specs.declared.Granule.{Granule}
use Rattle.def_machine.specs.State.{Thread, register}
use Rattle.def_step.specs.Devices.{DeviceStates}
use Rattle.def_step.specs.Instructions.{Effect}
use Rattle.def_step.specs.Operands.{operands_of}
use Rattle.def_reach.specs.Roots.{root_of}
use Rattle.ct_burst.specs.Going.{outcome, IsQuiet}
use Rattle.ct_engine.proofs.Outcomes.{once_size}
use Rattle.ct_engine.specs.Bursts.{GoesOnce}
use Rattle.ct_engine.specs.Seen.{after_jump, thread, with_granules, with_thread, EngineRow}
use Rattle.ct_execute.specs.declared.ran.Ran.TheVariants.{Went}
use Rattle.ct_execute.specs.Deciding.{act_by, ExecutesAsWritten, Leaves, Stays}
use Rattle.ct_execute.proofs.Executed.{executes_one}

leaves_quietly : (s new : EngineRow) (t entry : ℕ) (k : DeviceStates) (to : Thread) (after : List Granule) (r : Result Effect Trap) → IsQuiet (thread s t) k r to after
    → new ≡ with_granules (with_thread s t to) after → Leaves r entry t s k new k (Went None)
leaves_quietly s new t entry k to after (Err why) quiet is = absurd quiet
leaves_quietly s new t entry k to after (Ok d) quiet is = (
  is
      ∙ ap (λ (w : Thread). with_granules (with_thread s t w) after) quiet.0
      ∙ ap (λ (gs : List Granule). with_granules (after_jump s t d.pcc d.posture d.to d.value) gs) quiet.1,
  quiet.2,
  ap (λ (o : Option Act). Went (option_map (act_by entry) o)) (sym quiet.3),
)

pub goes_stays : (s new : EngineRow) (t : ℕ) → GoesOnce t s new → Stays s new
goes_stays s new t g = record {
  beside = g.is ∙ ap (λ (x : EngineRow). record s { state = record s.state { granules = x.state.granules; threads = x.state.threads } }) (sym g.is);
  size = ap (λ (x : EngineRow). length x.state.granules) g.is ∙ once_size s.region.ram (thread s t) s.state.granules g.to g.after g.goes;
  threads = ap (λ (x : EngineRow). length x.state.threads) g.is ∙ length-set s.state.threads t g.to;
}

pub executes_quietly : (e : Listed) (t time : ℕ) (s new : EngineRow) (k : DeviceStates) → GoesOnce t s new → ExecutesAsWritten e t time s k new k (Went None)
executes_quietly e t time s new k g =
    let x : Cap = register (thread s t) (operands_of g.goes.instruction).first in
    let named = (root_of e x.shadow.root).of in
    (executes_one e t time s k _ _ g.goes.instruction new k (Went None) (record { pcc = refl; passes = sym g.goes.checks; place = refl; stands = sym g.goes.stands })
    (leaves_quietly s new t x.shadow.root k g.to g.after (outcome s.region.ram (thread s t) s.state.granules g.goes.instruction named k time) (g.goes.carries named k time) g.is)
    (goes_stays s new t g) refl).0
