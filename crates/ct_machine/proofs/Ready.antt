-- What a step's thread carries on with, before it does, and what its trap asks.
use Rattle.std.proofs.Common.{ℕ, ◌≡◌, ◌&&◌, ◌<◌, Bool, not, false, List, length, Option, Some, None, sym, subst}
use Rattle.law_lists.proofs.Tests.{chosen}
use Rattle.ct_entry.specs.Listed.{Listed}
use Rattle.def_events.specs.Guarded.{Guarded}
use Rattle.def_confined.specs.Confined.{Confined}
use Rattle.def_confined.specs.Holding.{EndsFit}
use Rattle.def_machine.specs.Image.{Image, handler_entry}
use Rattle.def_machine.specs.State.{State, DeviceState, Counts, thread}
use Rattle.def_machine.specs.Platform.{MachineRow}
use Rattle.def_step.specs.Events.{preempted_from, preempted, scheduled, one_more_step}
use Rattle.law_events.proofs.Events.{ready_keeps}
use Rattle.ct_switch.specs.Exports.{AreSorted}
use Rattle.ct_sched.specs.Sched.{SchedRow}
use Rattle.ct_engine.specs.Seen as engine
use Rattle.ct_engine.specs.Seen.{EngineRow}
use Rattle.ct_engine.specs.Calls.{IsEnterable}
use Rattle.ct_engine.specs.Handling.{MayHandle}
use Rattle.law_callable.proofs.Calls.{handlers_asked, handlers_own, handlers_stand}
use Rattle.ct_machine.specs.Parts.{state_by, IsKept}
use Rattle.ct_machine.specs.Starting.{IsOfSound}
use Rattle.law_history.proofs.TokensEvents.{ready_fit}
use Rattle.ct_machine.specs.Going.{MayEnd, MayGoOn}
use Rattle.ct_machine.proofs.Guards.{same_machine}
use Rattle.ct_machine.proofs.Carried.{Ends}
use Rattle.ct_machine.proofs.Keeping.{machine_by}
use Rattle.ct_machine.proofs.Opened.{base_of, shows_caller, some_seen, tops}
use Rattle.def_step.specs.Devices.{DeviceStates}

ends_from : (s : State) (o : Option ℕ) → EndsFit s → EndsFit (preempted_from s o)
ends_from s None h = h
ends_from s (Some t) h = chosen EndsFit (s.pending && not (thread s t).posture.off) (record s { running = None; pending = false }) s (λ is. h) (λ none. h)

pub ends_fit : (s new : State) → EndsFit s → new ≡ preempted (one_more_step s) → EndsFit new
ends_fit s new h is = subst EndsFit (sym is) (ends_from (one_more_step s) s.running h)

pub may_go_on : (m n : MachineRow) → Guarded m → n.board ≡ m.board → n.state ≡ scheduled m.board (preempted (one_more_step m.state)) → MayGoOn n
may_go_on m n g board state =
    subst MayGoOn (sym (same_machine n (record { board = m.board; state = scheduled m.board (preempted (one_more_step m.state)) }) board state))
    (record { shut = g.shut; facts = g.facts; keeps = ready_keeps m.board m.state g.partitioned g.keeps; rows = ready_fit m.board m.state g.rows })

-- what the trap of a thread of a confined state asks, of its compartment's error handler
pub may_handle : (i : Image) (e : EngineRow) (r : SchedRow) (pending : Bool) (devices : List DeviceState) (time : ℕ) (c : Counts) (t actor : ℕ) → IsKept i e r → IsOfSound i
    → Confined i (state_by e r pending devices time c) → 0 < length (engine.thread e t).frames → (entries : Listed) → entries ≡ i.entries → AreSorted entries.gates
    → (handler : ℕ) → handler ≡ handler_entry i actor → MayHandle e t entries handler
may_handle i e r pending devices time c t actor kept sound confined some entries same sorted handler is = record {
  top = tops i e r pending devices time c t kept confined some;
  sorted = sorted;
  enterable = λ has.
      subst (λ (es : Listed). IsEnterable e es handler) (sym same)
      (subst (λ n. IsEnterable e i.entries n) (sym is)
      (handlers_asked i (state_by e r pending devices time c) e t actor (shows_caller i e r pending devices time c t kept sound confined some) (subst (λ n. n ≡ 0 → ⊥) is has)));
}

-- and what the end of its frame asks
pub ends_so : (i : Image) (e : EngineRow) (r : SchedRow) (k : DeviceStates) (pending : Bool) (time : ℕ) (c : Counts) (t actor handler : ℕ) → IsKept i e r → IsOfSound i → handler ≡ handler_entry i actor
    → MayEnd (machine_by i e r k pending time c) t actor → Ends i e (machine_by i e r k pending time c).state t actor handler
ends_so i e r k pending time c t actor handler kept sound is m =
    let some = some_seen i e r pending k.states time c t m.runs.some in
    record {
      base = base_of i e r pending k.states time c t kept some;
      some = some;
      acts = m.acts;
      handles = record {
        is = is;
        own = λ has. handlers_own i actor sound.parts sound.sound sound.is has;
        heads = λ has. handlers_stand i (state_by e r pending k.states time c) e t actor (shows_caller i e r pending k.states time c t kept sound m.may.keeps.confined some) has;
      };
    }
