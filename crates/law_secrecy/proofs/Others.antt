-- An event that is a step of another thread, which can reach nothing that a thread sees; and two such events, one in
-- each run.
use Rattle.std.proofs.Common.{ℕ, ◌≡◌, ◌&&◌, false, true, length, not, List, [], ◌∷◌, Option, Some, None, refl, sym, ap, ◌∙◌, subst}
use Rattle.std.proofs.lemmas.List.{get_or-set_other, length-set}
use Rattle.law_lists.proofs.Tests.{chosen}
use Rattle.def_sched.specs.Picks.{pick}
use Rattle.def_machine.specs.Platform.{Platform}
use Rattle.def_machine.specs.State.{State, Thread, nobody, thread}
use Rattle.def_machine.specs.Threads.{statuses_of}
use Rattle.def_confined.specs.Confined.{Confined}
use Rattle.def_confined.specs.Facts.{Facts}
use Rattle.def_confined.specs.Keeps.{Keeps}
use Rattle.def_confined.specs.Partitioned.{Partitioned}
use Rattle.def_step.specs.declared.Event.{Event}
use Rattle.def_step.specs.declared.Event.TheVariants.{Step, Tick, Sweep, Input}
use Rattle.def_step.specs.Devices.{device}
use Rattle.def_step.specs.Events.{continued, happens, interrupted, one_more_step, picked_as, picked_from, preempted, preempted_from, received, run, ticked}
use Rattle.def_step.specs.Instructions.{executed}
use Rattle.def_safety.specs.Each.{EachEvent, ready}
use Rattle.def_safety.specs.Wired.{Wired}
use Rattle.def_secrecy.specs.View.{InView, Sees, SeesDevice}
use Rattle.def_secrecy.specs.Agreeing.{SameMemory, AgreeingThread, SamePublic, shapes, Agree}
use Rattle.def_secrecy.specs.Others.{ByOthers, OutOfReach, SeesAlike, ViewStays}
use Rattle.law_events.proofs.Events.{event_keeps, ready_kept}
use Rattle.law_secrecy.proofs.OtherSteps.{executed_stays}
use Rattle.law_secrecy.proofs.Changing.{device_other}
use Rattle.law_secrecy.proofs.Shapes.{device_shaped, sees_shaped}
use Rattle.law_secrecy.proofs.Turns.{kept_by_tick, later}

-- ---- a turn of another thread

-- what a turn leaves as it was: RAM, devices, objects, and every thread but the one that is picked
pub record Turned (s r : State) (t : ℕ) : Type 0 where
  pub granules : r.granules ≡ s.granules
  pub devices : r.devices ≡ s.devices
  pub objects : r.objects ≡ s.objects
  pub thread_is : thread r t ≡ thread s t

turned_itself : (s : State) (t : ℕ) → Turned s s t
turned_itself s t = record { granules = refl; devices = refl; objects = refl; thread_is = refl }

module _ (b : Platform) (t u : ℕ) (apart : t ≡ u → ⊥) where
  stopped : (s : State) (o : Option ℕ) → Turned s (preempted_from s o) t
  stopped s None = turned_itself s t
  stopped s (Some v) = chosen (λ (a : State). Turned s a t) (s.pending && not (thread s v).posture.off) (record s { running = None; pending = false }) s (λ is. record { granules = refl; devices = refl; objects = refl; thread_is = refl }) (λ on. turned_itself s t)

  chose : (s : State) (o : Option ℕ) → (picked_as b s o).running ≡ Some u → Turned s (picked_as b s o) t
  chose s None runs = turned_itself s t
  chose s (Some v) runs =
      let same : v ≡ u = cc in
      record { granules = refl; devices = refl; objects = refl; thread_is = get_or-set_other s.threads v t _ nobody (λ is. apart (is ∙ same)) }

  scheduled : (s : State) (o : Option ℕ) → (picked_from b s o).running ≡ Some u → Turned s (picked_from b s o) t
  scheduled s (Some v) runs = turned_itself s t
  scheduled s None runs = chose s (pick b.image.priorities (statuses_of s.threads) s.picks) runs

  pub ready_turned : (s : State) → (ready b s).running ≡ Some u → Turned s (ready b s) t
  ready_turned s runs =
      let first = stopped (one_more_step s) s.running in
      let second = scheduled (preempted (one_more_step s)) (preempted (one_more_step s)).running runs in
      record { granules = second.granules ∙ first.granules; devices = second.devices ∙ first.devices; objects = second.objects ∙ first.objects; thread_is = second.thread_is ∙ first.thread_is }

-- ---- the event

module _ (b : Platform) (s : State) (t u : ℕ) (parts : Partitioned b.image) (wired : Wired b) (held : Confined b.image s) (runs : (ready b s).running ≡ Some u) (apart : t ≡ u → ⊥) (out : OutOfReach b (ready b s) t u) where
  turned : Turned s (ready b s) t
  turned = ready_turned b t u apart s runs

  -- what is seen before the turn is seen after it
  sees_then : (x : ℕ) → InView b.image s t x → InView b.image (ready b s) t x
  sees_then x seen = subst (λ os. Sees b.image os t (thread (ready b s) t).frames x) (sym turned.objects) (subst (λ (y : Thread). Sees b.image s.objects t y.frames x) (sym turned.thread_is) seen)

  step_stays : ViewStays b t (ready b s) (executed b (ready b s) u).0
  step_stays = executed_stays b (ready b s) t u parts wired (ready_kept b s parts held).confined runs apart out

  before_step : ViewStays b t s (executed b (ready b s) u).0
  before_step =
      let after : State = (executed b (ready b s) u).0 in
      let h = step_stays in
      record {
        self = subst (λ (y : Thread). AgreeingThread y (thread after t)) turned.thread_is h.self;
        memory = subst (λ gs. SameMemory b.image (InView b.image s t) gs after.granules) turned.granules (record {
          size = h.memory.size;
          bytes = λ x above seen. h.memory.bytes x above (sees_then x seen);
          whole = λ k seen. h.memory.whole k (λ n lt. sees_then _ (seen n lt));
        });
        devices = λ m seen. ap (λ ds. device ds m) (sym turned.devices) ∙ h.devices m (subst (λ (y : Thread). SeesDevice b y.frames m) (sym turned.thread_is) seen);
        banks = ap (λ ds. length ds) (sym turned.devices) ∙ h.banks;
      }

  continued_stays : (o : Option ℕ) → o ≡ Some u → ViewStays b t s (continued b (ready b s) o).0
  continued_stays None e = absurd (let clash : None ≡ Some u = e in cc)
  continued_stays (Some v) e =
      let same : v ≡ u = cc in
      let h = before_step in
      subst (λ w. ViewStays b t s (continued b (ready b s) (Some w)).0) (sym same) (record { self = h.self; memory = h.memory; devices = h.devices; banks = h.banks })

  pub event_stays : ViewStays b t s (happens b s Step).0
  event_stays = continued_stays (ready b s).running runs

-- ---- a tick and an input

tick_stays : (b : Platform) (s : State) (t : ℕ) → ViewStays b t s (ticked s) × SeesAlike b t s (ticked s)
tick_stays b s t = by s.running
  where
    frames_are : (thread (later s) t).frames ≡ (thread s t).frames
    frames_are = kept_by_tick (λ x. x.frames) (λ x. refl) s.threads t

    self : AgreeingThread (thread s t) (thread (later s) t)
    self = record {
      pcc = sym (kept_by_tick (λ x. x.pcc) (λ x. refl) s.threads t);
      registers = sym (kept_by_tick (λ x. x.registers) (λ x. refl) s.threads t);
      posture = sym (kept_by_tick (λ x. x.posture) (λ x. refl) s.threads t);
      frames = sym (kept_by_tick shapes (λ x. refl) s.threads t);
    }

    alike : (x : ℕ) → (InView b.image s t x → Sees b.image s.objects t (thread (later s) t).frames x) × (Sees b.image s.objects t (thread (later s) t).frames x → InView b.image s t x)
    alike x = (subst (λ fs. Sees b.image s.objects t fs x) (sym frames_are), subst (λ fs. Sees b.image s.objects t fs x) frames_are)

    memory : SameMemory b.image (InView b.image s t) s.granules s.granules
    memory = record { size = refl; bytes = λ x above seen. refl; whole = λ k seen. refl }

    by : (o : Option ℕ) → ViewStays b t s (interrupted (later s) o) × SeesAlike b t s (interrupted (later s) o)
    by None = (record { self = self; memory = memory; devices = λ m seen. refl; banks = refl }, alike)
    by (Some u) = chosen (λ (a : State). ViewStays b t s a × SeesAlike b t s a) (thread (later s) u).posture.off (record (later s) { pending = true }) (record (later s) { running = None })
        (λ off. (record { self = self; memory = memory; devices = λ m seen. refl; banks = refl }, alike))
        (λ on. (record { self = self; memory = memory; devices = λ m seen. refl; banks = refl }, alike))

input_stays : (b : Platform) (s : State) (t n byte : ℕ) → (SeesDevice b (thread s t).frames n → ⊥) → ViewStays b t s (received s n byte)
input_stays b s t n byte unseen = record {
  self = record { pcc = refl; registers = refl; posture = refl; frames = refl };
  memory = record { size = refl; bytes = λ x above seen. refl; whole = λ k seen. refl };
  devices = λ m seen. device_other s.devices n m _ (λ is. unseen (subst (λ k. SeesDevice b (thread s t).frames k) (sym is) seen));
  banks = sym (length-set s.devices n _);
}

-- ---- events one after another

pub by_others : (b : Platform) (s : State) (t : ℕ) (e : Event) → Partitioned b.image → Wired b → Confined b.image s → ByOthers b t s e → ViewStays b t s (happens b s e).0 × SeesAlike b t s (happens b s e).0
by_others b s t Step parts wired held h = (event_stays b s t h.other parts wired held h.runs h.is_other h.away, h.alike)
by_others b s t Tick parts wired held h = tick_stays b s t
by_others b s t Sweep parts wired held h = absurd h
by_others b s t (Input n byte) parts wired held h = (input_stays b s t n byte h, λ x. ((λ seen. seen), (λ seen. seen)))

stays_then : (b : Platform) (t : ℕ) (s a c : State) → ViewStays b t s a → SeesAlike b t s a → ViewStays b t a c → ViewStays b t s c
stays_then b t s a c one alike two = record {
  self = record { pcc = one.self.pcc ∙ two.self.pcc; registers = one.self.registers ∙ two.self.registers; posture = one.self.posture ∙ two.self.posture; frames = one.self.frames ∙ two.self.frames };
  memory = record {
    size = one.memory.size ∙ two.memory.size;
    bytes = λ x above seen. one.memory.bytes x above seen ∙ two.memory.bytes x above ((alike x).0 seen);
    whole = λ k seen. one.memory.whole k seen ∙ two.memory.whole k (λ n lt. (alike _).0 (seen n lt));
  };
  devices = λ m seen. one.devices m seen ∙ two.devices m (device_shaped b (thread s t).frames (thread a t).frames m one.self.frames seen);
  banks = one.banks ∙ two.banks;
}

pub run_stays : (b : Platform) (t : ℕ) (es : List Event) (s : State) → Partitioned b.image → Facts b.image → Wired b → Keeps b.image s → EachEvent (ByOthers b t) b s es → ViewStays b t s (run b s es) × SeesAlike b t s (run b s es)
unfolding run
run_stays b t [] s parts facts wired k h = (
  record {
    self = record { pcc = refl; registers = refl; posture = refl; frames = refl };
    memory = record { size = refl; bytes = λ x above seen. refl; whole = λ j seen. refl };
    devices = λ m seen. refl;
    banks = refl;
  },
  λ x. ((λ seen. seen), (λ seen. seen)),
)
run_stays b t (e ∷ es) s parts facts wired k h =
    let first = by_others b s t e parts wired k.confined h.0 in
    let rest = run_stays b t es (happens b s e).0 parts facts wired (event_keeps b s e parts facts wired k) h.1 in (
      stays_then b t s (happens b s e).0 _ first.0 first.1 rest.0,
      λ x. ((λ seen. (rest.1 x).0 ((first.1 x).0 seen)), (λ seen. (first.1 x).1 ((rest.1 x).1 seen))),
    )

-- ---- of two runs

-- Where what is seen of each of two states that agree stays, and what is public of both agrees, they agree again.
pub stays_agree : (b : Platform) (t : ℕ) (s z after other : State) → Agree b t s z → ViewStays b t s after → ViewStays b t z other → SamePublic after other → SeesAlike b t s after → Agree b t after other
stays_agree b t s z after other agree one two public less = record {
  public = public;
  self = record {
    pcc = sym one.self.pcc ∙ agree.self.pcc ∙ two.self.pcc;
    registers = sym one.self.registers ∙ agree.self.registers ∙ two.self.registers;
    posture = sym one.self.posture ∙ agree.self.posture ∙ two.self.posture;
    frames = sym one.self.frames ∙ agree.self.frames ∙ two.self.frames;
  };
  memory = record {
    size = sym one.memory.size ∙ agree.memory.size ∙ two.memory.size;
    bytes = λ x above seen. sym (one.memory.bytes x above ((less x).1 seen)) ∙ agree.memory.bytes x above ((less x).1 seen) ∙ two.memory.bytes x above (too x ((less x).1 seen));
    whole = λ k seen. sym (one.memory.whole k (λ n lt. (less _).1 (seen n lt))) ∙ agree.memory.whole k (λ n lt. (less _).1 (seen n lt)) ∙ two.memory.whole k (λ n lt. too _ ((less _).1 (seen n lt)));
  };
  devices = λ m seen.
      let before = device_shaped b (thread after t).frames (thread s t).frames m (sym one.self.frames) seen in
      sym (one.devices m before) ∙ agree.devices m before ∙ two.devices m (device_shaped b (thread s t).frames (thread z t).frames m agree.self.frames before);
  banks = sym one.banks ∙ agree.banks ∙ two.banks;
}
  where
    -- both see the same
    too : (x : ℕ) → InView b.image s t x → InView b.image z t x
    too x seen = sees_shaped b.image z.objects t (thread s t).frames (thread z t).frames x agree.self.frames (subst (λ os. Sees b.image os t (thread s t).frames x) agree.public.objects seen)
