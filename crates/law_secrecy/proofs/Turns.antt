-- Turns of threads, ticks and inputs leave two states that agree so that they agree again.
use Rattle.std.proofs.Common.{ℕ, zero, suc, ◌≡◌, ◌+◌, ◌&&◌, Bool, true, false, not, List, [], ◌∷◌, map, Option, Some, None, refl, sym, ap, ◌∙◌, subst, slice_set}
use Rattle.std.proofs.Math.ListN.{get_or}
use Rattle.std.proofs.lemmas.List.{length-set}
use Rattle.def_words.specs.declared.Cap.{Cap}
use Rattle.def_words.specs.declared.Posture.{Posture}
use Rattle.law_lists.proofs.Tests.{chosen}
use Rattle.def_memory.specs.Granules.{plain, granule_at}
use Rattle.def_sched.specs.Picks.{moved_last, pick}
use Rattle.def_sched.specs.Statuses.{after_tick}
use Rattle.def_machine.specs.Memory.{filtered}
use Rattle.def_machine.specs.Platform.{Platform}
use Rattle.def_machine.specs.State.{State, Thread, Counts, nobody, thread, granule}
use Rattle.def_machine.specs.Threads.{picked, picked_with, statuses_of, timed}
use Rattle.def_step.specs.Devices.{after_input, device}
use Rattle.def_step.specs.Events.{holder, holder_by, interrupted, one_more_step, picked_as, picked_from, preempted, preempted_from, received, scheduled, ticked}
use Rattle.def_safety.specs.Each.{ready}
use Rattle.def_secrecy.specs.View.{Sees, SeesDevice}
use Rattle.def_secrecy.specs.Agreeing.{SameMemory, SamePublic, shapes, Agree}
use Rattle.law_secrecy.proofs.Freeing.{same_map}
use Rattle.law_secrecy.proofs.Puts.{held_by, same_status, self_agree}
use Rattle.law_secrecy.proofs.Replies.{halted_agree}
use Rattle.law_secrecy.proofs.Two.{set_devices, two_choices}
use Rattle.law_secrecy.proofs.Views.{filter_same}

-- ---- what a thread's posture tells

abbrev is_held : Option (ℕ × ℕ) → Bool
is_held None = false
is_held (Some p) = true

off_told : (u : ℕ) (p : Posture) → is_held (held_by u p) ≡ p.off
off_told u p = by p.off
  where
    by : (off : Bool) → is_held (held_by u (record p { off = off })) ≡ off
    by true = refl
    by false = refl

-- of two states with the same holder the running thread holds interrupts off in both, or in neither
pub same_off : (s z : State) (u : ℕ) → SamePublic s z → s.running ≡ Some u → (thread s u).posture.off ≡ (thread z u).posture.off
same_off s z u p runs =
    sym (off_told u (thread s u).posture) ∙ ap is_held (sym (ap (holder_by s) runs) ∙ p.holder ∙ ap (holder_by z) (sym p.running ∙ runs)) ∙ off_told u (thread z u).posture

-- ---- what isn't seen, and what is public

module _ (b : Platform) (t : ℕ) (s z : State) (agree : Agree b t s z) where
  pub counted_agree : (c d : Counts) → Agree b t (record s { counts = c }) (record z { counts = d })
  counted_agree c d =
      let p = agree.public in
      record {
        public = record { running = p.running; holder = p.holder; pending = p.pending; time = p.time; statuses = p.statuses; picks = p.picks; objects = p.objects; next = p.next; tokens = p.tokens; front = p.front };
        self = agree.self;
        memory = agree.memory;
        devices = agree.devices;
        banks = agree.banks;
      }

  pub pending_agree : (w v : Bool) → w ≡ v → Agree b t (record s { pending = w }) (record z { pending = v })
  pending_agree w v e =
      let p = agree.public in
      record {
        public = record { running = p.running; holder = p.holder; pending = e; time = p.time; statuses = p.statuses; picks = p.picks; objects = p.objects; next = p.next; tokens = p.tokens; front = p.front };
        self = agree.self;
        memory = agree.memory;
        devices = agree.devices;
        banks = agree.banks;
      }

  -- ---- an input

  pub received_agree : (n byte : ℕ) → Agree b t (received s n byte) (received z n byte)
  received_agree n byte =
      let p = agree.public in
      record {
        public = record { running = p.running; holder = p.holder; pending = p.pending; time = p.time; statuses = p.statuses; picks = p.picks; objects = p.objects; next = p.next; tokens = p.tokens; front = p.front };
        self = agree.self;
        memory = agree.memory;
        devices = λ m seen. set_devices s.devices z.devices n m (after_input (device s.devices n) byte) (after_input (device z.devices n) byte) agree.banks
            (λ here. ap (λ d. after_input d byte) (agree.devices n (subst (λ k. SeesDevice b (thread s t).frames k) (sym here) seen)))
            (agree.devices m seen);
        banks = length-set s.devices n _ ∙ agree.banks ∙ sym (length-set z.devices n _);
      }

  -- ---- a thread that is stopped

  preempted_two : (o p : Option ℕ) → s.running ≡ o → o ≡ p → Agree b t (preempted_from s o) (preempted_from z p)
  preempted_two None None e same = agree
  preempted_two (Some u) (Some v) e same =
      let heads : u ≡ v = cc in
      subst (λ w. Agree b t (preempted_from s (Some u)) (preempted_from z (Some w))) heads
      (two_choices (Agree b t) (s.pending && not (thread s u).posture.off) (z.pending && not (thread z u).posture.off) (record s { running = None; pending = false }) s (record z { running = None; pending = false }) z
      (ap (λ w. w && not (thread s u).posture.off) agree.public.pending ∙ ap (λ w. z.pending && not w) (same_off s z u agree.public e))
      (λ is. halted_agree b t (record s { pending = false }) (record z { pending = false }) (pending_agree false false refl))
      (λ not. agree))
  preempted_two None (Some v) e same = absurd (let clash : None ≡ Some v = same in cc)
  preempted_two (Some u) None e same = absurd (let clash : Some u ≡ None = same in cc)

  pub preempted_agree : Agree b t (preempted s) (preempted z)
  preempted_agree = preempted_two s.running z.running refl agree.public.running

-- ---- a thread that is picked

-- a pick of a thread past the last gives nobody
picked_is : (keep : Cap → Cap) (ts : List Thread) (t : ℕ) → keep (plain 0) ≡ plain 0 → get_or (slice_set ts t (picked_with keep (get_or ts t nobody))) t nobody ≡ picked_with keep (get_or ts t nobody)
picked_is keep [] t e = ap (λ c. record nobody { pcc = c }) (sym e)
picked_is keep (x ∷ xs) zero e = refl
picked_is keep (x ∷ xs) (suc t) e = picked_is keep xs t e

module _ (b : Platform) (t : ℕ) (s z : State) (marks : (k : ℕ) → (granule s k).mark ≡ (granule z k).mark) (agree : Agree b t s z) where
  picked_agree : s.running ≡ None → Agree b t (picked_as b s (Some t)) (picked_as b z (Some t))
  picked_agree rests =
      let p = agree.public in
      let filters = filter_same b.image.ram s.granules z.granules marks in
      self_agree b t (record s { running = Some t; picks = moved_last t s.picks }) (record z { running = Some t; picks = moved_last t z.picks }) (picked b.image s (thread s t)) (picked b.image z (thread z t))
      (picked_is (filtered b.image s) s.threads t refl) (picked_is (filtered b.image z) z.threads t refl)
      (record {
        running = refl;
        holder = ap (held_by t) agree.self.posture;
        pending = p.pending;
        time = p.time;
        statuses = p.statuses;
        picks = ap (λ us. moved_last t us) p.picks;
        objects = p.objects;
        next = p.next;
        tokens = p.tokens;
        front = p.front;
      })
      refl (same_status s z t p)
      (record { pcc = filters (thread s t).pcc ∙ ap (filtered b.image z) agree.self.pcc; registers = same_map (filtered b.image s) (filtered b.image z) (thread s t).registers (thread z t).registers agree.self.registers filters; posture = agree.self.posture; frames = agree.self.frames })
      agree.memory agree.devices agree.banks

  picked_two : s.running ≡ None → (o p : Option ℕ) → o ≡ p → ((u : ℕ) → (picked_as b s o).running ≡ Some u → u ≡ t) → Agree b t (picked_as b s o) (picked_as b z p)
  picked_two rests None None same only = agree
  picked_two rests (Some u) (Some v) same only =
      let heads : u ≡ v = cc in
      subst (λ w. Agree b t (picked_as b s (Some u)) (picked_as b z (Some w))) heads (subst (λ w. Agree b t (picked_as b s (Some w)) (picked_as b z (Some w))) (sym (only u refl)) (picked_agree rests))
  picked_two rests None (Some v) same only = absurd (let clash : None ≡ Some v = same in cc)
  picked_two rests (Some u) None same only = absurd (let clash : Some u ≡ None = same in cc)

  scheduled_two : (o p : Option ℕ) → s.running ≡ o → o ≡ p → ((u : ℕ) → (picked_from b s o).running ≡ Some u → u ≡ t) → Agree b t (picked_from b s o) (picked_from b z p)
  scheduled_two (Some u) (Some v) e same only = agree
  scheduled_two None None e same only = picked_two e (pick b.image.priorities (statuses_of s.threads) s.picks) (pick b.image.priorities (statuses_of z.threads) z.picks)
      (ap (λ vs. pick b.image.priorities vs s.picks) agree.public.statuses ∙ ap (λ us. pick b.image.priorities (statuses_of z.threads) us) agree.public.picks) only
  scheduled_two None (Some v) e same only = absurd (let clash : None ≡ Some v = same in cc)
  scheduled_two (Some u) None e same only = absurd (let clash : Some u ≡ None = same in cc)

  pub scheduled_agree : ((u : ℕ) → (scheduled b s).running ≡ Some u → u ≡ t) → Agree b t (scheduled b s) (scheduled b z)
  scheduled_agree = scheduled_two s.running z.running refl agree.public.running

preempted_granules : (s : State) (o : Option ℕ) → (preempted_from s o).granules ≡ s.granules
preempted_granules s None = refl
preempted_granules s (Some u) = chosen (λ (a : State). a.granules ≡ s.granules) (s.pending && not (thread s u).posture.off) (record s { running = None; pending = false }) s (λ is. refl) (λ not. refl)

-- the states in which a step's thread carries on
pub ready_agree : (b : Platform) (t : ℕ) (s z : State) → ((k : ℕ) → (granule s k).mark ≡ (granule z k).mark) → Agree b t s z → ((u : ℕ) → (ready b s).running ≡ Some u → u ≡ t) → Agree b t (ready b s) (ready b z)
ready_agree b t s z marks agree =
    scheduled_agree b t (preempted (one_more_step s)) (preempted (one_more_step z))
    (λ k. ap (λ gs. (granule_at gs k).mark) (preempted_granules (one_more_step s) s.running) ∙ marks k ∙ sym (ap (λ gs. (granule_at gs k).mark) (preempted_granules (one_more_step z) z.running)))
    (preempted_agree b t (one_more_step s) (one_more_step z) (counted_agree b t s z agree _ _))

-- ---- a tick

-- what of a thread a tick doesn't change
pub kept_by_tick : {A : Type 0} (f : Thread → A) → ((x : Thread) → f (timed x) ≡ f x) → (ts : List Thread) (t : ℕ) → f (get_or (map timed ts) t nobody) ≡ f (get_or ts t nobody)
kept_by_tick f same [] t = refl
kept_by_tick f same (x ∷ xs) zero = same x
kept_by_tick f same (x ∷ xs) (suc t) = kept_by_tick f same xs t

timed_statuses : (ts : List Thread) → statuses_of (map timed ts) ≡ map after_tick (statuses_of ts)
timed_statuses [] = refl
timed_statuses (x ∷ xs) = ap (λ vs. after_tick x.status ∷ vs) (timed_statuses xs)

-- the state after a tick, before the running thread is interrupted
abbrev pub later : State → State
later s = record s { threads = map timed s.threads; time = s.time + 1; counts = record s.counts { ticks = s.counts.ticks + 1 } }

held_later : (s : State) (o : Option ℕ) → holder_by (later s) o ≡ holder_by s o
held_later s None = refl
held_later s (Some u) = ap (held_by u) (kept_by_tick (λ x. x.posture) (λ x. refl) s.threads u)

-- who holds interrupts off after a tick did so before
interrupted_holds : (s : State) (o : Option ℕ) (p : ℕ × ℕ) → (later s).running ≡ o → holder (interrupted (later s) o) ≡ Some p → holder s ≡ Some p
interrupted_holds s None p e is = absurd (let none : holder (later s) ≡ None = ap (holder_by (later s)) e in let clash : None ≡ Some p = sym none ∙ is in cc)
interrupted_holds s (Some u) p e is = chosen (λ (a : State). holder a ≡ Some p → holder s ≡ Some p) (thread (later s) u).posture.off (record (later s) { pending = true }) (record (later s) { running = None })
    (λ off holds. sym (held_later s s.running) ∙ holds)
    (λ not holds. absurd (let clash : None ≡ Some p = holds in cc))
    is

pub ticked_holds : (s : State) (p : ℕ × ℕ) → holder (ticked s) ≡ Some p → holder s ≡ Some p
ticked_holds s p = interrupted_holds s s.running p refl

module _ (b : Platform) (t : ℕ) (s z : State) (agree : Agree b t s z) where
  later_agree : Agree b t (later s) (later z)
  later_agree =
      let p = agree.public in
      let framed : (thread (later s) t).frames ≡ (thread s t).frames = kept_by_tick (λ x. x.frames) (λ x. refl) s.threads t in
      record {
        public = record {
          running = p.running;
          holder = held_later s s.running ∙ p.holder ∙ sym (held_later z z.running);
          pending = p.pending;
          time = ap (λ n. n + 1) p.time;
          statuses = timed_statuses s.threads ∙ ap (λ vs. map after_tick vs) p.statuses ∙ sym (timed_statuses z.threads);
          picks = p.picks;
          objects = p.objects;
          next = p.next;
          tokens = p.tokens;
          front = p.front;
        };
        self = record {
          pcc = kept_by_tick (λ x. x.pcc) (λ x. refl) s.threads t ∙ agree.self.pcc ∙ sym (kept_by_tick (λ x. x.pcc) (λ x. refl) z.threads t);
          registers = kept_by_tick (λ x. x.registers) (λ x. refl) s.threads t ∙ agree.self.registers ∙ sym (kept_by_tick (λ x. x.registers) (λ x. refl) z.threads t);
          posture = kept_by_tick (λ x. x.posture) (λ x. refl) s.threads t ∙ agree.self.posture ∙ sym (kept_by_tick (λ x. x.posture) (λ x. refl) z.threads t);
          frames = kept_by_tick shapes (λ x. refl) s.threads t ∙ agree.self.frames ∙ sym (kept_by_tick shapes (λ x. refl) z.threads t);
        };
        memory = subst (λ fs. SameMemory b.image (Sees b.image s.objects t fs) s.granules z.granules) (sym framed) agree.memory;
        devices = λ m seen. agree.devices m (subst (λ fs. SeesDevice b fs m) framed seen);
        banks = agree.banks;
      }

  interrupted_two : (o p : Option ℕ) → s.running ≡ o → o ≡ p → Agree b t (interrupted (later s) o) (interrupted (later z) p)
  interrupted_two None None e same = later_agree
  interrupted_two (Some u) (Some v) e same =
      let heads : u ≡ v = cc in
      subst (λ w. Agree b t (interrupted (later s) (Some u)) (interrupted (later z) (Some w))) heads
      (two_choices (Agree b t) (thread (later s) u).posture.off (thread (later z) u).posture.off (record (later s) { pending = true }) (record (later s) { running = None }) (record (later z) { pending = true }) (record (later z) { running = None })
      (same_off (later s) (later z) u later_agree.public e)
      (λ off. pending_agree b t (later s) (later z) later_agree true true refl)
      (λ on. halted_agree b t (later s) (later z) later_agree))
  interrupted_two None (Some v) e same = absurd (let clash : None ≡ Some v = same in cc)
  interrupted_two (Some u) None e same = absurd (let clash : Some u ≡ None = same in cc)

  pub ticked_agree : Agree b t (ticked s) (ticked z)
  ticked_agree = interrupted_two s.running z.running refl agree.public.running
