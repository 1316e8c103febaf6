-- What is done is told: what a step of a thread changes, with the deed by which it is told.
use Rattle.std.proofs.Common.{ℕ, zero, suc, ◌≡◌, ◌+◌, ◌≤◌, ◌⊎◌, inl, inr, true, nat_le, map, List, [], ◌∷◌, length, Option, Some, None, Result, Ok, Err, refl, sym, ap, ◌∙◌, subst, arith, slice_set, option_map, if◌then◌else◌}
use Rattle.std.specs.Prelude.{is_some}
use Rattle.std.proofs.Math.ListN.{get_or}
use Rattle.law_lists.proofs.Sets.{after_set_split}
use Rattle.law_lists.proofs.Tests.{chosen}
use Rattle.ct_entry.specs.declared.acts.Act.{Act}
use Rattle.ct_entry.specs.declared.acts.Act.TheVariants as acts
use Rattle.ct_entry.specs.declared.acts.Deed.{Deed}
use Rattle.def_profile.specs.declared.answers.TheConstants.{UNWOUND}
use Rattle.def_words.specs.declared.Trap.{Trap}
use Rattle.def_instr.specs.declared.Instr.{Instr}
use Rattle.def_sched.specs.declared.Status.{Status}
use Rattle.def_machine.specs.Platform.{Platform}
use Rattle.def_machine.specs.Image.{Image}
use Rattle.def_machine.specs.Objects.{charges, has_quarantined, painted}
use Rattle.def_machine.specs.State.{State, Thread, Frame, Object, nobody, thread}
use Rattle.def_machine.specs.Threads.{timed, with_statuses}
use Rattle.def_machine.specs.Frames.{returned, ended_with}
use Rattle.def_machine.specs.Heap.{with_slice, slice_end, sweep_over, ram_size, sweep_began, sweep_on, swept}
use Rattle.def_confined.specs.Keeps.{Keeps}
use Rattle.def_step.specs.declared.Class.{Class}
use Rattle.def_step.specs.declared.Class.TheVariants as class
use Rattle.def_step.specs.declared.Event.{Event}
use Rattle.def_step.specs.declared.Event.TheVariants.{Step, Tick, Sweep, Input}
use Rattle.def_step.specs.Accesses.{Accessed, access_of, access_checks, access_address, access_result, accessed, stored_value, unless}
use Rattle.def_step.specs.Checks.{first_failed}
use Rattle.def_step.specs.Devices.{found, bank_value, bank_read_at, bank_written_at}
use Rattle.def_step.specs.Events.{continued, noted, happens, interrupted}
use Rattle.def_step.specs.Instructions.{Effect, carried_out, named_by, flows, accesses, around, bank_of, space_of, operand, deed, executed}
use Rattle.def_step.specs.Jumps.{Flowed}
use Rattle.def_step.specs.Operands.{operands_of, class_of}
use Rattle.def_step.specs.Quotas.{let_go}
use Rattle.def_safety.specs.Each.{ready}
use Rattle.def_truly.specs.Changes.{IsDeviceAct, IsCallAct, IsAllocateAct, IsFreeAct, TellsSuch, TellsSuchBy, live_ones, TellsAll, SilenceKeeps}
use Rattle.law_routines.proofs.Accesses.{by_access}
use Rattle.law_truly.proofs.Cases.{executed_case}
use Rattle.law_truly.proofs.Same.{Calm, Readied, calm, ready_is, ticked_calm, swept_calm, live_charges}
use Rattle.law_truly.proofs.Spans.{none_begun}
use Rattle.law_history.proofs.Routines.{IfEffect, Both}
use Rattle.law_history.proofs.Devices.{interrupted_devices, swept_devices}

-- what a step of a thread may change, with what it tells
pub record Changes (s z : State) (told : Option Deed) : Type 0 where
  pub devices : (z.devices ≡ s.devices) ⊎ TellsSuch IsDeviceAct told
  pub frames : (u : ℕ) → (length (thread z u).frames ≤ length (thread s u).frames) ⊎ TellsSuchBy u IsCallAct told
  pub next : (z.next ≡ s.next) ⊎ TellsSuch IsAllocateAct told
  pub objects : (z.objects ≡ s.objects) ⊎ TellsSuch IsAllocateAct told ⊎ TellsSuch IsFreeAct told
  pub runs : (u : ℕ) → z.running ≡ Some u → s.running ≡ Some u

pub status_frames : (ts : List Thread) (ss : List Status) (t : ℕ) → (get_or (with_statuses ts ss) t nobody).frames ≡ (get_or ts t nobody).frames
status_frames [] ss t = refl
status_frames (x ∷ xs) [] t = refl
status_frames (x ∷ xs) (y ∷ ys) zero = refl
status_frames (x ∷ xs) (y ∷ ys) (suc t) = status_frames xs ys t

module _ (b : Platform) (s : State) (t : ℕ) where
  abbrev Few : ℕ → Thread → Type 0
  Few u x = length x.frames ≤ length (thread s u).frames

  -- one thread changes, with as many frames at most
  set_few : (ts : List Thread) (new : Thread) → Few t new → (u : ℕ) → Few u (get_or ts u nobody) → Few u (get_or (slice_set ts t new) u nobody)
  set_few ts new h u old = after_set_split (Few u) ts t u new nobody (λ is. subst (λ n. Few n new) is h) (λ is none. omega arith) (λ other. old)

  one_few : (new : Thread) → Few t new → (u : ℕ) → Few u (get_or (slice_set s.threads t new) u nobody)
  one_few new h u = set_few s.threads new h u (omega arith)

  -- nothing but a thread changes, which has as many frames at most
  plain_change : (z : State) (told : Option Deed) (new : Thread) → Few t new → z.threads ≡ slice_set s.threads t new → z.devices ≡ s.devices → z.next ≡ s.next → z.objects ≡ s.objects
      → ((u : ℕ) → z.running ≡ Some u → s.running ≡ Some u) → Changes s z told
  plain_change z told new h threads devices next objects runs = record {
    devices = inl devices;
    frames = λ u. inl (subst (λ ts. Few u (get_or ts u nobody)) (sym threads) (one_few new h u));
    next = inl next;
    objects = inl objects;
    runs = runs;
  }

  none_runs : (u : ℕ) → None ≡ Some u → s.running ≡ Some u
  none_runs u e = absurd (let clash : None ≡ Some u = e in cc)

  untouched : (told : Option Deed) → Changes s s told
  untouched told = record { devices = inl refl; frames = λ u. inl (omega arith); next = inl refl; objects = inl refl; runs = λ u e. e }

  fewer : (f : Frame) (fs : List Frame) → (thread s t).frames ≡ f ∷ fs → length fs ≤ length (thread s t).frames
  fewer f fs e = (let same : length (thread s t).frames ≡ suc (length fs) = ap length e in omega (arith, same))

  ended_changes : (i : Image) (value : ℕ) (told : Option Deed) (fs : List Frame) → (thread s t).frames ≡ fs → Changes s (ended_with i s t value fs) told
  ended_changes i value told [] e = untouched told
  ended_changes i value told (f ∷ []) e = plain_change _ told nobody (omega arith) refl refl refl refl none_runs
  ended_changes i value told (f ∷ g ∷ gs) e = plain_change _ told _ (fewer f (g ∷ gs) e) refl refl refl refl (λ u runs. runs)

  returned_changes : (i : Image) (fs : List Frame) → (thread s t).frames ≡ fs → Changes s (returned i s t fs) None
  returned_changes i [] e = untouched None
  returned_changes i (f ∷ []) e = plain_change _ None nobody (omega arith) refl refl refl refl none_runs
  returned_changes i (f ∷ g ∷ gs) e = plain_change _ None _ (fewer f (g ∷ gs) e) refl refl refl refl (λ u runs. runs)

  abbrev Effects : Instr → Result Effect Trap → Type 0
  Effects k e = IfEffect (Changes s) s t (operand s t (operands_of k).first) e

  module _ (k : Instr) where
    reads : (at width value : ℕ) (o : Option ℕ)
        → ((bank_read_at (bank_of b s) o at width).states ≡ s.devices) ⊎ TellsSuch IsDeviceAct (option_map (deed s t (operand s t (operands_of k).first).shadow.root) (if is_some o then Some (acts.Load at width value) else None))
    reads at width value None = inl refl
    reads at width value (Some m) = inr tt

    writes : (at width value : ℕ) (o : Option ℕ)
        → ((bank_written_at (bank_of b s) o at width value).states ≡ s.devices) ⊎ TellsSuch IsDeviceAct (option_map (deed s t (operand s t (operands_of k).first).shadow.root) (if is_some o then Some (acts.Store at width value) else None))
    writes at width value None = inl refl
    writes at width value (Some m) = inr tt

    accessed_changes : (at : ℕ) → Effects k (accesses (around b s t) (operands_of k).to (Ok (accessed (access_of k) (operand s t (operands_of k).first) (operand s t (operands_of k).second) at (space_of b s))))
    accessed_changes at = by_access (λ (m : Accessed). Effects k (accesses (around b s t) (operands_of k).to (Ok m))) (access_of k) (operand s t (operands_of k).first) (operand s t (operands_of k).second) at (space_of b s) (record {
      loads = λ ram loads. plain_change _ _ _ (omega arith) refl refl refl refl (λ u runs. runs);
      stores = λ ram stores. plain_change _ _ _ (omega arith) refl refl refl refl (λ u runs. runs);
      reads = λ loads. record {
        devices = reads at (access_of k).width (bank_value (bank_of b s) at (access_of k).width s.time) (found b.bases at);
        frames = λ u. inl (one_few _ (omega arith) u);
        next = inl refl;
        objects = inl refl;
        runs = λ u e. e;
      };
      writes = λ stores. record {
        devices = writes at (access_of k).width (stored_value (access_of k) (operand s t (operands_of k).second)) (found b.bases at);
        frames = λ u. inl (one_few _ (omega arith) u);
        next = inl refl;
        objects = inl refl;
        runs = λ u e. e;
      };
    })

    access_changes : Effects k (accesses (around b s t) (operands_of k).to (access_result k (operand s t (operands_of k).first) (operand s t (operands_of k).second) (space_of b s)))
    unfolding access_result
    access_changes = by (first_failed (access_checks (access_of k) (operand s t (operands_of k).first) (operand s t (operands_of k).second) (access_address (access_of k) (operand s t (operands_of k).first))))
      where
        by : (o : Option Trap)
            → Effects k (accesses (around b s t) (operands_of k).to (unless o (accessed (access_of k) (operand s t (operands_of k).first) (operand s t (operands_of k).second) (access_address (access_of k) (operand s t (operands_of k).first)) (space_of b s))))
        by (Some w) = tt
        by None = accessed_changes (access_address (access_of k) (operand s t (operands_of k).first))

    flows_changes : (to : ℕ) (r : Result Flowed Trap) → Effects k (flows (around b s t) to r)
    flows_changes to (Err w) = tt
    flows_changes to (Ok j) = plain_change _ _ _ (omega arith) refl refl refl refl (λ u runs. runs)

    done_changes : (c : Class) → Effects k (carried_out c k (operands_of k).to (operand s t (operands_of k).first) (operand s t (operands_of k).second) (named_by b.image (operand s t (operands_of k).first)) (around b s t))
    done_changes class.Integer = plain_change _ _ _ (omega arith) refl refl refl refl (λ u runs. runs)
    done_changes class.Capability = plain_change _ _ _ (omega arith) refl refl refl refl (λ u runs. runs)
    done_changes class.System = tt
    done_changes class.Jump = flows_changes (operands_of k).to _
    done_changes class.Access = access_changes
    done_changes class.Fence = plain_change _ _ _ (omega arith) refl refl refl refl (λ u runs. runs)
    done_changes class.Call = tt
    done_changes class.Break = tt

  same_few : (new : Thread) → new.frames ≡ (thread s t).frames → Few t new
  same_few new e = (let same : length new.frames ≡ length (thread s t).frames = ap length e in omega (arith, same))

  -- the answer of a free, whose registers passed the load filter
  again_few : (i : Image) (o : Object) (new : Thread) → new.frames ≡ (thread (let_go i s t o) t).frames → (u : ℕ) → Few u (get_or (slice_set (let_go i s t o).threads t new) u nobody)
  again_few i o new e u =
      let first : Few t (thread (let_go i s t o) t) = one_few _ (omega arith) t in
      let same : length new.frames ≡ length (thread (let_go i s t o) t).frames = ap length e in
      set_few (let_go i s t o).threads new (omega (arith, first, same)) u (one_few _ (omega arith) u)

  pub executed_changes : Both (Changes s) (executed b s t)
  executed_changes = executed_case (Changes s) b s t (record {
    handles = λ why f fs frames. plain_change _ _ _ (let same : length (thread s t).frames ≡ suc (length fs) = ap length frames in omega (arith, same)) refl refl refl refl (λ u runs. runs);
    unwinds = λ why. ended_changes b.image UNWOUND _ (thread s t).frames refl;
    ends = λ value. ended_changes b.image value None (thread s t).frames refl;
    back = returned_changes b.image (thread s t).frames refl;
    done = λ fetched k stands. done_changes k (class_of k);
    routines = λ fetched. record {
      tells = λ n. plain_change _ _ _ (omega arith) refl refl refl refl (λ u runs. runs);
      enters = λ at none. record {
        devices = inl refl;
        frames = λ u. after_set_split (λ (x : Thread). Few u x ⊎ ((t ≡ u) × Unit {0})) s.threads t u _ nobody (λ is. inr (is, tt)) (λ is none. inl (omega arith)) (λ other. inl (omega arith));
        next = inl refl;
        objects = inl refl;
        runs = λ u e. e;
      };
      stops = λ status. plain_change _ _ _ (omega arith) refl refl refl refl none_runs;
      wakes = λ address most. record {
        devices = inl refl;
        frames = λ u. inl (subst (λ fs. length fs ≤ length (thread s u).frames) (sym (status_frames _ _ u)) (one_few _ (omega arith) u));
        next = inl refl;
        objects = inl refl;
        runs = λ u e. e;
      };
      hands = λ at back q r is. record { devices = inl refl; frames = λ u. inl (one_few _ (omega arith) u); next = inr tt; objects = inr (inl tt); runs = λ u e. e };
      gives = λ at back q r c found. record { devices = inl refl; frames = λ u. inl (again_few b.image r _ refl u); next = inl refl; objects = inr (inr tt); runs = λ u e. e };
      seals = λ size asked back q key r is. record { devices = inl refl; frames = λ u. inl (one_few _ (omega arith) u); next = inr tt; objects = inr (inl tt); runs = λ u e. e };
      opens = plain_change _ _ _ (omega arith) refl refl refl refl (λ u runs. runs);
    };
  })

-- ---- an event

noted_changes : (s : State) (r : State × Option Deed) → Changes s r.0 r.1 → Changes s (noted r).0 (noted r).1
noted_changes s r h = record { devices = h.devices; frames = h.frames; next = h.next; objects = h.objects; runs = h.runs }

continued_changes : (b : Platform) (z : State) (o : Option ℕ) → Changes z (continued b z o).0 (continued b z o).1
continued_changes b z None = record { devices = inl refl; frames = λ u. inl (omega arith); next = inl refl; objects = inl refl; runs = λ u e. e }
continued_changes b z (Some t) = noted_changes z (executed b z t) (executed_changes b z t)

pub step_changes : (b : Platform) (s : State) → Changes (ready b s) (happens b s Step).0 (happens b s Step).1.deed
step_changes b s = continued_changes b (ready b s) (ready b s).running

step_tells : (b : Platform) (s : State) → Readied s (ready b s) → Changes (ready b s) (happens b s Step).0 (happens b s Step).1.deed → TellsAll b s Step
step_tells b s r h = record {
  devices = elim h.devices [ inl same ↦ inl (same ∙ r.devices) | inr told ↦ inr (inr told) ];
  frames = λ u. elim (h.frames u) [ inl few ↦ (let before = (r.threads u).size in inl (omega (arith, few, before))) | inr told ↦ inr told ];
  next = elim h.next [ inl same ↦ inl (same ∙ r.next) | inr told ↦ inr told ];
  live = elim h.objects [ inl same ↦ inl (ap live_ones (same ∙ r.objects)) | inr told ↦ inr told ];
  charged = elim h.objects [ inl same ↦ inl (λ q. ap (charges q) (same ∙ r.objects)) | inr told ↦ inr told ];
  spans = none_begun s (happens b s Step).0;
}

charged_by : (s z : State) → Calm s z → (q : ℕ) → charges q z.objects ≡ charges q s.objects
charged_by s z c q = live_charges q z.objects ∙ ap (charges q) c.live ∙ sym (live_charges q s.objects)

-- what stands before a tick, a sweep or an input
pub tick_calm : (b : Platform) (s : State) → Calm s (happens b s Tick).0
tick_calm b s = ticked_calm s (record s { threads = map timed s.threads; time = s.time + 1; counts = record s.counts { ticks = s.counts.ticks + 1 } }) refl refl refl refl s.running

pub sweep_calm : (b : Platform) (s : State) → Keeps b.image s → Calm s (happens b s Sweep).0
sweep_calm b s k =
    let y : State = record s { counts = record s.counts { sweeps = s.counts.sweeps + 1 } } in
    let c = swept_calm b.image y s.next k.confined.fits in
    record { threads = c.threads; runs = c.runs; next = c.next; live = c.live }

pub input_calm : (b : Platform) (s : State) (n byte : ℕ) → Calm s (happens b s (Input n byte)).0
input_calm b s n byte = (let c = calm s in record { threads = c.threads; runs = c.runs; next = c.next; live = c.live })

calm_tells : (b : Platform) (s : State) (e : Event) → Calm s (happens b s e).0 → (((happens b s e).0.devices ≡ s.devices) ⊎ ((n : ℕ) × (byte : ℕ) × (e ≡ Input n byte))) → ((happens b s e).1.off ≡ None → (t : ℕ) → (happens b s e).0.running ≡ Some t → (thread (happens b s e).0 t).posture.off ≡ true → (s.running ≡ Some t) × ((thread s t).posture ≡ (thread (happens b s e).0 t).posture))
    → TellsAll b s e
calm_tells b s e c devices spans = record {
  devices = elim devices [ inl same ↦ inl same | inr input ↦ inr (inl input) ];
  frames = λ u. (let same = (c.threads u).size in inl (omega (arith, same)));
  next = inl c.next;
  live = inl c.live;
  charged = inl (charged_by s (happens b s e).0 c);
  spans = spans;
}

pub tells_all : (b : Platform) (s : State) (e : Event) → Keeps b.image s → TellsAll b s e
tells_all b s Step k = step_tells b s (ready_is b s) (step_changes b s)
tells_all b s Tick k = calm_tells b s Tick (tick_calm b s) (inl (interrupted_devices (record s { threads = map timed s.threads; time = s.time + 1; counts = record s.counts { ticks = s.counts.ticks + 1 } }) s.running)) (none_begun s (happens b s Tick).0)
tells_all b s Sweep k = calm_tells b s Sweep (sweep_calm b s k) (inl (swept_devices b.image (record s { counts = record s.counts { sweeps = s.counts.sweeps + 1 } }))) (none_begun s (happens b s Sweep).0)
tells_all b s (Input n byte) k = calm_tells b s (Input n byte) (input_calm b s n byte) (inr (n, byte, refl)) (none_begun s (happens b s (Input n byte)).0)

-- ---- where no deed is told

no_deed : {G : Type 0} (P : Act → Type 0) (o : Option Deed) → o ≡ None → TellsSuch P o → G
no_deed P None e h = absurd h
no_deed P (Some d) e h = absurd (let clash : Some d ≡ None = e in cc)

no_deed_by : {G : Type 0} (u : ℕ) (P : Act → Type 0) (o : Option Deed) → o ≡ None → TellsSuchBy u P o → G
no_deed_by u P None e h = absurd h
no_deed_by u P (Some d) e h = absurd (let clash : Some d ≡ None = e in cc)

pub nothing_untold : (b : Platform) (s : State) (e : Event) → Keeps b.image s → SilenceKeeps b s e
nothing_untold b s e k none =
    let all = tells_all b s e k in
    record {
      devices = elim all.devices [ inl same ↦ inl same | inr rest ↦ elim rest [ inl input ↦ inr input | inr told ↦ no_deed IsDeviceAct (happens b s e).1.deed none told ] ];
      frames = λ u. elim (all.frames u) [ inl few ↦ few | inr told ↦ no_deed_by u IsCallAct (happens b s e).1.deed none told ];
      next = elim all.next [ inl same ↦ same | inr told ↦ no_deed IsAllocateAct (happens b s e).1.deed none told ];
      live = elim all.live [ inl same ↦ same | inr rest ↦ elim rest [ inl told ↦ no_deed IsAllocateAct (happens b s e).1.deed none told | inr told ↦ no_deed IsFreeAct (happens b s e).1.deed none told ] ];
      charged = elim all.charged [ inl same ↦ same | inr rest ↦ elim rest [ inl told ↦ no_deed IsAllocateAct (happens b s e).1.deed none told | inr told ↦ no_deed IsFreeAct (happens b s e).1.deed none told ] ];
    }
