-- What a step of a thread changes of devices: those that its access reaches, by which the access is told.
use Rattle.std.proofs.Common.{ℕ, zero, suc, nat_le, ◌≡◌, ◌+◌, ◌⊎◌, ◌&&◌, inl, inr, true, false, not, List, [], ◌∷◌, map, Option, Some, None, Result, Ok, Err, refl, sym, ap, ◌∙◌, subst, slice_set, option_map, if◌then◌else◌}
use Rattle.std.specs.Prelude.{is_some}
use Rattle.std.proofs.lemmas.Bool.{cases_eq}
use Rattle.std.proofs.lemmas.List.{get_or-set_other}
use Rattle.law_lists.proofs.Sets.{after_set_split}
use Rattle.law_lists.proofs.Tests.{chosen}
use Rattle.ct_entry.specs.declared.acts.Act.{Act}
use Rattle.ct_entry.specs.declared.acts.Act.TheVariants as acts
use Rattle.ct_entry.specs.declared.acts.Deed.{Deed}
use Rattle.def_instr.specs.declared.Instr.{Instr}
use Rattle.def_words.specs.Authority.{cap_address}
use Rattle.def_words.specs.declared.Trap.{Trap}
use Rattle.def_sched.specs.Picks.{pick}
use Rattle.def_machine.specs.Platform.{Platform}
use Rattle.def_machine.specs.Image.{Image}
use Rattle.def_machine.specs.Objects.{has_quarantined, painted}
use Rattle.def_machine.specs.State.{State, Frame, DeviceState, thread}
use Rattle.def_machine.specs.Threads.{timed, statuses_of}
use Rattle.def_machine.specs.Frames.{returned, ended_with}
use Rattle.def_machine.specs.Heap.{with_slice, slice_end, sweep_over, ram_size, sweep_began, sweep_on, swept}
use Rattle.def_confined.specs.Confined.{Confined}
use Rattle.def_confined.specs.Keeps.{Keeps}
use Rattle.def_confined.specs.Partitioned.{Partitioned}
use Rattle.def_step.specs.declared.Class.{Class}
use Rattle.def_step.specs.declared.Class.TheVariants as class
use Rattle.def_step.specs.declared.Event.{Event}
use Rattle.def_step.specs.declared.Event.TheVariants.{Step, Tick, Sweep, Input}
use Rattle.def_step.specs.declared.Next.TheVariants.{Instruction}
use Rattle.def_step.specs.Accesses.{Accessed, access_of, access_checks, access_address, access_result, accessed, stored_value, unless}
use Rattle.def_step.specs.Checks.{first_failed}
use Rattle.def_step.specs.Devices.{device, no_device, found, bank_value, bank_read_at, bank_written_at, left_by_read, left_by_write, after_input}
use Rattle.def_step.specs.Events.{preempted_from, preempted, picked_as, picked_from, continued, one_more_step, interrupted, happens}
use Rattle.def_step.specs.Instructions.{Effect, carried_out, named_by, flows, accesses, around, bank_of, space_of, operand, deed, executed, next_at, actor_of}
use Rattle.def_step.specs.Jumps.{Flowed}
use Rattle.def_step.specs.Operands.{operands_of, class_of}
use Rattle.def_safety.specs.Each.{ready}
use Rattle.def_safety.specs.Used.{access_start, AccessPasses}
use Rattle.def_integrity.specs.Acting.{TellsAct}
use Rattle.def_integrity.specs.Devices.{offset_in, IsAccessed, DeviceTouched, as_before, by_access as by_reaching, by_input, DevicesKept}
use Rattle.law_routines.proofs.Accesses.{by_access}
use Rattle.law_routines.proofs.Stepping.{carried}
use Rattle.law_events.proofs.Events.{ready_keeps}
use Rattle.law_history.proofs.Reaching.{uses_reach}
use Rattle.law_history.proofs.Routines.{IfEffect, Both, MayFetch}
use Rattle.law_history.proofs.Devices.{interrupted_devices, swept_devices}
use Rattle.law_integrity.proofs.Accesses.{authority_says}
use Rattle.law_integrity.proofs.Cases.{executed_case}
use Rattle.law_integrity.proofs.Granules.{Uses, acting, head_of}

-- a device is as it was, or the running thread's access reached it
pub data Bank (b : Platform) (s : State) (told : Option Deed) (n : ℕ) (d : DeviceState) : Type 0 where
  same : d ≡ device s.devices n → Bank b s told n d
  of_access : IsAccessed b s told n d → Bank b s told n d

abbrev pub AllBanks : Platform → State → State → Option Deed → Type 0
AllBanks b s z told = (n : ℕ) → Bank b s told n (device z.devices n)

module _ (b : Platform) (s : State) (t : ℕ) (held : Confined b.image s) (runs : s.running ≡ Some t) (uses : Uses b s t) where
  abbrev Effects : Instr → Result Effect Trap → Type 0
  Effects k e = IfEffect (AllBanks b s) s t (operand s t (operands_of k).first) e

  module _ (k : Instr) (f : Frame) (fs : List Frame) (frames : (thread s t).frames ≡ f ∷ fs) (stands : next_at (space_of b s) (cap_address (thread s t).pcc) ≡ Instruction k) (is : class_of k ≡ class.Access) (passes : AccessPasses s t k) where
    tells : (act : Act) → TellsAct s (acting s t f fs runs frames) (Some (deed s t (operand s t (operands_of k).first).shadow.root act)) act
    tells act = record { deed = deed s t (operand s t (operands_of k).first).shadow.root act; is_told = refl; by_thread = refl; by_actor = ap actor_of frames; act_is = refl }

    put : (m n : ℕ) (new : DeviceState) (told : Option Deed) → (m ≡ n → IsAccessed b s told n new) → Bank b s told n (device (slice_set s.devices m new) n)
    put m n new told h = after_set_split (Bank b s told n) s.devices m n new no_device (λ here. of_access (h here)) (λ here none. same (sym none)) (λ other. same refl)

    reads : (value : ℕ) (o : Option ℕ) → found b.bases (access_start s t k) ≡ o → (n : ℕ)
        → Bank b s (option_map (deed s t (operand s t (operands_of k).first).shadow.root) (if is_some o then Some (acts.Load (access_start s t k) (access_of k).width value) else None)) n (device (bank_read_at (bank_of b s) o (access_start s t k) (access_of k).width).states n)
    reads value None at n = same refl
    reads value (Some m) at n = put m n _ _ (λ here. record {
      by = acting s t f fs runs frames;
      instruction = k;
      stands = stands;
      accesses = is;
      passes = passes;
      uses = uses k f fs frames passes;
      authority = authority_says s t k passes;
      here = at ∙ ap (λ j. Some j) here;
      value = value;
      why = inl (tells (acts.Load (access_start s t k) (access_of k).width value), ap (λ j. left_by_read (device s.devices j) (offset_in b j (access_start s t k)) (access_of k).width) here);
    })

    writes : (value : ℕ) (o : Option ℕ) → found b.bases (access_start s t k) ≡ o → (n : ℕ)
        → Bank b s (option_map (deed s t (operand s t (operands_of k).first).shadow.root) (if is_some o then Some (acts.Store (access_start s t k) (access_of k).width value) else None)) n (device (bank_written_at (bank_of b s) o (access_start s t k) (access_of k).width value).states n)
    writes value None at n = same refl
    writes value (Some m) at n = put m n _ _ (λ here. record {
      by = acting s t f fs runs frames;
      instruction = k;
      stands = stands;
      accesses = is;
      passes = passes;
      uses = uses k f fs frames passes;
      authority = authority_says s t k passes;
      here = at ∙ ap (λ j. Some j) here;
      value = value;
      why = inr (tells (acts.Store (access_start s t k) (access_of k).width value), ap (λ j. left_by_write (device s.devices j) (offset_in b j (access_start s t k)) (access_of k).width value) here);
    })

    accessed_banks : Effects k (accesses (around b s t) (operands_of k).to (Ok (accessed (access_of k) (operand s t (operands_of k).first) (operand s t (operands_of k).second) (access_start s t k) (space_of b s))))
    accessed_banks = by_access (λ (m : Accessed). Effects k (accesses (around b s t) (operands_of k).to (Ok m))) (access_of k) (operand s t (operands_of k).first) (operand s t (operands_of k).second) (access_start s t k) (space_of b s) (record {
      loads = λ ram loads n. same refl;
      stores = λ ram stores n. same refl;
      reads = λ loads. reads (bank_value (bank_of b s) (access_start s t k) (access_of k).width s.time) (found b.bases (access_start s t k)) refl;
      writes = λ stores. writes (stored_value (access_of k) (operand s t (operands_of k).second)) (found b.bases (access_start s t k)) refl;
    })

  access_banks : (k : Instr) (f : Frame) (fs : List Frame) → (thread s t).frames ≡ f ∷ fs → next_at (space_of b s) (cap_address (thread s t).pcc) ≡ Instruction k → class_of k ≡ class.Access
      → Effects k (accesses (around b s t) (operands_of k).to (access_result k (operand s t (operands_of k).first) (operand s t (operands_of k).second) (space_of b s)))
  unfolding access_result
  access_banks k f fs frames stands is = by_failed (first_failed (access_checks (access_of k) (operand s t (operands_of k).first) (operand s t (operands_of k).second) (access_address (access_of k) (operand s t (operands_of k).first)))) refl
    where
      by_failed : (o : Option Trap) → first_failed (access_checks (access_of k) (operand s t (operands_of k).first) (operand s t (operands_of k).second) (access_address (access_of k) (operand s t (operands_of k).first))) ≡ o
          → Effects k (accesses (around b s t) (operands_of k).to (unless o (accessed (access_of k) (operand s t (operands_of k).first) (operand s t (operands_of k).second) (access_address (access_of k) (operand s t (operands_of k).first)) (space_of b s))))
      by_failed (Some w) e = tt
      by_failed None e = accessed_banks k f fs frames stands is e

  flows_banks : (k : Instr) (to : ℕ) (r : Result Flowed Trap) → Effects k (flows (around b s t) to r)
  flows_banks k to (Err w) = tt
  flows_banks k to (Ok j) = λ n. same refl

  done_banks : MayFetch s t → (k : Instr) → next_at (space_of b s) (cap_address (thread s t).pcc) ≡ Instruction k → Effects k (carried b s t k)
  done_banks fetched k stands =
      let head = head_of b s t held fetched in
      by_class (class_of k) refl head.0 head.1.0 head.1.1
    where
      by_class : (c : Class) → class_of k ≡ c → (f : Frame) (fs : List Frame) → (thread s t).frames ≡ f ∷ fs
          → Effects k (carried_out c k (operands_of k).to (operand s t (operands_of k).first) (operand s t (operands_of k).second) (named_by b.image (operand s t (operands_of k).first)) (around b s t))
      by_class class.Integer e f fs frames = λ n. same refl
      by_class class.Capability e f fs frames = λ n. same refl
      by_class class.System e f fs frames = tt
      by_class class.Jump e f fs frames = flows_banks k (operands_of k).to _
      by_class class.Access e f fs frames = access_banks k f fs frames stands e
      by_class class.Fence e f fs frames = λ n. same refl
      by_class class.Call e f fs frames = tt
      by_class class.Break e f fs frames = tt

  ended_banks : (i : Image) (value : ℕ) (told : Option Deed) (fs : List Frame) → AllBanks b s (ended_with i s t value fs) told
  ended_banks i value told [] n = same refl
  ended_banks i value told (f ∷ []) n = same refl
  ended_banks i value told (f ∷ g ∷ gs) n = same refl

  returned_banks : (i : Image) (fs : List Frame) → AllBanks b s (returned i s t fs) None
  returned_banks i [] n = same refl
  returned_banks i (f ∷ []) n = same refl
  returned_banks i (f ∷ g ∷ gs) n = same refl

  pub executed_banks : Both (AllBanks b s) (executed b s t)
  executed_banks = executed_case (AllBanks b s) b s t (record {
    handles = λ why f fs frames is n. same refl;
    ends = λ value told. ended_banks b.image value told (thread s t).frames;
    back = returned_banks b.image (thread s t).frames;
    done = λ fetched k stands. done_banks fetched k stands;
    routines = λ fetched. record {
      tells = λ m n. same refl;
      enters = λ none n. same refl;
      stops = λ status n. same refl;
      wakes = λ none n. same refl;
      hands = λ size o is n. same refl;
      gives = λ o c found n. same refl;
      seals = λ size key o is named n. same refl;
      opens = λ key o is n. same refl;
    };
  })

-- ---- an event

ready_devices : (b : Platform) (s : State) → (ready b s).devices ≡ s.devices
ready_devices b s = at_pick (preempted (one_more_step s)) (preempted (one_more_step s)).running ∙ at_stop (one_more_step s) (one_more_step s).running
  where
    at_choice : (z : State) (o : Option ℕ) → (picked_as b z o).devices ≡ z.devices
    at_choice z None = refl
    at_choice z (Some t) = refl

    at_pick : (z : State) (o : Option ℕ) → (picked_from b z o).devices ≡ z.devices
    at_pick z None = at_choice z (pick b.image.priorities (statuses_of z.threads) z.picks)
    at_pick z (Some t) = refl

    at_stop : (z : State) (o : Option ℕ) → (preempted_from z o).devices ≡ z.devices
    at_stop z None = refl
    at_stop z (Some t) = chosen (λ (y : State). y.devices ≡ z.devices) (z.pending && not (thread z t).posture.off) (record z { running = None; pending = false }) z (λ is. refl) (λ not. refl)

continued_banks : (b : Platform) (s : State) (o : Option ℕ) → (ready b s).running ≡ o → Partitioned b.image → Keeps b.image s → AllBanks b (ready b s) (continued b (ready b s) o).0 (continued b (ready b s) o).1
continued_banks b s None runs parts k = λ n. same refl
continued_banks b s (Some t) runs parts k = executed_banks b (ready b s) t (ready_keeps b s parts k).confined runs (λ i f fs frames passes. (uses_reach b s parts k).access t i f fs runs frames passes)

step_reached : (b : Platform) (s : State) (n : ℕ) → Bank b (ready b s) (happens b s Step).1.deed n (device (happens b s Step).0.devices n) → DeviceTouched b s Step n
step_reached b s n (same e) = as_before (e ∙ ap (λ ds. device ds n) (ready_devices b s))
step_reached b s n (of_access h) = by_reaching refl h

-- where a device is put it is, or there is no such place
input_at : (ds : List DeviceState) (m : ℕ) (new : DeviceState) → (device (slice_set ds m new) m ≡ new) ⊎ (device (slice_set ds m new) m ≡ device ds m)
input_at [] m new = inr refl
input_at (x ∷ xs) zero new = inl refl
input_at (x ∷ xs) (suc m) new = input_at xs m new

pub devices_kept : (b : Platform) (s : State) (e : Event) → Partitioned b.image → Keeps b.image s → DevicesKept b s e
devices_kept b s Step parts k n = step_reached b s n (continued_banks b s (ready b s).running refl parts k n)
devices_kept b s Tick parts k n = as_before (ap (λ ds. device ds n) (interrupted_devices (record s { threads = map timed s.threads; time = s.time + 1; counts = record s.counts { ticks = s.counts.ticks + 1 } }) s.running))
devices_kept b s Sweep parts k n = as_before (ap (λ ds. device ds n) (swept_devices b.image (record s { counts = record s.counts { sweeps = s.counts.sweeps + 1 } })))
devices_kept b s (Input m byte) parts k n = put_input (cases_eq m n)
  where
    by_place : m ≡ n → (device (slice_set s.devices m (after_input (device s.devices m) byte)) m ≡ after_input (device s.devices m) byte) ⊎ (device (slice_set s.devices m (after_input (device s.devices m) byte)) m ≡ device s.devices m) → DeviceTouched b s (Input m byte) n
    by_place here (inl new) = by_input byte (ap (λ j. Input j byte) here) (subst (λ j. device (slice_set s.devices m (after_input (device s.devices m) byte)) j ≡ after_input (device s.devices j) byte) here new)
    by_place here (inr past) = as_before (subst (λ j. device (slice_set s.devices m (after_input (device s.devices m) byte)) j ≡ device s.devices j) here past)

    put_input : (m ≡ n) ⊎ (m ≡ n → ⊥) → DeviceTouched b s (Input m byte) n
    put_input (inl here) = by_place here (input_at s.devices m (after_input (device s.devices m) byte))
    put_input (inr other) = as_before (get_or-set_other s.devices m n (after_input (device s.devices m) byte) no_device (λ e. other (sym e)))
