-- What is told was done: the deed of a step of a thread, by what carried it out.
use Rattle.std.proofs.Common.{ℕ, ◌≡◌, ◌+◌, ◌⊎◌, inl, inr, true, false, Option, Some, None, Result, Ok, Err, refl, sym, ap, ◌∙◌, subst, slice_set, option_map, if◌then◌else◌}
use Rattle.std.specs.Prelude.{is_some}
use Rattle.std.proofs.lemmas.List.{get_or-set_same}
use Rattle.law_lists.proofs.Tests.{chosen}
use Rattle.ct_entry.specs.declared.acts.Act.{Act}
use Rattle.ct_entry.specs.declared.acts.Act.TheVariants as acts
use Rattle.ct_entry.specs.declared.acts.Deed.{Deed}
use Rattle.ct_entry.specs.declared.acts.Owned.{Owned}
use Rattle.def_native.specs.declared.TheConstants.{SWITCH, ALLOCATE, FREE, TOKEN_KEY, TOKEN_NEW, TOKEN_FREE}
use Rattle.def_words.specs.declared.Cap.{Cap}
use Rattle.def_words.specs.declared.Trap.{Trap}
use Rattle.def_words.specs.Authority.{cap_address}
use Rattle.def_words.specs.Capability.{integer}
use Rattle.def_instr.specs.declared.Instr.{Instr}
use Rattle.def_machine.specs.Platform.{Platform}
use Rattle.def_machine.specs.Image.{stack_base}
use Rattle.def_machine.specs.State.{State, Thread, Object, nobody, thread, register}
use Rattle.def_machine.specs.Heap.{with_object}
use Rattle.def_machine.specs.Registers.{written}
use Rattle.def_machine.specs.Objects.{charges}
use Rattle.def_confined.specs.Confined.{Confined}
use Rattle.def_confined.specs.Keeps.{Keeps}
use Rattle.def_confined.specs.Partitioned.{Partitioned}
use Rattle.def_step.specs.declared.Class.{Class}
use Rattle.def_step.specs.declared.Class.TheVariants as class
use Rattle.def_step.specs.declared.Event.{Event}
use Rattle.def_step.specs.declared.Event.TheVariants.{Step, Tick, Sweep, Input}
use Rattle.def_step.specs.declared.Next.TheVariants.{Instruction}
use Rattle.def_step.specs.Accesses.{Accessed, access_of, access_checks, access_address, access_result, accessed, device_value, in_ram, is_ram, on_device, stored_value, unless}
use Rattle.def_step.specs.Checks.{first_failed}
use Rattle.def_step.specs.Devices.{found, bank_value_at, bank_read_at, bank_written_at}
use Rattle.def_step.specs.Events.{continued, noted, happens}
use Rattle.def_step.specs.Instructions.{Effect, carried_out, named_by, flows, accesses, around, bank_of, space_of, operand, deed, deed_told, executed, fetch_checks, next_at, actor_of}
use Rattle.def_step.specs.Jumps.{Flowed}
use Rattle.def_step.specs.Operands.{operands_of, class_of}
use Rattle.def_step.specs.Quotas.{Made, allocation, is_quota_cap, quota_in, let_go}
use Rattle.def_step.specs.Routines.{answers}
use Rattle.def_step.specs.Switch.{switch_checks, called, frame_top}
use Rattle.def_safety.specs.Clean.{high_of}
use Rattle.def_safety.specs.Each.{ready}
use Rattle.def_safety.specs.Routine.{RunsRoutine}
use Rattle.def_safety.specs.Traps.{step_checks}
use Rattle.def_safety.specs.Used.{access_start, AccessPasses}
use Rattle.def_events.specs.Running.{RunsFramed}
use Rattle.def_truly.specs.Deeds.{Asks, by_length, by_key, ByRunning, IsLoadTold, IsStoreTold, IsCallTold, IsAllocationTold, IsFreeTold, ActWasDone, DeedWasDone, SpanBegins, TellsTruly}
use Rattle.law_moves.proofs.Authorities.{headed}
use Rattle.law_moves.proofs.Checks.{all_pass}
use Rattle.law_routines.proofs.Leaving.{entering, call_told, free_told}
use Rattle.law_routines.proofs.Objects.{Found, made_says}
use Rattle.law_routines.proofs.Stepping.{carried}
use Rattle.law_events.proofs.Checking.{fetch_passes}
use Rattle.law_events.proofs.Cleans.{framed_there}
use Rattle.law_events.proofs.Events.{ready_keeps}
use Rattle.law_history.proofs.Steps.{none_told}
use Rattle.law_history.proofs.Trapping.{traps_first}
use Rattle.law_history.proofs.Routines.{IfEffect, Both, MayFetch}
use Rattle.law_truly.proofs.Cases.{length_in, MayReturn, Stands, executed_case}
use Rattle.law_truly.proofs.FailedChecks.{first_failed_is}
use Rattle.law_truly.proofs.Running.{innermost, ready_framed, event_framed}
use Rattle.law_truly.proofs.Spans.{some_begun, calm_begins_none}
use Rattle.law_truly.proofs.Changes.{step_changes, tick_calm, sweep_calm, input_calm}

-- an act as definitions have it, but that a trap names no entry is all that is said of it here
abbrev ActTold : Platform → State → State → ℕ → ℕ → Act → Type 0
ActTold b s z t entry (acts.Call export) = IsCallTold b s t entry export (thread z t).frames
ActTold b s z t entry (acts.Load address width value) = IsLoadTold b s t entry address width value z.devices (thread z t).registers
ActTold b s z t entry (acts.Store address width value) = IsStoreTold b s t entry address width value z.devices
ActTold b s z t entry (acts.Allocate number base bytes charged) = IsAllocationTold b s t entry number base bytes charged z.objects z.next
ActTold b s z t entry (acts.Free number base bytes charged) = IsFreeTold b s t entry number base bytes charged z.objects
ActTold b s z t entry (acts.Trap cause code register) = entry ≡ 0

abbrev IfTold : Platform → State → State → Option Deed → Type 0
IfTold b s z None = Unit {0}
IfTold b s z (Some d) = ByRunning s d × ActTold b s z d.thread d.entry d.act

module _ (b : Platform) (s : State) (t : ℕ) (held : Confined b.image s) (runs : s.running ≡ Some t) (framed : RunsFramed s) where
  told_by : (entry : ℕ) (act : Act) → ByRunning s (deed s t entry act)
  told_by entry act = (let head = innermost (thread s t).frames (framed t runs) in record { runs = runs; frame = head.0; below = head.1; frames = head.2; actor = ap actor_of head.2 })

  abbrev Effects : Instr → Result Effect Trap → Type 0
  Effects k e = IfEffect (IfTold b s) s t (operand s t (operands_of k).first) e

  -- a thread whose fetch passes has a frame, so it is there
  put_there : MayFetch s t → (new : Thread) → thread (record s { threads = slice_set s.threads t new }) t ≡ new
  put_there fetched new =
      let head = headed b.image s.objects t (thread s t).frames (thread s t).pcc (held.pcc t) (fetch_passes (thread s t).pcc (all_pass (fetch_checks (thread s t).pcc) fetched)).tagged in
      get_or-set_same s.threads t new nobody (framed_there s t head.0 head.1.0 head.1.1)

  -- ---- accesses

  module _ (k : Instr) (fetched : MayFetch s t) (stands : next_at (space_of b s) (cap_address (thread s t).pcc) ≡ Instruction k) (is : class_of k ≡ class.Access) (passes : AccessPasses s t k)
      (outside : is_ram (space_of b s) (access_start s t k) (access_of k).width ≡ false) where
    abbrev at : ℕ
    at = access_start s t k

    abbrev root_in : ℕ
    root_in = (operand s t (operands_of k).first).shadow.root

    reads : (access_of k).loads ≡ true → (z : State) (o : Option ℕ) → found b.bases at ≡ o → z.devices ≡ (bank_read_at (bank_of b s) o at (access_of k).width).states
        → (thread z t).registers ≡ written (thread s t).registers (operands_of k).to (device_value (access_of k) (operand s t (operands_of k).first) (bank_value_at (bank_of b s) o at (access_of k).width s.time))
        → IfTold b s z (option_map (deed s t root_in) (if is_some o then Some (acts.Load at (access_of k).width (bank_value_at (bank_of b s) o at (access_of k).width s.time)) else None))
    reads loads z None here left gives = tt
    reads loads z (Some m) here left gives = (
      told_by root_in _,
      record {
        instruction = k;
        number = m;
        access = record { fetched = fetched; stands = stands; accesses = is; passes = passes; entry_is = refl; address_is = refl; width_is = refl; outside = outside; here = here };
        loads = loads;
        value_is = refl;
        gives = gives;
        left = left;
      },
    )

    writes : (access_of k).loads ≡ false → (z : State) (value : ℕ) → value ≡ stored_value (access_of k) (operand s t (operands_of k).second) → (o : Option ℕ) → found b.bases at ≡ o
        → z.devices ≡ (bank_written_at (bank_of b s) o at (access_of k).width value).states
        → IfTold b s z (option_map (deed s t root_in) (if is_some o then Some (acts.Store at (access_of k).width value) else None))
    writes stores z value value_is None here left = tt
    writes stores z value value_is (Some m) here left = (
      told_by root_in _,
      record {
        instruction = k;
        number = m;
        access = record { fetched = fetched; stands = stands; accesses = is; passes = passes; entry_is = refl; address_is = refl; width_is = refl; outside = outside; here = here };
        stores = stores;
        value_is = value_is;
        left = left;
      },
    )

    device_told : Effects k (accesses (around b s t) (operands_of k).to (Ok (on_device (access_of k) (operand s t (operands_of k).first) (operand s t (operands_of k).second) at (space_of b s))))
    device_told = chosen (λ (m : Accessed). Effects k (accesses (around b s t) (operands_of k).to (Ok m))) (access_of k).loads _ _
        (λ loads. reads loads (record s { threads = _; devices = _ }) (found b.bases at) refl refl (ap (λ (x : Thread). x.registers) (put_there fetched _)))
        (λ stores. writes stores (record s { threads = _; devices = _ }) _ refl (found b.bases at) refl refl)

  accessed_told : (k : Instr) → MayFetch s t → next_at (space_of b s) (cap_address (thread s t).pcc) ≡ Instruction k → class_of k ≡ class.Access → AccessPasses s t k
      → Effects k (accesses (around b s t) (operands_of k).to (Ok (accessed (access_of k) (operand s t (operands_of k).first) (operand s t (operands_of k).second) (access_start s t k) (space_of b s))))
  accessed_told k fetched stands is passes = chosen (λ (m : Accessed). Effects k (accesses (around b s t) (operands_of k).to (Ok m))) (is_ram (space_of b s) (access_start s t k) (access_of k).width) (in_ram (access_of k) (operand s t (operands_of k).first) (operand s t (operands_of k).second) (access_start s t k) (space_of b s)) (on_device (access_of k) (operand s t (operands_of k).first) (operand s t (operands_of k).second) (access_start s t k) (space_of b s))
      (λ ram. chosen (λ (m : Accessed). Effects k (accesses (around b s t) (operands_of k).to (Ok m))) (access_of k).loads _ _ (λ loads. tt) (λ stores. tt))
      (λ outside. device_told k fetched stands is passes outside)

  access_told : (k : Instr) → MayFetch s t → next_at (space_of b s) (cap_address (thread s t).pcc) ≡ Instruction k → class_of k ≡ class.Access
      → Effects k (accesses (around b s t) (operands_of k).to (access_result k (operand s t (operands_of k).first) (operand s t (operands_of k).second) (space_of b s)))
  unfolding access_result
  access_told k fetched stands is = by (first_failed (access_checks (access_of k) (operand s t (operands_of k).first) (operand s t (operands_of k).second) (access_address (access_of k) (operand s t (operands_of k).first)))) refl
    where
      by : (o : Option Trap) → first_failed (access_checks (access_of k) (operand s t (operands_of k).first) (operand s t (operands_of k).second) (access_address (access_of k) (operand s t (operands_of k).first))) ≡ o
          → Effects k (accesses (around b s t) (operands_of k).to (unless o (accessed (access_of k) (operand s t (operands_of k).first) (operand s t (operands_of k).second) (access_address (access_of k) (operand s t (operands_of k).first)) (space_of b s))))
      by (Some w) e = tt
      by None e = accessed_told k fetched stands is e

  flows_told : (k : Instr) (to : ℕ) (r : Result Flowed Trap) → Effects k (flows (around b s t) to r)
  flows_told k to (Err w) = tt
  flows_told k to (Ok j) = tt

  done_told : MayFetch s t → (k : Instr) → next_at (space_of b s) (cap_address (thread s t).pcc) ≡ Instruction k → Effects k (carried b s t k)
  done_told fetched k stands = by_class (class_of k) refl
    where
      by_class : (c : Class) → class_of k ≡ c
          → Effects k (carried_out c k (operands_of k).to (operand s t (operands_of k).first) (operand s t (operands_of k).second) (named_by b.image (operand s t (operands_of k).first)) (around b s t))
      by_class class.Integer e = tt
      by_class class.Capability e = tt
      by_class class.System e = tt
      by_class class.Jump e = flows_told k (operands_of k).to _
      by_class class.Access e = access_told k fetched stands e
      by_class class.Fence e = tt
      by_class class.Call e = tt
      by_class class.Break e = tt

  -- ---- routines

  runs_at : MayFetch s t → (n : ℕ) → Stands b s t n → RunsRoutine b s t n
  runs_at fetched n at = record { runs = runs; fetched = fetched; routine = at }

  entered_told : MayFetch s t → Stands b s t SWITCH → first_failed (switch_checks (stack_base b.image t) (frame_top (thread s t).frames) (thread s t)) ≡ None
      → IfTold b s (entering b.image s t (called b.image.entries (thread s t)) (high_of b.image s t)) (option_map (deed_told s t) (Some (call_told s t (called b.image.entries (thread s t)))))
  entered_told fetched at none = (
    told_by _ _,
    record {
      routine = runs_at fetched SWITCH at;
      passes = none;
      entry_is = refl;
      export_is = refl;
      frame = _;
      pushes = ap (λ (x : Thread). x.frames) (put_there fetched _);
      actor = refl;
      entered = refl;
      stack_end = refl;
      unmarked = refl;
      c1 = refl;
      c2 = refl;
      c3 = refl;
      c8 = refl;
      c9 = refl;
    },
  )

  -- an object that is made is told with its quota, which c10 named
  made_told : MayReturn s t → is_quota_cap (register (thread s t) 10) ≡ true → (size : ℕ) (r : Object) → allocation b.image s (quota_in s t) size ≡ Made r → (z : State) (charged : ℕ) → z.objects ≡ (with_object s r).objects → z.next ≡ s.next + 1
      → charged ≡ charges r.quota z.objects → Asks b s t size
      → IfTold b s z (Some (deed s t r.quota (acts.Allocate r.number r.base r.length charged)))
  made_told back q size r made z charged objects next charge asks =
      let says = (made_says b.image s (quota_in s t) size r made).is in
      let quota : r.quota ≡ quota_in s t = ap (λ (o : Object). o.quota) says in (
        told_by r.quota _,
        record {
          asked = size;
          asks = asks;
          returns = back;
          by_quota = q;
          entry_is = quota;
          object = r;
          made = subst (λ q. allocation b.image s q size ≡ Made r) (sym quota) made;
          quota = refl;
          number_is = (refl, ap (λ (o : Object). o.number) says);
          base_is = refl;
          bytes_is = refl;
          live = ap (λ (o : Object). o.live) says;
          placed = objects;
          onward = next;
          charged_is = charge;
        },
      )

  freed_told : MayReturn s t → is_quota_cap (register (thread s t) 10) ≡ true → (r : Object) (c : Cap) → Found (quota_in s t) c s.objects r → RunsRoutine b s t FREE ⊎ RunsRoutine b s t TOKEN_FREE
      → IfTold b s (answers (let_go b.image s t r) t (integer 0)) (Some (deed_told s t (free_told b.image s t r)))
  freed_told back q r c found routine = (
    told_by r.quota _,
    record {
      routine = routine;
      returns = back;
      by_quota = q;
      entry_is = found.charged;
      object = r;
      there = found.there;
      live = found.live;
      quota = refl;
      number_is = refl;
      base_is = refl;
      bytes_is = refl;
      taken = refl;
      charged_is = refl;
    },
  )

  -- ---- whole

  pub executed_told : Both (IfTold b s) (executed b s t)
  executed_told = executed_case (IfTold b s) b s t (record {
    handles = λ why f fs frames. (told_by 0 _, refl);
    unwinds = λ why. (told_by 0 _, refl);
    ends = λ value. tt;
    back = tt;
    done = done_told;
    routines = λ fetched. record {
      tells = λ n. tt;
      enters = entered_told fetched;
      stops = λ status. tt;
      wakes = λ address most. tt;
      hands = λ at back q r is. made_told back q (length_in s t) r is (with_object s r) _ refl refl refl (by_length (inl (runs_at fetched ALLOCATE at)) refl);
      gives = λ at back q r c found. freed_told back q r c found (elim at [ inl a ↦ inl (runs_at fetched FREE a) | inr a ↦ inr (runs_at fetched TOKEN_FREE a) ]);
      seals = λ size asked back q key r is. made_told back q size r is (with_object s r) _ refl refl refl (elim asked [ inl a ↦ by_key (runs_at fetched TOKEN_KEY a.0) a.1 | inr a ↦ by_length (inr (runs_at fetched TOKEN_NEW a.0)) a.1 ]);
      opens = tt;
    };
  })

-- ---- an event

-- the same of a state that differs in its counts alone, with the check that a trap names
carried_on : (b : Platform) (s z : State) (t entry : ℕ) (act : Act) → ((cause code register : ℕ) → act ≡ acts.Trap cause code register → first_failed (step_checks b s t) ≡ Some (record { cause = cause; code = code; register = register }))
    → ActTold b s z t entry act → ActWasDone b s z t entry act
carried_on b s z t entry (acts.Call export) fails h = h
carried_on b s z t entry (acts.Load address width value) fails h = h
carried_on b s z t entry (acts.Store address width value) fails h = h
carried_on b s z t entry (acts.Allocate number base bytes charged) fails h = h
carried_on b s z t entry (acts.Free number base bytes charged) fails h = h
carried_on b s z t entry (acts.Trap cause code register) fails h = record { entry_is = h; fails = fails cause code register refl }

noted_told : (b : Platform) (s z : State) (told : Option Deed) → IfTold b s z told → IfTold b s (noted (z, told)).0 told
noted_told b s z None h = tt
noted_told b s z (Some d) h = (h.0, by d.act h.1)
  where
    by : (act : Act) → ActTold b s z d.thread d.entry act → ActTold b s (noted (z, Some d)).0 d.thread d.entry act
    by (acts.Call export) h = h
    by (acts.Load address width value) h = h
    by (acts.Store address width value) h = h
    by (acts.Allocate number base bytes charged) h = h
    by (acts.Free number base bytes charged) h = h
    by (acts.Trap cause code register) h = h

continued_told : (b : Platform) (z : State) (o : Option ℕ) → z.running ≡ o → Confined b.image z → RunsFramed z → IfTold b z (continued b z o).0 (continued b z o).1
continued_told b z None runs held framed = tt
continued_told b z (Some t) runs held framed = noted_told b z (executed b z t).0 (executed b z t).1 (executed_told b z t held runs framed)

told_truly : (b : Platform) (s z : State) (o : Option Deed) → IfTold b s z o → (d : Deed) → o ≡ Some d
    → ((cause code register : ℕ) → d.act ≡ acts.Trap cause code register → first_failed (step_checks b s d.thread) ≡ Some (record { cause = cause; code = code; register = register }))
    → DeedWasDone b s z d
told_truly b s z o h d e fails =
    let there : IfTold b s z (Some d) = subst (IfTold b s z) e h in
    (there.0, carried_on b s z d.thread d.entry d.act fails there.1)

span_truly : (b : Platform) (s : State) (o : Owned) → RunsFramed (happens b s Step).0 → (happens b s Step).1.off ≡ Some o → SpanBegins b s Step (happens b s Step).0 o
span_truly b s o framed e =
    let begins = some_begun s (happens b s Step).0 o e in
    let head = innermost (thread (happens b s Step).0 o.thread).frames (framed o.thread begins.runs) in
    record {
      step = refl;
      by = (step_changes b s).runs o.thread begins.runs;
      runs = begins.runs;
      off = begins.off;
      source = begins.source;
      frame = head.0;
      below = head.1;
      frames = head.2;
      actor = begins.actor ∙ ap actor_of head.2;
      fresh = begins.fresh;
    }

pub tells_truly : (b : Platform) (s : State) (e : Event) → Partitioned b.image → Keeps b.image s → RunsFramed s → TellsTruly b s e
tells_truly b s Step parts k framed = record {
  deeds = λ d is. (
    refl,
    told_truly b (ready b s) (happens b s Step).0 (happens b s Step).1.deed (continued_told b (ready b s) (ready b s).running refl (ready_keeps b s parts k).confined (ready_framed b s k framed)) d is
        (λ cause code register act. first_failed_is (step_checks b (ready b s) d.thread) (record { cause = cause; code = code; register = register }) (traps_first b s Step d cause code register is act)),
  );
  spans = λ o e. span_truly b s o (event_framed b s Step k framed) e;
}
tells_truly b s Tick parts k framed = record { deeds = λ d is. none_told d is; spans = λ o e. calm_begins_none s (happens b s Tick).0 o (tick_calm b s) e }
tells_truly b s Sweep parts k framed = record { deeds = λ d is. none_told d is; spans = λ o e. calm_begins_none s (happens b s Sweep).0 o (sweep_calm b s k) e }
tells_truly b s (Input n byte) parts k framed = record { deeds = λ d is. none_told d is; spans = λ o e. calm_begins_none s (happens b s (Input n byte)).0 o (input_calm b s n byte) e }
