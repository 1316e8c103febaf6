-- What the thread that carries on holds after its step is what it held, what it made, or what a routine gave it.
use Rattle.std.proofs.Common.{ℕ, ◌≡◌, ◌-◌, inl, inr, true, false, List, [], ◌∷◌, map, Option, Some, None, Ok, Err, Result, refl, sym, ap, ◌∙◌, subst}
use Rattle.std.specs.Prelude.{option_map, slice_set, unwrap_or}
use Rattle.std.proofs.Math.ListN.{get_or}
use Rattle.law_lists.proofs.Tests.{bool_tells}
use Rattle.law_lists.proofs.Sets.{after_set}
use Rattle.ct_entry.specs.declared.acts.Deed.{Deed}
use Rattle.def_words.specs.declared.Cap.{Cap}
use Rattle.def_words.specs.declared.Posture.{Posture}
use Rattle.def_words.specs.declared.Trap.{Trap}
use Rattle.def_words.specs.Authority.{cap_address}
use Rattle.def_words.specs.Capability.{integer, raised}
use Rattle.def_memory.specs.Granules.{plain}
use Rattle.def_memory.specs.Accesses.{loaded_cap}
use Rattle.def_instr.specs.declared.Instr.{Instr}
use Rattle.def_machine.specs.Frames.{answer, ended_with, entered_by, left_by, returned}
use Rattle.def_machine.specs.Heap.{object_cap, quarantined, with_object}
use Rattle.def_machine.specs.Image.{stack_base}
use Rattle.def_machine.specs.Memory.{filtered}
use Rattle.def_machine.specs.Objects.{Any}
use Rattle.def_machine.specs.Platform.{Platform}
use Rattle.def_machine.specs.State.{State, Thread, Frame, Object, nobody, register, thread}
use Rattle.def_machine.specs.Threads.{jumped, statuses_of, with_status}
use Rattle.def_confined.specs.Confined.{Confined}
use Rattle.def_confined.specs.Facts.{Facts}
use Rattle.def_confined.specs.Keeps.{Keeps}
use Rattle.def_confined.specs.Partitioned.{Partitioned}
use Rattle.def_sched.specs.declared.Status.{Status}
use Rattle.def_sched.specs.Statuses.{woken, woken_count}
use Rattle.def_step.specs.declared.Class.{Class}
use Rattle.def_step.specs.declared.Class.TheVariants as class
use Rattle.def_step.specs.declared.Next.TheVariants.{Instruction}
use Rattle.def_step.specs.Accesses.{Accessed, access_of, access_result, accessed, unless}
use Rattle.def_step.specs.Checks.{first_failed}
use Rattle.def_step.specs.Devices.{bank_value}
use Rattle.def_step.specs.Events.{continued, noted}
use Rattle.def_step.specs.Handlers.{handled, handler_entered, is_handled}
use Rattle.def_step.specs.Instructions.{Effect, accesses, around, bank_of, carried_out, deed_told, executed, flows, named_by, next_at, operand, put_done, space_of}
use Rattle.def_step.specs.Jumps.{Flowed}
use Rattle.def_step.specs.Operands.{class_of, operands_of}
use Rattle.def_step.specs.Switch.{called, frame_top, switch_checks}
use Rattle.def_step.specs.Quotas.{Made, allocation, let_go, quota_in}
use Rattle.def_step.specs.Routines.{answered, answers, threads_woken}
use Rattle.def_step.specs.Tokens.{opened_token, sealed_token, with_row}
use Rattle.def_safety.specs.Comes.{IsNew, Stood, given, result}
use Rattle.def_safety.specs.Clean.{callee_of, high_of}
use Rattle.def_safety.specs.Each.{ready}
use Rattle.def_safety.specs.Everywhere.{ThreadHas}
use Rattle.def_safety.specs.Gives.{Gives}
use Rattle.def_safety.specs.Used.{AccessPasses, access_start, authority_of, value_of}
use Rattle.def_events.specs.Passes.{Passes, Widens}
use Rattle.def_events.specs.Holdings.{InThread, RunningComes, RunningHolds, as_counter, as_register, as_saved, made, object, own, sealed, token, untagged}
use Rattle.law_events.proofs.Events.{ready_keeps}
use Rattle.law_moves.proofs.JumpsMoves.{in_rooted}
use Rattle.law_moves.proofs.Results.{raised_result}
use Rattle.law_moves.proofs.Rows.{among_any}
use Rattle.law_routines.proofs.Accesses.{by_access}
use Rattle.law_routines.proofs.Leaving.{entering, stopped}
use Rattle.law_routines.proofs.Stepping.{IfDone, carried}
use Rattle.law_routines.proofs.Objects.{made_says}
use Rattle.law_history.proofs.Changes.{answer_has, answered_thread, entered_thread, filtered_thread, handled_thread, jumped_thread, left_thread, nobody_has, status_thread, thread_has}
use Rattle.law_history.proofs.Deriving.{DerivesAt, HandOf, LeadOf, LinkOf, each_stands, gone_leads, hand_of, linked_derives, opened_derives, saved_stands}
use Rattle.law_history.proofs.Events.{Handy, call_of, callee_gets, handler_gets, start_of}
use Rattle.law_history.proofs.Routines.{executed_goes, trap_told}
use Rattle.law_history.proofs.Values.{IfFlows, device_value_has, flow_has, ram_value_has, result_has}

module _ (b : Platform) (s : State) (t : ℕ) (runs : s.running ≡ Some t) (parts : Partitioned b.image) (facts : Facts b.image) (held : Confined b.image s) where
  -- if it is tagged, the thread held it
  abbrev Held : Cap → Type 0
  Held d = d.tag ≡ true → InThread (thread s t) d

  -- as it may be afterwards, for what is told
  abbrev Ends : Option Deed → Cap → Type 0
  Ends o d = DerivesAt b (Stood s) (InThread (thread s t)) s t o d

  abbrev Hand : Cap → Type 0
  Hand c = HandOf b (Stood s) s t c

  abbrev Lead : Cap → Type 0
  Lead c = LeadOf (Stood s) (thread s t) c

  abbrev Link : Cap → Posture → Type 0
  Link c before = LinkOf (Stood s) s t c before

  held_all : ThreadHas Held (thread s t)
  held_all = record {
    pcc = λ tagged. as_counter refl;
    registers = λ n tagged. as_register n refl;
    frames = saved_stands Held (thread s t).frames (λ c any tagged. as_saved any);
  }

  ends : (o : Option Deed) → Passes b.image Held Hand Lead Link (Ends o)
  ends o = record {
    widens = record {
      none = λ c off. inl off;
      stays = λ c h. elim (bool_tells c.tag) [ inl there ↦ inr (inl (h there)) | inr off ↦ inl off ];
    };
    result = λ c d r h. inr (inr (result c h.0 h.1 r));
    opened = λ c d is k. opened_derives b (Stood s) (InThread (thread s t)) s t o c d is k;
    linked = λ c d posture pcc links l. linked_derives b (Stood s) (InThread (thread s t)) s t o c d posture links l;
  }

  hand : Handy Hand Lead Link b s t
  hand = hand_of b (Stood s) s t (each_stands s)

  given_ends : (o : Option Deed) (d : Cap) → Gives b.image s t o d → Ends o d
  given_ends o d g = inr (inr (given g))

  -- ---- the thread afterwards

  abbrev Own : Option Deed → State → Type 0
  Own o z = ThreadHas (Ends o) (thread z t)

  same_own : (o : Option Deed) → ThreadHas (Ends o) (thread s t)
  same_own o = thread_has Held (Ends o) (ends o).widens (thread s t) held_all

  -- where one thread changes, it is that one
  set_own : (o : Option Deed) (new : Thread) → ThreadHas (Ends o) new → ThreadHas (Ends o) (get_or (slice_set s.threads t new) t nobody)
  set_own o new has = after_set (ThreadHas (Ends o)) s.threads t t new nobody has (same_own o)

  bare_ends : (o : Option Deed) (c : Cap) → c.tag ≡ false → Ends o c
  bare_ends o c off = inl off

  ended_own : (value : ℕ) (o : Option Deed) (fs : List Frame) → (thread s t).frames ≡ fs → Own o (ended_with b.image s t value fs)
  ended_own value o [] e = same_own o
  ended_own value o (f ∷ []) e = set_own o nobody (nobody_has Held (Ends o) (ends o).widens)
  ended_own value o (f ∷ g ∷ gs) e = set_own o (left_by b.image s (thread s t) f (g ∷ gs) (plain value) (plain 0))
      (left_thread b.image Held Hand Lead Link (Ends o) (ends o) s t f g gs (plain value) (plain 0) held_all (hand.back f (g ∷ gs) e) e (bare_ends o (plain value) refl) (bare_ends o (plain 0) refl))

  returned_own : (fs : List Frame) → (thread s t).frames ≡ fs → Own None (returned b.image s t fs)
  returned_own [] e = same_own None
  returned_own (f ∷ []) e = set_own None nobody (nobody_has Held (Ends None) (ends None).widens)
  returned_own (f ∷ g ∷ gs) e = set_own None (left_by b.image s (thread s t) f (g ∷ gs) (answer b.image (thread s t) f 10) (answer b.image (thread s t) f 11))
      (left_thread b.image Held Hand Lead Link (Ends None) (ends None) s t f g gs (answer b.image (thread s t) f 10) (answer b.image (thread s t) f 11) held_all (hand.back f (g ∷ gs) e) e
      (answer_has Held (Ends None) (ends None).widens b.image s t f 10 held_all) (answer_has Held (Ends None) (ends None).widens b.image s t f 11 held_all))

  handled_own : (why : Trap) (f : Frame) (fs : List Frame) → (thread s t).frames ≡ f ∷ fs → is_handled b.image (stack_base b.image t) (thread s t) f ≡ true → Own (trap_told s t why) (handler_entered b.image s t why f fs)
  handled_own why f fs frames is =
      let g = handler_gets b (Ends (trap_told s t why)) s t parts facts held why f fs (given_ends (trap_told s t why)) frames is in
      set_own (trap_told s t why) (handled b.image (thread s t) why f fs)
      (handled_thread b.image Held Hand Lead Link (Ends (trap_told s t why)) (ends (trap_told s t why)) s t why f fs frames g.pcc g.back g.globals held_all (hand.own 2))

  entered_own : first_failed (switch_checks (stack_base b.image t) (frame_top (thread s t).frames) (thread s t)) ≡ None → Own (call_of b s t) (entering b.image s t (called b.image.entries (thread s t)) (high_of b.image s t))
  entered_own none =
      let g = callee_gets b (Ends (call_of b s t)) s t parts facts held (given_ends (call_of b s t)) none in
      set_own (call_of b s t) (entered_by b.image.entries (thread s t) (callee_of b.image (called b.image.entries (thread s t))) (called b.image.entries (thread s t)) (high_of b.image s t) (start_of b s t))
      (entered_thread b.image Held Hand Lead Link (Ends (call_of b s t)) (ends (call_of b s t)) s t (callee_of b.image (called b.image.entries (thread s t))) (called b.image.entries (thread s t)) (high_of b.image s t) (start_of b s t) g.pcc g.back g.stack g.globals held_all)

  -- an instruction
  abbrev Gets : Option Deed → Effect → Type 0
  Gets o d = Ends o d.value × Ends o d.pcc

  abbrev IfGets : Option Deed → Result Effect Trap → Type 0
  IfGets o (Err w) = Unit {0}
  IfGets o (Ok d) = Ends o d.value × Ends o d.pcc

  goes_on_own : (o : Option Deed) → Ends o (raised (thread s t).pcc 4)
  goes_on_own o = (ends o).result (thread s t).pcc (raised (thread s t).pcc 4) (raised_result (thread s t).pcc 4) hand.counter

  flows_own : (o : Option Deed) (to : ℕ) (r : Result Flowed Trap) → IfFlows (Ends o) r → IfGets o (flows (around b s t) to r)
  flows_own o to (Err w) f = tt
  flows_own o to (Ok j) f = (f.link, f.pcc)

  accesses_own : (o : Option Deed) (to : ℕ) (failed : Option Trap) (m : Accessed) → (failed ≡ None → Ends o (unwrap_or m.value (plain 0))) → IfGets o (accesses (around b s t) to (unless failed m))
  accesses_own o to None m f = (f refl, goes_on_own o)
  accesses_own o to (Some w) m f = tt

  accessed_own : (o : Option Deed) (k : Instr) → next_at (space_of b s) (cap_address (thread s t).pcc) ≡ Instruction k → AccessPasses s t k → Ends o (unwrap_or (accessed (access_of k) (authority_of s t k) (value_of s t k) (access_start s t k) (space_of b s)).value (plain 0))
  accessed_own o k at passes = by_access (λ (m : Accessed). Ends o (unwrap_or m.value (plain 0))) (access_of k) (authority_of s t k) (value_of s t k) (access_start s t k) (space_of b s) (record {
    loads = λ ram loads. ram_value_has b.image Held Hand Lead Link (Ends o) (ends o) (access_of k) (authority_of s t k) (access_start s t k) b.image.ram s.granules
        (hand.loaded (loaded_cap s.granules (access_start s t k - b.image.ram)) (record { instruction = k; stands = at; loads = loads; passes = passes; from = refl }));
    stores = λ ram stores. bare_ends o (plain 0) refl;
    reads = λ loads. device_value_has b.image Held Hand Lead Link (Ends o) (ends o) (access_of k) (authority_of s t k) (bank_value (bank_of b s) (access_start s t k) (access_of k).width s.time);
    writes = λ stores. bare_ends o (plain 0) refl;
  })

  class_own : (o : Option Deed) (c : Class) (k : Instr) → next_at (space_of b s) (cap_address (thread s t).pcc) ≡ Instruction k
      → IfGets o (carried_out c k (operands_of k).to (operand s t (operands_of k).first) (operand s t (operands_of k).second) (named_by b.image (operand s t (operands_of k).first)) (around b s t))
  unfolding access_result
  class_own o class.Integer k at = (bare_ends o _ refl, goes_on_own o)
  class_own o class.Capability k at = (
    result_has b.image Held Hand Lead Link (Ends o) (ends o) k (operand s t (operands_of k).first) (operand s t (operands_of k).second) (thread s t).pcc parts
        (in_rooted b.image s.objects t (thread s t).frames (register (thread s t) (operands_of k).second) (held.registers t (operands_of k).second)) (held_all.registers (operands_of k).first) (hand.own (operands_of k).first) hand.counter,
    goes_on_own o,
  )
  class_own o class.System k at = tt
  class_own o class.Jump k at = flows_own o (operands_of k).to _ (flow_has b.image Held Hand Lead Link (Ends o) (ends o) k (operand s t (operands_of k).first) (operand s t (operands_of k).second) (thread s t).pcc (thread s t).posture (named_by b.image (operand s t (operands_of k).first)) (held.runs t) (hand.leads (operands_of k).first) hand.counter hand.link)
  class_own o class.Access k at = accesses_own o (operands_of k).to _ _ (λ passes. accessed_own o k at passes)
  class_own o class.Fence k at = (bare_ends o (plain 0) refl, goes_on_own o)
  class_own o class.Call k at = tt
  class_own o class.Break k at = tt

  -- ---- and with what a routine of the heap gave it

  abbrev Comes : Option Deed → State → Cap → Type 0
  Comes o z d = RunningComes b s t o z d

  to_comes : (o : Option Deed) (z : State) (d : Cap) → Ends o d → Comes o z d
  to_comes o z d (inl off) = untagged off
  to_comes o z d (inr (inl there)) = own there
  to_comes o z d (inr (inr m)) = made m

  abbrev Holds : State → Option Deed → Type 0
  Holds z o = ThreadHas (Comes o z) (thread z t)

  regular : (z : State) (o : Option Deed) → Own o z → Holds z o
  regular z o h = thread_has (Ends o) (Comes o z) (record { none = λ c off. untagged off; stays = to_comes o z }) (thread z t) h

  comes : (o : Option Deed) (z : State) → Passes b.image Held Hand Lead Link (Comes o z)
  comes o z = record {
    widens = record { none = λ c off. untagged off; stays = λ c h. to_comes o z c ((ends o).widens.stays c h) };
    result = λ c d r h. to_comes o z d ((ends o).result c d r h);
    opened = λ c d is k. to_comes o z d ((ends o).opened c d is k);
    linked = λ c d posture pcc links l. to_comes o z d ((ends o).linked c d posture pcc links l);
  }

  -- an answer, in a state with the same threads
  answers_own : (o : Option Deed) (z : State) (v : Cap) → Comes o z v → ThreadHas (Comes o z) (get_or (slice_set s.threads t (answered (thread s t) v)) t nobody)
  answers_own o z v has = after_set (ThreadHas (Comes o z)) s.threads t t (answered (thread s t) v) nobody
      (answered_thread b.image Held Hand Lead Link (Comes o z) (comes o z) s t v held_all (hand.leads 1) has)
      (thread_has Held (Comes o z) (comes o z).widens (thread s t) held_all)

  -- one after an object was given back
  gone_own : (r : Object) (o : Option Deed) → Own o (answers (let_go b.image s t r) t (integer 0))
  gone_own r o =
      let stays : Widens Held Held = record { none = λ c off tagged. absurd (let clash : true ≡ false = sym tagged ∙ off in cc); stays = λ c h. h } in
      let left : ThreadHas Held (thread (let_go b.image s t r) t) =
      after_set (ThreadHas Held) s.threads t t (record (thread s t) { registers = map (filtered b.image (quarantined b.image s r)) (thread s t).registers }) nobody
      (filtered_thread Held Held stays b.image s t r held_all) held_all in
      after_set (ThreadHas (Ends o)) (let_go b.image s t r).threads t t (answered (thread (let_go b.image s t r) t) (integer 0)) nobody
      (answered_thread b.image Held Hand Lead Link (Ends o) (ends o) (let_go b.image s t r) t (integer 0) left (gone_leads b.image (Stood s) s t r (each_stands s)) (bare_ends o (integer 0) refl))
      (thread_has Held (Ends o) (ends o).widens (thread (let_go b.image s t r) t) left)

  with_thread_own : (o : Option Deed) (status : Status) → Own o (stopped s t status)
  with_thread_own o status =
      let new = answered_thread b.image Held Hand Lead Link (Ends o) (ends o) s t (integer 0) held_all (hand.leads 1) (bare_ends o (integer 0) refl) in
      set_own o (with_status (answered (thread s t) (integer 0)) status) (record { pcc = new.pcc; registers = new.registers; frames = new.frames })

  told_own : (o : Option Deed) (n : ℕ) → Own o (answers s t (integer n))
  told_own o n = set_own o (answered (thread s t) (integer n)) (answered_thread b.image Held Hand Lead Link (Ends o) (ends o) s t (integer n) held_all (hand.leads 1) (bare_ends o (integer n) refl))

  done_own : (k : Instr) (r : Result Effect Trap) → ((o : Option Deed) → IfGets o r) → IfDone (λ z. (o : Option Deed) → Holds z o) s t r
  done_own k (Err why) h = tt
  done_own k (Ok d) h = λ o. regular (put_done s t d) o (set_own o (jumped (thread s t) d.pcc d.posture d.to d.value) (jumped_thread b.image Held Hand Lead Link (Ends o) (ends o) s t d held_all (h o).0 (h o).1))

  new_object : (z : State) (size : ℕ) (r : Object) → allocation b.image s (quota_in s t) size ≡ Made r → z.objects ≡ (with_object s r).objects → IsNew s z r
  new_object z size r is same = record {
    number = ap (λ (x : Object). x.number) (made_says b.image s (quota_in s t) size r is).is;
    there = subst (λ os. Any (λ q. q ≡ r) os) (sym same) (among_any (λ q. q ≡ r) r s.objects (inl refl));
  }

  executed_holds : Holds (executed b s t).0 (executed b s t).1
  executed_holds = executed_goes Holds b s t (record {
    handles = λ why f fs frames is. regular (handler_entered b.image s t why f fs) (trap_told s t why) (handled_own why f fs frames is);
    ends = λ value o. regular (ended_with b.image s t value (thread s t).frames) o (ended_own value o (thread s t).frames refl);
    back = regular (returned b.image s t (thread s t).frames) None (returned_own (thread s t).frames refl);
    done = λ k at. done_own k (carried b s t k) (λ o. class_own o (class_of k) k at);
    deals = record {
      tells = λ n. regular (answers s t (integer n)) None (told_own None n);
      enters = λ none. regular (entering b.image s t (called b.image.entries (thread s t)) (high_of b.image s t)) (call_of b s t) (entered_own none);
      stops = λ status. regular (stopped s t status) None (with_thread_own None status);
      wakes = λ address most. regular (threads_woken s t address most) None
          (status_thread b.image Held Hand Lead Link (Ends None) (ends None) (answers s t (integer (woken_count address most (statuses_of s.threads)))).threads (woken address most (statuses_of s.threads)) t (told_own None (woken_count address most (statuses_of s.threads))));
      hands = λ quota size r is o. answers_own (option_map (deed_told s t) o) (answers (with_object s r) t (object_cap r)) (object_cap r) (object r (new_object (answers (with_object s r) t (object_cap r)) size r is refl) refl);
      frees = λ r is o. regular (answers (let_go b.image s t r) t (integer 0)) (option_map (deed_told s t) o) (gone_own r (option_map (deed_told s t) o));
      gives = λ key r is o. regular (answers (let_go b.image s t r) t (integer 0)) (option_map (deed_told s t) o) (gone_own r (option_map (deed_told s t) o));
      seals = λ quota size key r is named o. answers_own (option_map (deed_told s t) o) (answers (with_object (with_row s r key) r) t (sealed_token r)) (sealed_token r) (sealed r (new_object (answers (with_object (with_row s r key) r) t (sealed_token r)) size r is refl) refl);
      opens = λ at returns k r key is. answers_own None (answers s t (opened_token (register (thread s t) 11))) (opened_token (register (thread s t) 11)) (token (record { routine = at runs; returns = returns }) refl);
    };
  })

-- ---- a step

comes_since : (b : Platform) (s : State) (t : ℕ) (o : Option Deed) (z v : State) → v.objects ≡ z.objects → (d : Cap) → RunningComes b s t o z d → RunningComes b s t o v d
comes_since b s t o z v same d (untagged off) = untagged off
comes_since b s t o z v same d (own there) = own there
comes_since b s t o z v same d (made m) = made m
comes_since b s t o z v same d (object r n is) = object r (record { number = n.number; there = subst (λ os. Any (λ q. q ≡ r) os) (sym same) n.there }) is
comes_since b s t o z v same d (sealed r n is) = sealed r (record { number = n.number; there = subst (λ os. Any (λ q. q ≡ r) os) (sym same) n.there }) is
comes_since b s t o z v same d (token may is) = token may is

abbrev HoldsSo : Platform → State → ℕ → State × Option Deed → Type 0
HoldsSo b s t r = ThreadHas (RunningComes b s t r.1 r.0) (thread r.0 t)

noted_holds : (b : Platform) (s : State) (t : ℕ) (r : State × Option Deed) → HoldsSo b s t r → HoldsSo b s t (noted r)
noted_holds b s t r h = thread_has (RunningComes b s t r.1 r.0) (RunningComes b s t r.1 (noted r).0) (record { none = λ c off. untagged off; stays = comes_since b s t r.1 r.0 (noted r).0 refl }) (thread r.0 t) h

continued_holds : (b : Platform) (z : State) (t : ℕ) → z.running ≡ Some t → Partitioned b.image → Facts b.image → Confined b.image z → HoldsSo b z t (continued b z z.running)
continued_holds b z t runs parts facts held = subst (HoldsSo b z t) (sym (ap (continued b z) runs)) (noted_holds b z t (executed b z t) (executed_holds b z t runs parts facts held))

pub running_holds : (b : Platform) (s : State) → Partitioned b.image → Facts b.image → Keeps b.image s → RunningHolds b s
running_holds b s parts facts k t runs = continued_holds b (ready b s) t runs parts facts (ready_keeps b s parts k).confined
