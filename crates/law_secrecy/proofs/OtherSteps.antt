-- A step of another thread, whole: what it comes to by an instruction, a trap, a return or a native routine.
use Rattle.std.proofs.Common.{ℕ, ◌≡◌, ◌+◌, ◌-◌, ◌/◌, ◌^◌, ◌==◌, ◌<◌, ◌≤◌, ◌⊎◌, ◌&&◌, inl, inr, Bool, true, false, nat_lt, is_some, List, [], ◌∷◌, length, map, Option, Some, None, Result, Ok, Err, refl, sym, ap, ◌∙◌, subst, arith, slice_set, if◌then◌else◌}
use Rattle.std.proofs.Math.Nat.{div-mul-le_self}
use Rattle.std.proofs.lemmas.Bool.{and_parts}
use Rattle.std.proofs.lemmas.List.{get_or-set_other, length-set}
use Rattle.law_lists.proofs.Tests.{bool_tells, chosen, lt_tells}
use Rattle.ct_entry.specs.declared.acts.Act.{Act}
use Rattle.def_instr.specs.declared.Instr.{Instr}
use Rattle.def_profile.specs.declared.answers.TheConstants.{NO_QUOTA, NO_STACK, TOO_DEEP}
use Rattle.def_profile.specs.declared.seals.TheConstants.{QUOTA_TYPE}
use Rattle.def_words.specs.declared.Cap.{Cap}
use Rattle.def_words.specs.declared.Trap.{Trap}
use Rattle.def_words.specs.Authority.{cap_address, cap_base, cap_top}
use Rattle.def_words.specs.Capability.{integer}
use Rattle.def_words.specs.Permissions.{has, load_data, store_data}
use Rattle.def_words.specs.Seals.{cap_seal}
use Rattle.def_memory.specs.declared.Granule.{Granule}
use Rattle.def_memory.specs.Granules.{plain, holding, holding_all}
use Rattle.def_reach.specs.Roots.{gate_for}
use Rattle.def_sched.specs.Statuses.{woken, woken_count}
use Rattle.def_machine.specs.Frames.{returned, ended_with}
use Rattle.def_machine.specs.Heap.{object_cap, quarantined, with_object}
use Rattle.def_machine.specs.Image.{stack_base, frames_most}
use Rattle.def_machine.specs.Memory.{filtered}
use Rattle.def_machine.specs.Platform.{Platform}
use Rattle.def_machine.specs.State.{State, Thread, Frame, Object, DeviceState, Status, nobody, thread, register}
use Rattle.def_machine.specs.Threads.{statuses_of}
use Rattle.def_confined.specs.Capabilities.{heap_cap}
use Rattle.def_confined.specs.Confined.{Confined}
use Rattle.def_confined.specs.Partitioned.{Partitioned}
use Rattle.def_events.specs.Leaving.{Left}
use Rattle.def_step.specs.declared.Access.{Access}
use Rattle.def_step.specs.declared.Class.{Class}
use Rattle.def_step.specs.declared.Class.TheVariants as class
use Rattle.def_step.specs.declared.TheConstants.{TRAP_RECORD}
use Rattle.def_step.specs.Accesses.{Accessed, access_address, access_checks, access_of, access_result, accessed, load_checks, store_checks, stored_value, unless}
use Rattle.def_step.specs.Checks.{first_failed}
use Rattle.def_step.specs.Devices.{bank_read_at, bank_written_at, device, found}
use Rattle.def_step.specs.Handlers.{handler_entered, is_handled, record_end, record_words, words_written}
use Rattle.def_step.specs.Instructions.{Effect, accesses, around, bank_of, carried_out, executed, flows, named_by, operand, put_done, space_of}
use Rattle.def_step.specs.Jumps.{Flowed}
use Rattle.def_step.specs.Operands.{class_of, operands_of}
use Rattle.def_step.specs.Quotas.{by_quota, free, is_quota_cap, let_go, quota_in}
use Rattle.def_step.specs.Routines.{Ran, answers, code, switch, switched_to, tells, threads_woken}
use Rattle.def_step.specs.Switch.{Switched, TooDeep, NoStack, Enters, called, frame_top, past_checks, return_checks, room_exponent, room_of, switch_checks, with_room}
use Rattle.def_step.specs.Tokens.{opened_token, sealed_token, token_free, with_row}
use Rattle.def_safety.specs.Clean.{high_of}
use Rattle.def_safety.specs.Wired.{Wired}
use Rattle.def_secrecy.specs.View.{InView, SeesDevice}
use Rattle.def_secrecy.specs.Agreeing.{SameMemory, AgreeingThread, shapes}
use Rattle.def_secrecy.specs.Others.{MayAccess, OutOfReach, ViewStays}
use Rattle.law_moves.proofs.Authorities.{headed}
use Rattle.law_moves.proofs.Checks.{AllPass, all_pass}
use Rattle.law_moves.proofs.Deeds.{register_used}
use Rattle.law_routines.proofs.Accesses.{by_access, ram_begins}
use Rattle.law_routines.proofs.Cases.{Routines}
use Rattle.law_routines.proofs.Leaving.{allocate_left, checked_left, free_left, remaining_left, sleep_left, stopped, token_free_left, token_key_left, token_new_left, token_open_left, wait_left, wake_left, yield_left}
use Rattle.law_routines.proofs.Objects.{Found}
use Rattle.law_routines.proofs.Stepping.{IfDone, carried}
use Rattle.law_events.proofs.Accesses.{HasWidth, StorePasses, load_passes, store_passes, when_false, width_of}
use Rattle.law_events.proofs.Begins.{words_rest}
use Rattle.law_events.proofs.Entered.{lies, says}
use Rattle.law_events.proofs.Switching.{checks_say}
use Rattle.law_events.proofs.Whole.{stack_in_ram}
use Rattle.law_secrecy.proofs.Changing.{device_other, freed_hidden, in_stack, may_access, stored_hidden, unchanged, zeroed_hidden}
use Rattle.law_secrecy.proofs.Replies.{kept_by_statuses}
use Rattle.law_secrecy.proofs.Routed.{executed_goes}
use Rattle.law_secrecy.proofs.Unseen.{kept_or_hidden}

when_true : {A : Type 0} (P : A → Type 0) (c : Bool) (x y : A) → c ≡ true → P (if c then x else y) → P x
when_true P true x y e h = h
when_true P false x y e h = absurd (let clash : false ≡ true = e in cc)

written_length : (gs : List Granule) (k : ℕ) (cs : List Cap) → length (holding_all gs k cs) ≡ length gs
written_length gs k [] = refl
written_length gs k (c ∷ cs) = written_length (holding gs k c) (k + 1) cs ∙ length-set gs k _

module _ (b : Platform) (s : State) (t u : ℕ) (parts : Partitioned b.image) (wired : Wired b) (held : Confined b.image s) (runs : s.running ≡ Some u) (apart : t ≡ u → ⊥) (out : OutOfReach b s t u) where
  abbrev Stays : State → Type 0
  Stays after = ViewStays b t s after

  other : (x : Thread) → thread s t ≡ thread (record s { threads = slice_set s.threads u x }) t
  other x = sym (get_or-set_other s.threads u t x nobody apart)

  same_self : (x : Thread) → thread s t ≡ x → AgreeingThread (thread s t) x
  same_self x e = subst (λ y. AgreeingThread (thread s t) y) e (record { pcc = refl; registers = refl; posture = refl; frames = refl })

  -- RAM and devices, as they are seen
  record Kept (gs : List Granule) (ds : List DeviceState) : Type 0 where
    memory : SameMemory b.image (InView b.image s t) s.granules gs
    devices : (m : ℕ) → SeesDevice b (thread s t).frames m → device s.devices m ≡ device ds m
    banks : length s.devices ≡ length ds

  kept : (gs : List Granule) → SameMemory b.image (InView b.image s t) s.granules gs → Kept gs s.devices
  kept gs memory = record { memory = memory; devices = λ m seen. refl; banks = refl }

  stays : (after : State) → AgreeingThread (thread s t) (thread after t) → Kept after.granules after.devices → Stays after
  stays after self k = record { self = self; memory = k.memory; devices = k.devices; banks = k.banks }

  -- the thread changes, and RAM as far as it isn't seen
  stays_put : (gs : List Granule) (x : Thread) (after : State) → thread after t ≡ thread (record s { threads = slice_set s.threads u x }) t → Kept after.granules after.devices → Stays after
  stays_put gs x after e k = stays after (same_self (thread after t) (other x ∙ sym e)) k

  still : Kept s.granules s.devices
  still = kept s.granules (unchanged b s t u parts held runs out)

  -- ---- loads and stores

  -- what it accesses is a device in its reach: no device lies in the heap
  device_of : (n at m : ℕ) → (register (thread s u) n).tag ≡ true → (has (register (thread s u) n) load_data ≡ true) ⊎ (has (register (thread s u) n) store_data ≡ true) → cap_base (register (thread s u) n) ≤ at → at < cap_top (register (thread s u) n) → found b.bases at ≡ Some m → MayAccess b (thread s u).frames m
  device_of n at m tagged may low high here =
      let there : is_some (found b.bases at) ≡ true = ap is_some here in
      let head = headed b.image s.objects u (thread s u).frames (register (thread s u) n) (held.registers u n) tagged in
      let v = register_used b.image s u n head.0 head.1.0 held runs head.1.1 tagged in
      elim (bool_tells (heap_cap b.image (register (thread s u) n))) [
        | inl heap ↦
            let lies_in = v.heap heap in
            let from = lies_in.0 in
            let to = lies_in.1 in
            let away = wired.apart at (omega (arith, from, low)) (omega (arith, to, high)) in
            absurd (let clash : true ≡ false = sym there ∙ away in cc)
        | inr not_heap ↦ may_access b s t u parts held runs out n at m tagged may low high not_heap here
      ]

  read_kept : (at width : ℕ) (o : Option ℕ) → ((m : ℕ) → o ≡ Some m → MayAccess b (thread s u).frames m) → Kept s.granules (bank_read_at (bank_of b s) o at width).states
  read_kept at width None may = still
  read_kept at width (Some m) may = record {
    memory = still.memory;
    devices = λ k seen. device_other s.devices m k _ (λ is. out.devices k seen (subst (λ n. MayAccess b (thread s u).frames n) is (may m refl)));
    banks = sym (length-set s.devices m _);
  }

  write_kept : (at width value : ℕ) (o : Option ℕ) → ((m : ℕ) → o ≡ Some m → MayAccess b (thread s u).frames m) → Kept s.granules (bank_written_at (bank_of b s) o at width value).states
  write_kept at width value None may = still
  write_kept at width value (Some m) may = record {
    memory = still.memory;
    devices = λ k seen. device_other s.devices m k _ (λ is. out.devices k seen (subst (λ n. MayAccess b (thread s u).frames n) is (may m refl)));
    banks = sym (length-set s.devices m _);
  }

  accessed_kept : (n m : ℕ) (a : Access) (at : ℕ) → HasWidth a → AllPass (access_checks a (register (thread s u) n) (register (thread s u) m) at)
      → (λ (x : Accessed). Kept x.granules x.bank.states) (accessed a (register (thread s u) n) (register (thread s u) m) at (space_of b s))
  accessed_kept n m a at wide passes = by_access (λ (x : Accessed). Kept x.granules x.bank.states) a (register (thread s u) n) (register (thread s u) m) at (space_of b s) (record {
    loads = λ ram loads. still;
    stores = λ ram stores. kept _ (stored_hidden b s t u parts held runs out n m a at wide (ram_begins (space_of b s) at a.width ram) (storing stores));
    reads = λ loads.
        let x = load_passes a (register (thread s u) n) at (when_true AllPass a.loads (load_checks a (register (thread s u) n) at) (store_checks a (register (thread s u) n) at (a.whole && (register (thread s u) m).tag)) loads passes) in
        let low = x.low in
        let high = x.high in
        let some = wide.some in
        read_kept at a.width (found b.bases at) (λ k is. device_of n at k x.tagged (inl x.loads) low (omega (arith, high, some)) is);
    writes = λ stores.
        let x = storing stores in
        let low = x.low in
        let high = x.high in
        let some = wide.some in
        write_kept at a.width (stored_value a (register (thread s u) m)) (found b.bases at) (λ k is. device_of n at k x.tagged (inr x.stores) low (omega (arith, high, some)) is);
  })
    where
      storing : a.loads ≡ false → StorePasses a (register (thread s u) n) at (a.whole && (register (thread s u) m).tag)
      storing stores = store_passes a (register (thread s u) n) at (a.whole && (register (thread s u) m).tag)
          (when_false AllPass a.loads (load_checks a (register (thread s u) n) at) (store_checks a (register (thread s u) n) at (a.whole && (register (thread s u) m).tag)) stores passes)

  -- ---- an instruction

  abbrev IfKept : Result Effect Trap → Type 0
  IfKept (Err w) = Unit {0}
  IfKept (Ok d) = Kept d.granules d.bank.states

  abbrev IfAccessed : Result Accessed Trap → Type 0
  IfAccessed (Err w) = Unit {0}
  IfAccessed (Ok m) = Kept m.granules m.bank.states

  flows_kept : (to : ℕ) (r : Result Flowed Trap) → IfKept (flows (around b s u) to r)
  flows_kept to (Err w) = tt
  flows_kept to (Ok f) = still

  accesses_kept : (to : ℕ) (r : Result Accessed Trap) → IfAccessed r → IfKept (accesses (around b s u) to r)
  accesses_kept to (Err w) h = tt
  accesses_kept to (Ok m) h = h

  result_kept : (n m : ℕ) (k : Instr) → IfAccessed (access_result k (register (thread s u) n) (register (thread s u) m) (space_of b s))
  unfolding access_result
  result_kept n m k = by_failed (first_failed (access_checks (access_of k) (register (thread s u) n) (register (thread s u) m) (access_address (access_of k) (register (thread s u) n)))) refl
    where
      by_failed : (o : Option Trap) → first_failed (access_checks (access_of k) (register (thread s u) n) (register (thread s u) m) (access_address (access_of k) (register (thread s u) n))) ≡ o
          → IfAccessed (unless o (accessed (access_of k) (register (thread s u) n) (register (thread s u) m) (access_address (access_of k) (register (thread s u) n)) (space_of b s)))
      by_failed (Some w) e = tt
      by_failed None e = accessed_kept n m (access_of k) (access_address (access_of k) (register (thread s u) n)) (width_of k)
          (all_pass (access_checks (access_of k) (register (thread s u) n) (register (thread s u) m) (access_address (access_of k) (register (thread s u) n))) e)

  class_kept : (c : Class) (k : Instr) (to m n : ℕ) → IfKept (carried_out c k to (operand s u m) (operand s u n) (named_by b.image (operand s u m)) (around b s u))
  class_kept class.Integer k to m n = still
  class_kept class.Capability k to m n = still
  class_kept class.System k to m n = tt
  class_kept class.Jump k to m n = flows_kept to _
  class_kept class.Access k to m n = accesses_kept to _ (result_kept m n k)
  class_kept class.Fence k to m n = still
  class_kept class.Call k to m n = tt
  class_kept class.Break k to m n = tt

  -- ---- a trap and a return

  handled_stays : (why : Trap) (f : Frame) (fs : List Frame) → (thread s u).frames ≡ f ∷ fs → is_handled b.image (stack_base b.image u) (thread s u) f ≡ true → Stays (handler_entered b.image s u why f fs)
  handled_stays why f fs frames is =
      let say = says b.image s u f is in
      let above = stack_in_ram b.image s u f fs parts held frames say in
      let l = lies b.image s u f fs parts above held frames say in
      let low = l.low in
      let at = l.at in
      let top = say.high in
      let first : ℕ = (record_end (register (thread s u) 2) - TRAP_RECORD - b.image.ram) / 8 in
      stays_put s.granules _ (handler_entered b.image s u why f fs) refl (kept _ (kept_or_hidden b.image (InView b.image s t) s.granules (words_written s.granules first (record_words (thread s u) why)) (sym (written_length s.granules first (map plain (record_words (thread s u) why))))
      (λ k. elim (lt_tells k ((record_end (register (thread s u) 2) - TRAP_RECORD - b.image.ram) / 8)) [
        | inl before ↦ inl (ap (λ (g : Granule). g.cap) (words_rest s.granules first (record_words (thread s u) why) k (inl before.1)))
        | inr from ↦ elim (lt_tells k ((record_end (register (thread s u) 2) - TRAP_RECORD - b.image.ram) / 8 + 10)) [
          | inl inside ↦ (let at_least = from.1 in let less = inside.1 in inr (in_stack b s t u parts held runs out f fs frames k (omega (arith, low, at_least)) (omega (arith, at, less, top))))
          | inr past ↦ inl (ap (λ (g : Granule). g.cap) (words_rest s.granules first (record_words (thread s u) why) k (inr past.1)))
        ]
      ])))

  ended_stays : (value : ℕ) (fs : List Frame) → (thread s u).frames ≡ fs → Stays (ended_with b.image s u value fs)
  ended_stays value [] e = stays s (same_self (thread s t) refl) still
  ended_stays value (f ∷ []) e = stays_put s.granules nobody (ended_with b.image s u value (f ∷ [])) refl (kept _ (zeroed_hidden b s t u parts held runs out f [] f.top e (omega arith)))
  ended_stays value (f ∷ g ∷ gs) e = stays_put s.granules _ (ended_with b.image s u value (f ∷ g ∷ gs)) refl (kept _ (zeroed_hidden b s t u parts held runs out f (g ∷ gs) f.top e (omega arith)))

  returned_stays : (fs : List Frame) → (thread s u).frames ≡ fs → Stays (returned b.image s u fs)
  returned_stays [] e = stays s (same_self (thread s t) refl) still
  returned_stays (f ∷ []) e = stays_put s.granules nobody (returned b.image s u (f ∷ [])) refl (kept _ (zeroed_hidden b s t u parts held runs out f [] f.top e (omega arith)))
  returned_stays (f ∷ g ∷ gs) e = stays_put s.granules _ (returned b.image s u (f ∷ g ∷ gs)) refl (kept _ (zeroed_hidden b s t u parts held runs out f (g ∷ gs) f.top e (omega arith)))

  done_stays : (r : Result Effect Trap) → IfKept r → IfDone Stays s u r
  done_stays (Err why) h = tt
  done_stays (Ok d) h = stays_put s.granules _ (put_done s u d) refl h

  -- ---- native routines

  answers_stay : (v : Cap) → Stays (answers s u v)
  answers_stay v = stays_put s.granules _ (answers s u v) refl still

  -- a free is by a quota that the actor may use
  freed_stays : (register (thread s u) 10).tag ≡ true → (r : Object) (c : Cap) → Found (quota_in s u) c s.objects r → Stays (answers (let_go b.image s u r) u (integer 0))
  freed_stays tagged r c found_it =
      let strained : Thread = record (thread s u) { registers = map (filtered b.image (quarantined b.image s r)) (thread s u).registers } in
      stays (answers (let_go b.image s u r) u (integer 0))
      (same_self _ (other strained ∙ sym (get_or-set_other (slice_set s.threads u strained) u t _ nobody apart)))
      (kept _ (freed_hidden b s t u parts held runs out r found_it.there found_it.live tagged found_it.charged))

  abbrev Goes : Ran → Type 0
  Goes r = Left (λ z told. Stays z) r

  -- what is no quota is refused
  refused : (ran : Ran) → (register (thread s u) 10).tag ≡ false → Goes (by_quota s u ran)
  refused ran none = checked_left (λ z told. Stays z) (return_checks (register (thread s u) 1)) (if is_quota_cap (register (thread s u) 10) then ran else tells s u (code NO_QUOTA))
      (chosen Goes (is_quota_cap (register (thread s u) 10)) ran (tells s u (code NO_QUOTA))
      (λ is. absurd (let clash : true ≡ false = sym (and_parts (register (thread s u) 10).tag (cap_seal (register (thread s u) 10) == QUOTA_TYPE) is).0 ∙ none in cc))
      (λ not. answers_stay (code NO_QUOTA)))

  gives_stays : Goes (free b.image s u) × Goes (token_free b.image s u)
  gives_stays = elim (bool_tells (register (thread s u) 10).tag) [
    | inl tagged ↦ (free_left (λ z told. Stays z) b.image s u (λ n. answers_stay (integer n)) (freed_stays tagged), token_free_left (λ z told. Stays z) b.image s u (λ n. answers_stay (integer n)) (freed_stays tagged))
    | inr none ↦ (refused _ none, refused _ none)
  ]

  -- a call clears the stack below the caller's c2
  room_within : (n : ℕ) → room_of n ≤ n
  room_within n = div-mul-le_self n (2 ^ room_exponent n)

  entered_stays : first_failed (switch_checks (stack_base b.image u) (frame_top (thread s u).frames) (thread s u)) ≡ None → Goes (switched_to b.image s u (Enters (called b.image.entries (thread s u)) (high_of b.image s u)))
  entered_stays none =
      let say = checks_say b.image s u none in
      let head = headed b.image s.objects u (thread s u).frames (register (thread s u) 2) (held.registers u 2) say.stack_tagged in
      let within = room_within (cap_address (register (thread s u) 2) - stack_base b.image u) in
      let low = say.stack_low in
      let high : cap_address (register (thread s u) 2) ≤ head.0.top = subst (λ (fs : List Frame). cap_address (register (thread s u) 2) ≤ frame_top fs) head.1.1 say.stack_high in
      stays_put s.granules _ _ refl (kept _ (zeroed_hidden b s t u parts held runs out head.0 head.1.0 (high_of b.image s u) head.1.1 (omega (arith, within, low, high))))

  switch_stays : Goes (switch b.image s u)
  switch_stays = by_failed (first_failed (switch_checks (stack_base b.image u) (frame_top (thread s u).frames) (thread s u))) refl
    where
      by_failed : (o : Option Trap) → first_failed (switch_checks (stack_base b.image u) (frame_top (thread s u).frames) (thread s u)) ≡ o → Goes (switched_to b.image s u (past_checks b.image.entries (stack_base b.image u) (frames_most b.image u) (thread s u) o))
      by_failed (Some why) none = tt
      by_failed None none = chosen (λ (w : Switched). Goes (switched_to b.image s u w)) (length (thread s u).frames == frames_most b.image u) TooDeep (with_room b.image.entries (stack_base b.image u) (high_of b.image s u) (called b.image.entries (thread s u)))
          (λ is. answers_stay (code TOO_DEEP))
          (λ not. chosen (λ (w : Switched). Goes (switched_to b.image s u w)) (nat_lt (high_of b.image s u - stack_base b.image u) (gate_for b.image.entries.gates (called b.image.entries (thread s u))).stack) NoStack (Enters (called b.image.entries (thread s u)) (high_of b.image s u))
          (λ is. answers_stay (code NO_STACK))
          (λ fits. entered_stays none))

  stops_stay : (v : Status) → Stays (stopped s u v)
  stops_stay v = stays_put s.granules _ (stopped s u v) refl still

  -- a thread that is woken keeps all but its status
  wakes_stay : (at most : ℕ) → Stays (threads_woken s u at most)
  wakes_stay at most =
      let before : Thread = thread (answers s u (integer (woken_count at most (statuses_of s.threads)))) t in
      let ts : List Thread = (answers s u (integer (woken_count at most (statuses_of s.threads)))).threads in
      let vs : List Status = woken at most (statuses_of s.threads) in
      let same : thread s t ≡ before = other _ in
      stays (threads_woken s u at most)
      (record {
        pcc = ap (λ (x : Thread). x.pcc) same ∙ sym (kept_by_statuses (λ x. x.pcc) (λ x v. refl) ts vs t);
        registers = ap (λ (x : Thread). x.registers) same ∙ sym (kept_by_statuses (λ x. x.registers) (λ x v. refl) ts vs t);
        posture = ap (λ (x : Thread). x.posture) same ∙ sym (kept_by_statuses (λ x. x.posture) (λ x v. refl) ts vs t);
        frames = ap shapes same ∙ sym (kept_by_statuses shapes (λ x v. refl) ts vs t);
      })
      still

  routines_stay : Routines Goes b.image s u
  routines_stay =
      let Q : State → Option (ℕ × Act) → Type 0 = λ z told. ViewStays b t s z in
      let answer : (n : ℕ) → ViewStays b t s (answers s u (integer n)) = λ n. answers_stay (integer n) in
      record {
        switch = switch_stays;
        yield = yield_left Q b.image s u stops_stay;
        sleep = sleep_left Q b.image s u stops_stay;
        wait = wait_left Q b.image s u answer stops_stay;
        wake = wake_left Q b.image s u wakes_stay;
        allocate = allocate_left Q b.image s u answer (λ size r made. stays_put s.granules _ (answers (with_object s r) u (object_cap r)) refl still);
        free = gives_stays.0;
        remaining = remaining_left Q b.image s u answer;
        token_key = token_key_left Q b.image s u answer (λ r made. stays_put s.granules _ (answers (with_object (with_row s r None) r) u (sealed_token r)) refl still);
        token_new = token_new_left Q b.image s u answer (λ size key r made row. stays_put s.granules _ (answers (with_object (with_row s r (Some key)) r) u (sealed_token r)) refl still);
        token_open = token_open_left Q b.image s u answer (λ key r is. answers_stay (opened_token (register (thread s u) 11)));
        token_free = gives_stays.1;
      }

  -- ---- a step

  pub executed_stays : ViewStays b t s (executed b s u).0
  executed_stays = executed_goes Stays b s u (record {
    handles = handled_stays;
    ends = λ value. ended_stays value (thread s u).frames refl;
    back = returned_stays (thread s u).frames refl;
    done = λ k. done_stays (carried b s u k) (class_kept (class_of k) k (operands_of k).to (operands_of k).first (operands_of k).second);
    routines = routines_stay;
  })
