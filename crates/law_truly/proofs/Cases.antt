-- What a step of a thread comes to, case by case, with the deed that it tells and the routine that told it.
use Rattle.std.proofs.Common.{ℕ, ◌≡◌, ◌-◌, ◌==◌, ◌≤◌, ◌⊎◌, inl, inr, nat_lt, List, ◌∷◌, length, Option, Some, None, Ok, Err, Result, refl, option_map, true, false, Bool, sym, ◌∙◌, if◌then◌else◌}
use Rattle.law_lists.proofs.Tests.{chosen}
use Rattle.def_profile.specs.declared.answers.TheConstants.{UNWOUND}
use Rattle.def_native.specs.declared.TheConstants.{SWITCH, ALLOCATE, FREE, TOKEN_KEY, TOKEN_NEW, TOKEN_FREE}
use Rattle.def_profile.specs.declared.native.TheConstants.{RETURN}
use Rattle.def_profile.specs.declared.traps.TheConstants.{ILLEGAL_INSTRUCTION}
use Rattle.ct_entry.specs.declared.acts.Act.{Act}
use Rattle.ct_entry.specs.declared.acts.Act.TheVariants as acts
use Rattle.ct_entry.specs.declared.acts.Deed.{Deed}
use Rattle.def_words.specs.declared.Cap.{Cap}
use Rattle.def_words.specs.declared.Trap.{Trap}
use Rattle.def_words.specs.Authority.{cap_address}
use Rattle.def_words.specs.Capability.{integer}
use Rattle.def_words.specs.Traps.{plain_trap}
use Rattle.def_instr.specs.declared.Instr.{Instr}
use Rattle.def_sched.specs.declared.Status.{Status}
use Rattle.def_reach.specs.Roots.{gate_for}
use Rattle.def_machine.specs.Platform.{Platform}
use Rattle.def_machine.specs.Image.{Image, stack_base, frames_most}
use Rattle.def_machine.specs.State.{State, Frame, Object, thread, register}
use Rattle.def_machine.specs.Frames.{ended_with, returned}
use Rattle.def_machine.specs.Heap.{with_object, object_cap}
use Rattle.def_safety.specs.Clean.{high_of}
use Rattle.def_step.specs.declared.Next.{Next}
use Rattle.def_step.specs.declared.Next.TheVariants.{Instruction, Native}
use Rattle.def_step.specs.declared.TheConstants.{LAST_ROUTINE}
use Rattle.def_step.specs.Checks.{first_failed}
use Rattle.def_step.specs.Handlers.{handler_entered, handler_value}
use Rattle.def_step.specs.Instructions.{Effect, space_of, put_done, instruction_end, operand, deed, deed_told, trapped, goes_on, after_fetch, executed, fetch_checks, next_at, served}
use Rattle.def_step.specs.Native.{native}
use Rattle.def_step.specs.Operands.{operands_of}
use Rattle.def_step.specs.Quotas.{Allocation, Made, Refused, allocate, allocated, allocation, by_quota, is_quota_cap, quota_in, let_go}
use Rattle.def_step.specs.Routines.{Ran, Traps, Leaves, answers, checked, code, switched_to, switch, tells as refuses, threads_woken}
use Rattle.def_step.specs.Switch.{Switched, TooDeep, NoStack, Enters, return_checks, switch_checks, called, with_room, past_checks, frame_top}
use Rattle.def_step.specs.Tokens.{by_key, key_of, made_token, token_key, token_new, with_row, sealed_token, opened_token}
use Rattle.def_events.specs.Leaving.{Left, IfRan}
use Rattle.law_history.proofs.Numbered.{by_number}
use Rattle.law_history.proofs.Routines.{IfEffect, Both, MayFetch, trap_told}
use Rattle.law_routines.proofs.Cases.{by_next}
use Rattle.law_routines.proofs.Objects.{Found}
use Rattle.law_routines.proofs.Leaving.{checked_left, option_tells, stopped, entering, call_told, allocate_told, free_told, yield_left, sleep_left, wait_left, wake_left, free_left, remaining_left, token_open_left, token_free_left}
use Rattle.law_routines.proofs.Stepping.{carried, trap_case, return_case}

-- ---- routines

-- c1 of thread t is a return sentry
abbrev pub MayReturn : State → ℕ → Type 0
MayReturn s t = first_failed (return_checks (register (thread s t) 1)) ≡ None

-- what c11 of thread t says: of the routines that make an object, how many bytes it asks for
abbrev pub length_in : State → ℕ → ℕ
length_in s t = cap_address (register (thread s t) 11)

-- what stands beside an object that is handed out sealed: the routine that made it, and how many bytes it asked for
abbrev pub Sealing : (ℕ → Type 0) → State → ℕ → ℕ → Type 0
Sealing At s t size = (At TOKEN_KEY × (size ≡ 8)) ⊎ (At TOKEN_NEW × (size ≡ length_in s t))

-- as law_routines has them, with the number of the routine that runs, a call with its checks that passed, and what goes by a
-- quota with its own
pub record Answers (At : ℕ → Type 0) (Q : State → Option (ℕ × Act) → Type 0) (i : Image) (s : State) (t : ℕ) : Type 0 where
  pub tells : (n : ℕ) → Q (answers s t (integer n)) None
  pub enters : At SWITCH → first_failed (switch_checks (stack_base i t) (frame_top (thread s t).frames) (thread s t)) ≡ None
      → Q (entering i s t (called i.entries (thread s t)) (high_of i s t)) (Some (call_told s t (called i.entries (thread s t))))
  pub stops : (status : Status) → Q (stopped s t status) None
  pub wakes : (address most : ℕ) → Q (threads_woken s t address most) None
  pub hands : At ALLOCATE → MayReturn s t → is_quota_cap (register (thread s t) 10) ≡ true → (r : Object) → allocation i s (quota_in s t) (length_in s t) ≡ Made r → Q (answers (with_object s r) t (object_cap r)) (Some (allocate_told s r))
  pub gives : At FREE ⊎ At TOKEN_FREE → MayReturn s t → is_quota_cap (register (thread s t) 10) ≡ true → (r : Object) (c : Cap) → Found (quota_in s t) c s.objects r → Q (answers (let_go i s t r) t (integer 0)) (Some (free_told i s t r))
  pub seals : (size : ℕ) → Sealing At s t size → MayReturn s t → is_quota_cap (register (thread s t) 10) ≡ true → (key : Option ℕ) (r : Object) → allocation i s (quota_in s t) size ≡ Made r
      → Q (answers (with_object (with_row s r key) r) t (sealed_token r)) (Some (allocate_told (with_row s r key) r))
  pub opens : Q (answers s t (opened_token (register (thread s t) 11))) None

module _ (At : ℕ → Type 0) (Q : State → Option (ℕ × Act) → Type 0) (i : Image) (s : State) (t : ℕ) (m : Answers At Q i s t) where
  switch_case : At SWITCH → Left Q (switch i s t)
  switch_case at = by_failed (first_failed (switch_checks (stack_base i t) (frame_top (thread s t).frames) (thread s t))) refl
    where
      by_failed : (o : Option Trap) → first_failed (switch_checks (stack_base i t) (frame_top (thread s t).frames) (thread s t)) ≡ o → Left Q (switched_to i s t (past_checks i.entries (stack_base i t) (frames_most i t) (thread s t) o))
      by_failed (Some why) e = tt
      by_failed None e = chosen (λ (z : Switched). Left Q (switched_to i s t z)) (length (thread s t).frames == frames_most i t) TooDeep (with_room i.entries (stack_base i t) (high_of i s t) (called i.entries (thread s t)))
          (λ is. m.tells (4294967296 - 12))
          (λ not. chosen (λ (z : Switched). Left Q (switched_to i s t z)) (nat_lt (high_of i s t - stack_base i t) (gate_for i.entries.gates (called i.entries (thread s t))).stack) NoStack (Enters (called i.entries (thread s t)) (high_of i s t))
          (λ is. m.tells (4294967296 - 11))
          (λ fits. m.enters at e))

  -- where the way back is checked first
  returning : (r : Ran) → (MayReturn s t → Left Q (checked (return_checks (register (thread s t) 1)) r)) → Left Q (checked (return_checks (register (thread s t) 1)) r)
  returning r h = elim (option_tells (first_failed (return_checks (register (thread s t) 1)))) [
    | inl none ↦ h none
    | inr failed ↦ rw failed.1 tt
  ]

  -- what c10's quota pays for, where c10 is one: what is shown of it is enough
  by_quota_left : (r : Ran) → Left Q r → Left Q (by_quota s t r)
  by_quota_left r h = checked_left Q (return_checks (register (thread s t) 1)) (if is_quota_cap (register (thread s t) 10) then r else refuses s t (code 1))
      (chosen (Left Q) (is_quota_cap (register (thread s t) 10)) r (refuses s t (code 1)) (λ is. h) (λ not. m.tells (4294967296 - 1)))

  -- an object that is handed out as it is
  allocate_case : At ALLOCATE → MayReturn s t → is_quota_cap (register (thread s t) 10) ≡ true → Left Q (allocate i s t)
  allocate_case at back q = by_quota_left _ (by_made (allocation i s (quota_in s t) (length_in s t)) refl)
    where
      by_made : (a : Allocation) → allocation i s (quota_in s t) (length_in s t) ≡ a → Left Q (allocated s t a)
      by_made (Refused n) is = m.tells (4294967296 - n)
      by_made (Made r) is = m.hands at back q r is

  -- one that is handed out sealed
  sealed_case : (size : ℕ) → Sealing At s t size → MayReturn s t → is_quota_cap (register (thread s t) 10) ≡ true → (key : Option ℕ) (a : Allocation) → allocation i s (quota_in s t) size ≡ a → Left Q (made_token s t key a)
  sealed_case size seals back q key (Refused n) is = m.tells (4294967296 - n)
  sealed_case size seals back q key (Made r) is = m.seals size seals back q key r is

  token_key_case : At TOKEN_KEY → MayReturn s t → is_quota_cap (register (thread s t) 10) ≡ true → Left Q (token_key i s t)
  token_key_case at back q = by_quota_left _ (sealed_case 8 (inl (at, refl)) back q None (allocation i s (quota_in s t) 8) refl)

  token_new_case : At TOKEN_NEW → MayReturn s t → is_quota_cap (register (thread s t) 10) ≡ true → Left Q (token_new i s t)
  token_new_case at back q = by_quota_left _ (by_found (key_of s (register (thread s t) 12)))
    where
      by_found : (o : Option Object) → Left Q (by_key s t o (λ key. made_token s t (Some key) (allocation i s (quota_in s t) (length_in s t))))
      by_found None = m.tells (4294967296 - 7)
      by_found (Some k) = sealed_case (length_in s t) (inr (at, refl)) back q (Some k.number) (allocation i s (quota_in s t) (length_in s t)) refl

  -- what goes by a quota, where c10 is one, and else is refused
  by_quota_case : (r : Ran) → (MayReturn s t → is_quota_cap (register (thread s t) 10) ≡ true → Left Q (by_quota s t r)) → Left Q (by_quota s t r)
  by_quota_case r h = returning _ (λ back. by back (is_quota_cap (register (thread s t) 10)) refl)
    where
      refused : is_quota_cap (register (thread s t) 10) ≡ false → Left Q (by_quota s t r)
      refused not = checked_left Q (return_checks (register (thread s t) 1)) (if is_quota_cap (register (thread s t) 10) then r else refuses s t (code 1))
          (chosen (Left Q) (is_quota_cap (register (thread s t) 10)) r (refuses s t (code 1)) (λ is. absurd (let clash : false ≡ true = sym not ∙ is in cc)) (λ other. m.tells (4294967296 - 1)))

      by : MayReturn s t → (v : Bool) → is_quota_cap (register (thread s t) 10) ≡ v → Left Q (by_quota s t r)
      by back true is = h back is
      by back false not = refused not

  pub routine_case : (n : ℕ) → n ≤ LAST_ROUTINE → (n ≡ RETURN → ⊥) → At n → IfRan (Left Q) (native i s t n)
  routine_case n few other = by_number (λ k (o : Option Ran). At k → IfRan (Left Q) o) i s t n few other (record {
    switch = switch_case;
    yield = λ at. yield_left Q i s t m.stops;
    sleep = λ at. sleep_left Q i s t m.stops;
    wait = λ at. wait_left Q i s t m.tells m.stops;
    wake = λ at. wake_left Q i s t m.wakes;
    allocate = λ at. by_quota_case _ (λ back q. allocate_case at back q);
    free = λ at. by_quota_case _ (λ back q. free_left Q i s t m.tells (m.gives (inl at) back q));
    remaining = λ at. remaining_left Q i s t m.tells;
    token_key = λ at. by_quota_case _ (λ back q. token_key_case at back q);
    token_new = λ at. by_quota_case _ (λ back q. token_new_case at back q);
    token_open = λ at. token_open_left Q i s t m.tells (λ key r is. m.opens);
    token_free = λ at. by_quota_case _ (λ back q. token_free_left Q i s t m.tells (m.gives (inr at) back q));
  })

-- ---- a step

-- at its program counter stands the routine of this number
abbrev pub Stands : Platform → State → ℕ → ℕ → Type 0
Stands b s t n = next_at (space_of b s) (cap_address (thread s t).pcc) ≡ Native n

-- a handler that is entered, a trap that unwinds, a frame that ends with a value, one that returns, an instruction, and
-- what routines do
pub record Cases (Q : State → Option Deed → Type 0) (b : Platform) (s : State) (t : ℕ) : Type 0 where
  pub handles : (why : Trap) (f : Frame) (fs : List Frame) → (thread s t).frames ≡ f ∷ fs → Q (handler_entered b.image s t why f fs) (trap_told s t why)
  pub unwinds : (why : Trap) → Q (ended_with b.image s t UNWOUND (thread s t).frames) (trap_told s t why)
  pub ends : (value : ℕ) → Q (ended_with b.image s t value (thread s t).frames) None
  pub back : Q (returned b.image s t (thread s t).frames) None
  pub done : MayFetch s t → (k : Instr) → next_at (space_of b s) (cap_address (thread s t).pcc) ≡ Instruction k → IfEffect Q s t (operand s t (operands_of k).first) (carried b s t k)
  pub routines : MayFetch s t → Answers (Stands b s t) (λ z told. Q z (option_map (deed_told s t) told)) b.image s t

module _ (Q : State → Option Deed → Type 0) (b : Platform) (s : State) (t : ℕ) (m : Cases Q b s t) where
  trapped_case : (why : Trap) → Both Q (trapped b s t why)
  trapped_case why = trap_case (λ z. Q z (trap_told s t why)) b.image s t why (thread s t).frames (λ f fs frames is. m.handles why f fs frames) (m.unwinds why)

  result_case : (x : Cap) (r : Result Effect Trap) → IfEffect Q s t x r → Both Q (instruction_end b s t x r)
  result_case x (Err why) h = trapped_case why
  result_case x (Ok d) h = h

  served_case : (o : Option Ran) → IfRan (Left (λ z told. Q z (option_map (deed_told s t) told))) o → Both Q (served b s t o)
  served_case None h = trapped_case (plain_trap ILLEGAL_INSTRUCTION)
  served_case (Some (Traps why)) h = trapped_case why
  served_case (Some (Leaves after told)) h = h

  next_case : MayFetch s t → Both Q (goes_on b s t (next_at (space_of b s) (cap_address (thread s t).pcc)))
  next_case fetched = by_next (λ (n : Next). next_at (space_of b s) (cap_address (thread s t).pcc) ≡ n → Both Q (goes_on b s t n)) (space_of b s) (cap_address (thread s t).pcc)
      (λ at. return_case (λ z. Q z None) b.image s t (thread s t).frames (λ f fs frames is. m.ends (handler_value (thread s t))) (λ plain_one. m.back))
      (λ k away read at. result_case (operand s t (operands_of k).first) (carried b s t k) (m.done fetched k at))
      (λ n few other at. served_case (native b.image s t n) (routine_case (Stands b s t) (λ z told. Q z (option_map (deed_told s t) told)) b.image s t (m.routines fetched) n few other at))
      (λ at. trapped_case (plain_trap ILLEGAL_INSTRUCTION))
      refl

  pub executed_case : Both Q (executed b s t)
  unfolding executed
  executed_case = by (first_failed (fetch_checks (thread s t).pcc)) refl
    where
      by : (o : Option Trap) → first_failed (fetch_checks (thread s t).pcc) ≡ o → Both Q (after_fetch b s t o)
      by (Some why) e = trapped_case why
      by None e = next_case e
