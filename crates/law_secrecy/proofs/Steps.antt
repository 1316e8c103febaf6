-- Every step is secret.
use Rattle.std.proofs.Common.{ℕ, ◌≡◌, ◌==◌, true, Option, Some, None, Result, Ok, Err, refl, ap, ◌∙◌, subst, option_map, slice_index_or}
use Rattle.ct_entry.specs.declared.acts.Act.{Act}
use Rattle.ct_entry.specs.declared.acts.Act.TheVariants as acts
use Rattle.ct_entry.specs.declared.acts.Deed.{Deed}
use Rattle.def_native.specs.declared.TheConstants.{SWITCH, YIELD, SLEEP, WAIT, WAKE, ALLOCATE, FREE, REMAINING, TOKEN_KEY, TOKEN_NEW, TOKEN_OPEN, TOKEN_FREE}
use Rattle.def_profile.specs.declared.native.TheConstants.{RETURN}
use Rattle.def_profile.specs.declared.traps.TheConstants.{ILLEGAL_INSTRUCTION}
use Rattle.def_words.specs.declared.Cap.{Cap}
use Rattle.def_words.specs.declared.Trap.{Trap}
use Rattle.def_words.specs.Authority.{cap_address}
use Rattle.def_words.specs.Traps.{plain_trap}
use Rattle.def_memory.specs.Granules.{plain}
use Rattle.def_machine.specs.Platform.{Platform}
use Rattle.def_machine.specs.State.{State, thread}
use Rattle.def_confined.specs.Confined.{Confined}
use Rattle.def_confined.specs.Partitioned.{Partitioned}
use Rattle.def_hidden.specs.Hidden.{Blank}
use Rattle.def_step.specs.declared.Next.{Next}
use Rattle.def_step.specs.declared.Next.TheVariants.{Returning, Instruction, Native, Nothing}
use Rattle.def_step.specs.Checks.{first_failed}
use Rattle.def_step.specs.Instructions.{Effect, after_fetch, deed_told, executed, fetch_checks, goes_on, instruction_end, next_at, operand, ran, served, space_of, trapped}
use Rattle.def_step.specs.Native.{native}
use Rattle.def_step.specs.Operands.{operands_of}
use Rattle.def_step.specs.Routines.{Ran, Traps, Leaves}
use Rattle.def_safety.specs.Wired.{Wired}
use Rattle.def_secrecy.specs.Agreeing.{Agree}
use Rattle.def_secrecy.specs.Secrecy.{GoesByView, Secret, StaysIn}
use Rattle.law_moves.proofs.Checks.{all_pass}
use Rattle.law_events.proofs.Checking.{fetch_passes}
use Rattle.law_secrecy.proofs.Frames.{return_left, trap_left}
use Rattle.law_secrecy.proofs.Freeing.{free_two, token_free_two}
use Rattle.law_secrecy.proofs.Handing.{allocate_two, token_key_two, token_new_two}
use Rattle.law_secrecy.proofs.Puts.{same_actor_of}
use Rattle.law_secrecy.proofs.Replies.{SameRan, remaining_two, sleep_two, switch_two, token_open_two, wait_two, wake_two, yield_two}
use Rattle.law_secrecy.proofs.Secrets.{SameResult, carried_by, carried_same, left_agree, told_same}
use Rattle.law_secrecy.proofs.Two.{two_choices}
use Rattle.law_secrecy.proofs.Views.{goes_by_view}

module _ (b : Platform) (s z : State) (t : ℕ) (parts : Partitioned b.image) (wired : Wired b) (one : Confined b.image s) (two : Confined b.image z) (zeros : Blank b.image s) (zeros_too : Blank b.image z) (runs : s.running ≡ Some t) (agree : Agree b t s z) where
  -- the same deed is told, and where the thread stays in its frame it sees the same
  abbrev Pair : State × Option Deed → State × Option Deed → Type 0
  Pair r q = (r.1 ≡ q.1) × (StaysIn s r.0 t → Agree b t r.0 q.0)

  trapped_pair : (w v : Trap) → w ≡ v → Pair (trapped b s t w) (trapped b z t v)
  trapped_pair w v e = subst (λ u. Pair (trapped b s t w) (trapped b z t u)) e
      (ap (λ a. Some (record { thread = t; actor = a; entry = 0; act = acts.Trap w.cause w.code w.register })) (same_actor_of b s z t agree), trap_left b s z t runs agree w (thread s t).frames (thread z t).frames refl refl)

  result_pair : (tagged : (thread s t).pcc.tag ≡ true) (x y : Cap) (r v : Result Effect Trap) → x ≡ y → SameResult b s t r v → Pair (instruction_end b s t x r) (instruction_end b z t y v)
  result_pair tagged x y (Err w) (Err v) e h = trapped_pair w v h
  result_pair tagged x y (Ok d) (Ok v) e h = (told_same b s z t parts wired one two runs agree tagged x y (Ok d) (Ok v) e h, λ stays. left_agree b s z t parts wired one two runs agree tagged d v h)
  result_pair tagged x y (Ok d) (Err v) e h = absurd h
  result_pair tagged x y (Err w) (Ok v) e h = absurd h

  -- ---- native routines

  told_pair : (o p : Option (ℕ × Act)) → o ≡ p → option_map (deed_told s t) o ≡ option_map (deed_told z t) p
  told_pair o p e = by o ∙ ap (λ q. option_map (deed_told z t) q) e
    where
      by : (q : Option (ℕ × Act)) → option_map (deed_told s t) q ≡ option_map (deed_told z t) q
      by None = refl
      by (Some d) = ap (λ a. Some (record { thread = t; actor = a; entry = d.0; act = d.1 })) (same_actor_of b s z t agree)

  ran_pair : (r q : Ran) → SameRan b s t r q → Pair (ran b s t r) (ran b z t q)
  ran_pair (Traps w) (Traps v) h = trapped_pair w v h
  ran_pair (Leaves a o) (Leaves c p) h = (told_pair o p h.0, h.1)
  ran_pair (Traps w) (Leaves c p) h = absurd h
  ran_pair (Leaves a o) (Traps v) h = absurd h

  abbrev ServedPair : Option Ran → Option Ran → Type 0
  ServedPair o p = Pair (served b s t o) (served b z t p)

  native_pair : (tagged : (thread s t).pcc.tag ≡ true) (n : ℕ) → ServedPair (native b.image s t n) (native b.image z t n)
  native_pair tagged n =
      two_choices ServedPair (n == SWITCH) (n == SWITCH) _ _ _ _ refl (λ is. ran_pair _ _ (switch_two b s z t parts wired one two runs agree tagged))
      (λ n0. two_choices ServedPair (n == RETURN) (n == RETURN) _ _ _ _ refl (λ is. (refl, return_left b s z t agree (thread s t).frames (thread z t).frames refl refl))
      (λ n1. two_choices ServedPair (n == YIELD) (n == YIELD) _ _ _ _ refl (λ is. ran_pair _ _ (yield_two b s z t parts wired one two runs agree tagged))
      (λ n2. two_choices ServedPair (n == SLEEP) (n == SLEEP) _ _ _ _ refl (λ is. ran_pair _ _ (sleep_two b s z t parts wired one two runs agree tagged))
      (λ n3. two_choices ServedPair (n == WAIT) (n == WAIT) _ _ _ _ refl (λ is. ran_pair _ _ (wait_two b s z t parts wired one two runs agree tagged))
      (λ n4. two_choices ServedPair (n == WAKE) (n == WAKE) _ _ _ _ refl (λ is. ran_pair _ _ (wake_two b s z t parts wired one two runs agree tagged))
      (λ n5. two_choices ServedPair (n == ALLOCATE) (n == ALLOCATE) _ _ _ _ refl (λ is. ran_pair _ _ (allocate_two b s z t parts wired one two runs agree tagged zeros zeros_too))
      (λ n6. two_choices ServedPair (n == FREE) (n == FREE) _ _ _ _ refl (λ is. ran_pair _ _ (free_two b s z t parts wired one two runs agree tagged))
      (λ n7. two_choices ServedPair (n == REMAINING) (n == REMAINING) _ _ _ _ refl (λ is. ran_pair _ _ (remaining_two b s z t parts wired one two runs agree tagged))
      (λ n8. two_choices ServedPair (n == TOKEN_KEY) (n == TOKEN_KEY) _ _ _ _ refl (λ is. ran_pair _ _ (token_key_two b s z t parts wired one two runs agree tagged zeros zeros_too))
      (λ n9. two_choices ServedPair (n == TOKEN_NEW) (n == TOKEN_NEW) _ _ _ _ refl (λ is. ran_pair _ _ (token_new_two b s z t parts wired one two runs agree tagged zeros zeros_too))
      (λ n10. two_choices ServedPair (n == TOKEN_OPEN) (n == TOKEN_OPEN) _ _ _ _ refl (λ is. ran_pair _ _ (token_open_two b s z t parts wired one two runs agree tagged))
      (λ n11. two_choices ServedPair (n == TOKEN_FREE) (n == TOKEN_FREE) _ _ _ _ refl (λ is. ran_pair _ _ (token_free_two b s z t parts wired one two runs agree tagged))
      (λ n12. trapped_pair (plain_trap ILLEGAL_INSTRUCTION) (plain_trap ILLEGAL_INSTRUCTION) refl)))))))))))))

  -- ---- a step

  next_pair : (tagged : (thread s t).pcc.tag ≡ true) (n : Next) → Pair (goes_on b s t n) (goes_on b z t n)
  next_pair tagged Returning = (refl, return_left b s z t agree (thread s t).frames (thread z t).frames refl refl)
  next_pair tagged (Instruction k) = result_pair tagged (operand s t (operands_of k).first) (operand z t (operands_of k).first) (carried_by b s t k) (carried_by b z t k) (ap (λ rs. slice_index_or rs (operands_of k).first (plain 0)) agree.self.registers)
      (carried_same b s z t parts wired one two runs agree tagged k)
  next_pair tagged (Native k) = native_pair tagged k
  next_pair tagged Nothing = trapped_pair (plain_trap ILLEGAL_INSTRUCTION) (plain_trap ILLEGAL_INSTRUCTION) refl

  step_pair : Pair (executed b s t) (executed b z t)
  unfolding executed
  step_pair = by (first_failed (fetch_checks (thread s t).pcc)) (first_failed (fetch_checks (thread z t).pcc)) refl views.fetches
    where
      views : GoesByView b s z t
      views = goes_by_view b s z t parts wired one two runs agree

      by : (o p : Option Trap) → first_failed (fetch_checks (thread s t).pcc) ≡ o → o ≡ p → Pair (after_fetch b s t o) (after_fetch b z t p)
      by (Some w) (Some v) e same = trapped_pair w v (let heads : w ≡ v = cc in heads)
      by None None e same = subst (λ n. Pair (goes_on b s t (next_at (space_of b s) (cap_address (thread s t).pcc))) (goes_on b z t n)) (views.stands e)
          (next_pair (fetch_passes (thread s t).pcc (all_pass (fetch_checks (thread s t).pcc) e)).tagged (next_at (space_of b s) (cap_address (thread s t).pcc)))
      by (Some w) None e same = absurd (let clash : Some w ≡ None = same in cc)
      by None (Some v) e same = absurd (let clash : None ≡ Some v = same in cc)

  pub step_secret : Secret b s z t
  step_secret = record { deed = step_pair.0; view = step_pair.1 }
