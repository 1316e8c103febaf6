-- Which routine a number is, by cases, with the number of each.
use Rattle.std.proofs.Common.{ℕ, ◌≡◌, ◌==◌, ◌≤◌, true, Option, Some, sym, subst, arith}
use Rattle.std.proofs.lemmas.Bool.{eqb-true, eqb-false}
use Rattle.law_lists.proofs.Tests.{chosen}
use Rattle.def_native.specs.declared.TheConstants.{SWITCH, YIELD, SLEEP, WAIT, WAKE, ALLOCATE, FREE, REMAINING, TOKEN_KEY, TOKEN_NEW, TOKEN_OPEN, TOKEN_FREE}
use Rattle.def_profile.specs.declared.native.TheConstants.{RETURN}
use Rattle.def_machine.specs.Image.{Image}
use Rattle.def_machine.specs.State.{State}
use Rattle.def_step.specs.declared.TheConstants.{LAST_ROUTINE}
use Rattle.def_step.specs.Native.{native}
use Rattle.def_step.specs.Quotas.{allocate, free, remaining}
use Rattle.def_step.specs.Routines.{Ran, switch, yield, sleep, wait, wake}
use Rattle.def_step.specs.Tokens.{token_key, token_new, token_open, token_free}

-- what holds of each routine that runs but the return, and of its number
pub record Numbered (P : ℕ → Ran → Type 0) (i : Image) (s : State) (t : ℕ) : Type 0 where
  pub switch : P SWITCH (switch i s t)
  pub yield : P YIELD (yield s t)
  pub sleep : P SLEEP (sleep s t)
  pub wait : P WAIT (wait i s t)
  pub wake : P WAKE (wake i s t)
  pub allocate : P ALLOCATE (allocate i s t)
  pub free : P FREE (free i s t)
  pub remaining : P REMAINING (remaining i s t)
  pub token_key : P TOKEN_KEY (token_key i s t)
  pub token_new : P TOKEN_NEW (token_new i s t)
  pub token_open : P TOKEN_OPEN (token_open s t)
  pub token_free : P TOKEN_FREE (token_free i s t)

pub by_number : (P : ℕ → Option Ran → Type 0) (i : Image) (s : State) (t n : ℕ) → n ≤ LAST_ROUTINE → (n ≡ RETURN → ⊥) → Numbered (λ m r. P m (Some r)) i s t → P n (native i s t n)
by_number P i s t n few other h =
    chosen (P n) (n == SWITCH) _ _ (λ is. at SWITCH (switch i s t) is h.switch)
    (λ n0. chosen (P n) (n == RETURN) _ _ (λ is. absurd (other (eqb-true n RETURN is)))
    (λ n1. chosen (P n) (n == YIELD) _ _ (λ is. at YIELD (yield s t) is h.yield)
    (λ n2. chosen (P n) (n == SLEEP) _ _ (λ is. at SLEEP (sleep s t) is h.sleep)
    (λ n3. chosen (P n) (n == WAIT) _ _ (λ is. at WAIT (wait i s t) is h.wait)
    (λ n4. chosen (P n) (n == WAKE) _ _ (λ is. at WAKE (wake i s t) is h.wake)
    (λ n5. chosen (P n) (n == ALLOCATE) _ _ (λ is. at ALLOCATE (allocate i s t) is h.allocate)
    (λ n6. chosen (P n) (n == FREE) _ _ (λ is. at FREE (free i s t) is h.free)
    (λ n7. chosen (P n) (n == REMAINING) _ _ (λ is. at REMAINING (remaining i s t) is h.remaining)
    (λ n8. chosen (P n) (n == TOKEN_KEY) _ _ (λ is. at TOKEN_KEY (token_key i s t) is h.token_key)
    (λ n9. chosen (P n) (n == TOKEN_NEW) _ _ (λ is. at TOKEN_NEW (token_new i s t) is h.token_new)
    (λ n10. chosen (P n) (n == TOKEN_OPEN) _ _ (λ is. at TOKEN_OPEN (token_open s t) is h.token_open)
    (λ n11. chosen (P n) (n == TOKEN_FREE) _ _ (λ is. at TOKEN_FREE (token_free i s t) is h.token_free)
    (λ n12. absurd (past (eqb-false n SWITCH n0) (eqb-false n RETURN n1) (eqb-false n YIELD n2) (eqb-false n SLEEP n3) (eqb-false n WAIT n4) (eqb-false n WAKE n5) (eqb-false n ALLOCATE n6) (eqb-false n FREE n7) (eqb-false n REMAINING n8)
    (eqb-false n TOKEN_KEY n9) (eqb-false n TOKEN_NEW n10) (eqb-false n TOKEN_OPEN n11) (eqb-false n TOKEN_FREE n12)))))))))))))))
  where
    at : (m : ℕ) (r : Ran) → (n == m) ≡ true → P m (Some r) → P n (Some r)
    at m r is p = subst (λ k. P k (Some r)) (sym (eqb-true n m is)) p

    past : (n ≡ SWITCH → ⊥) → (n ≡ RETURN → ⊥) → (n ≡ YIELD → ⊥) → (n ≡ SLEEP → ⊥) → (n ≡ WAIT → ⊥) → (n ≡ WAKE → ⊥) → (n ≡ ALLOCATE → ⊥) → (n ≡ FREE → ⊥) → (n ≡ REMAINING → ⊥) → (n ≡ TOKEN_KEY → ⊥) → (n ≡ TOKEN_NEW → ⊥) → (n ≡ TOKEN_OPEN → ⊥) → (n ≡ TOKEN_FREE → ⊥) → ⊥
    past a b c d e f g k l m o p q = omega (arith, few, a, b, c, d, e, f, g, k, l, m, o, p, q)
