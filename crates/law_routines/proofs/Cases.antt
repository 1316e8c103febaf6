-- What stands at the program counter, and which routine a number is, by cases.
use Rattle.std.proofs.Common.{ℕ, ◌≡◌, ◌+◌, ◌*◌, ◌%◌, ◌==◌, ◌≤◌, ◌&&◌, true, false, nat_le, nat_lt, Option, Some, None, refl, arith, if◌then◌else◌}
use Rattle.std.proofs.lemmas.Bool.{eqb-true, eqb-false, leb-true, and_parts}
use Rattle.law_lists.proofs.Tests.{chosen}
use Rattle.def_native.specs.declared.TheConstants.{LAST_NATIVE, SWITCH, YIELD, SLEEP, WAIT, WAKE, ALLOCATE, FREE, REMAINING, TOKEN_KEY, TOKEN_NEW, TOKEN_OPEN, TOKEN_FREE}
use Rattle.def_profile.specs.declared.native.TheConstants.{NATIVE_BASE, NATIVE_UNIT, RETURN_ENTRY, RETURN}
use Rattle.def_instr.specs.declared.Instr.{Instr}
use Rattle.def_instr.specs.Reading.{instruction_in}
use Rattle.def_machine.specs.Image.{Image}
use Rattle.def_machine.specs.State.{State}
use Rattle.def_step.specs.declared.Next.{Next}
use Rattle.def_step.specs.declared.Next.TheVariants.{Returning, Instruction, Native, Nothing}
use Rattle.def_step.specs.declared.TheConstants.{LAST_ROUTINE}
use Rattle.def_step.specs.Accesses.{MemoryAndDevices}
use Rattle.def_step.specs.Instructions.{fetched, is_native_entry, native_number, next_native, next_word, next_at}
use Rattle.def_step.specs.Native.{native}
use Rattle.def_step.specs.Quotas.{allocate, free, remaining}
use Rattle.def_step.specs.Routines.{Ran, switch, yield, sleep, wait, wake}
use Rattle.def_step.specs.Tokens.{token_key, token_new, token_open, token_free}

-- the number of a native entry but the return's isn't the return's
not_return : (x : ℕ) → (x == RETURN_ENTRY) ≡ false → is_native_entry x ≡ true → native_number x ≡ RETURN → ⊥
not_return x other entry is =
    let parts = and_parts (nat_le NATIVE_BASE x && nat_lt x (NATIVE_BASE + NATIVE_UNIT * (LAST_NATIVE + 1))) (x % NATIVE_UNIT == 0) entry in
    let low = leb-true NATIVE_BASE x (and_parts (nat_le NATIVE_BASE x) (nat_lt x (NATIVE_BASE + NATIVE_UNIT * (LAST_NATIVE + 1))) parts.0).0 in
    let even = eqb-true (x % NATIVE_UNIT) 0 parts.1 in
    let apart = eqb-false x RETURN_ENTRY other in
    omega (arith, low, even, apart, is)

-- an instruction stands away from native entries, and a routine that runs has one of the numbers up to the last
pub by_next : (P : Next → Type 0) (p : MemoryAndDevices) (x : ℕ) → P Returning → ((k : Instr) → is_native_entry x ≡ false → instruction_in (fetched p x) ≡ Some k → P (Instruction k))
    → ((n : ℕ) → n ≤ LAST_ROUTINE → (n ≡ RETURN → ⊥) → P (Native n)) → P Nothing → P (next_at p x)
by_next P p x back instruction routine none =
    chosen P (x == RETURN_ENTRY) Returning (if is_native_entry x then next_native (native_number x) else next_word (instruction_in (fetched p x)))
    (λ is. back)
    (λ other. chosen P (is_native_entry x) (next_native (native_number x)) (next_word (instruction_in (fetched p x)))
    (λ entry. chosen P (nat_le (native_number x) LAST_ROUTINE) (Native (native_number x)) Nothing
    (λ few. routine (native_number x) (leb-true (native_number x) LAST_ROUTINE few) (not_return x other entry))
    (λ past. none))
    (λ away. by_word (instruction_in (fetched p x)) (instruction_of away) none))
  where
    instruction_of : is_native_entry x ≡ false → (k : Instr) → instruction_in (fetched p x) ≡ Some k → P (Instruction k)
    instruction_of away k read = instruction k away read

    by_word : (o : Option Instr) → ((k : Instr) → o ≡ Some k → P (Instruction k)) → P Nothing → P (next_word o)
    by_word None word none = none
    by_word (Some k) word none = word k refl

-- what holds of each routine that runs but the return
pub record Routines (P : Ran → Type 0) (i : Image) (s : State) (t : ℕ) : Type 0 where
  pub switch : P (switch i s t)
  pub yield : P (yield s t)
  pub sleep : P (sleep s t)
  pub wait : P (wait i s t)
  pub wake : P (wake i s t)
  pub allocate : P (allocate i s t)
  pub free : P (free i s t)
  pub remaining : P (remaining i s t)
  pub token_key : P (token_key i s t)
  pub token_new : P (token_new i s t)
  pub token_open : P (token_open s t)
  pub token_free : P (token_free i s t)

pub by_routine : (P : Option Ran → Type 0) (i : Image) (s : State) (t n : ℕ) → n ≤ LAST_ROUTINE → (n ≡ RETURN → ⊥) → Routines (λ r. P (Some r)) i s t → P (native i s t n)
by_routine P i s t n few other h =
    chosen P (n == SWITCH) _ _ (λ is. h.switch)
    (λ n0. chosen P (n == RETURN) _ _ (λ is. absurd (other (eqb-true n RETURN is)))
    (λ n1. chosen P (n == YIELD) _ _ (λ is. h.yield)
    (λ n2. chosen P (n == SLEEP) _ _ (λ is. h.sleep)
    (λ n3. chosen P (n == WAIT) _ _ (λ is. h.wait)
    (λ n4. chosen P (n == WAKE) _ _ (λ is. h.wake)
    (λ n5. chosen P (n == ALLOCATE) _ _ (λ is. h.allocate)
    (λ n6. chosen P (n == FREE) _ _ (λ is. h.free)
    (λ n7. chosen P (n == REMAINING) _ _ (λ is. h.remaining)
    (λ n8. chosen P (n == TOKEN_KEY) _ _ (λ is. h.token_key)
    (λ n9. chosen P (n == TOKEN_NEW) _ _ (λ is. h.token_new)
    (λ n10. chosen P (n == TOKEN_OPEN) _ _ (λ is. h.token_open)
    (λ n11. chosen P (n == TOKEN_FREE) _ _ (λ is. h.token_free)
    (λ n12. absurd (past (eqb-false n SWITCH n0) (eqb-false n RETURN n1) (eqb-false n YIELD n2) (eqb-false n SLEEP n3) (eqb-false n WAIT n4) (eqb-false n WAKE n5) (eqb-false n ALLOCATE n6) (eqb-false n FREE n7) (eqb-false n REMAINING n8)
    (eqb-false n TOKEN_KEY n9) (eqb-false n TOKEN_NEW n10) (eqb-false n TOKEN_OPEN n11) (eqb-false n TOKEN_FREE n12)))))))))))))))
  where
    past : (n ≡ SWITCH → ⊥) → (n ≡ RETURN → ⊥) → (n ≡ YIELD → ⊥) → (n ≡ SLEEP → ⊥) → (n ≡ WAIT → ⊥) → (n ≡ WAKE → ⊥) → (n ≡ ALLOCATE → ⊥) → (n ≡ FREE → ⊥) → (n ≡ REMAINING → ⊥) → (n ≡ TOKEN_KEY → ⊥) → (n ≡ TOKEN_NEW → ⊥) → (n ≡ TOKEN_OPEN → ⊥) → (n ≡ TOKEN_FREE → ⊥) → ⊥
    past a b c d e f g k l m o p q = omega (arith, few, a, b, c, d, e, f, g, k, l, m, o, p, q)
