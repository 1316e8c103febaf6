-- How many steps are left to the next tick, against the step's number.
use Rattle.std.proofs.Common.{◌≡◌, ℕ, zero, suc, ◌+◌, ◌-◌, ◌*◌, ◌%◌, ◌<◌, ◌≤◌, ◌⊎◌, ◌==◌, ◌&&◌, nat_lt, nat_eq, false, inl, inr, if◌then◌else◌, refl, sym, ap, ◌∙◌, arith}
use Rattle.std.proofs.lemmas.Bool.{le-ltb, lt-ltb, ne_eqb}
use Rattle.std.proofs.lemmas.Nat.{mod-mul-add}
use Rattle.def_program.specs.Runs.{ticks_before}
use Rattle.ct_run.specs.Rounds.{ticks_if}

-- after so many steps a tick is due as soon as so many more were made: whole quanta are over then
pub record IsLeft (quantum done left : ℕ) : Type 0 where
  pub quanta : ℕ
  pub whole : done + left ≡ suc quanta * quantum
  pub most : left ≤ quantum
  pub first : (done ≡ 0) ⊎ (left < quantum)

-- at first a whole quantum is left
pub starts : (quantum : ℕ) → IsLeft quantum 0 quantum
starts quantum = record { quanta = 0; whole = omega arith; most = omega arith; first = inl refl }

pub not_zero : (n : ℕ) → 0 < n → nat_eq n 0 ≡ false
not_zero n some = ne_eqb n 0 (λ none. omega (arith, none, some))

more_quanta : (n p : ℕ) → suc n * p ≡ n * p + p
more_quanta n p = grind arith

-- ---- a tick is due exactly where none are left

over : (p n rest done : ℕ) → done ≡ n * p + rest → rest < p → done % p ≡ rest
over p n rest done whole less = ap (λ m. m % p) whole ∙ mod-mul-add n p rest less

due_in : (quantum done left : ℕ) → 1 ≤ quantum → IsLeft quantum done left → (nat_lt 1 (done + 1) && nat_eq (done % quantum) 0) ≡ nat_eq left 0
due_in quantum done zero some l =
    let whole = l.whole in
    let more = more_quanta l.quanta quantum in
    rw (lt-ltb 1 (done + 1) (omega (arith, whole, more, some)), over quantum (suc l.quanta) 0 done (omega (arith, whole)) (omega (arith, some))) refl
due_in quantum done (suc n) some l = elim l.first [
  | inl none ↦ rw (le-ltb 1 (done + 1) (omega (arith, none))) (sym (not_zero (suc n) (omega arith)))
  | inr less ↦
      let whole = l.whole in
      let more = more_quanta l.quanta quantum in
      let rest : done % quantum ≡ quantum - suc n = over quantum l.quanta (quantum - suc n) done (omega (arith, whole, more, less)) (omega (arith, less)) in
      rw (lt-ltb 1 (done + 1) (omega (arith, whole, more, less)), rest, not_zero (quantum - suc n) (omega (arith, less)), not_zero (suc n) (omega arith)) refl
]

pub due_is : (quantum done left : ℕ) → 1 ≤ quantum → IsLeft quantum done left → ticks_before quantum (done + 1) ≡ ticks_if (nat_eq left 0)
due_is quantum done left some l =
    let back : done + 1 - 1 ≡ done = omega arith in
    ap (λ n. ticks_if (nat_lt 1 (done + 1) && nat_eq (n % quantum) 0)) back ∙ ap ticks_if (due_in quantum done left some l)

-- ---- after one step more

pub goes_on : (quantum done left : ℕ) → 1 ≤ quantum → IsLeft quantum done left → IsLeft quantum (done + 1) ((if left == 0 then quantum else left) - 1)
goes_on quantum done zero some l =
    let whole = l.whole in
    let more = more_quanta (suc l.quanta) quantum in
    record { quanta = suc l.quanta; whole = omega (arith, whole, more, some); most = omega arith; first = inr (omega (arith, some)) }
goes_on quantum done (suc n) some l =
    let whole = l.whole in
    let most = l.most in
    rw (not_zero (suc n) (omega arith)) (record { quanta = l.quanta; whole = omega (arith, whole); most = omega (arith, most); first = inr (omega (arith, most)) })
