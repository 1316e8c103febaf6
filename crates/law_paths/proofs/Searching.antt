-- The least number below a bound at which something holds, where it can be told whether it does.
use Rattle.std.proofs.Common.{◌≡◌, ℕ, zero, suc, ◌<◌, ◌⊎◌, inl, inr, subst, arith}
use Rattle.std.proofs.lemmas.Bool.{cases_lt}

pub record IsLeast (P : ℕ → Type 0) (n : ℕ) : Type 0 where
  pub at : ℕ
  pub inside : at < n
  pub holds : P at
  pub least : (z : ℕ) → z < at → P z → ⊥

abbrev pub NoneBelow : (ℕ → Type 0) → ℕ → Type 0
NoneBelow P n = (k : ℕ) → k < n → P k → ⊥

abbrev pub Tells : (ℕ → Type 0) → Type 0
Tells P = (k : ℕ) → P k ⊎ (P k → ⊥)

none_more : (P : ℕ → Type 0) (n : ℕ) → NoneBelow P n → (P n → ⊥) → NoneBelow P (suc n)
none_more P n none not k lt h = elim (cases_lt k n) [
  | inl less ↦ none k less h
  | inr past ↦ let same : k ≡ n = omega (arith, lt, past) in not (subst P same h)
]

pub search : (P : ℕ → Type 0) → Tells P → (n : ℕ) → IsLeast P n ⊎ NoneBelow P n
search P tells zero = inr (λ k lt h. absurd (omega (arith, lt)))
search P tells (suc n) = elim (search P tells n) [
  | inl found ↦ inl (record { at = found.at; inside = (let inside = found.inside in omega (arith, inside)); holds = found.holds; least = found.least })
  | inr none ↦ elim (tells n) [
    | inl h ↦ inl (record { at = n; inside = omega arith; holds = h; least = none })
    | inr not ↦ inr (none_more P n none not)
  ]
]
