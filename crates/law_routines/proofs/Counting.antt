-- Rows that differ, each of an object, are no more than the objects: the object of one row after the other is taken out.
use Rattle.std.proofs.Common.{ℕ, ◌≡◌, ◌+◌, ◌≤◌, ◌==◌, inl, inr, List, [], ◌∷◌, length, cond, sym, ◌∙◌, arith}
use Rattle.law_lists.proofs.Tests.{eq_tells}
use Rattle.def_machine.specs.State.{Object, Token}
use Rattle.def_machine.specs.Objects.{Any, Each}
use Rattle.def_machine.specs.Rows.{IsLiveOf, IsApart, RowsDiffer, RowsFit}

-- the first object of a number is taken out
abbrev without : ℕ → List Object → List Object
without n [] = []
without n (r ∷ rs) = cond (r.number == n) rs (r ∷ without n rs)

one_less : (n : ℕ) (rs : List Object) → Any (IsLiveOf n) rs → length rs ≡ length (without n rs) + 1
one_less n [] h = absurd h
one_less n (r ∷ rs) h = elim (eq_tells r.number n) [
  | inl is ↦ rw is.0 (omega arith)
  | inr other ↦ elim h [
    | inl here ↦ absurd (other.1 here.1)
    | inr there ↦ rw other.0 (let rest = one_less n rs there in omega (arith, rest))
  ]
]

others : (n m : ℕ) (rs : List Object) → (m ≡ n → ⊥) → Any (IsLiveOf m) rs → Any (IsLiveOf m) (without n rs)
others n m [] apart h = h
others n m (r ∷ rs) apart h = elim (eq_tells r.number n) [
  | inl is ↦ rw is.0 (elim h [ inl here ↦ absurd (apart (sym here.1 ∙ is.1)) | inr there ↦ there ])
  | inr other ↦ rw other.0 (elim h [ inl here ↦ inl here | inr there ↦ inr (others n m rs apart there) ])
]

all_others : (n : ℕ) (ks : List Token) (rs : List Object) → Each (IsApart n) ks → Each (λ (k : Token). Any (IsLiveOf k.number) rs) ks → Each (λ (k : Token). Any (IsLiveOf k.number) (without n rs)) ks
all_others n [] rs apart h = tt
all_others n (k ∷ ks) rs apart h = (others n k.number rs apart.0 h.0, all_others n ks rs apart.1 h.1)

counted : (ks : List Token) (rs : List Object) → RowsDiffer ks → Each (λ (k : Token). Any (IsLiveOf k.number) rs) ks → length ks ≤ length rs
counted [] rs differ h = omega arith
counted (k ∷ ks) rs differ h =
    let rest = counted ks (without k.number rs) differ.1 (all_others k.number ks rs differ.0 h.1) in
    let less = one_less k.number rs h.0 in
    omega (arith, rest, less)

pub few : (objects : List Object) (tokens : List Token) → RowsFit objects tokens → length tokens ≤ length objects
few objects tokens h = counted tokens objects h.differ h.live
