-- The test of a word against 0.
use Rattle.std.proofs.Common.{ℕ, ◌≡◌, Bool, true, false, not, eqb, T, inl, inr, subst, sym, ap, ◌∙◌}
use Rattle.law_lists.proofs.Tests.{eq_tells}

abbrev pub is_some : ℕ → Bool
is_some x = not (eqb x 0)

pub differ : true ≡ false → ⊥
differ e = subst (λ b. T b) e tt

pub is_zero : (x : ℕ) → is_some x ≡ false → x ≡ 0
is_zero x e = elim (eq_tells x 0) [ inl p ↦ p.1 | inr p ↦ absurd (differ (sym (ap not p.0) ∙ e)) ]

pub is_not_zero : (x : ℕ) → is_some x ≡ true → x ≡ 0 → ⊥
is_not_zero x e z = differ (sym e ∙ ap is_some z)
