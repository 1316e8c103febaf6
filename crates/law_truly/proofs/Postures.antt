-- What a jump or a return does to interrupts, by what it is.
use Rattle.std.proofs.Common.{ℕ, ◌≡◌, ◌↔◌, inl, inr, true, false, nat_eq, refl, sym, ◌∙◌, subst}
use Rattle.law_lists.proofs.Tests.{eq_tells}
use Rattle.def_profile.specs.declared.seals.TheConstants.{SENTRY_DISABLE, SENTRY_ENABLE, RETURN_DISABLE, RETURN_ENABLE}
use Rattle.def_words.specs.declared.Posture.{Posture}
use Rattle.def_words.specs.Seals.{posture_through}
use Rattle.def_machine.specs.State.{interrupts_on}
use Rattle.def_truly.specs.Postures.{IsPostureThrough}

module _ (before : Posture) (kind named source : ℕ) where
  -- another number fails the test
  apart : (n : ℕ) → (kind ≡ n → ⊥) → nat_eq kind n ≡ false
  apart n other = elim (eq_tells kind n) [ inl same ↦ absurd (other same.1) | inr fails ↦ fails.0 ]

  pub through_is : IsPostureThrough before kind named source (posture_through before kind named source)
  through_is = record {
    disables = λ e. at (λ k. posture_through before k named source ≡ record { off = true; source = named }) SENTRY_DISABLE e refl;
    returns_off = λ e. at (λ k. posture_through before k named source ≡ record { off = true; source = source }) RETURN_DISABLE e refl;
    enables = λ h. elim h [
      | inl e ↦ at (λ k. posture_through before k named source ≡ interrupts_on) SENTRY_ENABLE e refl
      | inr e ↦ at (λ k. posture_through before k named source ≡ interrupts_on) RETURN_ENABLE e refl
    ];
    leaves = λ two three four five. rw (apart SENTRY_DISABLE two, apart RETURN_DISABLE four, apart SENTRY_ENABLE three, apart RETURN_ENABLE five) refl;
  }
    where
      at : (P : ℕ → Type 0) (n : ℕ) → kind ≡ n → P n → P kind
      at P n e h = subst P (sym e) h

  -- it says all of the posture
  pub one_through : (p q : Posture) → IsPostureThrough before kind named source p → IsPostureThrough before kind named source q → p ≡ q
  one_through p q a b = elim (eq_tells kind SENTRY_DISABLE) [
    | inl two ↦ a.disables two.1 ∙ sym (b.disables two.1)
    | inr no_two ↦ elim (eq_tells kind RETURN_DISABLE) [
      | inl four ↦ a.returns_off four.1 ∙ sym (b.returns_off four.1)
      | inr no_four ↦ elim (eq_tells kind SENTRY_ENABLE) [
        | inl three ↦ a.enables (inl three.1) ∙ sym (b.enables (inl three.1))
        | inr no_three ↦ elim (eq_tells kind RETURN_ENABLE) [
          | inl five ↦ a.enables (inr five.1) ∙ sym (b.enables (inr five.1))
          | inr no_five ↦ a.leaves no_two.1 no_three.1 no_four.1 no_five.1 ∙ sym (b.leaves no_two.1 no_three.1 no_four.1 no_five.1)
        ]
      ]
    ]
  ]

pub postures_through : (before : Posture) (kind named source : ℕ) (after : Posture) → (posture_through before kind named source ≡ after) ↔ IsPostureThrough before kind named source after
postures_through before kind named source after = (
  λ e. subst (IsPostureThrough before kind named source) e (through_is before kind named source),
  λ h. one_through before kind named source (posture_through before kind named source) after (through_is before kind named source) h,
)
