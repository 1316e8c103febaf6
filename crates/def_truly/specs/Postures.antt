-- What a jump or a return does to interrupts, in plain facts.
use Rattle.std.specs.Prelude.{ℕ, ◌≡◌, ◌⊎◌, true}
use Rattle.def_profile.specs.declared.seals.TheConstants.{SENTRY_DISABLE, SENTRY_ENABLE, RETURN_DISABLE, RETURN_ENABLE}
use Rattle.def_words.specs.declared.Posture.{Posture}
use Rattle.def_machine.specs.State.{interrupts_on}

-- The posture that is left through a target of this type, of which its root names an export, and its own source is
-- another. A disabling sentry turns interrupts off by the export that is named, a disabling return sentry by its own
-- source; an enabling one turns them on; any other target leaves the posture.
pub record IsPostureThrough (before : Posture) (kind named source : ℕ)
    (after : Posture) : Type 0 where
  pub disables : kind ≡ SENTRY_DISABLE → after ≡ record { off = true; source = named }
  pub returns_off : kind ≡ RETURN_DISABLE → after ≡ record { off = true; source = source }
  pub enables : (kind ≡ SENTRY_ENABLE) ⊎ (kind ≡ RETURN_ENABLE) → after ≡ interrupts_on
  pub leaves : (kind ≡ SENTRY_DISABLE → ⊥) → (kind ≡ SENTRY_ENABLE → ⊥)
      → (kind ≡ RETURN_DISABLE → ⊥) → (kind ≡ RETURN_ENABLE → ⊥) → after ≡ before
