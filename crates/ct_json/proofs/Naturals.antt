-- The number that a text spells, if it is a natural one.
use Rattle.std.proofs.Common.{◌≡◌, ℕ, List, Bool, true, false, ◌==◌, get_or, Some, None, option_and_then, cond, arith, refl}
use Rattle.std.specs.Float.{binary64, float_is_finite}
use Rattle.fast_float.specs.Text.{Parts, scan, nearest}
use Rattle.serde_json.specs.Data.{float}
use Rattle.serde_json.specs.Find.{as_u64}
use Rattle.serde_json.specs.Read.{number_of, number_from, float_of}

float_is_none : (sign : Bool) (p : Parts) → option_and_then as_u64 (float_of sign p) ≡ None
float_is_none sign p =
    elim (float_is_finite (nearest binary64 sign p)) as
    (λ b. option_and_then as_u64 (cond b (Some (float (nearest binary64 sign p))) None) ≡ None)
    [ true ↦ refl | false ↦ refl ]

pub minus_is_none : (s : List ℕ) → (get_or s 0 0 == 45) ≡ true → option_and_then as_u64 (number_of s) ≡ None
unfolding number_of
minus_is_none s h = rw h (grind (arith, float_is_none))

pub no_minus : (s : List ℕ) → (get_or s 0 0 == 45) ≡ false → number_of s ≡ number_from false (scan s)
unfolding number_of
no_minus s h = rw h
