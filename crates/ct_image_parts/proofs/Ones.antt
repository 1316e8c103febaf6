-- One check that fails, or doesn't.
use Rattle.std.proofs.Common.{ℕ, ◌≡◌, Bool, true, [], ◌∷◌, Some, refl}
use Rattle.def_image.specs.Checks.{first, check}

pub one_fails : (at : ℕ) (b : Bool) → b ≡ true → first (check at b ∷ []) ≡ Some at
unfolding first
one_fails at b e = rw e refl
