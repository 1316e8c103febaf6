-- A name ends before its first zero.
use Rattle.std.proofs.Common.{ℕ, ◌≡◌, List, ◌++◌, take, drop}
use Rattle.def_image.specs.Limits.{name_in_field}

-- the bytes before place i have no zero
abbrev pub Unbroken : ℕ → List ℕ → Type 0
Unbroken i field = name_in_field field ≡ take i field ++ name_in_field (drop i field)
