-- The edges as one list: each pair once, in order.
use Rattle.std.specs.Prelude.{ℕ, ◌≡◌, ◌<◌, ◌⊎◌, List, [], ◌∷◌}
use Rattle.std.specs.List.{AllByRecursion}

-- the lesser first index, and of two equal ones the lesser second
abbrev pub Precedes : ℕ × ℕ → ℕ × ℕ → Type 0
Precedes x y = (x.0 < y.0) ⊎ ((x.0 ≡ y.0) × (x.1 < y.1))

-- each precedes all that follow it
abbrev pub IsAscending : List (ℕ × ℕ) → Type 0
IsAscending [] = Unit {0}
IsAscending (x ∷ xs) = AllByRecursion (Precedes x) xs × IsAscending xs
