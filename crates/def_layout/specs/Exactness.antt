-- Lengths that need no rounding.
use Rattle.std.specs.Prelude.{ℕ, ◌≡◌, ◌+◌, ◌*◌, ◌≤◌, ◌^◌, true}
use Rattle.def_words.specs.LeastBounds.{alignment_of, rounded_of}

-- at each multiple of its alignment from which it ends inside the addresses, the range of that length
-- is its own rounded bounds
abbrev pub IsExactEverywhere : ℕ → Type 0
IsExactEverywhere m =
    (k : ℕ) → k * alignment_of m + m ≤ 2 ^ 32
    → (rounded_of (k * alignment_of m) (k * alignment_of m + m)).exact ≡ true
