-- Entries that are linked by a key: the first of each, and after each the next one.
use Rattle.std.specs.Prelude.{ℕ, ◌≡◌, ◌+◌, ◌%◌, ◌==◌, ◌<◌, ◌≤◌, List, [], ◌∷◌, length, drop, slice_index_or, if◌then◌else◌}

-- The place of the first key that falls on k, where the first key stands at this place; the place
-- behind them where none does. A key falls on what is left of it by `size`.
abbrev pub place_from : ℕ → ℕ → ℕ → List ℕ → ℕ
place_from size k place [] = place
place_from size k place (x ∷ xs) =
    if x % size == k then place else place_from size k (place + 1) xs

pub record LinksRow : Type 0 where
  pub firsts : List ℕ
  pub nexts : List ℕ

-- entries of these keys are linked, from this place on
pub record AreLinked (keys : List ℕ) (size left : ℕ) (l : LinksRow) : Type 0 where
  pub whole : length l.firsts ≡ size
  pub even : length l.nexts ≡ length keys
  pub firsts_are : (k : ℕ) → k < size
      → slice_index_or l.firsts k 0 ≡ place_from size k left (drop left keys)
  pub nexts_are : (i : ℕ) → left ≤ i → i < length keys → slice_index_or l.nexts i 0
      ≡ place_from size (slice_index_or keys i 0 % size) (i + 1) (drop (i + 1) keys)
