-- Words that are 0.
use Rattle.std.specs.Prelude.{ℕ, ◌≡◌, ◌≤◌, ◌<◌, List, slice_index_or}

abbrev pub ZerosTo : List ℕ → ℕ → ℕ → Type 0
ZerosTo words from to = (n : ℕ) → from ≤ n → n < to → slice_index_or words n 0 ≡ 0
