-- The gates of all entries.
use Rattle.std.specs.Prelude.{ℕ, ◌≡◌, ◌+◌, ◌<◌, List, length, slice_index_or}
use Rattle.ct_entry.specs.declared.rows.Gate.{Gate}
use Rattle.def_reach.specs.Roots.{gate_for, no_gate}

-- that of each of n entries, by its place
pub record AreGates (gates : List Gate) (n : ℕ) (all : List Gate) : Type 0 where
  pub even : length all ≡ n
  pub each : (k : ℕ) → k < n → slice_index_or all k no_gate ≡ gate_for gates (k + 1)
