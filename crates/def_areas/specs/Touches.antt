-- A change of memory that keeps to a range of granules.
use Rattle.std.specs.Prelude.{ℕ, ◌≡◌, ◌≤◌, ◌<◌, ◌⊎◌, List, length}
use Rattle.def_memory.specs.declared.Granule.{Granule}
use Rattle.def_memory.specs.Granules.{granule_at}

-- of the granules from lo up to hi some changed, all others are as they were, and no mark changed
pub record Touches (lo hi : ℕ) (gs hs : List Granule) : Type 0 where
  pub size : length hs ≡ length gs
  pub marks : (k : ℕ) → (granule_at hs k).mark ≡ (granule_at gs k).mark
  pub rest : (k : ℕ) → (k < lo) ⊎ (hi ≤ k) → granule_at hs k ≡ granule_at gs k
