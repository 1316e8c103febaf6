-- Four planes of one length, seen as one list of granules.
use Rattle.std.specs.Prelude.{ℕ, ◌≡◌, ◌<◌, ◌^◌, Bool, List, [], ◌∷◌, length}
use Rattle.def_words.specs.declared.Shadow.{Shadow}
use Rattle.def_memory.specs.declared.Granule.{Granule}

abbrev pub granules_of : List ℕ → List Bool → List Shadow → List Bool → List Granule
granules_of (w ∷ ws) (t ∷ ts) (s ∷ ss) (m ∷ ms) =
    record { cap = record { tag = t; word = w; shadow = s }; mark = m } ∷ granules_of ws ts ss ms
granules_of ws ts ss ms = []

-- the planes have a place for each granule, and all offsets are below 2 ^ 32
pub record Fit (ws : List ℕ) (ts : List Bool) (ss : List Shadow) (ms : List Bool) : Type 0 where
  pub tags : length ts ≡ length ws
  pub shadows : length ss ≡ length ws
  pub marks : length ms ≡ length ws
  pub small : length ws < 2 ^ 29
