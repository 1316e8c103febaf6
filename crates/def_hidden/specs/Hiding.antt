-- A memory with hidden granules: they read as zero and untagged, and keep their mark. What is hidden is
-- told of each granule by its number, counted from RAM's begin.
use Rattle.std.specs.Prelude.{ℕ, ◌+◌, Bool, cond, List, [], ◌∷◌}
use Rattle.def_memory.specs.declared.Granule.{Granule}
use Rattle.def_memory.specs.Granules.{blank}

abbrev pub hide : Bool → Granule → Granule
hide hidden g = cond hidden (blank g) g

-- the first granule has number k
abbrev pub with_hidden_from : (ℕ → Bool) → ℕ → List Granule → List Granule
with_hidden_from hides k [] = []
with_hidden_from hides k (g ∷ gs) = hide (hides k) g ∷ with_hidden_from hides (k + 1) gs

unfoldable pub with_hidden : (ℕ → Bool) → List Granule → List Granule
with_hidden hides gs = with_hidden_from hides 0 gs
