-- What is cut off a free chunk, and what an object asks of a gap.
use Rattle.std.specs.Prelude.{ℕ, ◌+◌, ◌-◌, ◌%◌, ◌≡◌, ◌≤◌, List, [], ◌∷◌, ◌++◌}
use Rattle.def_memory.specs.declared.Granule.{Granule}
use Rattle.def_chunks.specs.declared.rows.Range.{Range}
use Rattle.def_chunks.specs.declared.rows.Gap.{Gap}
use Rattle.def_chunks.specs.Tiles.{chunks, Tiled}
use Rattle.def_chunks.specs.Changes.{replaced, free_chunk, gap, KeepsRest, OnlyHeads}
use Rattle.def_chunks.specs.Gaps.{FreeLinked}

-- the end of a gap's chunk is a chunk of its own
pub record CutBack (r : Range) (gs hs : List Granule) (g : Gap) (back next : ℕ) : Type 0 where
  pub tiled : Tiled r hs
  pub linked : FreeLinked r hs g.at (g.size - back) next g.before g.before_size
  pub chunks_are : chunks r hs
      ≡ replaced g.at (λ c. free_chunk (c.size - back) ∷ gap back) r.base (chunks r gs)
  pub keeps : KeepsRest r (chunks r gs) gs hs
  pub heads : OnlyHeads r (chunks r hs) gs hs

-- the begin of a gap's chunk, which has this size by now, is a chunk of its own
pub record CutFront (r : Range) (gs hs : List Granule) (g : Gap)
    (size next front before before_size : ℕ) : Type 0 where
  pub tiled : Tiled r hs
  pub linked : FreeLinked r hs (g.at + front) (size - front) next before before_size
  pub chunks_are : chunks r hs
      ≡ replaced g.at (λ c. gap front ++ free_chunk (c.size - front) ∷ []) r.base (chunks r gs)
  pub keeps : KeepsRest r (chunks r gs) gs hs
  pub heads : OnlyHeads r (chunks r hs) gs hs

-- an object of this length, and its head before it, lie in the gap's chunk
pub record Fitting (g : Gap) (length : ℕ) : Type 0 where
  pub eight : g.base % 8 ≡ 0
  pub whole : length % 8 ≡ 0
  pub some : 8 ≤ length
  pub low : g.at + 8 ≤ g.base
  pub high : g.base + length ≤ g.at + g.size
