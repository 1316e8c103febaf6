-- The chunks of a heap as a function of memory, and when they tile its range.
use Rattle.std.specs.Prelude.{ℕ, zero, suc, ◌+◌, ◌*◌, ◌%◌, ◌^◌, ◌≡◌, ◌≤◌, ◌<◌, cond, nat_lt, nat_eq, List, [], ◌∷◌, length}
use Rattle.def_words.specs.declared.Cap.{Cap}
use Rattle.def_memory.specs.declared.Granule.{Granule}
use Rattle.def_chunks.specs.declared.heads.TheConstants.{FREE, NO_CHUNK}
use Rattle.def_chunks.specs.declared.rows.Range.{Range}
use Rattle.def_chunks.specs.Chunks.{Chunk, total_size, first_free, head_at, head_in, Lays, AreChunks, NoneTouch}

-- the chunk that a head is of
abbrev pub chunk_of : Cap → Chunk
chunk_of c = record {
  size = (head_in c).size;
  state = (head_in c).state;
  number = cond (nat_eq (head_in c).state FREE) 0 (head_in c).rest;
}

-- heads one after another, up to an address; at most so many
abbrev pub read : List Granule → ℕ → ℕ → ℕ → ℕ → List Chunk
read gs ram end zero at = []
read gs ram end (suc n) at =
    cond (nat_lt at end)
    (chunk_of (head_at gs ram at) ∷ read gs ram end n (at + (chunk_of (head_at gs ram at)).size))
    []

-- the chunks of a heap
unfoldable pub chunks : Range → List Granule → List Chunk
chunks r gs = read gs r.ram (r.base + r.length) r.length r.base

-- these chunks tile the heap's range, which lies in RAM
pub record TiledBy (r : Range) (gs : List Granule) (cs : List Chunk) : Type 0 where
  pub even : (r.ram % 16 ≡ 0) × (r.base % 16 ≡ 0) × (r.length % 16 ≡ 0)
  pub above : r.ram ≤ r.base
  pub short : r.length < 2 ^ 32
  pub small : r.base + r.length ≤ 2 ^ 32
  pub inside : r.base + r.length ≤ r.ram + 8 * length gs
  pub lays : Lays gs r.ram r.base r.base cs NO_CHUNK
  pub are : AreChunks cs
  pub size : total_size cs ≡ r.length
  pub first : r.first ≡ first_free r.base r.base cs NO_CHUNK

-- the chunks that are read there do; free ones may touch
abbrev pub Tiled : Range → List Granule → Type 0
Tiled r gs = TiledBy r gs (chunks r gs)

-- and no two free ones touch
pub record TilesSettled (r : Range) (gs : List Granule) : Type 0 where
  pub tiled : Tiled r gs
  pub apart : NoneTouch (chunks r gs)
