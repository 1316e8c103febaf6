-- Where an object of a length may lie among free chunks, and how a free chunk stands among the others.
use Rattle.std.specs.Prelude.{ℕ, ◌+◌, ◌-◌, ◌%◌, ◌≡◌, ◌≤◌, ◌<◌, ◌⊎◌, true, false, List, [], ◌∷◌, ◌++◌}
use Rattle.def_profile.specs.declared.layout.TheConstants.{CHUNK_HEAD}
use Rattle.def_memory.specs.declared.Granule.{Granule}
use Rattle.def_chunks.specs.declared.heads.TheConstants.{LIVE, NO_CHUNK}
use Rattle.def_chunks.specs.declared.rows.Range.{Range}
use Rattle.def_chunks.specs.declared.rows.Gap.{Gap}
use Rattle.def_chunks.specs.Chunks.{Chunk, is_free, total_size, first_free}
use Rattle.def_chunks.specs.Tiles.{chunks}
use Rattle.def_chunks.specs.Changes.{gap}

-- one of these chunks is free and has room for an object of this length at this base, and for its head
abbrev pub HasRoomAt : ℕ → ℕ → ℕ → List Chunk → Type 0
HasRoomAt base length at [] = ⊥
HasRoomAt base length at (c ∷ cs) =
    ((is_free c ≡ true) × (at + CHUNK_HEAD ≤ base) × (base + length ≤ at + c.size))
    ⊎ HasRoomAt base length (at + c.size) cs

-- none of them is free
abbrev pub NoFree : List Chunk → Type 0
NoFree [] = Unit {0}
NoFree (c ∷ cs) = (is_free c ≡ false) × NoFree cs

-- the last free one of these chunks, by its offset and its size
pub record IsLastFree (xs : List Chunk) (before size : ℕ) : Type 0 where
  pub above : List Chunk
  pub chunk : Chunk
  pub used : List Chunk
  pub whole : xs ≡ above ++ chunk ∷ used
  pub is : is_free chunk ≡ true
  pub others : NoFree used
  pub link : before ≡ total_size above
  pub size_is : size ≡ chunk.size

-- that one, or none is free
abbrev pub LastFree : List Chunk → ℕ → ℕ → Type 0
LastFree xs before size = ((before ≡ NO_CHUNK) × NoFree xs) ⊎ IsLastFree xs before size

-- a chunk stands at an address
pub record ChunkStands (r : Range) (gs : List Granule) (at : ℕ) : Type 0 where
  pub above : List Chunk
  pub chunk : Chunk
  pub below : List Chunk
  pub whole : chunks r gs ≡ above ++ chunk ∷ below
  pub place : at ≡ r.base + total_size above

-- a free one of this size does, and this is the next one
pub record FreeStands (r : Range) (gs : List Granule) (at size next : ℕ) : Type 0 where
  pub stands : ChunkStands r gs at
  pub is : is_free stands.chunk ≡ true
  pub size_is : stands.chunk.size ≡ size
  pub link : next ≡ first_free r.base (at + size) stands.below NO_CHUNK

-- a used one of this size and number does
pub record UsedStands (r : Range) (gs : List Granule) (at size number : ℕ) : Type 0 where
  pub stands : ChunkStands r gs at
  pub is : is_free stands.chunk ≡ false
  pub size_is : stands.chunk.size ≡ size
  pub number_is : stands.chunk.number ≡ number

-- and this is the last free one before it
pub record FreeLinked (r : Range) (gs : List Granule) (at size next before before_size : ℕ) : Type 0
  where
    pub free_stands : FreeStands r gs at size next
    pub last : LastFree free_stands.stands.above before before_size

-- a free chunk with room: the least aligned place in it, and none before it
pub record IsGap (r : Range) (gs : List Granule) (unit length : ℕ) (g : Gap) : Type 0 where
  pub linked : FreeLinked r gs g.at g.size g.next g.before g.before_size
  pub aligned : g.base % unit ≡ 0
  pub low : g.at + CHUNK_HEAD ≤ g.base
  pub high : g.base + length ≤ g.at + g.size
  pub least : (b : ℕ) → b < g.base → b % unit ≡ 0 → HasRoomAt b length r.base (chunks r gs) → ⊥

-- no free chunk has room
abbrev pub NoGap : Range → List Granule → ℕ → ℕ → Type 0
NoGap r gs unit length = (b : ℕ) → b % unit ≡ 0 → HasRoomAt b length r.base (chunks r gs) → ⊥

-- a free chunk becomes that of an object of this length and number, so many free bytes before it, and the free bytes
-- behind it
abbrev pub carved : ℕ → ℕ → ℕ → Chunk → List Chunk
carved front length number c =
    gap front
    ++ record { size = length + CHUNK_HEAD; state = LIVE; number = number }
    ∷ gap (c.size - front - (length + CHUNK_HEAD))
