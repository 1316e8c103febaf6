-- Chunks, one after another from an address on, and how they lie in memory. Sizes count bytes and include the
-- chunk's head. Free chunks form a list by address: the head of each has where the next one begins.
use Rattle.std.specs.Prelude.{ℕ, ◌+◌, ◌-◌, ◌*◌, ◌/◌, ◌%◌, ◌^◌, ◌≡◌, ◌≤◌, ◌<◌, ◌⊎◌, Bool, true, false, cond, nat_eq, List, [], ◌∷◌}
use Rattle.def_words.specs.declared.Cap.{Cap}
use Rattle.def_memory.specs.declared.Granule.{Granule}
use Rattle.def_memory.specs.Granules.{plain}
use Rattle.def_memory.specs.Accesses.{loaded_cap}
use Rattle.def_chunks.specs.declared.rows.Head.{Head}
use Rattle.def_chunks.specs.declared.heads.TheConstants.{FREE, PAINTED, NO_CHUNK}

-- a chunk: its size, its state, and the number of its object
pub record Chunk : Type 0 where
  pub size : ℕ
  pub state : ℕ
  pub number : ℕ

abbrev pub is_free : Chunk → Bool
is_free c = nat_eq c.state FREE

abbrev pub total_size : List Chunk → ℕ
total_size [] = 0
total_size (c ∷ cs) = c.size + total_size cs

-- where the first free one of these chunks begins, from the heap's first address; `next` where none is free
abbrev pub first_free : ℕ → ℕ → List Chunk → ℕ → ℕ
first_free base at [] next = next
first_free base at (c ∷ cs) next =
    cond (is_free c) (at - base) (first_free base (at + c.size) cs next)

-- the head of a chunk: its size with its state, then its object's number, or where the next free chunk begins
abbrev pub head_of : Chunk → ℕ → Cap
head_of c next = plain (c.size + c.state + cond (is_free c) next c.number * 2 ^ 32)

-- what stands at an address
abbrev pub head_at : List Granule → ℕ → ℕ → Cap
head_at gs ram at = loaded_cap gs (at - ram)

-- what a head holds, as numbers
abbrev pub head_in : Cap → Head
head_in c = record {
  size = c.word % 2 ^ 32 / 8 * 8;
  state = c.word % 2 ^ 32 % 8;
  rest = c.word / 2 ^ 32;
}

-- the chunks lie in memory from an address on; `next` is the first free one after them
abbrev pub Lays : List Granule → ℕ → ℕ → ℕ → List Chunk → ℕ → Type 0
Lays gs ram base at [] next = Unit {0}
Lays gs ram base at (c ∷ cs) next =
    (head_at gs ram at ≡ head_of c (first_free base (at + c.size) cs next))
    × Lays gs ram base (at + c.size) cs next

-- an address at which a chunk begins
abbrev pub Starts : ℕ → ℕ → List Chunk → Type 0
Starts p at [] = ⊥
Starts p at (c ∷ cs) = (p ≡ at) ⊎ Starts p (at + c.size) cs

-- ---- what chunks are

-- whole granules, and a used one has a granule for its object
pub record IsChunk (c : Chunk) : Type 0 where
  pub whole : c.size % 8 ≡ 0
  pub some : 8 ≤ c.size
  pub used : is_free c ≡ false → 16 ≤ c.size
  pub states : c.state ≤ PAINTED
  pub number : c.number < 2 ^ 32
  pub blank : is_free c ≡ true → c.number ≡ 0

abbrev pub AreChunks : List Chunk → Type 0
AreChunks [] = Unit {0}
AreChunks (c ∷ cs) = IsChunk c × AreChunks cs

abbrev pub BeginsUsed : List Chunk → Type 0
BeginsUsed [] = Unit {0}
BeginsUsed (c ∷ cs) = is_free c ≡ false

-- no two free chunks touch
abbrev pub NoneTouch : List Chunk → Type 0
NoneTouch [] = Unit {0}
NoneTouch (c ∷ cs) = (is_free c ≡ true → BeginsUsed cs) × NoneTouch cs
