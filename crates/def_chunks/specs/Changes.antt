-- What becomes of chunks: one is split, taken, given another state; what was painted is let go and joined with the
-- free chunks that it touches. And what of memory stays meanwhile.
use Rattle.std.specs.Prelude.{ℕ, ◌+◌, ◌-◌, ◌*◌, ◌^◌, ◌≡◌, ◌≤◌, ◌<◌, ◌⊎◌, ◌||◌, Bool, true, false, cond, nat_eq, List, [], ◌∷◌, ◌++◌, map, length}
use Rattle.def_memory.specs.declared.Granule.{Granule}
use Rattle.def_memory.specs.Granules.{plain, granule_at}
use Rattle.def_memory.specs.Accesses.{stored_cap}
use Rattle.def_memory.specs.Ranges.{is_tagged}
use Rattle.def_chunks.specs.declared.heads.TheConstants.{FREE, LIVE, QUARANTINED, PAINTED, NO_CHUNK}
use Rattle.def_chunks.specs.declared.rows.Range.{Range}
use Rattle.def_chunks.specs.Chunks.{Chunk, is_free, Starts}

-- the chunk at an address becomes these
abbrev pub replaced : ℕ → (Chunk → List Chunk) → ℕ → List Chunk → List Chunk
replaced p f at [] = []
replaced p f at (c ∷ cs) = cond (nat_eq at p) (f c ++ cs) (c ∷ replaced p f (at + c.size) cs)

-- two, the first of this size
abbrev pub parts : ℕ → Chunk → List Chunk
parts first c = record c { size = first } ∷ record c { size = c.size - first } ∷ []

-- the chunk of a live object of this number
abbrev pub taken : ℕ → Chunk → List Chunk
taken number c = record c { state = LIVE; number = number } ∷ []

-- the same, in another state
abbrev pub in_state : ℕ → Chunk → List Chunk
in_state state c = record c { state = state } ∷ []

-- what is quarantined is painted
abbrev pub painted_chunk : Chunk → Chunk
painted_chunk c = cond (nat_eq c.state QUARANTINED) (record c { state = PAINTED }) c

abbrev pub all_painted : List Chunk → List Chunk
all_painted cs = map painted_chunk cs

-- the free chunk at an offset, of this size, gets this link; where there is none nothing is written
abbrev pub with_link : List Granule → ℕ → ℕ → ℕ → ℕ → ℕ → List Granule
with_link gs ram base before size next =
    cond (nat_eq before NO_CHUNK) gs
    (stored_cap gs (base + before - ram) (plain (size + next * 2 ^ 32)))

-- ---- what a sweep lets go

abbrev pub free_chunk : ℕ → Chunk
free_chunk size = record { size = size; state = FREE; number = 0 }

-- a chunk that is free, or that is let go
abbrev pub leaves : Chunk → Bool
leaves c = is_free c || nat_eq c.state PAINTED

-- a free chunk of this size, or none
abbrev pub gap : ℕ → List Chunk
gap size = cond (nat_eq size 0) [] (free_chunk size ∷ [])

-- the same chunks, those that leave joined into free ones; so many free bytes stand before them
abbrev pub joined : ℕ → List Chunk → List Chunk
joined before [] = gap before
joined before (c ∷ cs) =
    cond (leaves c) (joined (before + c.size) cs) (gap before ++ c ∷ joined 0 cs)

abbrev pub released : List Chunk → List Chunk
released cs = joined 0 cs

-- ---- what stays

-- an address in a used chunk, past its head
abbrev pub InUse : ℕ → ℕ → List Chunk → Type 0
InUse p at [] = ⊥
InUse p at (c ∷ cs) =
    ((is_free c ≡ false) × (at + 8 ≤ p) × (p < at + c.size)) ⊎ InUse p (at + c.size) cs

-- an address outside the heap, or in a used chunk past its head
abbrev pub Spared : Range → List Chunk → ℕ → Type 0
Spared r cs p = (p < r.base) ⊎ (r.base + r.length ≤ p) ⊎ InUse p r.base cs

-- no capability came: what is tagged now stood there, tagged, before
abbrev pub NoTagComes : List Granule → List Granule → Type 0
NoTagComes old new =
    (k : ℕ) → is_tagged new k ≡ true → (granule_at new k).cap ≡ (granule_at old k).cap

-- heads and free chunks alone have changed, no mark has, and no capability came
pub record KeepsRest (r : Range) (cs : List Chunk) (old new : List Granule) : Type 0 where
  pub size : length new ≡ length old
  pub marks : (k : ℕ) → (granule_at new k).mark ≡ (granule_at old k).mark
  pub tags : NoTagComes old new
  pub rest : (k : ℕ) → Spared r cs (r.ram + 8 * k) → granule_at new k ≡ granule_at old k

-- a granule of RAM, by its index, at which none of these chunks begins
abbrev pub NoHead : Range → List Chunk → ℕ → Type 0
NoHead r cs k = Starts (r.ram + 8 * k) r.base cs → ⊥

-- nothing but the heads of these chunks was written
abbrev pub OnlyHeads : Range → List Chunk → List Granule → List Granule → Type 0
OnlyHeads r cs old new = (k : ℕ) → NoHead r cs k → granule_at new k ≡ granule_at old k
