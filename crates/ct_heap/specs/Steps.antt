-- The steps of which the calls are made, on chunks.
use Rattle.std.specs.Prelude.{ℕ, ◌+◌, ◌-◌, ◌*◌, ◌/◌, ◌%◌, ◌≡◌, ◌≤◌, ◌<◌, ◌⊎◌, ◌&&◌, ◌||◌, Bool, true, false, cond, nat_eq, nat_le, nat_lt, List, [], ◌∷◌, length, map, slice_set}
use Rattle.def_profile.specs.declared.layout.TheConstants.{CHUNK_HEAD}
use Rattle.def_memory.specs.declared.Granule.{Granule}
use Rattle.def_memory.specs.Granules.{plain, granule_at}
use Rattle.def_memory.specs.Ranges.{IsMarked}
use Rattle.def_machine.specs.State.{Object}
use Rattle.def_machine.specs.Objects.{live_object, charges, quarantine, placed_among}
use Rattle.def_chunks.specs.declared.heads.TheConstants.{FREE, LIVE, PAINTED, SLOT}
use Rattle.def_chunks.specs.declared.rows.Range.{Range}
use Rattle.def_chunks.specs.declared.rows.Gap.{Gap}
use Rattle.def_chunks.specs.declared.rows.Head.{Head}
use Rattle.def_chunks.specs.Chunks.{Chunk, is_free}
use Rattle.def_chunks.specs.Tiles.{chunks}
use Rattle.def_chunks.specs.Changes.{NoTagComes, NoHead}
use Rattle.def_chunks.specs.Gaps.{FreeLinked, UsedStands}
use Rattle.def_chunks.specs.Heaps.{HeapRow, objects_of, account, begins_used_chunk, quota_named, is_used_at}
use Rattle.ct_chunks.specs.Cuts.{Fitting}
use Rattle.ct_heap.specs.Effects.{Stays, Same}

-- two lists of granules are as long
abbrev pub as_long : List Granule → List Granule → Type 0
as_long hs gs = length hs ≡ length gs

-- the object that a step answers has this number, base and length, and its quota is charged with so much after it
pub record Tells (n : HeapRow) (hs : List Granule)
    (quota number base length told_number told_base told_length live : ℕ) : Type 0 where
  pub number_is : told_number ≡ number
  pub base_is : told_base ≡ base
  pub length_is : told_length ≡ length
  pub live_is : live ≡ charges quota (objects_of n hs)

-- ---- an object is placed

-- an object of this length may be put into the gap and charged to the quota
pub record Placing (h : HeapRow) (gs : List Granule) (quota length : ℕ) (g : Gap) : Type 0 where
  pub linked : FreeLinked h.range gs g.at g.size g.next g.before g.before_size
  pub fitting : Fitting g length
  pub within : (account h quota).charged + length + CHUNK_HEAD ≤ (account h quota).limit

abbrev pub placed_object : HeapRow → ℕ → ℕ → ℕ → Object
placed_object h quota length base = live_object h.next quota base length

pub record Placed (h n : HeapRow) (gs hs : List Granule)
    (quota length base number object_base object_length live : ℕ) : Type 0 where
  pub objects : objects_of n hs ≡ placed_among (placed_object h quota length base) (objects_of h gs)
  pub tells : Tells n hs quota h.next base length number object_base object_length live
  pub next : n.next ≡ h.next + 1
  pub zero : (k : ℕ) → base ≤ h.range.ram + 8 * k → h.range.ram + 8 * k < base + length
      → (granule_at hs k).cap ≡ plain 0
  pub rest : (k : ℕ) → NoHead h.range (chunks n.range hs) k
      → (h.range.ram + 8 * k < base) ⊎ (base + length ≤ h.range.ram + 8 * k)
      → granule_at hs k ≡ granule_at gs k
  pub stays : Stays h.range (objects_of h gs) gs hs
  pub same : Same h n

-- ---- an object is quarantined

-- the object's chunk stands before it and is live, and the table has its quota
pub record Freeing (h : HeapRow) (gs : List Granule) (number base length quota : ℕ) : Type 0 where
  pub stands : UsedStands h.range gs (base - CHUNK_HEAD) (length + CHUNK_HEAD) number
  pub live : stands.stands.chunk.state ≡ LIVE
  pub quota_is : quota ≡ quota_named h.names (base - CHUNK_HEAD - h.range.base)
  pub low : h.range.base + CHUNK_HEAD ≤ base

pub record Freed (h n : HeapRow) (gs hs : List Granule)
    (number base length quota new_number new_base new_length live : ℕ) : Type 0 where
  pub objects : objects_of n hs ≡ quarantine number (objects_of h gs)
  pub tells : Tells n hs quota number base length new_number new_base new_length live
  pub next : n.next ≡ h.next
  pub zero : (k : ℕ) → base ≤ h.range.ram + 8 * k → h.range.ram + 8 * k < base + length
      → (granule_at hs k).cap ≡ plain 0
  pub marks : (k : ℕ) → base ≤ h.range.ram + 8 * k + CHUNK_HEAD
      → h.range.ram + 8 * k < base + length → (granule_at hs k).mark ≡ true
  pub tags : NoTagComes gs hs
  pub rest : (k : ℕ)
      → (h.range.ram + 8 * k + CHUNK_HEAD < base) ⊎ (base + length ≤ h.range.ram + 8 * k)
      → granule_at hs k ≡ granule_at gs k
  pub size : as_long hs gs
  pub same : Same h n

-- ---- painted chunks leave the table

abbrev pub waiting_chunks : List Chunk → ℕ
waiting_chunks [] = 0
waiting_chunks (c ∷ cs) = cond (is_free c || nat_eq c.state LIVE) 0 1 + waiting_chunks cs

-- of which those that aren't painted stay
abbrev pub staying_chunks : List Chunk → ℕ
staying_chunks [] = 0
staying_chunks (c ∷ cs) =
    cond (is_free c || nat_eq c.state LIVE || nat_eq c.state PAINTED) 0 1 + staying_chunks cs

-- the same chunk without its object, where that is painted
abbrev pub let_go : Chunk → Chunk
let_go c = cond (nat_eq c.state PAINTED) (record c { state = FREE; number = 0 }) c

abbrev pub is_painted_in : ℕ → ℕ → List Chunk → Bool
is_painted_in p at [] = false
is_painted_in p at (c ∷ cs) =
    (nat_eq c.state PAINTED && nat_le at p && nat_lt p (at + c.size))
    || is_painted_in p (at + c.size) cs

pub record UnnamesChunk (r : Range) (gs hs : List Granule) (names more : List ℕ) (at one : ℕ)
    (head : Head) : Type 0 where
  pub painted : nat_eq head.state PAINTED ≡ true
      → IsMarked (at - r.ram) (at - r.ram + head.size) false gs hs
      × (more ≡ slice_set names ((at - r.base) / SLOT) 0) × (one ≡ 1)
  pub others : nat_eq head.state PAINTED ≡ false → (hs ≡ gs) × (more ≡ names) × (one ≡ 0)

pub record Unnames (r : Range) (gs hs : List Granule) (names more : List ℕ) (left : ℕ) : Type 0
  where
    pub size : length hs ≡ length gs
    pub caps : (k : ℕ) → (granule_at hs k).cap ≡ (granule_at gs k).cap
    pub marks : (k : ℕ)
        → (granule_at hs k).mark
        ≡ cond (is_painted_in (r.ram + 8 * k) r.base (chunks r gs)) false (granule_at gs k).mark
    pub entries : length more ≡ length names
    pub named : (o : ℕ) → o % 8 ≡ 0
        → begins_used_chunk more o ≡ is_used_at (r.base + o) r.base (map let_go (chunks r gs))
    pub quotas : (o : ℕ) → begins_used_chunk more o ≡ true → quota_named more o ≡ quota_named names o
    pub left_is : left ≡ staying_chunks (chunks r gs)
