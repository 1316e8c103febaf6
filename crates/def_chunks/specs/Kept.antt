-- Changes of memory that a heap doesn't notice, and how its objects stand.
use Rattle.std.specs.Prelude.{ℕ, ◌+◌, ◌%◌, ◌≡◌, ◌≤◌, ◌⊎◌, false, List, [], ◌∷◌, length}
use Rattle.def_profile.specs.declared.layout.TheConstants.{CHUNK_HEAD}
use Rattle.def_memory.specs.declared.Granule.{Granule}
use Rattle.def_memory.specs.Granules.{granule_at}
use Rattle.def_memory.specs.Ranges.{is_tagged}
use Rattle.def_machine.specs.State.{Object}
use Rattle.def_machine.specs.Objects.{Each}
use Rattle.def_chunks.specs.declared.rows.Range.{Range}
use Rattle.def_chunks.specs.Chunks.{Starts}
use Rattle.def_chunks.specs.Tiles.{chunks}
use Rattle.def_chunks.specs.Heaps.{HeapRow, objects_of, Laid}

-- an address at which a chunk's head stands
abbrev pub IsHead : Range → List Granule → ℕ → Type 0
IsHead r gs p = Starts p r.base (chunks r gs)

-- no head lies between two offsets in RAM
abbrev pub MissesHeads : Range → List Granule → ℕ → ℕ → Type 0
MissesHeads r gs from to = (p : ℕ) → IsHead r gs p → (p + 8 ≤ r.ram + from) ⊎ (r.ram + to ≤ p)

-- the heap is laid as before, and stands for the same objects
pub record KeepsHeap (h : HeapRow) (gs hs : List Granule) : Type 0 where
  pub laid : Laid h hs
  pub objects : objects_of h hs ≡ objects_of h gs

-- what was untagged is as it was
pub record KeepsUntagged (gs hs : List Granule) : Type 0 where
  pub size : length hs ≡ length gs
  pub same : (k : ℕ) → is_tagged gs k ≡ false → (granule_at hs k).cap ≡ (granule_at gs k).cap

-- an object at whole granules of the heap, behind a head
pub record StandsIn (r : Range) (o : Object) : Type 0 where
  pub whole : o.base % 8 ≡ 0
  pub low : r.base + CHUNK_HEAD ≤ o.base
  pub high : o.base + o.length ≤ r.base + r.length

-- one after another: the chunk of each ends where that of the next one begins, or before
abbrev pub InOrder : List Object → Type 0
InOrder [] = Unit {0}
InOrder (o ∷ os) = Each (λ q. o.base + o.length + CHUNK_HEAD ≤ q.base) os × InOrder os
