-- A heap that is laid over memory, with a revoker beside it.
use Rattle.std.specs.Prelude.{ℕ, ◌+◌, ◌*◌, ◌≡◌, ◌≤◌, ◌<◌, true, false, List, Option, Some, None, length, unwrap_or}
use Rattle.def_memory.specs.declared.Granule.{Granule}
use Rattle.def_memory.specs.Granules.{granule_at}
use Rattle.def_memory.specs.Ranges.{is_tagged}
use Rattle.def_words.specs.Authority.{cap_base}
use Rattle.def_machine.specs.Memory.{is_marked_in}
use Rattle.def_machine.specs.State.{Object}
use Rattle.def_machine.specs.Objects.{Each, InChunk, is_painted_at}
use Rattle.def_chunks.specs.Heaps.{HeapRow, objects_of, Laid}
use Rattle.run_rows.specs.declared.heap.swept.TheConstants.{RAM}

-- each byte of an object's chunk lies in a marked granule
abbrev pub MarkedChunk : ℕ → List Granule → Object → Type 0
MarkedChunk ram gs r = (x : ℕ) → InChunk r x → is_marked_in ram gs x ≡ true

-- what was freed is marked until it leaves, and what is painted was freed
pub record Held (ram : ℕ) (gs : List Granule) (r : Object) : Type 0 where
  pub marked : r.live ≡ false → MarkedChunk ram gs r
  pub freed : r.painted ≡ true → r.live ≡ false

-- behind the front of a sweep that runs no capability has its base in a painted chunk
abbrev pub PassedClean : Option ℕ → List Object → List Granule → Type 0
PassedClean None rs gs = Unit {0}
PassedClean (Some front) rs gs =
    (k : ℕ) → 8 * k < front → is_tagged gs k ≡ true
    → is_painted_at rs (cap_base (granule_at gs k).cap) ≡ false

-- `low` is the heap's offset in RAM, `quotas` how many quotas it has, `made` how many objects were asked for
pub record SweptRow : Type 0 where
  pub heap : HeapRow
  pub granules : List Granule
  pub front : Option ℕ
  pub low : ℕ
  pub quotas : ℕ
  pub made : ℕ

-- the rows of objects
abbrev pub rows : SweptRow → List Object
rows s = objects_of s.heap s.granules

-- what every call keeps, and from which each knows what the heap and the front ask of it
pub record IsSwept (s : SweptRow) : Type 0 where
  pub ram : s.heap.range.ram ≡ RAM
  pub laid : Laid s.heap s.granules
  pub quotas : length s.heap.accounts ≡ s.quotas
  pub made : s.heap.next ≤ s.made + 1
  pub low : s.heap.range.ram + s.low ≡ s.heap.range.base
  pub front : unwrap_or s.front 0 ≤ 8 * length s.granules
  pub held : Each (λ r. Held s.heap.range.ram s.granules r) (rows s)
  pub clean : PassedClean s.front (rows s) s.granules
