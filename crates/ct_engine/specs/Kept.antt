-- What an engine keeps: where the threads' areas lie, what stands in them, and who stands in its row; that chunks and
-- heap agree; and that there is room for the rows of keys and tokens.
use Rattle.std.specs.Prelude.{ℕ, ◌+◌, ◌*◌, ◌/◌, ◌%◌, ◌≡◌, ◌≤◌, ◌<◌, ◌⊎◌, Bool, true, false, List, [], ◌∷◌, length, map, Option, Some, unwrap_or}
use Rattle.def_memory.specs.declared.Granule.{Granule}
use Rattle.def_memory.specs.Granules.{cap_in}
use Rattle.def_memory.specs.Ranges.{is_tagged}
use Rattle.def_chunks.specs.declared.heads.TheConstants.{SLOT}
use Rattle.def_chunks.specs.Heaps.{HeapRow, Laid}
use Rattle.def_chunks.specs.Hides.{heap_hides}
use Rattle.def_machine.specs.Slices.{is_number}
use Rattle.def_machine.specs.Objects.{Each}
use Rattle.ct_areas.specs.declared.thread.Area.{Area}
use Rattle.ct_areas.specs.declared.thread.Thread as row
use Rattle.ct_threads.specs.Kept.{IsPlain, IsKept}
use Rattle.ct_engine.specs.declared.rows.Region.{Region}
use Rattle.ct_engine.specs.declared.rows.Rows.{Rows}
use Rattle.ct_engine.specs.Seen.{stands}

-- from one address up to another, of RAM from `ram` on, a plain word stands in each granule
abbrev pub ArePlain : ℕ → List Granule → ℕ → ℕ → Type 0
ArePlain ram gs from to =
    (k : ℕ) → from ≤ ram + 8 * k → ram + 8 * k < to → IsPlain (cap_in gs k)

-- Areas stand one after another from one address up to another, of RAM from `ram` on, and plain words between them; the
-- first thread has number n, and `standing` says by number whose registers stand in their rows.
abbrev pub AreasFrom : ℕ → List Granule → List Bool → ℕ → ℕ → ℕ → List row.Thread → Type 0
AreasFrom ram gs standing n from to [] = (from ≤ to) × ArePlain ram gs from to
AreasFrom ram gs standing n from to (t ∷ ts) =
    (from ≤ t.area.trusted) × (t.area.ram ≡ ram) × IsKept gs (stands standing n) t
    × AreasFrom ram gs standing (n + 1) (t.area.trusted + t.area.trusted_length) to ts
    × ArePlain ram gs from t.area.trusted

-- a stack lies in RAM of so many bytes, in multiples of 16, ends before the heap, and doesn't meet the region
pub record StackLies (g : Region) (heap size : ℕ) (a : Area) : Type 0 where
  pub even : a.stack % 16 ≡ 0
  pub whole : a.stack_length % 16 ≡ 0
  pub low : g.ram ≤ a.stack
  pub high : a.stack + a.stack_length ≤ g.ram + size
  pub apart : (a.stack + a.stack_length ≤ g.trusted) ⊎ (g.end ≤ a.stack)
  pub before : a.stack + a.stack_length ≤ heap

-- what the heap hides holds no capability
abbrev pub IsClear : HeapRow → List Granule → Type 0
IsClear h gs = (k : ℕ) → heap_hides h gs k ≡ true → is_tagged gs k ≡ false

-- chunks and heap agree, the heap lies past the region, and a sweep's front in RAM or at its end
pub record HeapHolds (gs : List Granule) (g : Region) (h : HeapRow) (front : Option ℕ) : Type 0 where
  pub laid : Laid h gs
  pub ram : h.range.ram ≡ g.ram
  pub past : g.end ≤ h.range.base
  pub within : unwrap_or front 0 ≤ 8 * length gs
  pub clear : IsClear h gs

-- of all threads the one that runs alone stands in its row
abbrev pub OnlyRunnerStands : List Bool → Option ℕ → Type 0
OnlyRunnerStands standing running = (t : ℕ) → stands standing t ≡ is_number running t

-- All areas lie in the region. What is known of each thread is whether its registers stand in its row: those of the
-- thread that runs do, and where `loose` is false no other's. Stacks lie apart from the region and before the heap, the
-- heap agrees with its chunks, and there is room for a row of each object that it may have.
pub record IsEngine (gs : List Granule) (r : Rows) : Type 0 where
  pub areas : AreasFrom r.region.ram gs r.standing.items 0 r.region.trusted r.region.end
      r.list.items
  pub sizes : length r.standing.items ≡ length r.list.items
  pub runs : (t : ℕ) → r.running ≡ Some t → stands r.standing.items t ≡ true
  pub alone : r.loose ≡ false → (t : ℕ) → stands r.standing.items t ≡ true → r.running ≡ Some t
  pub stacks : Each (StackLies r.region r.heap.range.base (8 * length gs))
      (map (λ (t : row.Thread). t.area) r.list.items)
  pub heap : HeapHolds gs r.region r.heap r.front
  pub room : r.tokens.room ≡ r.heap.range.length / SLOT
