-- Threads and an empty heap before the first step.
use Rattle.std.specs.Prelude.{ℕ, ◌+◌, ◌*◌, ◌≡◌, ◌≤◌, ◌<◌, true, List, [], ◌∷◌, length, map}
use Rattle.def_memory.specs.declared.Granule.{Granule}
use Rattle.def_memory.specs.Granules.{plain, cap_in}
use Rattle.def_machine.specs.Objects.{Each}
use Rattle.def_machine.specs.State.{at_rest}
use Rattle.def_chunks.specs.Heaps.{HeapRow}
use Rattle.ct_heap.specs.Effects.{Empty}
use Rattle.def_hidden.specs.Hiding.{with_hidden}
use Rattle.ct_areas.specs.declared.thread.Thread as row
use Rattle.ct_areas.specs.declared.thread.Fresh.{Fresh}
use Rattle.ct_threads.specs.Starts.{IsFresh}
use Rattle.ct_areas.specs.Starts.{first_of}
use Rattle.ct_engine.specs.declared.rows.Region.{Region}
use Rattle.ct_engine.specs.Seen.{EngineRow, region_hides, limits_in, threads_of}
use Rattle.ct_engine.specs.Kept.{AreasFrom, StackLies}

-- their areas stand one after another from one address up to another, of RAM from `ram` on
abbrev pub AreFresh : ℕ → ℕ → ℕ → ℕ → List Fresh → Type 0
AreFresh ram size from to [] = from ≤ to
AreFresh ram size from to (f ∷ fs) =
    (from ≤ f.area.trusted) × (f.area.ram ≡ ram) × IsFresh size f
    × AreFresh ram size (f.area.trusted + f.area.trusted_length) to fs

-- They have begun, stopped, none of which stands in its row, in memory that was otherwise: outside the region it is as
-- it was.
pub record HaveBegun (g : Region) (was gs : List Granule) (ts : List row.Thread) (fs : List Fresh) : Type 0 where
  pub size : length gs ≡ length was
  pub memory : with_hidden (region_hides g) gs ≡ with_hidden (region_hides g) was
  pub threads : threads_of gs [] 0 ts ≡ map (λ f. first_of f) fs
  pub places : map (λ (t : row.Thread). t.area) ts ≡ map (λ (f : Fresh). f.area) fs
  pub areas : AreasFrom g.ram gs [] 0 g.trusted g.end ts

-- an empty heap that may lie in this memory
pub record MayHold (gs : List Granule) (g : Region) (h : HeapRow) : Type 0 where
  pub empty : Empty h
  pub ram : h.range.ram ≡ g.ram
  pub past : g.end ≤ h.range.base
  pub inside : h.range.base + h.range.length ≤ g.ram + 8 * length gs
  pub clear : (k : ℕ) → h.range.base ≤ g.ram + 8 * k
      → g.ram + 8 * k < h.range.base + h.range.length → cap_in gs k ≡ plain 0

-- Memory in which threads may start and an empty heap may lie: their areas stand in a region that reads as zero, their
-- stacks lie apart from it and end before the heap, and the heap lies past the region, where memory reads as zero.
pub record MayStart (gs : List Granule) (g : Region) (fs : List Fresh) (h : HeapRow) : Type 0 where
  pub areas : AreFresh g.ram (8 * length gs) g.trusted g.end fs
  pub stacks : Each (StackLies g h.range.base (8 * length gs)) (map (λ (f : Fresh). f.area) fs)
  pub clear : (k : ℕ) → region_hides g k ≡ true → cap_in gs k ≡ plain 0
  pub heap : MayHold gs g h

abbrev pub started : List Granule → Region → List Fresh → HeapRow → EngineRow
started gs g fs h = record {
  state = at_rest gs (map (λ f. first_of f) fs) [] [];
  region = g;
  areas = map (λ (f : Fresh). f.area) fs;
  heap_base = h.range.base;
  heap_end = h.range.base + h.range.length;
  limits = limits_in h.accounts;
}
