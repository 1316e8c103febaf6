-- The engine that an image boots: its memory, its threads before their first step with their
-- areas, and its empty heap.
use Rattle.std.specs.Prelude.{ℕ, ◌+◌, ◌-◌, List, [], ◌∷◌, map}
use Rattle.def_profile.specs.declared.layout.TheConstants.{TRUSTED_HEAD}
use Rattle.def_image.specs.Parts.{ThreadRow, PartsRow}
use Rattle.def_image.specs.Sizes.{sum_of}
use Rattle.def_image.specs.Regions.{area_size}
use Rattle.def_boot.specs.Boot.{boot_state, first_thread, first_threads, image_of}
use Rattle.ct_areas.specs.declared.thread.First.{First}
use Rattle.ct_boot.specs.Starts.{start_of}
use Rattle.ct_areas.specs.declared.thread.Area.{Area}
use Rattle.ct_areas.specs.declared.thread.Fresh.{Fresh}
use Rattle.def_machine.specs.State.{at_rest}
use Rattle.ct_engine.specs.Seen.{EngineRow, region_of}
use Rattle.def_chunks.specs.declared.rows.Range.{Range}
use Rattle.ct_heap.specs.Effects.{range_of}

-- ---- the threads' areas, one after another in the order of the threads

-- the area that begins at an address
abbrev pub area_from : PartsRow → ℕ → ThreadRow → Area
area_from p at t = record {
  ram = p.ram;
  stack = t.stack;
  stack_length = t.stack_length;
  trusted = at;
  trusted_length = area_size t;
}

-- where the first begins
abbrev pub areas_begin : PartsRow → ℕ
areas_begin p = p.trusted + TRUSTED_HEAD

-- where the last ends
abbrev pub areas_end : PartsRow → ℕ
areas_end p = areas_begin p + sum_of area_size p.threads

-- ---- the threads before their first step

-- a thread that starts so, with its area
abbrev pub fresh_by : First → Area → Fresh
fresh_by f a = record { first = f; area = a }

-- the first of these threads has number n, and its area begins at an address
abbrev pub fresh_from : PartsRow → ℕ → ℕ → List ThreadRow → List Fresh
fresh_from p n at [] = []
fresh_from p n at (t ∷ ts) =
    fresh_by (start_of (first_thread p n t)) (area_from p at t)
    ∷ fresh_from p (n + 1) (at + area_size t) ts

abbrev pub fresh_of : PartsRow → List Fresh
fresh_of p = fresh_from p 0 (areas_begin p) p.threads

-- ---- the engine

-- RAM from the heap's begin on
abbrev pub heap_range : PartsRow → Range
heap_range p = range_of p.ram p.heap (p.ram + p.size - p.heap)

-- booted memory, threads before their first step, and an empty heap that has these limits
abbrev pub launched : PartsRow → List ℕ → EngineRow
launched p limits = record {
  state = at_rest (boot_state p).granules (first_threads p 0 p.threads) [] [];
  region = region_of (image_of p);
  areas = map (λ (f : Fresh). f.area) (fresh_of p);
  heap_base = p.heap;
  heap_end = p.ram + p.size;
  limits = limits;
}
