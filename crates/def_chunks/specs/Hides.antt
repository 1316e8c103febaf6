-- The heap outside live objects, as what is hidden.
use Rattle.std.specs.Prelude.{ℕ, ◌+◌, ◌*◌, ◌&&◌, Bool, not, nat_le, nat_lt, List}
use Rattle.def_profile.specs.declared.layout.TheConstants.{GRANULE}
use Rattle.def_memory.specs.declared.Granule.{Granule}
use Rattle.def_machine.specs.State.{Object}
use Rattle.def_hidden.specs.Hidden.{is_live_at}
use Rattle.def_chunks.specs.declared.rows.Range.{Range}
use Rattle.def_chunks.specs.Heaps.{HeapRow, objects_of}

-- a granule of the heap, in no live object, of RAM from `ram` on
abbrev pub hides_heap : ℕ → ℕ → ℕ → List Object → ℕ → Bool
hides_heap ram base end objects k =
    nat_le base (ram + GRANULE * k) && nat_lt (ram + GRANULE * k) end
    && not (is_live_at objects (ram + GRANULE * k))

-- of a heap over memory
abbrev pub heap_hides : HeapRow → List Granule → ℕ → Bool
heap_hides h gs =
    hides_heap h.range.ram h.range.base (h.range.base + h.range.length) (objects_of h gs)
