-- Objects by their bounds.
use Rattle.std.specs.Prelude.{ℕ, ◌+◌, ◌-◌, ◌%◌, ◌==◌, ◌&&◌, Bool, nat_le, nat_lt, List, Option, Some, None, find, if◌then◌else◌}
use Rattle.def_profile.specs.declared.layout.TheConstants.{CHUNK_HEAD}
use Rattle.def_machine.specs.State.{Object}
use Rattle.def_machine.specs.Objects.{charges}
use Rattle.def_chunks.specs.Heaps.{HeapRow}
use Rattle.ct_heap.specs.declared.rows.Found.{Found}
use Rattle.ct_heap.specs.Told.{object_row, found}
use Rattle.ct_heap.specs.Table.{owner_at}

-- a live object from base to top
abbrev pub spans : ℕ → ℕ → Object → Bool
spans base top r = r.live && (r.base == base) && (r.base + r.length == top)

abbrev pub whole_at : ℕ → ℕ → List Object → Option Object
whole_at base top rs = find (spans base top) rs

-- one that is charged to this quota
abbrev pub spans_of : ℕ → ℕ → ℕ → Object → Bool
spans_of quota base top r =
    r.live && (r.quota == quota) && (r.base == base) && (r.base + r.length == top)

abbrev pub whole_of : ℕ → ℕ → ℕ → List Object → Option Object
whole_of quota base top rs = find (spans_of quota base top) rs

-- how it is told
abbrev pub found_as : List Object → Option Object → Option Found
found_as rs None = None
found_as rs (Some r) = Some (found (object_row r.number r.base r.length (charges r.quota rs)) r.quota)

-- an address at which an object may begin: a granule of the heap, behind a head
abbrev pub may_begin : HeapRow → ℕ → Bool
may_begin h base =
    (base % 8 == 0) && nat_le CHUNK_HEAD base && nat_le h.range.base (base - CHUNK_HEAD)
    && nat_lt (base - CHUNK_HEAD - h.range.base) h.range.length

-- the quota of the object that begins at an address, by the table
abbrev pub owner_of : HeapRow → ℕ → Option ℕ
owner_of h base =
    if may_begin h base then owner_at h.names (base - CHUNK_HEAD - h.range.base) else None
