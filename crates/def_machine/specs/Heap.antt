-- *Heap*: places, allocation, free and the sweep.
use Rattle.std.specs.Prelude.{ℕ, ◌+◌, ◌-◌, ◌*◌, ◌/◌, ◌%◌, ◌≡◌, ◌≤◌, ◌<◌, ◌==◌, ◌&&◌, ◌||◌, Bool, true, cond, nat_le, List, map, length, min, find, Option, Some, None}
use Rattle.std.specs.List.{range_with_len, list_all}
use Rattle.def_profile.specs.declared.layout.TheConstants.{CHUNK_HEAD}
use Rattle.def_profile.specs.declared.rights.TheConstants.{HEAP_RIGHTS}
use Rattle.def_words.specs.declared.Cap.{Cap}
use Rattle.def_words.specs.LeastBounds.{round_length_of, alignment_of}
use Rattle.def_words.specs.Derive.{derive, memory_root}
use Rattle.def_memory.specs.Ranges.{zeroed_from, marked_from}
use Rattle.def_machine.specs.Image.{Image, area_of}
use Rattle.def_machine.specs.State.{State, Object, thread}
use Rattle.def_machine.specs.Memory.{filtered}
use Rattle.def_machine.specs.Registers.{with_registers}
use Rattle.def_machine.specs.Objects.{Each, ApartFrom, live_object, quarantine, placed_among, has_quarantined, painted, unpainted}
use Rattle.def_machine.specs.Slices.{filtered_between, kept_granules, kept_threads, marks_cleared}

-- the length of an object of this size, and what it takes from its quota
abbrev pub length_for : ℕ → ℕ
length_for size = round_length_of ((size + 7) / 8 * 8)

abbrev pub charge_for : ℕ → ℕ
charge_for size = length_for size + CHUNK_HEAD

-- a lawful place: aligned, its chunk in the heap, and meeting no live and no quarantined chunk
pub record Fits (i : Image) (objects : List Object) (length base : ℕ) : Type 0 where
  pub eight : base % 8 ≡ 0
  pub aligned : base % alignment_of length ≡ 0
  pub low : i.heap_base + CHUNK_HEAD ≤ base
  pub high : base + length ≤ i.heap_end
  pub apart : Each (λ q. ApartFrom (live_object 0 0 base length) q) objects

-- the least lawful place
pub record IsPlaceFor (i : Image) (objects : List Object) (length base : ℕ) : Type 0 where
  pub fits : Fits i objects length base
  pub least : (b : ℕ) → b < base → Fits i objects length b → ⊥

-- the same as tests: the chunk of an object of this length at this base meets none of these
abbrev pub is_apart : ℕ → ℕ → Object → Bool
is_apart length base q =
    nat_le (base + length + CHUNK_HEAD) q.base || nat_le (q.base + q.length + CHUNK_HEAD) base

abbrev pub is_place : Image → List Object → ℕ → ℕ → Bool
is_place i objects length base =
    (base % 8 == 0) && (base % alignment_of length == 0) && nat_le (i.heap_base + CHUNK_HEAD) base
    && nat_le (base + length) i.heap_end && list_all (is_apart length base) objects

abbrev pub place_of : Image → List Object → ℕ → Option ℕ
place_of i objects length =
    find (is_place i objects length) (range_with_len i.heap_base (i.heap_end - i.heap_base))

-- a new object of this size at this place, charged to this quota
abbrev pub new_object : State → ℕ → ℕ → ℕ → Object
new_object s quota size base = live_object s.next quota base (length_for size)

-- the capability of an object: its quota's root, its number as source
abbrev pub object_cap : Object → Cap
object_cap r =
    derive memory_root r.base r.length HEAP_RIGHTS r.base 0
    (record { root = r.quota; source = r.number })

abbrev pub with_object : State → Object → State
with_object s r = record s { objects = placed_among r s.objects; next = s.next + 1 }

-- ---- free

-- the object is zeroed, its chunk marked, and it is quarantined
abbrev pub quarantined : Image → State → Object → State
quarantined i s r = record s {
  granules =
      marked_from (r.base - CHUNK_HEAD) (r.base + r.length) true i.ram
      (zeroed_from r.base (r.base + r.length) i.ram s.granules);
  objects = quarantine r.number s.objects;
}

-- and the running thread's registers pass the load filter
abbrev pub freed : Image → State → ℕ → Object → State
freed i s t r =
    with_registers (quarantined i s r) t
    (map (filtered i (quarantined i s r)) (thread s t).registers)

-- ---- the sweep, a slice at a time

-- what stands at an offset, where the slice from one offset to another has it
abbrev pub sliced : Image → State → ℕ → ℕ → ℕ → Cap → Cap
sliced i s = filtered_between i.ram s.granules

-- the offset at which a thread's area begins
abbrev pub area_offset : Image → ℕ → ℕ
area_offset i t = area_of i t - i.ram

abbrev pub with_slice : Image → State → ℕ → ℕ → State
with_slice i s low high = record s {
  granules = kept_granules (sliced i s low high) 0 s.granules;
  threads = kept_threads (sliced i s low high) (area_offset i) s.running 0 s.threads;
  front = Some high;
}

-- where none runs and something is quarantined, a sweep begins
abbrev pub begun_sweep : State → State
begun_sweep s =
    cond (has_quarantined s.objects) (record s { objects = painted s.objects; front = Some 0 }) s

abbrev pub sweep_began : State → Option ℕ → State
sweep_began s None = begun_sweep s
sweep_began s (Some front) = s

-- the painted leave, and their marks are cleared
abbrev pub sweep_over : Image → State → State
sweep_over i s =
    record s {
      granules = marks_cleared s.objects i.ram s.granules;
      objects = unpainted s.objects;
      front = None;
    }

abbrev pub ram_size : State → ℕ
ram_size s = 8 * length s.granules

abbrev pub ended_sweep : Image → State → ℕ → State
ended_sweep i s front = cond (nat_le (ram_size s) front) (sweep_over i s) s

abbrev pub slice_end : Image → State → ℕ → ℕ
slice_end i s front = min (front + 8 * i.sweep) (ram_size s)

abbrev pub sweep_on : Image → State → Option ℕ → State
sweep_on i s None = s
sweep_on i s (Some front) =
    ended_sweep i (with_slice i s front (slice_end i s front)) (slice_end i s front)

-- one Sweep event
abbrev pub swept : Image → State → State
swept i s = sweep_on i (sweep_began s s.front) (sweep_began s s.front).front
