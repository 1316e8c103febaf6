-- A slice of the revoker over all that is seen: it begins a sweep, passes granules, and ends a sweep.
use Rattle.std.specs.Prelude.{ℕ, ◌+◌, ◌-◌, ◌*◌, ◌≡◌, ◌≤◌, cond, nat_le, List, length, min, Option, Some, None}
use Rattle.def_words.specs.declared.Cap.{Cap}
use Rattle.def_memory.specs.Granules.{cap_in}
use Rattle.def_machine.specs.State.{Object}
use Rattle.def_machine.specs.Objects.{Each, has_quarantined, painted, unpainted}
use Rattle.def_machine.specs.Slices.{filtered_between, kept_granules, kept_threads, marks_cleared}
use Rattle.def_confined.specs.Stale.{NotStale, SavedClean, StoppedClean}
use Rattle.ct_engine.specs.Seen.{EngineRow, thread, area_at}

-- ---- a slice

-- what stands at an offset of RAM passes the load filter where the slice has that offset
abbrev pub passes : EngineRow → ℕ → ℕ → ℕ → Cap → Cap
passes s low high = filtered_between s.region.ram s.state.granules low high

-- what a thread saved stands at the offset of its granule in the thread's area
abbrev pub area_offset : EngineRow → ℕ → ℕ
area_offset s t = (area_at s t).trusted - s.region.ram

abbrev pub sliced : EngineRow → ℕ → ℕ → EngineRow
sliced s low high = record s {
  state = record s.state {
    granules = kept_granules (passes s low high) 0 s.state.granules;
    threads = kept_threads (passes s low high) (area_offset s) s.state.running 0 s.state.threads;
  };
}

-- ---- capabilities of painted objects

-- None is left in memory that is seen, in a frame, or in a thread that doesn't run.
pub record NoneLeft (objects : List Object) (s : EngineRow) : Type 0 where
  pub granules : (k : ℕ) → NotStale objects (cap_in s.state.granules k)
  pub frames : (t : ℕ) → Each (SavedClean objects) (thread s t).frames
  pub stopped : (t : ℕ) → (s.state.running ≡ Some t → ⊥) → StoppedClean objects (thread s t)

-- ---- a sweep

abbrev pub size_of : EngineRow → ℕ
size_of s = 8 * length s.state.granules

-- where none runs and something is quarantined, a sweep begins: the quarantined are painted
abbrev pub begun : EngineRow → EngineRow
begun s =
    cond (has_quarantined s.state.objects)
    (record s {
      state = record s.state {
        objects = painted s.state.objects;
        front = Some 0;
      };
    })
    s

abbrev pub began : EngineRow → Option ℕ → EngineRow
began s None = begun s
began s (Some front) = s

-- from one offset to another everything passes the load filter
abbrev pub with_slice : EngineRow → ℕ → ℕ → EngineRow
with_slice s low high = record (sliced s low high) {
  state = record (sliced s low high).state { front = Some high };
}

-- the painted leave, and their marks are cleared
abbrev pub over : EngineRow → EngineRow
over s = record s {
  state = record s.state {
    granules = marks_cleared s.state.objects s.region.ram s.state.granules;
    objects = unpainted s.state.objects;
    front = None;
  };
}

abbrev pub ended : EngineRow → ℕ → EngineRow
ended s front = cond (nat_le (size_of s) front) (over s) s

abbrev pub slice_end : EngineRow → ℕ → ℕ → ℕ
slice_end s rate front = min (front + 8 * rate) (size_of s)

abbrev pub passed_on : EngineRow → ℕ → Option ℕ → EngineRow
passed_on s rate None = s
passed_on s rate (Some front) =
    ended (with_slice s front (slice_end s rate front)) (slice_end s rate front)

abbrev pub swept_by : EngineRow → ℕ → EngineRow
swept_by s rate = passed_on (began s s.state.front) rate (began s s.state.front).state.front

-- where such a slice ends the sweep, no capability of a painted object is left
abbrev pub EndsClean : EngineRow → ℕ → Type 0
EndsClean s rate =
    (front : ℕ) → (began s s.state.front).state.front ≡ Some front
    → size_of s ≤ slice_end s rate front
    → NoneLeft (began s s.state.front).state.objects
    (with_slice (began s s.state.front) front (slice_end s rate front))
