-- Small heaps, and a state whose sweep is computed.
use Rattle.def_profile.specs.declared.rights.TheConstants.{QUOTA_RIGHTS}
use Rattle.std.specs.Prelude.{ℕ, true, false, List, [], ◌∷◌}
use Rattle.ct_entry.specs.declared.rows.Owner.TheVariants.{Compartment}
use Rattle.ct_entry.specs.declared.rows.Kind.TheVariants.{Quota}
use Rattle.def_memory.specs.declared.Granule.{Granule}
use Rattle.def_memory.specs.Granules.{plain}
use Rattle.def_machine.specs.Image.{Image}
use Rattle.def_machine.specs.State.{State, Object, at_rest}
use Rattle.def_machine.specs.Objects.{live_object}
use Rattle.def_machine.specs.Heap.{object_cap}

-- a heap, with one quota of so much, which is entry 1
abbrev pub heap_of : ℕ → ℕ → ℕ → ℕ → ℕ → Image
heap_of ram base end limit rate = record {
  entries = record {
    rows =
        record {
          owner = Compartment 0;
          kind = Quota;
          base = 0;
          length = 8;
          rights = QUOTA_RIGHTS;
          of = 0;
          limit = limit;
        }
        ∷ [];
    gates = [];
  };
  made = [];
  ram = ram;
  regions = [];
  boot = [];
  codes = [];
  globals = [];
  handlers = [];
  stacks = [];
  frames = [];
  priorities = [];
  trusted = ram;
  sweep = rate;
  heap_base = base;
  heap_end = end;
}

abbrev pub board_heap : Image
board_heap = heap_of 0x80000000 0x80000550 0x80001000 64 64

abbrev pub small_heap : Image
small_heap = heap_of 0x80000000 0x80000000 0x80000040 200 64

-- no thread, RAM of these granules, and these objects
abbrev pub state_of : List Granule → List Object → ℕ → State
state_of granules objects next =
    record (at_rest granules [] [] []) { objects = objects; next = next }

abbrev pub holding : List Object → ℕ → State
holding objects next = state_of [] objects next

-- an object of the quota: live, quarantined, painted
abbrev pub object : ℕ → ℕ → ℕ → Object
object number base length = live_object number 1 base length

abbrev pub freed_object : ℕ → ℕ → ℕ → Object
freed_object number base length = record (object number base length) { live = false }

abbrev pub painted_object : ℕ → ℕ → ℕ → Object
painted_object number base length = record (freed_object number base length) { painted = true }

-- three granules, of which the first two are a freed chunk and the third has a capability of its object
abbrev pub sliced : Image
sliced = heap_of 0 0 24 64 1

abbrev pub before : State
before = state_of
    (record { cap = plain 0; mark = true } ∷ record { cap = plain 0; mark = true }
    ∷ record { cap = object_cap (object 1 8 8); mark = false } ∷ [])
    (freed_object 1 8 8 ∷ []) 2
