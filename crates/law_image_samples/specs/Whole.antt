-- An image with a slot of each kind, and every number as wide as it may be.
use Rattle.std.specs.Prelude.{ℕ, true, false, List, [], ◌∷◌, codes, replicate, unwrap_or, slice_get, slice_set}
use Rattle.ct_entry.specs.declared.rows.Mode.TheVariants.{Disabled, Enabled}
use Rattle.ct_entry.specs.declared.hardware.DeviceKind.TheVariants.{Timer, Gpio}
use Rattle.def_image.specs.declared.ImportRow.{ImportRow}
use Rattle.def_image.specs.declared.SlotKind.TheVariants as slot
use Rattle.def_image.specs.Parts.{PartsRow, CompartmentRow, CodeRow, SlotRow, GateRow, SharedRow, SealedRow}
use Rattle.law_image_samples.specs.Tiny.{slot_of, the_switch}

abbrev pub no_slot : SlotRow
no_slot = slot_of slot.Key 0 0 0 []

abbrev pub all_slots : List SlotRow
all_slots =
    the_switch ∷ slot_of slot.Device 51 1 0 (codes "pins") ∷ slot_of slot.Shared 59 0 0 (codes "ring")
    ∷ slot_of slot.Sealed 51 0 0 (codes "box") ∷ slot_of slot.Call 50 0 0 (codes "own")
    ∷ slot_of slot.Library 43 0 0 (codes "lib") ∷ slot_of slot.Quota 50 2147483647 0 (codes "q")
    ∷ slot_of slot.Key 35 13 0 (codes "key13") ∷ slot_of slot.Key 35 14 0 (codes "key14")
    ∷ slot_of slot.Key 35 15 0 (codes "key15") ∷ []

abbrev pub all : CompartmentRow
all = record {
  code = record {
    name = codes "a234567890b234567890c234567890_2";
    base = 0xff7ffff0;
    length = 96;
    slots = all_slots;
    exports = record {
      row = record {
        offset = 4;
        stack = 32752;
        args = 6;
        posture = Disabled;
        capabilities = false;
        entry = 13;
      };
      name = codes "handler";
    } ∷ [];
    text = replicate 8 255;
  };
  table = 0xff800050;
  globals = 0xff801000;
  globals_length = 1048576;
  initial = 1 ∷ 2 ∷ 3 ∷ 4 ∷ 5 ∷ [];
}

abbrev pub label_of : ℕ → GateRow
label_of n = record {
  row = record {
    offset = 0;
    stack = 0;
    args = 0;
    posture = Enabled;
    capabilities = true;
    entry = n;
  };
  name = codes "f";
}

abbrev pub lib_slot : SlotRow
lib_slot = slot_of slot.Library 43 1 0 (codes "two")

abbrev pub one : CodeRow
one = record {
  name = codes "one";
  base = 0xff901000;
  length = 16;
  slots = lib_slot ∷ [];
  exports = label_of 16 ∷ [];
  text = replicate 4 0;
}

abbrev pub two : CodeRow
two = record {
  name = codes "two";
  base = 0xff901010;
  length = 16;
  slots = [];
  exports = label_of 18 ∷ [];
  text = replicate 4 0;
}

abbrev pub whole : PartsRow
whole = record {
  version = 1;
  sweep = 64;
  quantum = 1000000;
  ram = 0xff7ffff0;
  size = 8388608;
  trusted = 0xffa0a080;
  heap = 0xffa0b930;
  name = codes "w";
  devices = record { name = codes "time"; kind = Timer; base = 0xfffffff0 }
      ∷ record { name = codes "pins"; kind = Gpio; base = 0 } ∷ [];
  shared = record { name = codes "ring"; base = 0xff902000; length = 1048576 } ∷ [];
  sealed = record { name = codes "box"; base = 0xffa02000; length = 16; seal = 15; bytes = 9 ∷ 8 ∷ 7 ∷ 6 ∷ 5 ∷ [] } ∷ [];
  compartments = all ∷ [];
  libraries = one ∷ two ∷ [];
  threads = record {
    name = codes "t";
    stack = 0xffa02080;
    stack_length = 32768;
    compartment = 0;
    export = 0;
    priority = 15;
    frames = 96;
  } ∷ [];
}

-- ---- what alters it

abbrev pub whole_slots : List SlotRow → PartsRow
whole_slots slots =
    record whole { compartments = record all { code = record all.code { slots = slots } } ∷ [] }

-- slot j has another row
abbrev pub with_row : ℕ → ImportRow → PartsRow
with_row j row =
    whole_slots
    (slice_set all_slots j (record (unwrap_or (slice_get all_slots j) no_slot) { row = row }))

-- the first library's slot has another row
abbrev pub with_lib : ImportRow → PartsRow
with_lib row =
    record whole {
      libraries = record one { slots = record lib_slot { row = row } ∷ [] } ∷ two ∷ [];
    }

abbrev pub with_shared : SharedRow → PartsRow
with_shared s = record whole { shared = s ∷ [] }

abbrev pub with_sealed : SealedRow → PartsRow
with_sealed s = record whole { sealed = s ∷ [] }
