-- The smallest firmware's image, and what alters it.
use Rattle.std.specs.Prelude.{ℕ, true, List, [], ◌∷◌, codes, slice_set, unwrap_or, slice_get}
use Rattle.ct_entry.specs.Listed.{DeviceRow}
use Rattle.ct_entry.specs.declared.rows.Mode.TheVariants.{Enabled}
use Rattle.ct_entry.specs.declared.hardware.DeviceKind.TheVariants.{Uart}
use Rattle.def_image.specs.declared.ImportRow.{ImportRow}
use Rattle.def_image.specs.declared.ExportRow.{ExportRow}
use Rattle.def_image.specs.declared.SlotKind.{SlotKind}
use Rattle.def_image.specs.declared.SlotKind.TheVariants as slot
use Rattle.def_image.specs.Parts.{SlotRow, GateRow, CodeRow, CompartmentRow, ThreadRow, PartsRow}
use Rattle.def_image.specs.Raw.{RawImage, RawCompartment}
use Rattle.def_image.specs.Spelling.{raw_of, raw_compartment}
use Rattle.def_image.specs.declared.RawEntry.{RawEntry}
use Rattle.def_words.specs.declared.Cap.{Cap}

abbrev pub slot_of : SlotKind → ℕ → ℕ → ℕ → List ℕ → SlotRow
slot_of kind rights first second name = record {
  row = record { kind = kind; rights = rights; first = first; second = second };
  name = name;
}

-- cimport ct0, uart; li a0, 65; csw a0, 0(ct0); cret
abbrev pub tiny_text : List ℕ
tiny_text =
    0x97 ∷ 0x02 ∷ 0x00 ∷ 0x00 ∷ 0x83 ∷ 0xb2 ∷ 0x82 ∷ 0xff ∷ 0x13 ∷ 0x05 ∷ 0x10 ∷ 0x04
    ∷ 0x23 ∷ 0xa0 ∷ 0xa2 ∷ 0x00 ∷ 0x67 ∷ 0x80 ∷ 0x00 ∷ 0x00 ∷ []

abbrev pub the_switch : SlotRow
the_switch = slot_of slot.Service 40 0 0 (codes "switch")

abbrev pub the_uart : SlotRow
the_uart = slot_of slot.Device 49 0 0 (codes "uart")

abbrev pub the_main : GateRow
the_main = record {
  row = record {
    offset = 0;
    stack = 0;
    args = 6;
    posture = Enabled;
    capabilities = true;
    entry = 5;
  };
  name = codes "main";
}

abbrev pub app_code : CodeRow
app_code = record {
  name = codes "app";
  base = 0x80000000;
  length = 48;
  slots = the_switch ∷ the_uart ∷ [];
  exports = the_main ∷ [];
  text = tiny_text;
}

abbrev pub app : CompartmentRow
app = record {
  code = app_code;
  table = 0x80000030;
  globals = 0x80000050;
  globals_length = 16;
  initial = [];
}

abbrev pub the_thread : ThreadRow
the_thread = record {
  name = codes "t";
  stack = 0x80000060;
  stack_length = 256;
  compartment = 0;
  export = 0;
  priority = 1;
  frames = 2;
}

abbrev pub uart0 : DeviceRow
uart0 = record { name = codes "uart0"; kind = Uart; base = 0x10000000 }

abbrev pub tiny : PartsRow
tiny = record {
  version = 1;
  sweep = 64;
  quantum = 100;
  ram = 0x80000000;
  size = 4096;
  trusted = 0x80000160;
  heap = 0x80000290;
  name = codes "tiny";
  devices = uart0 ∷ [];
  shared = [];
  sealed = [];
  compartments = app ∷ [];
  libraries = [];
  threads = the_thread ∷ [];
}

-- ---- what alters it

abbrev pub with_app : CompartmentRow → PartsRow
with_app c = record tiny { compartments = c ∷ [] }

abbrev pub with_slots : List SlotRow → PartsRow
with_slots slots = with_app (record app { code = record app_code { slots = slots } })

abbrev pub with_switch : ImportRow → PartsRow
with_switch row = with_slots (record the_switch { row = row } ∷ the_uart ∷ [])

abbrev pub with_uart : ImportRow → PartsRow
with_uart row = with_slots (the_switch ∷ record the_uart { row = row } ∷ [])

abbrev pub with_main : ExportRow → PartsRow
with_main row =
    with_app (record app {
      code = record app_code { exports = record the_main { row = row } ∷ [] };
    })

abbrev pub with_thread : ThreadRow → PartsRow
with_thread t = record tiny { threads = t ∷ [] }

-- ---- its fields, altered byte by byte

abbrev pub raw_tiny : RawImage
raw_tiny = raw_of tiny

abbrev pub raw_app : RawCompartment
raw_app = raw_compartment app

abbrev pub nothing : RawEntry
nothing = record { row = []; name = [] }

abbrev pub with_byte : ℕ → ℕ → RawEntry → RawEntry
with_byte k b e = record e { row = slice_set e.row k b }

abbrev pub member : List RawEntry → ℕ → RawEntry
member entries j = unwrap_or (slice_get entries j) nothing

abbrev pub raw_with : RawCompartment → RawImage
raw_with c = record raw_tiny { compartments = c ∷ [] }

-- byte k of slot j's row, or of export j's, is b
abbrev pub slot_byte : ℕ → ℕ → ℕ → RawImage
slot_byte j k b = raw_with (record raw_app {
  code =
      record raw_app.code {
        slots = slice_set raw_app.code.slots j (with_byte k b (member raw_app.code.slots j));
      };
})

abbrev pub export_byte : ℕ → ℕ → ℕ → RawImage
export_byte j k b = raw_with (record raw_app {
  code =
      record raw_app.code {
        exports = slice_set raw_app.code.exports j (with_byte k b (member raw_app.code.exports j));
      };
})

-- slot j has these bytes as its name's field
abbrev pub slot_named : ℕ → List ℕ → RawImage
slot_named j field = raw_with (record raw_app {
  code =
      record raw_app.code {
        slots =
            slice_set raw_app.code.slots j (record (member raw_app.code.slots j) { name = field });
      };
})

-- a tagged capability of this entry, by its word
abbrev pub of_entry : ℕ → ℕ → Cap
of_entry n word = record { tag = true; word = word; shadow = record { root = n; source = 0 } }
