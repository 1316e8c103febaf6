-- The parts that fields stand for, where their limits and forms hold.
use Rattle.std.specs.Prelude.{ℕ, ◌==◌, List, map, if◌then◌else◌}
use Rattle.std.specs.List.{flat_map}
use Rattle.std.specs.Char.{encode_utf8}
use Rattle.ct_entry.specs.Listed.{DeviceRow}
use Rattle.ct_entry.specs.DeviceKinds.{device_kind_of}
use Rattle.ct_entry.specs.declared.rows.Mode.{Mode}
use Rattle.ct_entry.specs.declared.rows.Mode.TheVariants.{Inherit, Disabled, Enabled}
use Rattle.def_image.specs.declared.ImportRow.{ImportRow}
use Rattle.def_image.specs.declared.ExportRow.{ExportRow}
use Rattle.def_image.specs.declared.RawEntry.{RawEntry}
use Rattle.def_image.specs.declared.SlotKind.{SlotKind}
use Rattle.def_image.specs.declared.SlotKind.TheVariants.{Service, Device, Shared, Sealed, Call, Library, Quota, Key}
use Rattle.def_image.specs.Raw.{RawDevice, RawShared, RawSealed, RawCode, RawCompartment, RawThread, RawImage}
use Rattle.def_image.specs.Parts.{SlotRow, GateRow, SharedRow, SealedRow, CodeRow, CompartmentRow, ThreadRow, PartsRow}
use Rattle.def_image.specs.Limits.{name_in_field, byte_in, number_field}

-- a name as a text
abbrev pub text_of : List ℕ → List ℕ
text_of field = flat_map encode_utf8 (name_in_field field)

-- ---- choices, by their bytes

abbrev pub kind_of : ℕ → SlotKind
kind_of n =
    if n == 1 then Service else if n == 2 then Device else if n == 3 then Shared
    else if n == 4 then Sealed
    else if n == 5 then Call else if n == 6 then Library else if n == 7 then Quota else Key

abbrev pub posture_of : ℕ → Mode
posture_of n = if n == 1 then Inherit else if n == 2 then Disabled else Enabled

-- ---- rows

abbrev pub import_of : List ℕ → ImportRow
import_of row = record {
  kind = kind_of (byte_in row 0);
  rights = byte_in row 1;
  first = number_field row 4;
  second = number_field row 8;
}

abbrev pub export_of : List ℕ → ExportRow
export_of row = record {
  offset = number_field row 0;
  stack = number_field row 4;
  args = byte_in row 8;
  posture = posture_of (byte_in row 9);
  capabilities = byte_in row 10 == 1;
  entry = number_field row 12;
}

abbrev pub slot_of : RawEntry → SlotRow
slot_of e = record { row = import_of e.row; name = text_of e.name }

abbrev pub gate_of : RawEntry → GateRow
gate_of e = record { row = export_of e.row; name = text_of e.name }

-- ---- parts

abbrev pub device_of : RawDevice → DeviceRow
device_of d = record { name = text_of d.name; kind = device_kind_of d.kind; base = d.base }

abbrev pub shared_of : RawShared → SharedRow
shared_of s = record { name = text_of s.name; base = s.base; length = s.length }

abbrev pub sealed_of : RawSealed → SealedRow
sealed_of s = record {
  name = text_of s.name;
  base = s.base;
  length = s.length;
  seal = s.seal;
  bytes = s.bytes;
}

abbrev pub code_of : RawCode → CodeRow
code_of c = record {
  name = text_of c.name;
  base = c.base;
  length = c.length;
  slots = map slot_of c.slots;
  exports = map gate_of c.exports;
  text = c.text;
}

abbrev pub compartment_of : RawCompartment → CompartmentRow
compartment_of c = record {
  code = code_of c.code;
  table = c.table;
  globals = c.globals;
  globals_length = c.globals_length;
  initial = c.initial;
}

abbrev pub thread_of : RawThread → ThreadRow
thread_of t = record {
  name = text_of t.name;
  stack = t.stack;
  stack_length = t.stack_length;
  compartment = t.compartment;
  export = t.export;
  priority = t.priority;
  frames = t.frames;
}

unfoldable pub parts_of : RawImage → PartsRow
parts_of r = record {
  version = r.version;
  sweep = r.sweep;
  quantum = r.quantum;
  ram = r.ram;
  size = r.size;
  trusted = r.trusted;
  heap = r.heap;
  name = text_of r.name;
  devices = map device_of r.devices;
  shared = map shared_of r.shared;
  sealed = map sealed_of r.sealed;
  compartments = map compartment_of r.compartments;
  libraries = map code_of r.libraries;
  threads = map thread_of r.threads;
}
