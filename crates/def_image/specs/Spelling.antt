-- *Image*, its spelling: the parts one after another. Numbers are 32 bits, the low byte first.
use Rattle.std.specs.Prelude.{ℕ, ◌-◌, ◌%◌, ◌==◌, List, [], ◌∷◌, ◌++◌, length, map, replicate, if◌then◌else◌, Bool}
use Rattle.std.specs.List.{flat_map}
use Rattle.std.specs.Int.{w32, to_le_bytes}
use Rattle.ct_entry.specs.Listed.{DeviceRow}
use Rattle.ct_entry.specs.DeviceKinds.{device_number}
use Rattle.ct_entry.specs.declared.rows.Mode.{Mode}
use Rattle.ct_entry.specs.declared.rows.Mode.TheVariants.{Inherit, Disabled, Enabled}
use Rattle.def_image.specs.declared.ImportRow.{ImportRow}
use Rattle.def_image.specs.declared.ExportRow.{ExportRow}
use Rattle.def_image.specs.declared.SlotKind.{SlotKind}
use Rattle.def_image.specs.declared.SlotKind.TheVariants.{Service, Device, Shared, Sealed, Call, Library, Quota, Key}
use Rattle.def_image.specs.Parts.{SlotRow, GateRow, SharedRow, SealedRow, CodeRow, CompartmentRow, ThreadRow, PartsRow}
use Rattle.def_image.specs.declared.RawEntry.{RawEntry}
use Rattle.def_image.specs.declared.format.TheConstants.{NAME}
use Rattle.def_image.specs.Raw.{RawDevice, RawShared, RawSealed, RawCode, RawCompartment, RawThread, RawImage}

-- ---- the fields of an image, in order

abbrev pub number : ℕ → List ℕ
number n = to_le_bytes w32 n

abbrev pub count : {A : Type 0} → List A → List ℕ
count xs = number (length xs)

abbrev pub entry_spelled : RawEntry → List ℕ
entry_spelled r = r.row ++ r.name

abbrev pub device_spelled : RawDevice → List ℕ
device_spelled d = d.name ++ number d.kind ++ number d.base

abbrev pub shared_spelled : RawShared → List ℕ
shared_spelled s = s.name ++ number s.base ++ number s.length

abbrev pub sealed_spelled : RawSealed → List ℕ
sealed_spelled s =
    s.name ++ number s.base ++ number s.length ++ number s.seal ++ count s.bytes ++ s.bytes
    ++ s.padding

-- slots, exports and text
abbrev pub tables_spelled : RawCode → List ℕ
tables_spelled c = flat_map entry_spelled c.slots ++ flat_map entry_spelled c.exports ++ c.text

abbrev pub compartment_spelled : RawCompartment → List ℕ
compartment_spelled c =
    c.code.name ++ number c.code.base ++ number c.code.length ++ count c.code.text
    ++ number c.table ++ number c.globals ++ number c.globals_length ++ count c.initial
    ++ count c.code.slots ++ count c.code.exports
    ++ tables_spelled c.code ++ c.initial ++ c.padding

abbrev pub library_spelled : RawCode → List ℕ
library_spelled c =
    c.name ++ number c.base ++ number c.length ++ count c.text
    ++ count c.slots ++ count c.exports ++ tables_spelled c

abbrev pub thread_spelled : RawThread → List ℕ
thread_spelled t =
    t.name ++ number t.stack ++ number t.stack_length
    ++ number t.compartment ++ number t.export ++ number t.priority ++ number t.frames

-- C T F W
abbrev pub magic : List ℕ
magic = 67 ∷ 84 ∷ 70 ∷ 87 ∷ []

abbrev pub sweep_spelled : RawImage → List ℕ
sweep_spelled r = if r.version == 1 then [] else number r.sweep

unfoldable pub spelled : RawImage → List ℕ
spelled r =
    magic ++ number r.version
    ++ count r.devices ++ count r.shared ++ count r.sealed
    ++ count r.compartments ++ count r.libraries ++ count r.threads
    ++ number r.quantum ++ number r.ram ++ number r.size ++ number r.trusted ++ number r.heap
    ++ sweep_spelled r ++ r.name
    ++ flat_map device_spelled r.devices ++ flat_map shared_spelled r.shared
    ++ flat_map sealed_spelled r.sealed
    ++ flat_map compartment_spelled r.compartments ++ flat_map library_spelled r.libraries
    ++ flat_map thread_spelled r.threads

-- ---- what fields an image of these parts has

abbrev pub zeros : ℕ → List ℕ
zeros n = replicate n 0

-- how many zeros lead to a multiple of 4
abbrev pub padding_after : ℕ → ℕ
padding_after n = (4 - n % 4) % 4

abbrev pub name_field : List ℕ → List ℕ
name_field name = name ++ zeros (NAME - length name)

abbrev pub kind_byte : SlotKind → ℕ
kind_byte Service = 1
kind_byte Device = 2
kind_byte Shared = 3
kind_byte Sealed = 4
kind_byte Call = 5
kind_byte Library = 6
kind_byte Quota = 7
kind_byte Key = 8

abbrev pub import_field : ImportRow → List ℕ
import_field r = kind_byte r.kind ∷ r.rights ∷ 0 ∷ 0 ∷ number r.first ++ number r.second ++ number 0

abbrev pub posture_byte : Mode → ℕ
posture_byte Inherit = 1
posture_byte Disabled = 2
posture_byte Enabled = 3

abbrev pub passes_byte : Bool → ℕ
passes_byte capabilities = if capabilities then 1 else 2

abbrev pub export_field : ExportRow → List ℕ
export_field r =
    number r.offset ++ number r.stack
    ++ r.args ∷ posture_byte r.posture ∷ passes_byte r.capabilities ∷ 0 ∷ number r.entry

abbrev pub raw_slot : SlotRow → RawEntry
raw_slot s = record { row = import_field s.row; name = name_field s.name }

abbrev pub raw_gate : GateRow → RawEntry
raw_gate g = record { row = export_field g.row; name = name_field g.name }

abbrev pub raw_device : DeviceRow → RawDevice
raw_device d = record { name = name_field d.name; kind = device_number d.kind; base = d.base }

abbrev pub raw_shared : SharedRow → RawShared
raw_shared s = record { name = name_field s.name; base = s.base; length = s.length }

abbrev pub raw_sealed : SealedRow → RawSealed
raw_sealed s = record {
  name = name_field s.name;
  base = s.base;
  length = s.length;
  seal = s.seal;
  bytes = s.bytes;
  padding = zeros (padding_after (length s.bytes));
}

abbrev pub raw_code : CodeRow → RawCode
raw_code c = record {
  name = name_field c.name;
  base = c.base;
  length = c.length;
  slots = map raw_slot c.slots;
  exports = map raw_gate c.exports;
  text = c.text;
}

abbrev pub raw_compartment : CompartmentRow → RawCompartment
raw_compartment c = record {
  code = raw_code c.code;
  table = c.table;
  globals = c.globals;
  globals_length = c.globals_length;
  initial = c.initial;
  padding = zeros (padding_after (length c.initial));
}

abbrev pub raw_thread : ThreadRow → RawThread
raw_thread t = record {
  name = name_field t.name;
  stack = t.stack;
  stack_length = t.stack_length;
  compartment = t.compartment;
  export = t.export;
  priority = t.priority;
  frames = t.frames;
}

unfoldable pub raw_of : PartsRow → RawImage
raw_of p = record {
  version = p.version;
  quantum = p.quantum;
  ram = p.ram;
  size = p.size;
  trusted = p.trusted;
  heap = p.heap;
  sweep = p.sweep;
  name = name_field p.name;
  devices = map raw_device p.devices;
  shared = map raw_shared p.shared;
  sealed = map raw_sealed p.sealed;
  compartments = map raw_compartment p.compartments;
  libraries = map raw_code p.libraries;
  threads = map raw_thread p.threads;
}

-- the one spelling of these parts
unfoldable pub image_bytes : PartsRow → List ℕ
image_bytes p = spelled (raw_of p)
