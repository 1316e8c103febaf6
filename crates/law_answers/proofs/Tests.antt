-- Tests that compute whether fields are shaped and parts have a spelling.
use Rattle.std.specs.Prelude.{ℕ, ◌&&◌, ◌||◌, ◌==◌, not, Bool, nat_lt, List, length}
use Rattle.std.specs.List.{list_all}
use Rattle.ct_entry.specs.Listed.{DeviceRow}
use Rattle.def_profile.specs.declared.limits.TheConstants.{SWEEP_RATE}
use Rattle.def_image.specs.declared.RawEntry.{RawEntry}
use Rattle.def_image.specs.declared.format.TheConstants.{NAME, ROW}
use Rattle.def_image.specs.Raw.{RawDevice, RawCode, RawCompartment, RawThread, RawImage}
use Rattle.def_image.specs.Parts.{SlotRow, GateRow, CodeRow, CompartmentRow, ThreadRow, PartsRow}
use Rattle.def_image.specs.Spelling.{padding_after, raw_of}

abbrev pub are_bytes : List ℕ → Bool
are_bytes bytes = list_all (λ b. nat_lt b 256) bytes

abbrev pub is_field : ℕ → List ℕ → Bool
is_field n bytes = (length bytes == n) && are_bytes bytes

abbrev pub is_number : ℕ → Bool
is_number n = nat_lt n 4294967296

abbrev pub is_counted : List ℕ → Bool
is_counted bytes = is_number (length bytes) && are_bytes bytes

abbrev pub is_entry : RawEntry → Bool
is_entry e = is_field ROW e.row && is_field NAME e.name

abbrev pub is_device : RawDevice → Bool
is_device d = is_field NAME d.name && is_number d.kind && is_number d.base

abbrev pub is_code : RawCode → Bool
is_code c =
    is_field NAME c.name && is_number c.base && is_number c.length
    && (is_number (length c.slots) && list_all is_entry c.slots)
    && (is_number (length c.exports) && list_all is_entry c.exports) && is_counted c.text

abbrev pub is_compartment : RawCompartment → Bool
is_compartment c =
    is_code c.code && is_number c.table && is_number c.globals && is_number c.globals_length
    && is_counted c.initial && is_field (padding_after (length c.initial)) c.padding

abbrev pub is_thread : RawThread → Bool
is_thread t =
    is_field NAME t.name && is_number t.stack && is_number t.stack_length
    && is_number t.compartment && is_number t.export && is_number t.priority && is_number t.frames

-- of fields of images without objects and libraries
abbrev pub is_plain : RawImage → Bool
is_plain r =
    is_number r.version && (not (r.version == 1) || r.sweep == SWEEP_RATE) && is_number r.sweep
    && is_number r.quantum && is_number r.ram && is_number r.size && is_number r.trusted
    && is_number r.heap
    && is_field NAME r.name
    && (is_number (length r.devices) && list_all is_device r.devices)
    && (length r.shared == 0) && (length r.sealed == 0)
    && (is_number (length r.compartments) && list_all is_compartment r.compartments)
    && (length r.libraries == 0)
    && (is_number (length r.threads) && list_all is_thread r.threads)

-- ---- parts

abbrev pub is_clean : List ℕ → Bool
is_clean name = list_all (λ b. nat_lt 0 b) name

abbrev pub is_clean_slot : SlotRow → Bool
is_clean_slot s = is_clean s.name && is_number s.row.first && is_number s.row.second

abbrev pub is_clean_gate : GateRow → Bool
is_clean_gate x =
    is_clean x.name && is_number x.row.offset && is_number x.row.stack && is_number x.row.entry

abbrev pub is_clean_code : CodeRow → Bool
is_clean_code c =
    is_clean c.name && list_all is_clean_slot c.slots && list_all is_clean_gate c.exports

abbrev pub is_plainly_spelled : PartsRow → Bool
is_plainly_spelled p =
    is_plain (raw_of p) && is_clean p.name
    && list_all (λ (d : DeviceRow). is_clean d.name) p.devices
    && list_all (λ (c : CompartmentRow). is_clean_code c.code) p.compartments
    && list_all (λ (t : ThreadRow). is_clean t.name) p.threads
