-- What is written of each part.
use Rattle.std.specs.Prelude.{ℕ, ◌==◌, List, [], ◌++◌, length, if◌then◌else◌}
use Rattle.std.specs.List.{flat_map}
use Rattle.ct_entry.specs.Listed.{DeviceRow}
use Rattle.def_image.specs.Parts.{SlotRow, GateRow, SharedRow, SealedRow, CodeRow, CompartmentRow, ThreadRow, PartsRow}
use Rattle.def_image.specs.Spelling.{number, count, zeros, padding_after, magic, name_field, entry_spelled, device_spelled, shared_spelled, sealed_spelled, thread_spelled, raw_slot, raw_gate, raw_device, raw_shared, raw_sealed, raw_thread}

unfoldable pub slot : SlotRow → List ℕ
slot s = entry_spelled (raw_slot s)

unfoldable pub gate : GateRow → List ℕ
gate x = entry_spelled (raw_gate x)

abbrev pub device : DeviceRow → List ℕ
device d = device_spelled (raw_device d)

abbrev pub shared : SharedRow → List ℕ
shared s = shared_spelled (raw_shared s)

abbrev pub sealed : SealedRow → List ℕ
sealed s = sealed_spelled (raw_sealed s)

abbrev pub head : CodeRow → List ℕ
head c = name_field c.name ++ number c.base ++ number c.length ++ count c.text

-- with their counts
abbrev pub tables : CodeRow → List ℕ
tables c =
    count c.slots ++ count c.exports ++ flat_map slot c.slots ++ flat_map gate c.exports ++ c.text

abbrev pub library : CodeRow → List ℕ
library c = head c ++ tables c

abbrev pub compartment : CompartmentRow → List ℕ
compartment c =
    head c.code ++ number c.table ++ number c.globals ++ number c.globals_length ++ count c.initial
    ++ tables c.code ++ c.initial ++ zeros (padding_after (length c.initial))

abbrev pub thread : ThreadRow → List ℕ
thread t = thread_spelled (raw_thread t)

abbrev pub begin : ℕ → List ℕ
begin version = magic ++ number version

abbrev pub counts : PartsRow → List ℕ
counts p =
    count p.devices ++ count p.shared ++ count p.sealed ++ count p.compartments ++ count p.libraries
    ++ count p.threads

abbrev pub bases : PartsRow → List ℕ
bases p = number p.quantum ++ number p.ram ++ number p.size ++ number p.trusted ++ number p.heap

abbrev pub rate : ℕ → ℕ → List ℕ
rate version sweep = if version == 1 then [] else number sweep

abbrev pub lists : PartsRow → List ℕ
lists p =
    flat_map device p.devices ++ flat_map shared p.shared ++ flat_map sealed p.sealed
    ++ flat_map compartment p.compartments ++ flat_map library p.libraries
    ++ flat_map thread p.threads
