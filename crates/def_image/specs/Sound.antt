-- What acceptance says of an image, in plain facts by index, which the laws of images take as their premise. Limits that
-- differ from version to version are those of the image's own.
use Rattle.std.specs.Prelude.{ℕ, zero, suc, ◌+◌, ◌*◌, ◌%◌, ◌≡◌, ◌≤◌, ◌<◌, ◌⊎◌, true, false, length, Some, slice_get}
use Rattle.ct_entry.specs.Listed.{DeviceRow}
use Rattle.ct_entry.specs.declared.rows.Mode.TheVariants.{Inherit}
use Rattle.def_profile.specs.declared.layout.TheConstants.{REGION_UNIT, SLOT_SIZE, DEVICE_SIZE, TRUSTED_HEAD}
use Rattle.def_profile.specs.declared.limits.TheConstants as most
use Rattle.def_profile.specs.declared.limits.TheConstants.{LEAST_RAM, RAM_END, LEAST_STACK, LAST_VERSION}
use Rattle.def_profile.specs.Versions.{least_sweep, most_ram, most_sweep, most_threads}
use Rattle.def_native.specs.declared.TheConstants.{LAST_NATIVE}
use Rattle.def_profile.specs.declared.native.TheConstants.{NATIVE_BASE, NATIVE_END}
use Rattle.def_profile.specs.declared.seals.TheConstants.{FIRST_KEY_TYPE, LAST_KEY_TYPE}
use Rattle.def_image.specs.declared.ImportRow.{ImportRow}
use Rattle.def_image.specs.declared.ExportRow.{ExportRow}
use Rattle.def_image.specs.declared.SlotKind.{SlotKind}
use Rattle.def_image.specs.declared.SlotKind.TheVariants.{Service, Device, Shared, Sealed, Call, Library, Quota, Key}
use Rattle.def_image.specs.Parts.{SlotRow, GateRow, SharedRow, SealedRow, CodeRow, CompartmentRow, ThreadRow, PartsRow}
use Rattle.def_image.specs.Members.{gate_number, library_gate_number}
use Rattle.def_image.specs.Regions.{trusted_length}
use Rattle.def_image.specs.Indexes.{is_switch, is_reserved}
use Rattle.def_image.specs.Rights.{fits_kind, rights_of}
use Rattle.def_image.specs.Laid.{AreLaid}

abbrev pub IsWithin : ℕ → ℕ → ℕ → Type 0
IsWithin low high n = (low ≤ n) × (n ≤ high)

-- a range before an address, or from another on
abbrev pub IsAway : ℕ → ℕ → ℕ → ℕ → Type 0
IsAway base size low high = (base + size ≤ low) ⊎ (high ≤ base)

-- ---- RAM and the heap

pub record RamFits (p : PartsRow) : Type 0 where
  pub base : p.ram % REGION_UNIT ≡ 0
  pub size : p.size % REGION_UNIT ≡ 0
  pub sized : IsWithin LEAST_RAM (most_ram p.version) p.size
  pub end : p.ram + p.size ≤ RAM_END
  pub native : IsAway p.ram p.size NATIVE_BASE NATIVE_END

-- the trusted region has a granule of its own before the heap
pub record HeapFits (p : PartsRow) : Type 0 where
  pub even : p.heap % REGION_UNIT ≡ 0
  pub inside : p.heap ≤ p.ram + p.size
  pub after : p.trusted + trusted_length p ≤ p.heap
  pub below : p.ram + TRUSTED_HEAD ≤ p.heap

-- ---- devices and objects

pub record DeviceFits (p : PartsRow) (d : DeviceRow) : Type 0 where
  pub even : d.base % REGION_UNIT ≡ 0
  pub small : d.base + DEVICE_SIZE ≤ 4294967296
  pub ram : IsAway d.base DEVICE_SIZE p.ram (p.ram + p.size)
  pub native : IsAway d.base DEVICE_SIZE NATIVE_BASE NATIVE_END

pub record SealedFits (s : SealedRow) : Type 0 where
  pub size : IsWithin 1 most.MOST_BYTES s.length
  pub seal : IsWithin FIRST_KEY_TYPE LAST_KEY_TYPE s.seal
  pub bytes : IsWithin 1 s.length (length s.bytes)

-- ---- slots

-- what a row of this kind names is there
abbrev pub Names : PartsRow → ImportRow → SlotKind → Type 0
Names p r Service = r.first ≤ LAST_NATIVE
Names p r Device = (d : DeviceRow) × (slice_get p.devices r.first ≡ Some d)
Names p r Shared = (s : SharedRow) × (slice_get p.shared r.first ≡ Some s)
Names p r Sealed = (s : SealedRow) × (slice_get p.sealed r.first ≡ Some s)
Names p r Call =
    (c : CompartmentRow) × (x : GateRow)
    × (slice_get p.compartments r.first ≡ Some c) × (slice_get c.code.exports r.second ≡ Some x)
Names p r Library =
    (c : CodeRow) × (x : GateRow)
    × (slice_get p.libraries r.first ≡ Some c) × (slice_get c.exports r.second ≡ Some x)
Names p r Quota = r.first ≤ most.MOST_QUOTA
Names p r Key = IsWithin FIRST_KEY_TYPE LAST_KEY_TYPE r.first

pub record SlotFits (p : PartsRow) (r : ImportRow) : Type 0 where
  pub names : Names p r r.kind
  pub rights : fits_kind r.kind (rights_of r) ≡ true

-- the first slot of a compartment is the switch, and no other slot is, or is the return
abbrev pub IsInPlace : ℕ → ImportRow → Type 0
IsInPlace zero r = is_switch r ≡ true
IsInPlace (suc j) r = is_reserved r ≡ false

pub record OwnSlotFits (p : PartsRow) (j : ℕ) (r : ImportRow) : Type 0 where
  pub fits : SlotFits p r
  pub place : IsInPlace j r

pub record LibrarySlotFits (p : PartsRow) (r : ImportRow) : Type 0 where
  pub fits : SlotFits p r
  pub kind : r.kind ≡ Library

-- ---- exports

-- a word of the text
pub record OffsetFits (c : CodeRow) (x : ExportRow) : Type 0 where
  pub even : x.offset % 4 ≡ 0
  pub inside : x.offset < length c.text

pub record ExportFits (c : CodeRow) (n : ℕ) (x : ExportRow) : Type 0 where
  pub offset : OffsetFits c x
  pub stack : x.stack ≤ most.MOST_STACK
  pub args : x.args ≤ most.MOST_ARGUMENTS
  pub posture : x.posture ≡ Inherit → ⊥
  pub entry : x.entry ≡ n

pub record LibraryExportFits (c : CodeRow) (n : ℕ) (x : ExportRow) : Type 0 where
  pub offset : OffsetFits c x
  pub stack : x.stack ≡ 0
  pub args : x.args ≡ 0
  pub capabilities : x.capabilities ≡ true
  pub entry : x.entry ≡ n

-- ---- owners

pub record CodeFits (c : CodeRow) : Type 0 where
  pub fits : SLOT_SIZE * length c.slots + length c.text ≤ c.length
  pub words : length c.text % 4 ≡ 0
  pub text : length c.text ≤ most.MOST_BYTES
  pub exports : length c.exports ≤ most.MOST_EXPORTS

pub record CompartmentFits (p : PartsRow) (b : ℕ) (c : CompartmentRow) : Type 0 where
  pub code : CodeFits c.code
  pub slots : IsWithin 1 most.MOST_SLOTS (length c.code.slots)
  pub globals : IsWithin REGION_UNIT most.MOST_BYTES c.globals_length
  pub initial : length c.initial ≤ c.globals_length
  pub slot : (j : ℕ) (s : SlotRow) → slice_get c.code.slots j ≡ Some s → OwnSlotFits p j s.row
  pub export : (j : ℕ) (x : GateRow) → slice_get c.code.exports j ≡ Some x
      → ExportFits c.code (gate_number p b j) x.row

pub record LibraryFits (p : PartsRow) (l : ℕ) (c : CodeRow) : Type 0 where
  pub code : CodeFits c
  pub slots : length c.slots ≤ most.MOST_IMPORTS
  pub slot : (j : ℕ) (s : SlotRow) → slice_get c.slots j ≡ Some s → LibrarySlotFits p s.row
  pub export : (j : ℕ) (x : GateRow) → slice_get c.exports j ≡ Some x
      → LibraryExportFits c (library_gate_number p l j) x.row

-- a thread enters an export of a compartment
pub record ThreadFits (p : PartsRow) (t : ThreadRow) : Type 0 where
  pub stack : IsWithin LEAST_STACK most.MOST_STACK_REGION t.stack_length
  pub priority : t.priority ≤ most.MOST_PRIORITY
  pub frames : IsWithin 1 most.MOST_FRAMES t.frames
  pub enters : (c : CompartmentRow) × (x : GateRow)
      × (slice_get p.compartments t.compartment ≡ Some c)
      × (slice_get c.code.exports t.export ≡ Some x)

-- ---- the whole

pub record AreFew (p : PartsRow) : Type 0 where
  pub devices : length p.devices ≤ most.MOST_DEVICES
  pub shared : length p.shared ≤ most.MOST_OBJECTS
  pub sealed : length p.sealed ≤ most.MOST_OBJECTS
  pub compartments : length p.compartments ≤ most.MOST_COMPARTMENTS
  pub libraries : length p.libraries ≤ most.MOST_LIBRARIES
  pub threads : length p.threads ≤ most_threads p.version

pub record Sound (p : PartsRow) : Type 0 where
  pub version : IsWithin 1 LAST_VERSION p.version
  pub sweep : IsWithin (least_sweep p.version) (most_sweep p.version) p.sweep
  pub quantum : IsWithin 1 most.MOST_QUANTUM p.quantum
  pub few : AreFew p
  pub ram : RamFits p
  pub heap : HeapFits p
  pub laid : AreLaid p
  pub device : (i : ℕ) (d : DeviceRow) → slice_get p.devices i ≡ Some d → DeviceFits p d
  pub apart : (i j : ℕ) (d e : DeviceRow) → slice_get p.devices i ≡ Some d
      → slice_get p.devices j ≡ Some e → d.base ≡ e.base → i ≡ j
  pub object : (i : ℕ) (s : SharedRow) → slice_get p.shared i ≡ Some s
      → IsWithin 1 most.MOST_BYTES s.length
  pub sealed : (i : ℕ) (s : SealedRow) → slice_get p.sealed i ≡ Some s → SealedFits s
  pub compartment : (b : ℕ) (c : CompartmentRow) → slice_get p.compartments b ≡ Some c
      → CompartmentFits p b c
  pub library : (l : ℕ) (c : CodeRow) → slice_get p.libraries l ≡ Some c → LibraryFits p l c
  pub thread : (t : ℕ) (x : ThreadRow) → slice_get p.threads t ≡ Some x → ThreadFits p x
