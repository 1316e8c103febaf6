-- What has a spelling: each name is 32 bytes and each row 16, numbers are of 32 bits, and padding leads to a multiple
-- of 4. Without this the bytes of one image could be cut into fields in many ways.
use Rattle.std.specs.Prelude.{ℕ, ◌^◌, ◌≡◌, ◌<◌, List, length}
use Rattle.std.specs.List.{AllByRecursion}
use Rattle.ct_entry.specs.Listed.{DeviceRow}
use Rattle.def_profile.specs.declared.limits.TheConstants.{SWEEP_RATE}
use Rattle.def_image.specs.declared.RawEntry.{RawEntry}
use Rattle.def_image.specs.declared.format.TheConstants.{NAME, ROW}
use Rattle.def_image.specs.Raw.{RawDevice, RawShared, RawSealed, RawCode, RawCompartment, RawThread, RawImage}
use Rattle.def_image.specs.Parts.{SlotRow, GateRow, SharedRow, SealedRow, CodeRow, CompartmentRow, ThreadRow, PartsRow}
use Rattle.def_image.specs.Spelling.{padding_after, raw_of}

-- so many bytes
pub record IsField (n : ℕ) (bytes : List ℕ) : Type 0 where
  pub size : length bytes ≡ n
  pub each : AllByRecursion (λ b. b < 256) bytes

abbrev pub IsNumber : ℕ → Type 0
IsNumber n = n < 2 ^ 32

-- bytes that are counted by a number
abbrev pub IsCounted : List ℕ → Type 0
IsCounted bytes = IsNumber (length bytes) × AllByRecursion (λ b. b < 256) bytes

abbrev pub IsRawEntry : RawEntry → Type 0
IsRawEntry e = IsField ROW e.row × IsField NAME e.name

abbrev pub IsDevice : RawDevice → Type 0
IsDevice d = IsField NAME d.name × IsNumber d.kind × IsNumber d.base

abbrev pub IsShared : RawShared → Type 0
IsShared s = IsField NAME s.name × IsNumber s.base × IsNumber s.length

abbrev pub IsSealed : RawSealed → Type 0
IsSealed s =
    IsField NAME s.name × IsNumber s.base × IsNumber s.length × IsNumber s.seal
    × IsCounted s.bytes × IsField (padding_after (length s.bytes)) s.padding

pub record IsCode (c : RawCode) : Type 0 where
  pub name : IsField NAME c.name
  pub base : IsNumber c.base
  pub size : IsNumber c.length
  pub slots : IsNumber (length c.slots) × AllByRecursion IsRawEntry c.slots
  pub exports : IsNumber (length c.exports) × AllByRecursion IsRawEntry c.exports
  pub text : IsCounted c.text

pub record IsCompartment (c : RawCompartment) : Type 0 where
  pub code : IsCode c.code
  pub table : IsNumber c.table
  pub globals : IsNumber c.globals
  pub size : IsNumber c.globals_length
  pub initial : IsCounted c.initial
  pub padding : IsField (padding_after (length c.initial)) c.padding

abbrev pub IsThread : RawThread → Type 0
IsThread t =
    IsField NAME t.name × IsNumber t.stack × IsNumber t.stack_length
    × IsNumber t.compartment × IsNumber t.export × IsNumber t.priority × IsNumber t.frames

-- the sweep rate of version 1 is no field, and is the one rate of that version
pub record IsShaped (r : RawImage) : Type 0 where
  pub version : IsNumber r.version
  pub rate : r.version ≡ 1 → r.sweep ≡ SWEEP_RATE
  pub sweep : IsNumber r.sweep
  pub quantum : IsNumber r.quantum
  pub ram : IsNumber r.ram
  pub size : IsNumber r.size
  pub trusted : IsNumber r.trusted
  pub heap : IsNumber r.heap
  pub name : IsField NAME r.name
  pub devices : IsNumber (length r.devices) × AllByRecursion IsDevice r.devices
  pub shared : IsNumber (length r.shared) × AllByRecursion IsShared r.shared
  pub sealed : IsNumber (length r.sealed) × AllByRecursion IsSealed r.sealed
  pub compartments : IsNumber (length r.compartments) × AllByRecursion IsCompartment r.compartments
  pub libraries : IsNumber (length r.libraries) × AllByRecursion IsCode r.libraries
  pub threads : IsNumber (length r.threads) × AllByRecursion IsThread r.threads

-- ---- parts: a name is what its field gives back, so it holds no zero; the numbers of a row are of 32 bits too, so that
-- none is spelled as a smaller one is

abbrev pub Clean : List ℕ → Type 0
Clean name = AllByRecursion (λ b. 0 < b) name

abbrev pub SpellableSlot : SlotRow → Type 0
SpellableSlot s = Clean s.name × IsNumber s.row.first × IsNumber s.row.second

abbrev pub SpellableGate : GateRow → Type 0
SpellableGate x = Clean x.name × IsNumber x.row.offset × IsNumber x.row.stack × IsNumber x.row.entry

pub record SpellableCode (c : CodeRow) : Type 0 where
  pub name : Clean c.name
  pub slots : AllByRecursion SpellableSlot c.slots
  pub exports : AllByRecursion SpellableGate c.exports

pub record IsSpellable (p : PartsRow) : Type 0 where
  pub shaped : IsShaped (raw_of p)
  pub name : Clean p.name
  pub devices : AllByRecursion (λ (d : DeviceRow). Clean d.name) p.devices
  pub shared : AllByRecursion (λ (s : SharedRow). Clean s.name) p.shared
  pub sealed : AllByRecursion (λ (s : SealedRow). Clean s.name) p.sealed
  pub compartments : AllByRecursion (λ (c : CompartmentRow). SpellableCode c.code) p.compartments
  pub libraries : AllByRecursion SpellableCode p.libraries
  pub threads : AllByRecursion (λ (t : ThreadRow). Clean t.name) p.threads
