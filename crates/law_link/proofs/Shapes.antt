-- What is linked has a spelling: its fields are as long as the format has them, its numbers of 32 bits.
use Rattle.std.proofs.Common.{ℕ, ◌≡◌, ◌^◌, ◌<◌, ◌≤◌, Bool, true, false, List, [], ◌∷◌, ◌++◌, map, refl, arith}
use Rattle.std.specs.List.{AllByRecursion}
use Rattle.law_lists.proofs.Alls.{all_joined}
use Rattle.ct_entry.specs.Listed.{DeviceRow}
use Rattle.ct_entry.specs.declared.hardware.DeviceKind.{DeviceKind}
use Rattle.ct_entry.specs.declared.hardware.DeviceKind.TheVariants.{Uart, Timer, Gpio}
use Rattle.ct_entry.specs.declared.rows.Mode.{Mode}
use Rattle.ct_entry.specs.declared.rows.Mode.TheVariants.{Inherit, Disabled, Enabled}
use Rattle.def_texts.specs.Names.{is_name}
use Rattle.def_image.specs.declared.SlotKind.{SlotKind}
use Rattle.def_image.specs.declared.SlotKind.TheVariants as kind
use Rattle.def_image.specs.Parts.{SlotRow, GateRow}
use Rattle.def_image.specs.Limits.{Bounds}
use Rattle.ct_entry.specs.DeviceKinds.{device_number}
use Rattle.def_image.specs.Spelling.{number, kind_byte, posture_byte, passes_byte, raw_slot, raw_gate, raw_device}
use Rattle.def_image.specs.Shapes.{IsRawEntry, IsDevice, SpellableSlot, SpellableGate}
use Rattle.law_link.proofs.Fields.{name_is, name_is_field}
use Rattle.law_link.proofs.Rows.{SlotGood, GateGood}

-- the bytes of a number
number_bytes : (n : ℕ) → AllByRecursion (λ b. b < 256) (number n)
number_bytes n = (omega arith, (omega arith, (omega arith, (omega arith, tt))))

kind_small : (k : SlotKind) → kind_byte k < 256
kind_small kind.Service = omega arith
kind_small kind.Device = omega arith
kind_small kind.Shared = omega arith
kind_small kind.Sealed = omega arith
kind_small kind.Call = omega arith
kind_small kind.Library = omega arith
kind_small kind.Quota = omega arith
kind_small kind.Key = omega arith

posture_small : (m : Mode) → posture_byte m < 256
posture_small Inherit = omega arith
posture_small Disabled = omega arith
posture_small Enabled = omega arith

passes_small : (b : Bool) → passes_byte b < 256
passes_small true = omega arith
passes_small false = omega arith

-- ---- slots and exports

slot_entry : (s : SlotRow) → SlotGood s → IsRawEntry (raw_slot s)
slot_entry s h =
    let rights = h.sized.rights in (
      record {
        size = refl;
        each = (
          kind_small s.row.kind,
          (
            omega (arith, rights),
            (
              omega arith,
              (
                omega arith,
                all_joined (λ b. b < 256) (number s.row.first ++ number s.row.second) (number 0)
                    (all_joined (λ b. b < 256) (number s.row.first) (number s.row.second) (number_bytes s.row.first) (number_bytes s.row.second)) (number_bytes 0),
              ),
            ),
          ),
        );
      },
      name_is_field s.name (name_is s.name h.named),
    )

pub slots_entries : (slots : List SlotRow) → AllByRecursion SlotGood slots → AllByRecursion IsRawEntry (map raw_slot slots)
slots_entries [] h = tt
slots_entries (s ∷ ss) h = (slot_entry s h.0, slots_entries ss h.1)

pub slots_spellable : (slots : List SlotRow) → AllByRecursion SlotGood slots → AllByRecursion SpellableSlot slots
slots_spellable [] h = tt
slots_spellable (s ∷ ss) h = (((name_is s.name h.0.named).clean, h.0.sized.first_small, h.0.sized.second_small), slots_spellable ss h.1)

gate_entry : (b : Bounds) (text : ℕ) (x : GateRow) → b.args ≤ 6 → GateGood b text x → IsRawEntry (raw_gate x)
gate_entry b text x most h =
    let args = h.args in (
      record {
        size = refl;
        each = all_joined (λ b. b < 256) (number x.row.offset ++ number x.row.stack) (x.row.args ∷ posture_byte x.row.posture ∷ passes_byte x.row.capabilities ∷ 0 ∷ number x.row.entry)
            (all_joined (λ b. b < 256) (number x.row.offset) (number x.row.stack) (number_bytes x.row.offset) (number_bytes x.row.stack))
            (omega (arith, args, most), (posture_small x.row.posture, (passes_small x.row.capabilities, (omega arith, number_bytes x.row.entry))));
      },
      name_is_field x.name (name_is x.name h.named),
    )

pub gates_entries : (b : Bounds) (text : ℕ) (gates : List GateRow) → b.args ≤ 6 → AllByRecursion (GateGood b text) gates → AllByRecursion IsRawEntry (map raw_gate gates)
gates_entries b text [] most h = tt
gates_entries b text (x ∷ xs) most h = (gate_entry b text x most h.0, gates_entries b text xs most h.1)

pub gates_spellable : (b : Bounds) (text : ℕ) (gates : List GateRow) → AllByRecursion (GateGood b text) gates → AllByRecursion SpellableGate gates
gates_spellable b text [] h = tt
gates_spellable b text (x ∷ xs) h =
    let inside = h.0.inside in
    let small = h.0.small in
    let stack = h.0.stack in
    let most = h.0.most in
    (((name_is x.name h.0.named).clean, omega (arith, inside, small), omega (arith, stack, most), h.0.entry_small), gates_spellable b text xs h.1)

-- ---- devices

device_kind_small : (k : DeviceKind) → device_number k < 2 ^ 32
device_kind_small Uart = omega arith
device_kind_small Timer = omega arith
device_kind_small Gpio = omega arith

pub devices_shaped : (ds : List DeviceRow) → AllByRecursion (λ (d : DeviceRow). is_name d.name ≡ true) ds → AllByRecursion (λ (d : DeviceRow). d.base < 2 ^ 32) ds → AllByRecursion IsDevice (map raw_device ds)
devices_shaped [] h k = tt
devices_shaped (d ∷ ds) h k = ((name_is_field d.name (name_is d.name h.0), device_kind_small d.kind, k.0), devices_shaped ds h.1 k.1)
