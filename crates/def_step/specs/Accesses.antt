-- Loads and stores: their checks, what they give and what they leave.
use Rattle.std.specs.Prelude.{ℕ, ◌+◌, ◌-◌, ◌*◌, ◌%◌, ◌^◌, ◌==◌, ◌&&◌, ◌||◌, Bool, true, false, not, List, [], ◌∷◌, Option, Some, None, is_some, Result, Ok, Err, if◌then◌else◌}
use Rattle.ct_entry.specs.declared.acts.Act.{Act}
use Rattle.ct_entry.specs.declared.acts.Act.TheVariants.{Load, Store}
use Rattle.def_words.specs.declared.Cap.{Cap}
use Rattle.def_words.specs.declared.Trap.{Trap}
use Rattle.def_words.specs.Authority.{cap_address}
use Rattle.def_words.specs.Permissions.{has, load_data, store_data, memory_capability}
use Rattle.def_words.specs.Seals.{is_unsealed}
use Rattle.def_words.specs.Capability.{integer, is_range_inside}
use Rattle.def_words.specs.Loaded.{attenuated, stored_through}
use Rattle.def_memory.specs.declared.Granule.{Granule}
use Rattle.def_memory.specs.Accesses.{loaded, stored, loaded_cap, stored_cap}
use Rattle.def_instr.specs.declared.Instr.{Instr}
use Rattle.def_instr.specs.declared.Instr.TheVariants.{Lb, Lh, Lw, Clc, Lbu, Lhu, Sb, Sh, Sw, Csc}
use Rattle.def_bits.specs.Bits.{extended}
use Rattle.def_machine.specs.Memory.{filtered_in, lies_in}
use Rattle.def_step.specs.declared.Access.{Access}
use Rattle.def_profile.specs.declared.traps.TheConstants.{BOUNDS_CODE, TAG_CODE, SEAL_CODE, LOAD_CODE, STORE_CODE, STORE_CAPABILITY_CODE, MISALIGNED_LOAD, MISALIGNED_STORE}
use Rattle.def_words.specs.Traps.{capability_trap, plain_trap}
use Rattle.def_step.specs.Checks.{Check, first_failed}
use Rattle.def_step.specs.Devices.{DeviceStates, found, bank_value, bank_read, bank_written}

-- ---- the instructions

abbrev pub load_of : ℕ → Bool → Bool → ℕ → ℕ → Access
load_of width signed whole by n = record {
  loads = true;
  width = width;
  signed = signed;
  whole = whole;
  by = by;
  immediate = n;
}

abbrev pub store_of : ℕ → Bool → ℕ → ℕ → Access
store_of width whole by n = record {
  loads = false;
  width = width;
  signed = false;
  whole = whole;
  by = by;
  immediate = n;
}

-- widths in bytes; of any other instruction the last row means nothing
abbrev pub access_of : Instr → Access
access_of (Lb rd rs1 n) = load_of 1 true false rs1 n
access_of (Lh rd rs1 n) = load_of 2 true false rs1 n
access_of (Lw rd rs1 n) = load_of 4 false false rs1 n
access_of (Clc rd rs1 n) = load_of 8 false true rs1 n
access_of (Lbu rd rs1 n) = load_of 1 false false rs1 n
access_of (Lhu rd rs1 n) = load_of 2 false false rs1 n
access_of (Sb rs1 rs2 n) = store_of 1 false rs1 n
access_of (Sh rs1 rs2 n) = store_of 2 false rs1 n
access_of (Sw rs1 rs2 n) = store_of 4 false rs1 n
access_of (Csc rs1 rs2 n) = store_of 8 true rs1 n
access_of _ = store_of 1 false 0 0

-- ---- checks, in order

-- x is the authorising capability, at the address
abbrev pub load_checks : Access → Cap → ℕ → List Check
load_checks a x at =
    (x.tag, capability_trap TAG_CODE a.by)
    ∷ (is_unsealed x, capability_trap SEAL_CODE a.by)
    ∷ (has x load_data, capability_trap LOAD_CODE a.by)
    ∷ (is_range_inside x at (at + a.width), capability_trap BOUNDS_CODE a.by)
    ∷ (at % a.width == 0, plain_trap MISALIGNED_LOAD)
    ∷ []

-- `carries`: a tagged value is stored as a capability
abbrev pub store_checks : Access → Cap → ℕ → Bool → List Check
store_checks a x at carries =
    (x.tag, capability_trap TAG_CODE a.by)
    ∷ (is_unsealed x, capability_trap SEAL_CODE a.by)
    ∷ (has x store_data, capability_trap STORE_CODE a.by)
    ∷ (not carries || has x memory_capability, capability_trap STORE_CAPABILITY_CODE a.by)
    ∷ (is_range_inside x at (at + a.width), capability_trap BOUNDS_CODE a.by)
    ∷ (at % a.width == 0, plain_trap MISALIGNED_STORE)
    ∷ []

abbrev pub access_checks : Access → Cap → Cap → ℕ → List Check
access_checks a x y at =
    if a.loads then load_checks a x at else store_checks a x at (a.whole && y.tag)

-- ---- effects

-- RAM from its base, the devices, and the time
pub record MemoryAndDevices : Type 0 where
  pub ram : ℕ
  pub granules : List Granule
  pub bank : DeviceStates
  pub time : ℕ

-- what an access gives, the deed that it is where it reaches a device, and what it leaves
pub record Accessed : Type 0 where
  pub value : Option Cap
  pub act : Option Act
  pub granules : List Granule
  pub bank : DeviceStates

-- whether so many bytes lie in RAM
abbrev pub is_ram : MemoryAndDevices → ℕ → ℕ → Bool
is_ram p at width = lies_in p.ram p.granules at width

-- a loaded number as a 32-bit word
abbrev pub widened : Access → ℕ → ℕ
widened a n = if a.signed then extended (8 * a.width) n else n

abbrev pub ram_value : Access → Cap → ℕ → ℕ → List Granule → Cap
ram_value a x at ram gs =
    if a.whole
    then filtered_in ram gs (attenuated x (loaded_cap gs (at - ram)))
    else integer (widened a (loaded gs (at - ram) a.width))

-- what comes from a device is a plain word, attenuated like any other
abbrev pub device_value : Access → Cap → ℕ → Cap
device_value a x n = if a.whole then attenuated x (integer n) else integer (widened a n)

-- what a store writes, cut to its width
abbrev pub stored_value : Access → Cap → ℕ
stored_value a y = if a.whole then y.word else cap_address y % 2 ^ (8 * a.width)

abbrev pub ram_stored : Access → Cap → Cap → ℕ → ℕ → List Granule → List Granule
ram_stored a x y at ram gs =
    if a.whole
    then stored_cap gs (at - ram) (stored_through x y)
    else stored gs (at - ram) a.width (cap_address y)

abbrev pub in_ram : Access → Cap → Cap → ℕ → MemoryAndDevices → Accessed
in_ram a x y at p =
    if a.loads
    then record {
      value = Some (ram_value a x at p.ram p.granules);
      act = None;
      granules = p.granules;
      bank = p.bank;
    }
    else record {
      value = None;
      act = None;
      granules = ram_stored a x y at p.ram p.granules;
      bank = p.bank;
    }

-- An access that reaches a device is a deed. One that reached neither RAM nor a device would give 0 and
-- leave all as it is: no capability of the machine has such an authority.
abbrev pub deed_at : MemoryAndDevices → ℕ → Act → Option Act
deed_at p at act = if is_some (found p.bank.bases at) then Some act else None

abbrev pub on_device : Access → Cap → Cap → ℕ → MemoryAndDevices → Accessed
on_device a x y at p =
    if a.loads
    then record {
      value = Some (device_value a x (bank_value p.bank at a.width p.time));
      act = deed_at p at (Load at a.width (bank_value p.bank at a.width p.time));
      granules = p.granules;
      bank = bank_read p.bank at a.width;
    }
    else record {
      value = None;
      act = deed_at p at (Store at a.width (stored_value a y));
      granules = p.granules;
      bank = bank_written p.bank at a.width (stored_value a y);
    }

abbrev pub accessed : Access → Cap → Cap → ℕ → MemoryAndDevices → Accessed
accessed a x y at p = if is_ram p at a.width then in_ram a x y at p else on_device a x y at p

-- ---- whole

-- the effect where no check failed, else the trap
abbrev pub unless : {A : Type 0} → Option Trap → A → Result A Trap
unless None a = Ok a
unless (Some t) a = Err t

-- the address of an access: the sum modulo 2^32
abbrev pub access_address : Access → Cap → ℕ
access_address a x = (cap_address x + a.immediate) % 2 ^ 32

unfoldable pub access_result : Instr → Cap → Cap → MemoryAndDevices → Result Accessed Trap
access_result i x y p =
    unless
    (first_failed (access_checks (access_of i) x y (access_address (access_of i) x)))
    (accessed (access_of i) x y (access_address (access_of i) x) p)
