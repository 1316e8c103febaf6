-- Devices: 16 bytes of four 32-bit registers each. Registers that aren't named read 0 and ignore writes.
use Rattle.std.specs.Prelude.{ℕ, ◌+◌, ◌-◌, ◌*◌, ◌/◌, ◌%◌, ◌^◌, ◌==◌, ◌≡◌, ◌⊎◌, ◌&&◌, Bool, nat_le, nat_lt, List, [], ◌∷◌, ◌++◌, length, drop, slice_set, slice_index_or, Option, Some, None, if◌then◌else◌}
use Rattle.def_profile.specs.declared.layout.TheConstants.{DEVICE_SIZE}
use Rattle.def_machine.specs.State.{DeviceState, Serial, Clock, Pins}

-- ---- one device

-- register 0, 1, 2 or 3 of a device at a time. A serial port has the oldest byte of its queue, and how many
-- there are; a timer the two halves of the time; a gpio its output, and the last byte that came.
abbrev pub oldest : List ℕ → ℕ
oldest q = slice_index_or q 0 0

abbrev pub register_value : DeviceState → ℕ → ℕ → ℕ
register_value (Serial q) n time = if n == 0 then oldest q else if n == 1 then length q else 0
register_value Clock n time =
    if n == 0 then time % 2 ^ 32 else if n == 1 then time / 2 ^ 32 % 2 ^ 32 else 0
register_value (Pins output input) n time = if n == 0 then output else if n == 1 then input else 0

-- reading register 0 of a serial port takes the oldest byte; no other reading changes anything
abbrev pub after_read : DeviceState → ℕ → DeviceState
after_read (Serial q) n = if n == 0 then Serial (drop 1 q) else Serial q
after_read Clock n = Clock
after_read (Pins output input) n = Pins output input

-- only the output of a gpio keeps what is written
abbrev pub after_write : DeviceState → ℕ → ℕ → DeviceState
after_write (Serial q) n value = Serial q
after_write Clock n value = Clock
after_write (Pins output input) n value = if n == 0 then Pins value input else Pins output input

-- a serial port's queue holds 64 bytes: the newest stay
abbrev pub queue_length : ℕ
queue_length = 64

abbrev pub newest : ℕ → List ℕ → List ℕ
newest n xs = drop (length xs - n) xs

abbrev pub after_input : DeviceState → ℕ → DeviceState
after_input (Serial q) byte = Serial (newest queue_length (q ++ byte ∷ []))
after_input Clock byte = Clock
after_input (Pins output input) byte = Pins output byte

-- the widths of accesses, in bytes
abbrev pub IsWidth : ℕ → Type 0
IsWidth width = (width ≡ 1) ⊎ (width ≡ 2) ⊎ (width ≡ 4) ⊎ (width ≡ 8)

-- a load of 1, 2 or 4 bytes at an offset: the register of the offset, shifted and cut to the width
abbrev pub part_read : DeviceState → ℕ → ℕ → ℕ → ℕ
part_read d offset width time =
    register_value d (offset / 4) time / 2 ^ (8 * (offset % 4)) % 2 ^ (8 * width)

-- a store of 1, 2 or 4 bytes counts only at a multiple of 4, with zeros above the bytes that are stored
abbrev pub part_written : DeviceState → ℕ → ℕ → ℕ → DeviceState
part_written d offset width value =
    if offset % 4 == 0 then after_write d (offset / 4) (value % 2 ^ (8 * width)) else d

-- an access of 8 bytes is the one at its offset, then the one at its offset + 4
abbrev pub value_read : DeviceState → ℕ → ℕ → ℕ → ℕ
value_read d offset width time =
    if width == 8
    then part_read d offset 4 time
    + part_read (after_read d (offset / 4)) (offset + 4) 4 time * 2 ^ 32
    else part_read d offset width time

abbrev pub left_by_read : DeviceState → ℕ → ℕ → DeviceState
left_by_read d offset width =
    if width == 8
    then after_read (after_read d (offset / 4)) ((offset + 4) / 4)
    else after_read d (offset / 4)

abbrev pub left_by_write : DeviceState → ℕ → ℕ → ℕ → DeviceState
left_by_write d offset width value =
    if width == 8
    then part_written (part_written d offset 4 value) (offset + 4) 4 (value / 2 ^ 32)
    else part_written d offset width value

-- ---- all devices, each at its base

-- what the devices of a machine are: where each stands, and its state
pub record DeviceStates : Type 0 where
  pub bases : List ℕ
  pub states : List DeviceState

abbrev pub no_device : DeviceState
no_device = Clock

abbrev pub device : List DeviceState → ℕ → DeviceState
device ds n = slice_index_or ds n no_device

-- whether an address is one of a device's 16
abbrev pub is_of : ℕ → ℕ → Bool
is_of base address = nat_le base address && nat_lt address (base + DEVICE_SIZE)

-- the first device, counting from n, that has the address
abbrev pub found_from : ℕ → List ℕ → ℕ → Option ℕ
found_from n [] address = None
found_from n (b ∷ bs) address = if is_of b address then Some n else found_from (n + 1) bs address

abbrev pub found : List ℕ → ℕ → Option ℕ
found bases address = found_from 0 bases address

-- where a device's registers begin
abbrev pub registers_base : List ℕ → ℕ → ℕ
registers_base bases n = slice_index_or bases n 0

-- a load and what it leaves; where no device has the address, 0 and nothing
abbrev pub bank_value_at : DeviceStates → Option ℕ → ℕ → ℕ → ℕ → ℕ
bank_value_at k None address width time = 0
bank_value_at k (Some n) address width time =
    value_read (device k.states n) (address - registers_base k.bases n) width time

abbrev pub bank_value : DeviceStates → ℕ → ℕ → ℕ → ℕ
bank_value k address width time = bank_value_at k (found k.bases address) address width time

abbrev pub bank_read_at : DeviceStates → Option ℕ → ℕ → ℕ → DeviceStates
bank_read_at k None address width = k
bank_read_at k (Some n) address width =
    record k {
      states =
          slice_set k.states n (left_by_read (device k.states n) (address - registers_base k.bases n) width);
    }

abbrev pub bank_read : DeviceStates → ℕ → ℕ → DeviceStates
bank_read k address width = bank_read_at k (found k.bases address) address width

abbrev pub bank_written_at : DeviceStates → Option ℕ → ℕ → ℕ → ℕ → DeviceStates
bank_written_at k None address width value = k
bank_written_at k (Some n) address width value =
    record k {
      states =
          slice_set k.states n
          (left_by_write (device k.states n) (address - registers_base k.bases n) width value);
    }

abbrev pub bank_written : DeviceStates → ℕ → ℕ → ℕ → DeviceStates
bank_written k address width value = bank_written_at k (found k.bases address) address width value

abbrev pub bank_input : DeviceStates → ℕ → ℕ → DeviceStates
bank_input k n byte =
    record k { states = slice_set k.states n (after_input (device k.states n) byte) }
