-- What stands at an address of RAM, and what a load or a store leaves of RAM.
use Rattle.std.specs.Prelude.{ℕ, ◌+◌, ◌*◌, ◌%◌, ◌==◌, ◌&&◌, ◌≡◌, ◌≤◌, Bool, nat_le, is_none, List, [], Result, Ok, Err, MatchResult}
use Rattle.def_profile.specs.declared.limits.TheConstants.{RAM_END}
use Rattle.def_native.specs.declared.TheConstants.{LAST_NATIVE}
use Rattle.def_profile.specs.declared.native.TheConstants.{NATIVE_BASE, NATIVE_UNIT, RETURN}
use Rattle.def_words.specs.declared.Cap.{Cap}
use Rattle.def_words.specs.declared.Trap.{Trap}
use Rattle.def_words.specs.Authority.{cap_address}
use Rattle.def_instr.specs.declared.Instr.{Instr}
use Rattle.def_instr.specs.Table.{InRange}
use Rattle.def_memory.specs.declared.Granule.{Granule}
use Rattle.def_machine.specs.Memory.{lies_in}
use Rattle.def_step.specs.declared.Next.{Next}
use Rattle.def_step.specs.declared.Next.TheVariants.{Returning, Instruction, Native, Nothing}
use Rattle.def_step.specs.declared.TheConstants.{LAST_ROUTINE}
use Rattle.def_step.specs.Accesses.{MemoryAndDevices, access_result}
use Rattle.def_step.specs.Checks.{first_failed}
use Rattle.def_step.specs.Devices.{DeviceStates}
use Rattle.def_step.specs.Instructions.{fetch_checks}
use Rattle.ct_loadstore.specs.Shapes.{MovedRow}

abbrev pub no_bank : DeviceStates
no_bank = record { bases = []; states = [] }

-- the first address past the entries of native routines
abbrev pub first_after_native : ℕ
first_after_native = NATIVE_BASE + NATIVE_UNIT * (LAST_NATIVE + 1)

-- past the native routines, a whole word of RAM stands at an address that is a multiple of 4
abbrev pub is_word_of_ram : ℕ → List Granule → ℕ → Bool
is_word_of_ram ram gs at =
    nat_le first_after_native at && (lies_in ram gs at 4 && (at % 4 == 0))

-- each check of a fetch passes, and a whole word of RAM stands at the capability's address, past the native routines
abbrev pub finds_word : Cap → ℕ → List Granule → Bool
finds_word c ram gs =
    is_none (first_failed (fetch_checks c)) && is_word_of_ram ram gs (cap_address c)

-- of a native routine but the return: its number is at most the last
pub record IsRoutine (number : ℕ) : Type 0 where
  pub few : number ≤ LAST_ROUTINE
  pub other : number ≡ RETURN → ⊥

abbrev pub NextInRange : Next → Type 0
NextInRange Returning = Unit {0}
NextInRange (Instruction i) = InRange i
NextInRange (Native number) = IsRoutine number
NextInRange Nothing = Unit {0}

-- RAM of so many granules, and the heap from an address to RAM's end
pub record IsHeapPlaced (ram heap granules : ℕ) : Type 0 where
  pub even : ram % 16 ≡ 0
  pub fits : ram + 8 * granules ≤ RAM_END
  pub whole : (heap % 16 ≡ 0) × (8 * granules % 16 ≡ 0)
  pub low : ram ≤ heap
  pub high : heap ≤ ram + 8 * granules

-- A load or a store through x, of y where it stores: what it leaves of RAM and of the devices, and what it gives. Where
-- a check fails, the trap, and all is as it was.
abbrev pub IsMoved : Instr → Cap → Cap → MemoryAndDevices → List Granule → DeviceStates → Result MovedRow Trap → Type 0
IsMoved i x y p gs k r =
    MatchResult r
    (λ m. access_result i x y p
    ≡ Ok (record { value = m.value; act = m.device; granules = gs; bank = k }))
    (λ w. (access_result i x y p ≡ Err w) × (gs ≡ p.granules) × (k ≡ p.bank))
