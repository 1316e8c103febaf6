-- What the pseudo instructions do to a thread, each instruction by the machine's own effect of it.
use Rattle.std.specs.Prelude.{◌≡◌, ◌≢◌, ℕ, ◌+◌, ◌*◌, ◌%◌, ◌^◌, ◌<◌, ◌≤◌, List, [], ◌∷◌, length, Result, Ok, Err}
use Rattle.def_words.specs.declared.Cap.{Cap}
use Rattle.def_words.specs.declared.Trap.{Trap}
use Rattle.def_words.specs.Authority.{cap_address}
use Rattle.def_words.specs.Capability.{raised}
use Rattle.def_memory.specs.Granules.{plain}
use Rattle.def_bits.specs.Bits.{extended}
use Rattle.def_instr.specs.declared.Instr.{Instr}
use Rattle.def_instr.specs.declared.Instr.TheVariants.{AuiPcc, Clc}
use Rattle.def_capstep.specs.Results.{upper_offset}
use Rattle.def_machine.specs.State.{Thread, register}
use Rattle.def_machine.specs.Threads.{jumped}
use Rattle.def_step.specs.Accesses.{MemoryAndDevices, access_of, access_address}
use Rattle.def_step.specs.Operands.{operands_of, class_of}
use Rattle.def_step.specs.Instructions.{Effect, carried_out}
use Rattle.def_object.specs.Object.{high_piece, low_piece, way}

-- what an instruction does to the thread; one that traps leaves it. None jumps through a register, so that
-- no export is named.
abbrev pub effect : MemoryAndDevices → Thread → Instr → Result Effect Trap
effect p w i =
    carried_out (class_of i) i (operands_of i).to (register w (operands_of i).first)
    (register w (operands_of i).second) 0
    (record { pcc = w.pcc; posture = w.posture; space = p })

abbrev pub onward : Thread → Result Effect Trap → Thread
onward w (Ok d) = jumped w d.pcc d.posture d.to d.value
onward w (Err t) = w

abbrev pub after_instructions : MemoryAndDevices → Thread → List Instr → Thread
after_instructions p w [] = w
after_instructions p w (i ∷ is) = after_instructions p (onward w (effect p w i)) is

-- a thread with sixteen registers, the first of them zero, and one of them that may be written
pub record MayWrite (w : Thread) (rd : ℕ) : Type 0 where
  pub all : length w.registers ≡ 16
  pub zero : register w 0 ≡ plain 0
  pub some : 0 < rd
  pub there : rd < 16

-- a register has that value, and all others are as they were
pub record SetsRegister (w new : Thread) (rd : ℕ) (value : Cap) : Type 0 where
  pub given : register new rd ≡ value
  pub others : (n : ℕ) → n ≢ rd → register new n ≡ register w n

-- ---- two words that lead from one place to another

-- the address after the first word of two: 2048 times a signed number of twenty bits is added
abbrev pub first_address : ℕ → ℕ → ℕ
first_address at to = (at + extended 20 (high_piece at to) * 2 ^ 11) % 2 ^ 32

-- two addresses less than 2^30 apart
pub record AreApart (at to : ℕ) : Type 0 where
  pub at_fits : at < 2 ^ 32
  pub to_fits : to < 2 ^ 32
  pub forwards : to < at + 2 ^ 30
  pub backwards : at < to + 2 ^ 30

-- the two words lead to the place that is meant, and the first word's address lies between the place from
-- which they count and it
pub record LeadsTo (at to : ℕ) : Type 0 where
  pub there : (first_address at to + low_piece at to) % 2 ^ 32 ≡ to
  pub after : at ≤ to → (at ≤ first_address at to) × (first_address at to ≤ to)
  pub before : to ≤ at → (to ≤ first_address at to) × (first_address at to ≤ at)

-- a capability as far from another as one place is from the other
abbrev pub IsWayOn : Cap → ℕ → ℕ → Cap → Type 0
IsWayOn c at to d = cap_address d ≡ (cap_address c + way at to) % 2 ^ 32

-- the register gets the capability that is so far on, derived by raising its address twice
pub record LeadsOver (w new : Thread) (rd : ℕ) (c : Cap) (at to : ℕ) : Type 0 where
  pub gives : SetsRegister w new rd (raised (raised c (upper_offset (high_piece at to))) (low_piece at to))
  pub address : IsWayOn c at to (register new rd)

-- the two instructions that load the capability of a slot
abbrev pub to_slot : ℕ → ℕ → ℕ → List Instr
to_slot rd at to = AuiPcc rd (high_piece at to) ∷ Clc rd rd (low_piece at to) ∷ []

-- the first raises the program counter capability's address, and the second loads from the slot's
pub record LeadsToSlot (p : MemoryAndDevices) (w : Thread) (rd : ℕ) (at to : ℕ) : Type 0 where
  pub first : SetsRegister w (onward w (effect p w (AuiPcc rd (high_piece at to)))) rd
      (raised w.pcc (upper_offset (high_piece at to)))
  pub address : access_address (access_of (Clc rd rd (low_piece at to)))
      (register (onward w (effect p w (AuiPcc rd (high_piece at to)))) rd)
      ≡ (cap_address w.pcc + way at to) % 2 ^ 32
