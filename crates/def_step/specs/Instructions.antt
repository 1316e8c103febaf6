-- *Instruction step*: one instruction of a thread.
use Rattle.std.specs.Prelude.{ℕ, ◌+◌, ◌-◌, ◌*◌, ◌/◌, ◌%◌, ◌==◌, ◌&&◌, Bool, nat_le, nat_lt, List, [], ◌∷◌, Option, Some, None, option_map, unwrap_or, Result, Ok, Err, slice_set, if◌then◌else◌}
use Rattle.ct_entry.specs.declared.acts.Act.{Act}
use Rattle.ct_entry.specs.declared.acts.Act.TheVariants.{Trap}
use Rattle.ct_entry.specs.declared.acts.Deed.{Deed}
use Rattle.def_words.specs.declared.Cap.{Cap}
use Rattle.def_words.specs.declared.Trap as trap_words
use Rattle.def_words.specs.declared.Posture.{Posture}
use Rattle.def_words.specs.Authority.{cap_address}
use Rattle.def_words.specs.Permissions.{has, execute}
use Rattle.def_words.specs.Seals.{is_unsealed}
use Rattle.def_words.specs.Capability.{integer, raised, is_range_inside}
use Rattle.def_memory.specs.declared.Granule.{Granule}
use Rattle.def_memory.specs.Granules.{plain}
use Rattle.def_memory.specs.Accesses.{loaded}
use Rattle.def_instr.specs.declared.Instr.{Instr}
use Rattle.def_instr.specs.Reading.{instruction_in}
use Rattle.def_instr.specs.Results.{integer_result}
use Rattle.def_capstep.specs.Results.{capability_result}
use Rattle.def_machine.specs.Image.{Image, root}
use Rattle.def_machine.specs.Platform.{Platform}
use Rattle.def_machine.specs.State.{State, Frame, register, thread}
use Rattle.def_machine.specs.Threads.{jumped}
use Rattle.def_step.specs.declared.Class.{Class}
use Rattle.def_step.specs.declared.Class.TheVariants as class
use Rattle.def_step.specs.declared.Next.{Next}
use Rattle.def_step.specs.declared.Next.TheVariants.{Returning, Instruction, Native, Nothing}
use Rattle.def_step.specs.declared.TheConstants.{LAST_ROUTINE}
use Rattle.def_native.specs.declared.TheConstants.{LAST_NATIVE}
use Rattle.def_profile.specs.declared.native.TheConstants.{NATIVE_BASE, NATIVE_UNIT, RETURN_ENTRY}
use Rattle.def_profile.specs.declared.traps.TheConstants.{BOUNDS_CODE, TAG_CODE, SEAL_CODE, EXECUTE_CODE, SYSTEM_REGISTER_CODE, PCC_REGISTER, ILLEGAL_INSTRUCTION, BREAKPOINT, ENVIRONMENT_CALL}
use Rattle.def_words.specs.Traps.{capability_trap, plain_trap}
use Rattle.def_step.specs.Checks.{Check, first_failed}
use Rattle.def_step.specs.Devices.{DeviceStates}
use Rattle.def_step.specs.Accesses.{is_ram, MemoryAndDevices, Accessed, access_result}
use Rattle.def_step.specs.Jumps.{Flowed, flow_result}
use Rattle.def_step.specs.Operands.{operands_of, class_of}
use Rattle.def_step.specs.Routines.{Ran, Traps, Leaves}
use Rattle.def_step.specs.Native.{native}
use Rattle.def_step.specs.Handlers.{return_taken, trap_taken}

-- ---- what an instruction that passes its checks does

-- a register gets a value (register 0 drops it), pcc and posture change, RAM and devices too; where it
-- reached a device, that is a deed
pub record Effect : Type 0 where
  pub to : ℕ
  pub value : Cap
  pub pcc : Cap
  pub posture : Posture
  pub granules : List Granule
  pub bank : DeviceStates
  pub act : Option Act

-- what an instruction works on beside its operands: pcc and posture, RAM, devices and time
pub record Context : Type 0 where
  pub pcc : Cap
  pub posture : Posture
  pub space : MemoryAndDevices

-- a register gets a value, and execution goes on after the instruction
abbrev pub gives : Context → ℕ → Cap → Effect
gives a to value = record {
  to = to;
  value = value;
  pcc = raised a.pcc 4;
  posture = a.posture;
  granules = a.space.granules;
  bank = a.space.bank;
  act = None;
}

abbrev pub flows : Context → ℕ → Result Flowed trap_words.Trap → Result Effect trap_words.Trap
flows a to (Err t) = Err t
flows a to (Ok f) =
    Ok (record {
      to = to;
      value = unwrap_or f.link (plain 0);
      pcc = f.pcc;
      posture = f.posture;
      granules = a.space.granules;
      bank = a.space.bank;
      act = None;
    })

abbrev pub accesses : Context → ℕ → Result Accessed trap_words.Trap → Result Effect trap_words.Trap
accesses a to (Err t) = Err t
accesses a to (Ok m) =
    Ok (record {
      to = to;
      value = unwrap_or m.value (plain 0);
      pcc = raised a.pcc 4;
      posture = a.posture;
      granules = m.granules;
      bank = m.bank;
      act = m.act;
    })

-- x and y are the values of the first and second source, and `named` is the export that the root of x
-- names, or 0
abbrev pub carried_out : Class → Instr → ℕ → Cap → Cap → ℕ → Context → Result Effect trap_words.Trap
carried_out class.Integer i to x y named a =
    Ok (gives a to (integer (integer_result i (cap_address x) (cap_address y))))
carried_out class.Capability i to x y named a = Ok (gives a to (capability_result i x y a.pcc))
carried_out class.System i to x y named a = Err (capability_trap SYSTEM_REGISTER_CODE PCC_REGISTER)
carried_out class.Jump i to x y named a = flows a to (flow_result i x y a.pcc a.posture named)
carried_out class.Access i to x y named a = accesses a to (access_result i x y a.space)
carried_out class.Fence i to x y named a = Ok (gives a 0 (plain 0))
carried_out class.Call i to x y named a = Err (plain_trap ENVIRONMENT_CALL)
carried_out class.Break i to x y named a = Err (plain_trap BREAKPOINT)

-- ---- fetch

abbrev pub fetch_checks : Cap → List Check
fetch_checks pcc =
    (pcc.tag, capability_trap TAG_CODE PCC_REGISTER)
    ∷ (is_unsealed pcc, capability_trap SEAL_CODE PCC_REGISTER)
    ∷ (has pcc execute, capability_trap EXECUTE_CODE PCC_REGISTER)
    ∷ (
      is_range_inside pcc (cap_address pcc) (cap_address pcc + 4),
      capability_trap BOUNDS_CODE
          PCC_REGISTER,
    )
    ∷ []

-- the word at an address; what isn't an aligned word of RAM is no instruction, and no pcc leads there
abbrev pub fetched : MemoryAndDevices → ℕ → ℕ
fetched p at =
    if is_ram p at 4 && (at % 4 == 0)
    then loaded p.granules (at - p.ram) 4
    else 0

-- the entry of a native routine that a slot may name, or of the return
abbrev pub is_native_entry : ℕ → Bool
is_native_entry x =
    nat_le NATIVE_BASE x && nat_lt x (NATIVE_BASE + NATIVE_UNIT * (LAST_NATIVE + 1))
    && (x % NATIVE_UNIT == 0)

-- the number of the routine at a native entry
abbrev pub native_number : ℕ → ℕ
native_number at = (at - NATIVE_BASE) / NATIVE_UNIT

-- what stands at the program counter: the return, another native routine, an instruction, or nothing that is
-- carried out
abbrev pub next_native : ℕ → Next
next_native number = if nat_le number LAST_ROUTINE then Native number else Nothing

abbrev pub next_word : Option Instr → Next
next_word None = Nothing
next_word (Some i) = Instruction i

abbrev pub next_at : MemoryAndDevices → ℕ → Next
next_at p at =
    if at == RETURN_ENTRY then Returning
    else if is_native_entry at then next_native (native_number at)
    else next_word (instruction_in (fetched p at))

-- ---- one instruction of thread t, on the whole state

abbrev pub bank_of : Platform → State → DeviceStates
bank_of b s = record { bases = b.bases; states = s.devices }

abbrev pub space_of : Platform → State → MemoryAndDevices
space_of b s = record {
  ram = b.image.ram;
  granules = s.granules;
  bank = bank_of b s;
  time = s.time;
}

abbrev pub around : Platform → State → ℕ → Context
around b s t = record {
  pcc = (thread s t).pcc;
  posture = (thread s t).posture;
  space = space_of b s;
}

-- the compartment of the top frame
abbrev pub actor_of : List Frame → ℕ
actor_of [] = 0
actor_of (f ∷ fs) = f.actor

abbrev pub deed : State → ℕ → ℕ → Act → Deed
deed s t entry act = record {
  thread = t;
  actor = actor_of (thread s t).frames;
  entry = entry;
  act = act;
}

-- a trap enters an error handler, or unwinds, in the same step
abbrev pub trapped : Platform → State → ℕ → trap_words.Trap → State × Option Deed
trapped b s t why = (
  trap_taken b.image s t why (thread s t).frames,
  Some
      (deed s t 0 (Trap why.cause why.code why.register)),
)

abbrev pub put_done : State → ℕ → Effect → State
put_done s t d = record s {
  granules = d.granules;
  threads = slice_set s.threads t (jumped (thread s t) d.pcc d.posture d.to d.value);
  devices = d.bank.states;
}

-- `x` is the capability that was used: a deed's entry is its root
abbrev pub instruction_end : Platform → State → ℕ → Cap → Result Effect trap_words.Trap → State × Option Deed
instruction_end b s t x (Err why) = trapped b s t why
instruction_end b s t x (Ok d) = (put_done s t d, option_map (deed s t x.shadow.root) d.act)

abbrev pub operand : State → ℕ → ℕ → Cap
operand s t n = register (thread s t) n

-- the export that the root of a capability names, or 0
abbrev pub named_by : Image → Cap → ℕ
named_by i x = (root i x.shadow.root).of

abbrev pub instructed : Platform → State → ℕ → Instr → State × Option Deed
instructed b s t i =
    instruction_end b s t (operand s t (operands_of i).first)
    (carried_out (class_of i) i (operands_of i).to (operand s t (operands_of i).first)
    (operand s t (operands_of i).second) (named_by b.image (operand s t (operands_of i).first))
    (around b s t))

-- a routine's deed is its caller's, of the frame before the call
abbrev pub deed_told : State → ℕ → ℕ × Act → Deed
deed_told s t told = deed s t told.0 told.1

abbrev pub ran : Platform → State → ℕ → Ran → State × Option Deed
ran b s t (Traps why) = trapped b s t why
ran b s t (Leaves after told) = (after, option_map (deed_told s t) told)

-- a number of no routine is no instruction
abbrev pub served : Platform → State → ℕ → Option Ran → State × Option Deed
served b s t None = trapped b s t (plain_trap ILLEGAL_INSTRUCTION)
served b s t (Some r) = ran b s t r

abbrev pub goes_on : Platform → State → ℕ → Next → State × Option Deed
goes_on b s t Returning = (return_taken b.image s t (thread s t).frames, None)
goes_on b s t (Instruction i) = instructed b s t i
goes_on b s t (Native number) = served b s t (native b.image s t number)
goes_on b s t Nothing = trapped b s t (plain_trap ILLEGAL_INSTRUCTION)

abbrev pub after_fetch : Platform → State → ℕ → Option trap_words.Trap → State × Option Deed
after_fetch b s t (Some why) = trapped b s t why
after_fetch b s t None = goes_on b s t (next_at (space_of b s) (cap_address (thread s t).pcc))

unfoldable pub executed : Platform → State → ℕ → State × Option Deed
executed b s t = after_fetch b s t (first_failed (fetch_checks (thread s t).pcc))
