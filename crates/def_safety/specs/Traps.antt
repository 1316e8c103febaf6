-- The checks of a step, in the order in which they are written, and that a trap is the first of them that fails.
use Rattle.std.specs.Prelude.{ℕ, ◌≡◌, ◌==◌, ◌||◌, ◌++◌, Bool, true, false, List, [], ◌∷◌, Some, if◌then◌else◌}
use Rattle.ct_entry.specs.declared.acts.Act.TheVariants as acts
use Rattle.ct_entry.specs.declared.acts.Deed.{Deed}
use Rattle.def_native.specs.declared.TheConstants.{SWITCH, WAIT, WAKE}
use Rattle.def_profile.specs.declared.traps.TheConstants.{ILLEGAL_INSTRUCTION, BREAKPOINT, ENVIRONMENT_CALL, SYSTEM_REGISTER_CODE, PCC_REGISTER}
use Rattle.def_words.specs.declared.Cap.{Cap}
use Rattle.def_words.specs.declared.Trap.{Trap}
use Rattle.def_words.specs.Authority.{cap_address}
use Rattle.def_words.specs.Traps.{capability_trap, plain_trap}
use Rattle.def_instr.specs.declared.Instr.{Instr}
use Rattle.def_instr.specs.declared.Instr.TheVariants.{Jal, CJalr, Beq, Bne, Blt, Bge, Bltu, Bgeu}
use Rattle.def_machine.specs.Image.{Image, stack_base}
use Rattle.def_machine.specs.State.{State, thread, register}
use Rattle.def_step.specs.declared.Class.{Class}
use Rattle.def_step.specs.declared.Class.TheVariants as class
use Rattle.def_step.specs.declared.Event.{Event}
use Rattle.def_step.specs.declared.Next.{Next}
use Rattle.def_step.specs.declared.Next.TheVariants.{Returning, Instruction, Native, Nothing}
use Rattle.def_step.specs.Accesses.{access_of, access_checks}
use Rattle.def_step.specs.Checks.{Check}
use Rattle.def_step.specs.Events.{happens}
use Rattle.def_step.specs.Instructions.{fetch_checks, next_at, space_of}
use Rattle.def_step.specs.Jumps.{is_taken, jump_target, target_checks, register_jump_checks}
use Rattle.def_step.specs.Operands.{class_of}
use Rattle.def_step.specs.Routines.{word_checks}
use Rattle.def_step.specs.Switch.{return_checks, switch_checks, frame_top}
use Rattle.def_machine.specs.Platform.{Platform}
use Rattle.def_safety.specs.Each.{ready}
use Rattle.def_safety.specs.Used.{authority_of, value_of, access_start}

-- ---- the lists

-- the list whose check never holds
abbrev pub fails_always : Trap → List Check
fails_always why = (false, why) ∷ []

-- where a branch is taken, its target is checked
abbrev pub branch_checks : Bool → ℕ → List Check
branch_checks taken target = if taken then target_checks target else []

-- x and y are what a branch compares, and x is where a register jump leads
abbrev pub jump_checks : Instr → Cap → Cap → Cap → List Check
jump_checks (Jal rd offset) x y pcc = target_checks (jump_target pcc offset)
jump_checks (CJalr rd rs1 n) x y pcc = register_jump_checks rd rs1 x n
jump_checks (Beq rs1 rs2 offset) x y pcc =
    branch_checks (is_taken (Beq rs1 rs2 offset) (cap_address x) (cap_address y))
    (jump_target pcc offset)
jump_checks (Bne rs1 rs2 offset) x y pcc =
    branch_checks (is_taken (Bne rs1 rs2 offset) (cap_address x) (cap_address y))
    (jump_target pcc offset)
jump_checks (Blt rs1 rs2 offset) x y pcc =
    branch_checks (is_taken (Blt rs1 rs2 offset) (cap_address x) (cap_address y))
    (jump_target pcc offset)
jump_checks (Bge rs1 rs2 offset) x y pcc =
    branch_checks (is_taken (Bge rs1 rs2 offset) (cap_address x) (cap_address y))
    (jump_target pcc offset)
jump_checks (Bltu rs1 rs2 offset) x y pcc =
    branch_checks (is_taken (Bltu rs1 rs2 offset) (cap_address x) (cap_address y))
    (jump_target pcc offset)
jump_checks (Bgeu rs1 rs2 offset) x y pcc =
    branch_checks (is_taken (Bgeu rs1 rs2 offset) (cap_address x) (cap_address y))
    (jump_target pcc offset)
jump_checks _ x y pcc = []

-- of an instruction of thread t, by its class
abbrev pub class_checks : Class → Instr → State → ℕ → List Check
class_checks class.Integer k s t = []
class_checks class.Capability k s t = []
class_checks class.System k s t = fails_always (capability_trap SYSTEM_REGISTER_CODE PCC_REGISTER)
class_checks class.Jump k s t =
    jump_checks k (authority_of s t k) (value_of s t k) (thread s t).pcc
class_checks class.Access k s t =
    access_checks (access_of k) (authority_of s t k) (value_of s t k) (access_start s t k)
class_checks class.Fence k s t = []
class_checks class.Call k s t = fails_always (plain_trap ENVIRONMENT_CALL)
class_checks class.Break k s t = fails_always (plain_trap BREAKPOINT)

-- of a native routine that thread t runs, by its number
abbrev pub routine_checks : Image → State → ℕ → ℕ → List Check
routine_checks i s t n =
    if n == SWITCH
    then switch_checks (stack_base i t) (frame_top (thread s t).frames) (thread s t)
    else if (n == WAIT) || (n == WAKE)
    then return_checks (register (thread s t) 1) ++ word_checks i s (register (thread s t) 10)
    else return_checks (register (thread s t) 1)

-- of what stands at the program counter; the return has none
abbrev pub next_checks : Image → State → ℕ → Next → List Check
next_checks i s t Returning = []
next_checks i s t (Instruction k) = class_checks (class_of k) k s t
next_checks i s t (Native n) = routine_checks i s t n
next_checks i s t Nothing = fails_always (plain_trap ILLEGAL_INSTRUCTION)

-- of a step of thread t: the fetch's, then those of what stands there
abbrev pub step_checks : Platform → State → ℕ → List Check
step_checks b s t =
    fetch_checks (thread s t).pcc
    ++ next_checks b.image s t (next_at (space_of b s) (cap_address (thread s t).pcc))

-- ---- the first that fails

abbrev pub AllHold : List Check → Type 0
AllHold [] = Unit {0}
AllHold (c ∷ cs) = (c.0 ≡ true) × AllHold cs

-- a check of the list fails, with this trap, and each before it holds
pub record FirstFails (cs : List Check) (why : Trap) : Type 0 where
  pub before : List Check
  pub after : List Check
  pub list : cs ≡ before ++ (false, why) ∷ after
  pub hold : AllHold before

-- a trap that is told is that of the first check that fails
abbrev pub TrapsFirst : Platform → State → Event → Type 0
TrapsFirst b s e =
    (d : Deed) (cause code register : ℕ)
    → (happens b s e).1.deed ≡ Some d → d.act ≡ acts.Trap cause code register
    → FirstFails (step_checks b (ready b s) d.thread)
    (record { cause = cause; code = code; register = register })
