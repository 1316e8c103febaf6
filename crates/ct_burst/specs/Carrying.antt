-- What it is to carry out an instruction on a row and memory.
use Rattle.std.specs.Prelude.{ℕ, ◌+◌, ◌*◌, ◌%◌, ◌≡◌, Bool, true, false, List, length, Option, Some, None, slice_index_or, if◌then◌else◌}
use Rattle.def_instr.specs.declared.Instr.{Instr}
use Rattle.def_instr.specs.declared.Instr.TheVariants.{Jal, Beq, Bne, Blt, Bge, Bltu, Bgeu}
use Rattle.def_machine.specs.State.{Frame}
use Rattle.def_memory.specs.declared.Granule.{Granule}
use Rattle.def_memory.specs.Granules.{plain}
use Rattle.def_step.specs.declared.Class.{Class}
use Rattle.def_step.specs.Jumps.{is_taken, register_target}
use Rattle.def_step.specs.Operands.{class_of, operands, operands_of}
use Rattle.def_words.specs.declared.Cap.{Cap}
use Rattle.def_words.specs.Authority.{cap_address}
use Rattle.def_words.specs.Capability.{raised, with_address}
use Rattle.def_words.specs.Jumped.{opened, return_link}
use Rattle.ct_areas.specs.declared.thread.Thread as row
use Rattle.ct_threads.specs.declared.window.Window.{Window}
use Rattle.ct_threads.specs.Rows.{row_gone}
use Rattle.ct_threads.specs.Windows.{window_holds, IsWindow, Suits}
use Rattle.ct_burst.specs.declared.going.Quietly.{Quietly}
use Rattle.ct_burst.specs.declared.going.Quietly.TheVariants.{Led, Loud, Turned, Went}
use Rattle.ct_burst.specs.Going.{running_thread, Carries}

-- the row's thread goes on by instruction i, whatever its frames
pub record CarriesRow (ram : ℕ) (r : row.Thread) (gs : List Granule) (i : Instr) (new : row.Thread)
    (after : List Granule) : Type 0 where
  pub each : (fs : List Frame) → Carries ram (running_thread r fs) gs i (running_thread new fs) after

-- the same of an instruction that leaves memory as it is, whatever memory that is
pub record CarriesAlone (r : row.Thread) (i : Instr) (new : row.Thread) : Type 0 where
  pub each : (ram : ℕ) (gs : List Granule) (fs : List Frame)
      → Carries ram (running_thread r fs) gs i (running_thread new fs) gs

-- a window of a row's program counter capability, in RAM with these granules
abbrev pub HasWindow : ℕ → row.Thread → List Granule → Window → Type 0
HasWindow ram r gs w = IsWindow w r.pcc ram (8 * length gs)

-- what no instruction changes of a row
abbrev pub IsBeside : row.Thread → row.Thread → Type 0
IsBeside r new = new ≡ record r { pcc = new.pcc; regs = new.regs }

-- the same, and memory keeps its size
pub record Stays (r new : row.Thread) (gs after : List Granule) : Type 0 where
  pub beside : IsBeside r new
  pub size : length after ≡ length gs

-- the window suits the row, which is tagged, at a multiple of 4
pub record IsOn (r : row.Thread) (w : Window) : Type 0 where
  pub suits : Suits w r.pcc
  pub tagged : r.pcc.tag ≡ true
  pub whole : cap_address r.pcc % 4 ≡ 0

-- and holds its address
pub record IsHeld (r : row.Thread) (w : Window) : Type 0 where
  pub on : IsOn r w
  pub held : window_holds w (cap_address r.pcc) ≡ true

-- the window suits the row as before, and it is at the address past that of row r
pub record IsPast (r new : row.Thread) (w : Window) : Type 0 where
  pub on : IsOn new w
  pub next : cap_address new.pcc ≡ cap_address r.pcc + 4

-- a register's value
abbrev pub value_in : row.Thread → ℕ → Cap
value_in r n = slice_index_or r.regs n (plain 0)

-- the address in a register
abbrev pub address_in : row.Thread → ℕ → ℕ
address_in r n = cap_address (value_in r n)

-- a row goes on after its instruction, and a register gets a value
abbrev pub put_in : row.Thread → ℕ → Cap → row.Thread
put_in r to value = row_gone r (raised r.pcc 4) r.posture to value

-- a row goes on at an address, and a register gets the link of the jump there
abbrev pub linked_to : row.Thread → ℕ → ℕ → row.Thread
linked_to r at to = row_gone r (with_address r.pcc at) r.posture to (return_link r.pcc r.posture)

-- a row goes on through register `at` with its posture, and a register gets the link
abbrev pub row_through : row.Thread → ℕ → ℕ → ℕ → row.Thread
row_through r to at n =
    row_gone r (with_address (opened (value_in r at)) (register_target (value_in r at) n)) r.posture
    to (return_link r.pcc r.posture)

-- an instruction of a class, whose registers are these
pub record HasOperands (i : Instr) (kind : Class) (to first second : ℕ) : Type 0 where
  pub class : class_of i ≡ kind
  pub operands : operands_of i ≡ operands to first second

-- ---- where a jump leads: r is the row

-- the offset of a branch
abbrev pub offset_of : Instr → Option ℕ
offset_of (Beq rs1 rs2 offset) = Some offset
offset_of (Bne rs1 rs2 offset) = Some offset
offset_of (Blt rs1 rs2 offset) = Some offset
offset_of (Bge rs1 rs2 offset) = Some offset
offset_of (Bltu rs1 rs2 offset) = Some offset
offset_of (Bgeu rs1 rs2 offset) = Some offset
offset_of i = None

-- whether a branch is taken
abbrev pub takes : row.Thread → Instr → Bool
takes r i =
    is_taken i (address_in r (operands_of i).first) (address_in r (operands_of i).second)

-- the offset of `jal`
abbrev pub jal_offset : Instr → Option ℕ
jal_offset (Jal rd offset) = Some offset
jal_offset i = None

-- by how much a branch moves the program counter, taken or not, or `jal`
abbrev pub jump_by : row.Thread → Instr → Option ℕ → Option ℕ
jump_by r i (Some offset) = Some (if takes r i then offset else 4)
jump_by r i None = jal_offset i

abbrev pub jump_distance : row.Thread → Instr → Option ℕ
jump_distance r i = jump_by r i (offset_of i)

-- ---- how an instruction went

-- whether it was carried out
abbrev pub went : Quietly → Bool
went Loud = false
went Went = true
went Led = true
went Turned = true

-- whether the row is where the window is known to suit it
abbrev pub stays_inside : Quietly → Bool
stays_inside Loud = true
stays_inside Went = true
stays_inside Led = true
stays_inside Turned = false

-- memory staying, whatever it is
pub record CarriedAlone (r : row.Thread) (w : Window) (i : Instr) (how : Quietly) (new : row.Thread) : Type 0 where
  pub carries : went how ≡ true → CarriesAlone r i new
  pub same : went how ≡ false → new ≡ r
  pub beside : IsBeside r new
  pub past : how ≡ Went → IsPast r new w
  pub led : how ≡ Led → IsHeld new w

-- memory included
pub record Carried (ram : ℕ) (r : row.Thread) (gs : List Granule) (w : Window) (i : Instr)
    (how : Quietly) (new : row.Thread) (after : List Granule) : Type 0 where
  pub carries : went how ≡ true → CarriesRow ram r gs i new after
  pub same : went how ≡ false → new ≡ r
  pub stays : Stays r new gs after
  pub past : how ≡ Went → IsPast r new w
  pub led : how ≡ Led → IsHeld new w
  pub memory : went how ≡ false → after ≡ gs
