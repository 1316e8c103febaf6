-- What a switch, a return and an unwind leave of a thread and of memory.
use Rattle.std.specs.Prelude.{ℕ, ◌+◌, ◌-◌, ◌*◌, ◌/◌, ◌^◌, ◌==◌, ◌≡◌, ◌≤◌, ◌<◌, ◌%◌, true, false, Bool, cond, nat_lt, List, [], ◌∷◌, slice_index_or, ◌++◌, Option, if◌then◌else◌}
use Rattle.ct_entry.specs.Listed.{Listed}
use Rattle.def_profile.specs.declared.layout.TheConstants.{GRANULE}
use Rattle.def_profile.specs.declared.rights.TheConstants.{STACK_RIGHTS}
use Rattle.def_words.specs.declared.Cap.{Cap}
use Rattle.def_words.specs.declared.Posture.{Posture}
use Rattle.def_words.specs.declared.Shadow.{Shadow}
use Rattle.def_words.specs.declared.Trap.{Trap}
use Rattle.def_words.specs.Capability.{untagged, with_address}
use Rattle.def_words.specs.Derive.{derive, memory_root}
use Rattle.def_words.specs.Jumped.{opened}
use Rattle.def_words.specs.Seals.{cap_seal, posture_through}
use Rattle.def_memory.specs.declared.Granule.{Granule}
use Rattle.def_memory.specs.Granules.{plain, cap_in}
use Rattle.def_memory.specs.Ranges.{zeroed_from}
use Rattle.def_boot.specs.Made.{return_sentry}
use Rattle.def_machine.specs.Image.{Image, made_cap, code_entry, globals_entry, stack_base}
use Rattle.def_machine.specs.State.{Thread, Frame, nobody, interrupts_on}
use Rattle.def_machine.specs.Frames.{Given, pushed_frame, entered_by, left_with, cap_passed_by}
use Rattle.def_machine.specs.Memory.{filtered_in}
use Rattle.def_step.specs.Checks.{first_failed}
use Rattle.def_step.specs.Switch.{Switched, Trapped, TooDeep, NoStack, Enters, return_checks, gate_checks, stack_checks, switch_of, new_top}
use Rattle.ct_areas.specs.declared.thread.Thread as row
use Rattle.ct_areas.specs.declared.thread.Area.{Area}
use Rattle.ct_areas.specs.Threads.{frames_most, thread_of}
use Rattle.ct_areas.specs.Parts.{register_in, with_frame, without_frame, inner_frame, filtered_frame, caller_registers, shallower}
use Rattle.ct_switch.specs.declared.calls.Called.{Called}
use Rattle.ct_switch.specs.declared.calls.Called.TheVariants as called
use Rattle.ct_switch.specs.declared.deciding.Decision.{Decision}
use Rattle.ct_switch.specs.declared.deciding.Decision.TheVariants as decision
use Rattle.ct_switch.specs.declared.exports.Export.{Export}
use Rattle.ct_switch.specs.declared.given.Head.{Head}
use Rattle.ct_switch.specs.Exports.{IsCallable, callee_of, export_of, table_of}

-- ---- a call

-- the granule with which a compartment's export table begins
abbrev pub head_of : Listed → Area → ℕ → ℕ
head_of e a b = (table_of e b - a.ram) / GRANULE

-- the stack that it has: from its base to the new top, at that top, with the shadow of the
-- caller's c2
abbrev pub stack_cap : ℕ → ℕ → Shadow → Cap
stack_cap base high from = derive memory_root base (high - base) STACK_RIGHTS high 0 from

-- its high word, by the fields of its bounds: the six bits of its permissions, and no seal
abbrev pub stack_high : ℕ → ℕ
stack_high fields = 31 * 2 ^ 25 + fields

-- What the callee is given: its code and its globals stand in the head of its export table.
abbrev pub given_from : Head → row.Thread → ℕ → ℕ → Given
given_from h t code high = record {
  pcc = with_address h.code code;
  back = return_sentry;
  stack = stack_cap t.area.stack high (register_in t 2).shadow;
  globals = h.globals;
}

abbrev pub head_at : List Granule → ℕ → Head
head_at gs k = record { code = cap_in gs k; globals = cap_in gs (k + 1) }

abbrev pub given_by : List Granule → row.Thread → ℕ → ℕ → ℕ → Given
given_by gs t head code high = given_from (head_at gs head) t code high

abbrev pub given_in : List Granule → Listed → row.Thread → ℕ → ℕ → Given
given_in gs e t export high =
    given_by gs t (head_of e t.area (callee_of e export)) (export_of e export).code high

-- memory whose head of the callee's export table is as boot made it, and whose thread n has this
-- row
pub record HoldsHeads (i : Image) (gs : List Granule) (e : Listed) (t : row.Thread)
    (n export : ℕ) : Type 0 where
  pub entries : i.entries ≡ e
  pub code : cap_in gs (head_of e t.area (callee_of e export))
      ≡ made_cap i (code_entry i (callee_of e export))
  pub globals : cap_in gs (head_of e t.area (callee_of e export) + 1)
      ≡ made_cap i (globals_entry i (callee_of e export))
  pub back : made_cap i 0 ≡ return_sentry
  pub stack : stack_base i n ≡ t.area.stack
  pub alive : 0 < t.depth

-- the first check of a thread that runs that fails
abbrev pub failed_in : row.Thread → Option Trap
failed_in t =
    first_failed
    (return_checks (register_in t 1) ++ gate_checks (register_in t 6)
    ++ stack_checks t.area.stack t.top (register_in t 2))

-- what the switch comes to
abbrev pub switch_in : List Granule → Listed → row.Thread → Switched
switch_in gs e t = switch_of e t.area.stack t.top (frames_most t.area) (thread_of gs true t)

-- a decision as that
abbrev pub decided : Decision → Switched
decided (decision.Trapped why) = Trapped why
decided decision.TooDeep = TooDeep
decided decision.NoStack = NoStack
decided (decision.Enters x high) = Enters x.number high

-- after the checks and the depth: whether the export's stack fits below an address
abbrev pub roomed : ℕ → ℕ → Export → Decision
roomed base address x =
    if nat_lt (new_top base address - base) x.stack then decision.NoStack
    else decision.Enters x (new_top base address)

-- the new top below an address lies in the stack, at a multiple of 16
pub record TopFits (base address : ℕ) : Type 0 where
  pub low : base ≤ new_top base address
  pub high : new_top base address ≤ address
  pub even : new_top base address % 16 ≡ 0

-- of a call that enters: the export is the one that its number names, and the new top lies in
-- the caller's stack
pub record Enterable (e : Listed) (size : ℕ) (t : row.Thread) (x : Export) (high : ℕ) : Type 0 where
  pub is : x ≡ export_of e x.number
  pub callable : IsCallable e t.area.ram size x.number
  pub above : t.area.stack ≤ high
  pub below : high ≤ t.top
  pub even : high % 16 ≡ 0
  pub room : t.depth < frames_most t.area

abbrev pub MayEnter : Listed → ℕ → row.Thread → Decision → Type 0
MayEnter e size t (decision.Enters x high) = Enterable e size t x high
MayEnter e size t _ = Unit {0}

abbrev pub call_outcome : Cap → Switched → Called
call_outcome import (Trapped why) = called.Trapped why
call_outcome import TooDeep = called.TooDeep
call_outcome import NoStack = called.NoStack
call_outcome import (Enters export high) = called.Entered import.shadow.root export

-- where it enters the callee the stack is zeroed up to the new top, and a frame is written; else
-- nothing changes
abbrev pub memory_after : List Granule → row.Thread → Switched → List Granule
memory_after gs t (Enters export high) =
    with_frame (zeroed_from t.area.stack high t.area.ram gs) t export
memory_after gs t _ = gs

abbrev pub thread_after : List Granule → Listed → row.Thread → Switched → Thread
thread_after gs e t (Enters export high) =
    entered_by e (thread_of gs true t) (callee_of e export) export high
    (given_in gs e t export high)
thread_after gs e t _ = thread_of gs true t

-- the registers of the callee, by how many arguments the export declares and whether it passes
-- capabilities
abbrev pub handed : Bool → Cap → Cap
handed passes c = cond passes c (untagged c)

abbrev pub argument_in : Export → List Cap → ℕ → Cap
argument_in x regs n =
    cond (nat_lt n x.args) (handed x.passes (slice_index_or regs (10 + n) (plain 0))) (plain 0)

abbrev pub callee_registers : Export → List Cap → Cap → Cap → Cap → List Cap
callee_registers x regs back stack globals =
    plain 0 ∷ back ∷ stack ∷ globals ∷ plain 0 ∷ plain 0 ∷ plain 0 ∷ plain 0 ∷ plain 0
    ∷ plain 0
    ∷ argument_in x regs 0 ∷ argument_in x regs 1 ∷ argument_in x regs 2 ∷ argument_in x regs 3
    ∷ argument_in x regs 4
    ∷ argument_in x regs 5 ∷ []

abbrev pub registers_in : Export → List Cap → Given → List Cap
registers_in x regs g = callee_registers x regs g.back g.stack g.globals

abbrev pub posture_in : Export → Posture
posture_in x = cond x.disabled (record { off = true; source = x.number }) interrupts_on

abbrev pub entered_row : row.Thread → Export → ℕ → Given → row.Thread
entered_row t x high g = record t {
  pcc = g.pcc;
  regs = registers_in x t.regs g;
  posture = posture_in x;
  depth = t.depth + 1;
  top = high;
  actor = x.callee;
  handling = false;
}

abbrev pub entered_thread : Thread → Export → ℕ → Given → Thread
entered_thread old x high g = record {
  pcc = g.pcc;
  registers = registers_in x old.registers g;
  frames = pushed_frame old x.callee x.number high ∷ old.frames;
  status = old.status;
  posture = posture_in x;
}

abbrev pub row_after : List Granule → Listed → row.Thread → Switched → row.Thread
row_after gs e t (Enters export high) =
    entered_row t (export_of e export) high (given_in gs e t export high)
row_after gs e t _ = t

-- ---- a frame's end

-- The innermost frame ends with results that may go by the frame; without one below it the
-- thread ends.
abbrev pub after_frame_end : (Cap → Cap) → Thread → List Frame → (Frame → Cap) → (Frame → Cap) → Thread
after_frame_end keep old [] first second = old
after_frame_end keep old (f ∷ []) first second = nobody
after_frame_end keep old (f ∷ g ∷ gs) first second = left_with keep old f (g ∷ gs) (first f) (second f)

abbrev pub load_filter : List Granule → row.Thread → Cap → Cap
load_filter gs t = filtered_in t.area.ram gs

-- what a return hands back, by the frame: a register, untagged where the frame's export passes
-- plain values
abbrev pub returned_by : Listed → row.Thread → ℕ → Frame → Cap
returned_by e t n f = cap_passed_by e f.export (register_in t n)

abbrev pub thread_left : List Granule → row.Thread → (Frame → Cap) → (Frame → Cap) → Thread
thread_left gs t first second =
    after_frame_end (load_filter gs t) (thread_of gs true t) (thread_of gs true t).frames first second

-- the frame's granules are zeroed, and the stack up to its top
abbrev pub memory_left : List Granule → row.Thread → List Granule
memory_left gs t = zeroed_from t.area.stack t.top t.area.ram (without_frame gs t)

-- registers that hold nothing
abbrev pub no_registers : List Cap
no_registers =
    plain 0 ∷ plain 0 ∷ plain 0 ∷ plain 0 ∷ plain 0 ∷ plain 0 ∷ plain 0 ∷ plain 0 ∷ plain 0
    ∷ plain 0 ∷ plain 0 ∷ plain 0 ∷ plain 0 ∷ plain 0 ∷ plain 0 ∷ plain 0 ∷ []

-- a thread's row after its last frame
abbrev pub ended_row : row.Thread → row.Thread
ended_row t = record t {
  pcc = plain 0;
  regs = no_registers;
  posture = interrupts_on;
  depth = 0;
  top = 0;
  actor = 0;
  handling = false;
}

-- with what its frame kept, filtered, and two results
abbrev pub restored_row : row.Thread → Frame → Frame → Cap → Cap → row.Thread
restored_row t f kept first second = record t {
  pcc = opened kept.c1;
  regs = caller_registers kept first second;
  posture = posture_through t.posture (cap_seal f.c1) 0 f.c1.shadow.source;
}

abbrev pub row_left : List Granule → row.Thread → (Frame → Cap) → (Frame → Cap) → row.Thread
row_left gs t first second = cond (t.depth == 1) (ended_row t)
    (restored_row (shallower gs t) (inner_frame gs t)
    (filtered_frame gs t.area.ram (inner_frame gs t)) (first (inner_frame gs t))
    (second (inner_frame gs t)))
