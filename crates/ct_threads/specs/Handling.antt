-- A row whose thread traps: what is asked, whether its compartment's error handler is entered, and what that leaves.
use Rattle.std.specs.Prelude.{ℕ, ◌+◌, ◌-◌, ◌*◌, ◌/◌, ◌==◌, ◌&&◌, ◌≡◌, Bool, true, false, not, List, length}
use Rattle.ct_entry.specs.Listed.{Listed}
use Rattle.def_profile.specs.declared.layout.TheConstants.{GRANULE}
use Rattle.def_words.specs.declared.Cap.{Cap}
use Rattle.def_words.specs.declared.Trap.{Trap}
use Rattle.def_words.specs.Authority.{cap_address}
use Rattle.def_words.specs.Capability.{with_address}
use Rattle.def_memory.specs.declared.Granule.{Granule}
use Rattle.def_memory.specs.Granules.{cap_in}
use Rattle.def_reach.specs.Roots.{gate_for}
use Rattle.def_machine.specs.State.{interrupts_on}
use Rattle.def_step.specs.declared.TheConstants.{TRAP_RECORD}
use Rattle.def_step.specs.Handlers.{Handed, has_room, record_end, record_by, words_written, handler_registers, handler_stack}
use Rattle.def_boot.specs.Made.{return_sentry}
use Rattle.ct_areas.specs.declared.thread.Thread as row
use Rattle.ct_areas.specs.Parts.{register_in}
use Rattle.ct_switch.specs.Exports.{AreSorted, IsCallable, callee_of}
use Rattle.ct_switch.specs.Ready.{IsReady}
use Rattle.ct_switch.specs.Calls.{head_of}

pub record RowMayHandle (gs : List Granule) (t : row.Thread) (e : Listed) (handler : ℕ) : Type 0 where
  pub ready : IsReady gs t
  pub sorted : AreSorted e.gates
  pub callable : (handler ≡ 0 → ⊥) → IsCallable e t.area.ram (8 * length gs) handler

abbrev pub is_handled_in : row.Thread → ℕ → Bool
is_handled_in t handler =
    not (handler == 0) && not t.handling && has_room t.area.stack t.top (register_in t 2)

abbrev pub handed_in : List Granule → Listed → row.Thread → ℕ → Handed
handed_in gs e t handler = record {
  pcc =
      with_address (cap_in gs (head_of e t.area (callee_of e handler)))
      (gate_for e.gates handler).code;
  back = return_sentry;
  globals = cap_in gs (head_of e t.area (callee_of e handler) + 1);
}

-- the granule with which the record of a trap begins, below a c2, in RAM from an address on
abbrev pub record_place : ℕ → Cap → ℕ
record_place ram c = (record_end c - TRAP_RECORD - ram) / GRANULE

-- memory with the record
abbrev pub recorded : List Granule → row.Thread → Trap → List Granule
recorded gs t why =
    words_written gs (record_place t.area.ram (register_in t 2))
    (record_by t.regs (cap_address t.pcc) why)

-- the row in the handler
abbrev pub handling_row : Handed → row.Thread → Trap → row.Thread
handling_row h t why = record t {
  pcc = h.pcc;
  regs = handler_registers h.back (handler_stack (register_in t 2)) h.globals why;
  posture = interrupts_on;
  handling = true;
}

-- memory and row, by whether the handler is entered
abbrev pub memory_by : Bool → List Granule → row.Thread → Trap → List Granule
memory_by true gs t why = recorded gs t why
memory_by false gs t why = gs

abbrev pub row_by : Bool → List Granule → Listed → row.Thread → ℕ → Trap → row.Thread
row_by true gs e t handler why = handling_row (handed_in gs e t handler) t why
row_by false gs e t handler why = t
