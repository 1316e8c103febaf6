-- *Handler*: where a trap enters the error handler of the thread's compartment, how, and how the handler ends.
use Rattle.std.specs.Prelude.{ℕ, ◌+◌, ◌-◌, ◌*◌, ◌/◌, ◌^◌, ◌==◌, ◌&&◌, ◌++◌, Bool, true, not, nat_le, List, [], ◌∷◌, map, is_none, slice_index_or, if◌then◌else◌}
use Rattle.std.specs.List.{range_with_len}
use Rattle.def_profile.specs.declared.answers.TheConstants.{UNWOUND}
use Rattle.def_words.specs.declared.Cap.{Cap}
use Rattle.def_words.specs.declared.Trap.{Trap}
use Rattle.def_words.specs.Authority.{cap_address}
use Rattle.def_words.specs.Capability.{integer, with_address}
use Rattle.def_memory.specs.declared.Granule.{Granule}
use Rattle.def_memory.specs.Granules.{plain, holding_all}
use Rattle.def_reach.specs.Roots.{gate_for}
use Rattle.def_machine.specs.Image.{Image, made_cap, code_entry, globals_entry, handler_entry, stack_base}
use Rattle.def_machine.specs.State.{State, Thread, Frame, thread, register, interrupts_on}
use Rattle.def_machine.specs.Frames.{ended_with, returned, unwound}
use Rattle.def_machine.specs.Registers.{with_thread}
use Rattle.def_step.specs.declared.TheConstants.{TRAP_RECORD}
use Rattle.def_step.specs.Checks.{first_failed}
use Rattle.def_step.specs.Switch.{stack_checks}

-- ---- where it is entered

-- c2's address, down to a multiple of 16: where the record of a trap ends
abbrev pub record_end : Cap → ℕ
record_end c = cap_address c / 16 * 16

-- there is room for the record below c2, which passes the switch's checks
abbrev pub has_room : ℕ → ℕ → Cap → Bool
has_room base top c =
    is_none (first_failed (stack_checks base top c)) && nat_le (base + TRAP_RECORD) (record_end c)

-- a frame whose compartment's error handler is this export, 0 where it has none; the stack's base, the thread
abbrev pub is_handled_by : ℕ → ℕ → Thread → Frame → Bool
is_handled_by handler base old f =
    not (handler == 0) && not f.handling && has_room base f.top (register old 2)

abbrev pub is_handled : Image → ℕ → Thread → Frame → Bool
is_handled i base old f = is_handled_by (handler_entry i f.actor) base old f

-- ---- entry

-- two words of a granule
abbrev pub pair : ℕ → ℕ → ℕ
pair low high = low + high * 2 ^ 32

-- the record: addresses of c0 to c15, then pcc's; cause, code and register
abbrev pub record_by : List Cap → ℕ → Trap → List ℕ
record_by registers pc why =
    map
    (λ n. pair (cap_address (slice_index_or registers (2 * n) (plain 0)))
    (cap_address (slice_index_or registers (2 * n + 1) (plain 0))))
    (range_with_len 0 8)
    ++ pair pc why.cause ∷ pair why.code why.register ∷ []

abbrev pub record_words : Thread → Trap → List ℕ
record_words old why = record_by old.registers (cap_address old.pcc) why

-- plain words one after another, from a granule on
abbrev pub words_written : List Granule → ℕ → List ℕ → List Granule
words_written gs k ws = holding_all gs k (map plain ws)

-- what a handler gets: its code, the way back, its globals
pub record Handed : Type 0 where
  pub pcc : Cap
  pub back : Cap
  pub globals : Cap

abbrev pub handed : Image → ℕ → Handed
handed i actor = record {
  pcc =
      with_address (made_cap i (code_entry i actor))
      (gate_for i.entries.gates (handler_entry i actor)).code;
  back = made_cap i 0;
  globals = made_cap i (globals_entry i actor);
}

-- the registers that a handler begins with: c1, c2, c3, and the trap in c10 to c12; the rest is zero
abbrev pub handler_registers : Cap → Cap → Cap → Trap → List Cap
handler_registers back stack globals why =
    plain 0 ∷ back ∷ stack ∷ globals
    ∷ plain 0 ∷ plain 0 ∷ plain 0 ∷ plain 0 ∷ plain 0 ∷ plain 0 ∷ integer why.cause
    ∷ integer why.code ∷ integer why.register ∷ plain 0 ∷ plain 0 ∷ plain 0 ∷ []

-- where c2 stands when the handler begins: at the record
abbrev pub handler_stack : Cap → Cap
handler_stack c = with_address c (record_end c - TRAP_RECORD)

abbrev pub handled_by : Handed → Thread → Trap → Frame → List Frame → Thread
handled_by h old why f fs = record {
  pcc = h.pcc;
  registers = handler_registers h.back (handler_stack (register old 2)) h.globals why;
  frames = record f { handling = true } ∷ fs;
  status = old.status;
  posture = interrupts_on;
}

abbrev pub handled : Image → Thread → Trap → Frame → List Frame → Thread
handled i old why f fs = handled_by (handed i f.actor) old why f fs

abbrev pub handler_entered : Image → State → ℕ → Trap → Frame → List Frame → State
handler_entered i s t why f fs = record (with_thread s t (handled i (thread s t) why f fs)) {
  granules =
      words_written s.granules ((record_end (register (thread s t) 2) - TRAP_RECORD - i.ram) / 8)
      (record_words (thread s t) why);
}

-- ---- its end

-- what a handling frame ends with: where c10 has the address 1, that of c11; else -1, as an unwind
abbrev pub handler_value : Thread → ℕ
handler_value old =
    if cap_address (register old 10) == 1 then cap_address (register old 11) else UNWOUND

-- the end of the innermost frame by the native return, whether it is handling or not
abbrev pub return_taken : Image → State → ℕ → List Frame → State
return_taken i s t [] = s
return_taken i s t (f ∷ fs) =
    if f.handling then ended_with i s t (handler_value (thread s t)) (f ∷ fs)
    else returned i s t (f ∷ fs)

-- a trap enters the error handler of the innermost frame's compartment, or unwinds that frame
abbrev pub trap_taken : Image → State → ℕ → Trap → List Frame → State
trap_taken i s t why [] = s
trap_taken i s t why (f ∷ fs) =
    if is_handled i (stack_base i t) (thread s t) f then handler_entered i s t why f fs
    else unwound i s t (f ∷ fs)
