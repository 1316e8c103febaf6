-- *Threads and frames*: the switch. Its checks, the room that it gives a callee, and what it comes to.
use Rattle.std.specs.Prelude.{ℕ, ◌+◌, ◌-◌, ◌*◌, ◌/◌, ◌^◌, ◌==◌, ◌&&◌, ◌++◌, nat_le, nat_lt, find, length, List, [], ◌∷◌, Option, Some, None, unwrap_or, if◌then◌else◌}
use Rattle.std.specs.List.{range_with_len}
use Rattle.std.specs.Int.{is_in_range}
use Rattle.def_profile.specs.declared.bounds.TheConstants.{LAST_EXPONENT, MOST_UNITS}
use Rattle.def_profile.specs.declared.seals.TheConstants.{RETURN_DISABLE, RETURN_ENABLE, EXPORT_TYPE}
use Rattle.ct_entry.specs.Listed.{Listed}
use Rattle.def_words.specs.declared.Cap.{Cap}
use Rattle.def_words.specs.declared.Trap.{Trap}
use Rattle.def_words.specs.Authority.{cap_address, cap_base}
use Rattle.def_words.specs.Permissions.{has, store_local}
use Rattle.def_words.specs.Seals.{cap_seal, is_unsealed}
use Rattle.def_reach.specs.Roots.{root_of, gate_for}
use Rattle.def_machine.specs.State.{Thread, Frame, register}
use Rattle.def_step.specs.Checks.{Check, first_failed}
use Rattle.def_words.specs.Traps.{capability_trap}
use Rattle.def_profile.specs.declared.traps.TheConstants.{TAG_CODE, SEAL_CODE, STORE_CODE, BOUNDS_CODE}

-- ---- checks

-- c1, of every native routine but the return: a return sentry
abbrev pub return_checks : Cap → List Check
return_checks c =
    (c.tag, capability_trap TAG_CODE 1)
    ∷ (is_in_range RETURN_DISABLE RETURN_ENABLE (cap_seal c), capability_trap SEAL_CODE 1)
    ∷ []

-- c6: a call import
abbrev pub gate_checks : Cap → List Check
gate_checks c =
    (c.tag, capability_trap TAG_CODE 6)
    ∷ (cap_seal c == EXPORT_TYPE, capability_trap SEAL_CODE 6)
    ∷ []

-- c2: the thread's stack from its base, at an address no further than the frame's top
abbrev pub stack_checks : ℕ → ℕ → Cap → List Check
stack_checks base top c =
    (c.tag, capability_trap TAG_CODE 2)
    ∷ (is_unsealed c, capability_trap SEAL_CODE 2)
    ∷ (has c store_local, capability_trap STORE_CODE 2)
    ∷ ((cap_base c == base) && is_in_range base top (cap_address c), capability_trap BOUNDS_CODE 2)
    ∷ []

abbrev pub switch_checks : ℕ → ℕ → Thread → List Check
switch_checks base top caller =
    return_checks (register caller 1) ++ gate_checks (register caller 6)
    ++ stack_checks base top (register caller 2)

-- ---- the room

-- the least e of 4 to 14 at which a length has at most 511 units of 2^e
abbrev pub room_exponent : ℕ → ℕ
room_exponent length =
    unwrap_or
    (find (λ e. nat_le (length / 2 ^ e) MOST_UNITS) (range_with_len 4 (LAST_EXPONENT - 3)))
    LAST_EXPONENT

abbrev pub room_of : ℕ → ℕ
room_of length = length / 2 ^ room_exponent length * 2 ^ room_exponent length

-- where the callee's stack ends, of which this is the base, where the caller's c2 has this address
abbrev pub new_top : ℕ → ℕ → ℕ
new_top base address = base + room_of (address - base)

-- ---- what it comes to

-- a check fails, or the thread has as many frames as it may have, or the callee's stack has too little room, or the
-- export is entered with a stack up to an address
pub data Switched : Type 0 where
  Trapped : Trap → Switched
  TooDeep : Switched
  NoStack : Switched
  Enters : ℕ → ℕ → Switched

-- the export that a call import names
abbrev pub called : Listed → Thread → ℕ
called e caller = (root_of e (register caller 6).shadow.root).of

abbrev pub with_room : Listed → ℕ → ℕ → ℕ → Switched
with_room e base high export =
    if nat_lt (high - base) (gate_for e.gates export).stack then NoStack else Enters export high

abbrev pub with_depth : Listed → ℕ → ℕ → Thread → Switched
with_depth e base most caller =
    if length caller.frames == most then TooDeep
    else with_room e base (new_top base (cap_address (register caller 2))) (called e caller)

abbrev pub past_checks : Listed → ℕ → ℕ → Thread → Option Trap → Switched
past_checks e base most caller (Some why) = Trapped why
past_checks e base most caller None = with_depth e base most caller

-- of a thread whose stack has this base, which may have so many frames, and whose top frame has this top
abbrev pub switch_of : Listed → ℕ → ℕ → ℕ → Thread → Switched
switch_of e base top most caller =
    past_checks e base most caller (first_failed (switch_checks base top caller))

-- the top of the innermost frame
abbrev pub frame_top : List Frame → ℕ
frame_top [] = 0
frame_top (f ∷ fs) = f.top
