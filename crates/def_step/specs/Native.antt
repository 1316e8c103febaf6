-- Which routine a number is. Number 1, the return, has no checks; its frame's end is told with the frames.
use Rattle.std.specs.Prelude.{ℕ, ◌+◌, ◌*◌, ◌==◌, Option, Some, None, if◌then◌else◌}
use Rattle.def_native.specs.declared.TheConstants.{SWITCH, YIELD, SLEEP, WAIT, WAKE, ALLOCATE, FREE, REMAINING, TOKEN_KEY, TOKEN_NEW, TOKEN_OPEN, TOKEN_FREE}
use Rattle.def_profile.specs.declared.native.TheConstants.{NATIVE_BASE, NATIVE_UNIT, RETURN}
use Rattle.def_machine.specs.Image.{Image}
use Rattle.def_machine.specs.State.{State, thread}
use Rattle.def_step.specs.Routines.{Ran, Leaves, switch, yield, sleep, wait, wake}
use Rattle.def_step.specs.Quotas.{allocate, free, remaining}
use Rattle.def_step.specs.Tokens.{token_key, token_new, token_open, token_free}
use Rattle.def_step.specs.Handlers.{return_taken}

abbrev pub entry_address : ℕ → ℕ
entry_address number = NATIVE_BASE + NATIVE_UNIT * number

abbrev pub native_return : Image → State → ℕ → Ran
native_return i s t =
    Leaves (return_taken i s t (thread s t).frames) None

-- what a routine does that thread t runs, by its number; none has another
abbrev pub native : Image → State → ℕ → ℕ → Option Ran
native i s t number =
    if number == SWITCH then Some (switch i s t)
    else if number == RETURN then Some (native_return i s t)
    else if number == YIELD then Some (yield s t)
    else if number == SLEEP then Some (sleep s t)
    else if number == WAIT then Some (wait i s t)
    else if number == WAKE then Some (wake i s t)
    else if number == ALLOCATE then Some (allocate i s t)
    else if number == FREE then Some (free i s t)
    else if number == REMAINING then Some (remaining i s t)
    else if number == TOKEN_KEY then Some (token_key i s t)
    else if number == TOKEN_NEW then Some (token_new i s t)
    else if number == TOKEN_OPEN then Some (token_open s t)
    else if number == TOKEN_FREE then Some (token_free i s t)
    else None
