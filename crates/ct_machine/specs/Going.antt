-- The running thread carries on: what that asks, what an instruction or a native routine came to, and what is left
-- where its frame ends, or where its error handler is entered.
use Rattle.std.specs.Prelude.{ℕ, ◌+◌, ◌≡◌, ◌<◌, Bool, true, length, map, nat_lt, Option, Some, None, slice_set, cond}
use Rattle.def_profile.specs.declared.answers.TheConstants.{UNWOUND}
use Rattle.ct_entry.specs.Listed.{Listed}
use Rattle.ct_entry.specs.declared.acts.Deed.{Deed}
use Rattle.ct_entry.specs.declared.acts.Happened.{Happened}
use Rattle.def_words.specs.declared.Trap as words
use Rattle.def_machine.specs.Rows.{RowsFit}
use Rattle.def_confined.specs.Keeps.{Keeps}
use Rattle.def_confined.specs.Facts.{Facts}
use Rattle.def_hidden.specs.Hidden.{Shut}
use Rattle.def_machine.specs.State as state
use Rattle.def_machine.specs.State.{State}
use Rattle.def_machine.specs.Threads.{timed}
use Rattle.def_sched.specs.declared.Status.TheVariants.{Ended}
use Rattle.def_machine.specs.Platform.{MachineRow}
use Rattle.def_step.specs.Handlers.{handler_value}
use Rattle.def_step.specs.Instructions.{actor_of}
use Rattle.ct_sched.specs.Sched.{SchedRow, with_statuses}
use Rattle.ct_engine.specs.Seen.{EngineRow, thread}
use Rattle.ct_engine.specs.Calls.{returned, ended_with}
use Rattle.ct_engine.specs.Handling.{is_marked, is_handled_at, handler_begun}
use Rattle.ct_execute.specs.declared.ran.Ran.{Ran}
use Rattle.ct_execute.specs.declared.ran.Ran.TheVariants.{Went, Returned, Native, Trapped}
use Rattle.ct_execute.specs.Deciding.{finished, IfUnfinished}

-- No entry reaches what is hidden, capabilities of boot are what their entries say, the state is confined, with what
-- stands beside, and each row of a key or a token is of a live object.
pub record MayGoOn (m : MachineRow) : Type 0 where
  pub shut : Shut m.board.image
  pub facts : Facts m.board.image
  pub keeps : Keeps m.board.image m.state
  pub rows : RowsFit m.state.objects m.state.tokens

-- Thread t runs, and has a frame.
pub record Runs (m : MachineRow) (t : ℕ) : Type 0 where
  pub runs : m.state.running ≡ Some t
  pub some : 0 < length (state.thread m.state t).frames

-- It may end its innermost frame, which is this compartment's.
pub record MayEnd (m : MachineRow) (t actor : ℕ) : Type 0 where
  pub may : MayGoOn m
  pub runs : Runs m t
  pub acts : actor ≡ actor_of (state.thread m.state t).frames

-- ---- a tick before it interrupts

-- it counts, and time goes on
abbrev pub clock_on : State → State
clock_on s = record s {
  time = s.time + 1;
  counts = record s.counts { ticks = s.counts.ticks + 1 };
}

-- a sweep counts before its slice
abbrev pub one_more_sweep : State → State
one_more_sweep s = record s { counts = record s.counts { sweeps = s.counts.sweeps + 1 } }

-- what an event tells that tells nothing
abbrev pub silence : Happened
silence = record { deed = None; off = None }

-- each sleep is one tick shorter
abbrev pub sleepers_on : State → State
sleepers_on s = record s { threads = map timed s.threads }

-- ---- where its innermost frame ends

-- by a return: where the frame's error handler was entered, with what that answers
abbrev pub return_at : EngineRow → Listed → ℕ → EngineRow
return_at s e t =
    cond (is_marked (thread s t).frames) (ended_with s t (handler_value (thread s t)))
    (returned s e t)

-- and by a trap: this error handler is entered, or it is unwound
abbrev pub trap_at : EngineRow → Listed → ℕ → ℕ → words.Trap → EngineRow
trap_at s e t handler why =
    cond (is_handled_at s t handler) (handler_begun s e t handler why (thread s t).frames)
    (ended_with s t UNWOUND)

abbrev pub goes_trapped : EngineRow → ℕ → ℕ → Bool
goes_trapped s t handler =
    cond (is_handled_at s t handler) true (nat_lt 1 (length (thread s t).frames))

abbrev pub left_after : Ran → EngineRow → Listed → ℕ → ℕ → EngineRow
left_after (Went acted) s e t handler = s
left_after Returned s e t handler = return_at s e t
left_after (Native number) s e t handler = s
left_after (Trapped why) s e t handler = trap_at s e t handler why

-- whether the thread has a frame left
abbrev pub goes_after : Ran → EngineRow → ℕ → ℕ → Bool
goes_after (Went acted) s t handler = true
goes_after Returned s t handler = nat_lt 1 (length (thread s t).frames)
goes_after (Native number) s t handler = true
goes_after (Trapped why) s t handler = goes_trapped s t handler

-- a thread without frames has ended for the scheduler too
abbrev pub status_after : Bool → SchedRow → ℕ → SchedRow
status_after goes r t =
    cond goes r (with_statuses r (slice_set r.statuses t Ended))

-- ---- the written step, from what its instruction came to

-- of a step after its instruction and its native routine
abbrev pub IsDone : Ran → Type 0
IsDone (Native number) = ⊥
IsDone ran = Unit {0}

-- Thread t of machine m carried on, which left machine n and came to this. What is left to do makes the written step
-- whole; where a frame is to end, or a routine to run, nothing has changed.
pub record CameTo (m n : MachineRow) (t : ℕ) (ran : Ran) (whole : State × Option Deed) : Type 0 where
  pub is : finished m.board t (actor_of (state.thread m.state t).frames) n.state ran ≡ whole
  pub board : n.board ≡ m.board
  pub counts : n.state.counts ≡ m.state.counts
  pub unfinished : IfUnfinished ran (n ≡ m)
