-- What a run does in parts: some events, and the lines of what they did. A run has lines, or writes its summary alone.
use Rattle.std.specs.Prelude.{ℕ, zero, suc, ◌≡◌, ◌+◌, ◌<◌, ◌≤◌, ◌++◌, Bool, List, [], ◌∷◌, Option, Some, None, Result, MatchResult, map, if◌then◌else◌}
use Rattle.std.specs.Borrow.{Bor}
use Rattle.std.specs.List.{flat_map}
use Rattle.def_profile.specs.declared.limits.TheConstants.{MOST_STEPS}
use Rattle.def_port.specs.Writes.{Writes, WriteFails}
use Rattle.def_port.specs.Bytes.{SinkView}
use Rattle.def_step.specs.declared.Event.{Event}
use Rattle.def_step.specs.declared.Event.TheVariants.{Tick}
use Rattle.def_step.specs.Events.{run, happenings_of, end_of}
use Rattle.def_machine.specs.Platform.{MachineRow}
use Rattle.ct_entry.specs.declared.acts.Happened.{Happened}
use Rattle.def_trace.specs.Trace.{trace_line}
use Rattle.def_script.specs.declared.Given.{Given}
use Rattle.def_script.specs.Script.{Due, given_at}
use Rattle.ct_script.specs.declared.script.Script.{Script}
use Rattle.def_program.specs.Runs.{input_of, last_line, or_last, round}
use Rattle.def_events.specs.Kinds.{IsUncounted}

-- no event has come yet, a quantum is a step at least, and no more steps are asked for than may be made
pub record MayRun (m : MachineRow) (each most : ℕ) : Type 0 where
  pub booted : IsUncounted m.state.counts
  pub quantum : 1 ≤ each
  pub limit : most ≤ MOST_STEPS

-- a tick, where it is due
abbrev pub ticks_if : Bool → List Event
ticks_if due = if due then Tick ∷ [] else []

-- what comes before a slice and a step: bytes, and a tick where it is due
abbrev pub before_of : List Given → Bool → List Event
before_of givens due = map input_of givens ++ ticks_if due

-- the machine after some events
abbrev pub after : MachineRow → List Event → MachineRow
after m events = record { board = m.board; state = run m.board m.state events }

-- what is written of what happened with step k
abbrev pub line_if : Bool → ℕ → Happened → List ℕ
line_if with_lines k happened = if with_lines then trace_line k happened else []

-- and of what events before step k and that step did
abbrev pub lines_of : Bool → MachineRow → ℕ → List Event → List ℕ
lines_of with_lines m k events =
    flat_map (line_if with_lines k) (happenings_of m.board m.state events)

-- these events came, and their lines were written
pub record Came (with_lines : Bool) (old new : MachineRow) (k : ℕ) (events : List Event)
    (before now : SinkView) : Type 0 where
  pub left : new ≡ after old events
  pub written : Writes before now (lines_of with_lines old k events)

-- or a write failed
abbrev pub Comes : {A B : Type 0} → Bool → MachineRow → MachineRow → ℕ → List Event
    → SinkView → SinkView → Result A B → Type 0
Comes with_lines old new k events before now result =
    MatchResult result (λ _. Came with_lines old new k events before now)
    (λ _. WriteFails before now (lines_of with_lines old k events))

-- the bytes of a script; without one none
abbrev pub script_dues : Option (Bor Script) → List Due
script_dues (Some script) = script.now
script_dues None = []

-- so many rounds may come after so many steps: before the next tick, up to the limit, and before each but the first no
-- byte of the script
pub record AreBare (script : List Due) (left limit done most : ℕ) : Type 0 where
  pub some : 1 ≤ most
  pub few : done + most ≤ limit
  pub early : most ≤ left
  pub bare : (k : ℕ) → 0 < k → k < most → given_at script (done + 1 + k) ≡ []

-- what is written from step k on, of at most n steps: the lines of a run that has lines, and the summary
unfoldable pub text_from : Bool → MachineRow → List Due → ℕ → ℕ → ℕ → List ℕ
text_from with_lines m script quantum k zero = last_line m.state
text_from with_lines m script quantum k (suc n) =
    or_last (end_of m.state) m.state
    (lines_of with_lines m k (round script quantum k)
    ++ text_from with_lines (after m (round script quantum k)) script quantum (k + 1) n)
