-- The run that a command writes: one list of what happened, whose lines are those that were written, and of which each
-- happening is licensed and each event safe.
use Rattle.std.specs.Prelude.{ℕ, ◌≡◌, ◌+◌, List, [], ◌∷◌, ◌++◌, Option, Some, None}
use Rattle.ct_entry.specs.declared.acts.Happened.{Happened}
use Rattle.def_boot.specs.Boot.{platform_of, boot_state, booted_machine}
use Rattle.def_boot.specs.Gates.{entries_of}
use Rattle.def_confined.specs.Telling.{AllLicensed}
use Rattle.def_image.specs.Parts.{PartsRow}
use Rattle.def_report.specs.Report.{report_line}
use Rattle.def_port.specs.Bytes.{Appends}
use Rattle.def_script.specs.Script.{Due, ReadsAsScript}
use Rattle.def_step.specs.Events.{happenings_of}
use Rattle.def_step.specs.declared.Event.{Event}
use Rattle.def_step.specs.declared.Event.TheVariants.{Step}
use Rattle.def_trace.specs.Trace.{trace_line}
use Rattle.def_program.specs.Answers.{AllRead, Read, contents}
use Rattle.def_program.specs.Calls.{CallRecord}
use Rattle.def_program.specs.Commands.{Command, Run, RunImage, Demo, command_form}
use Rattle.def_program.specs.Licences.{NumberStandsFor, StandFor}
use Rattle.def_program.specs.Runs.{events_until, last_line}
use Rattle.def_program.specs.Safe.{IsSafeRun}
use Rattle.def_program.specs.Within.{state_after}
use Rattle.def_program.specs.declared.Status.{Status}
use Rattle.def_program.specs.declared.Status.TheVariants as status
use Rattle.def_program.specs.declared.TheConstants.{DEMO_STEPS}

-- ---- lines

-- a step counts as one
abbrev pub number_after : Event → ℕ → ℕ
number_after Step k = k + 1
number_after _ k = k

-- what events did, an event with the number of the step that comes next, a step with its own; the first step has
-- number k
abbrev pub event_lines : ℕ → List Event → List Happened → List ℕ
event_lines k [] hs = []
event_lines k (e ∷ es) [] = []
event_lines k (e ∷ es) (h ∷ hs) = trace_line k h ++ event_lines (number_after e k) es hs

-- ---- a run

-- A run of an image from its boot by a script: its events, and what they did. Each of these happenings is licensed, and
-- the run of these events is safe.
pub record IsRun (p : PartsRow) (script : List Due) (limit : ℕ) (events : List Event)
    (happenings : List Happened) : Type 0 where
  pub events_are : events ≡ events_until (booted_machine p) script p.quantum limit
  pub happenings_are : happenings ≡ happenings_of (platform_of p) (boot_state p) events
  pub licensed : AllLicensed (entries_of p) happenings
  pub safe : IsSafeRun p events

-- the report line, the lines of what happened, and the summary of the state that the events lead to
abbrev pub run_report : PartsRow → List Event → List Happened → List ℕ
run_report p events happenings =
    report_line p ++ (event_lines 1 events happenings ++ last_line (state_after p events))

-- what a command's script says, where one is named: it is the next file
abbrev pub IsScriptFile : PartsRow → Option (List ℕ) → List (List ℕ) → List Due → Type 0
IsScriptFile p None files script = script ≡ []
IsScriptFile p (Some name) [] script = ⊥
IsScriptFile p (Some name) (bytes ∷ files) script = ReadsAsScript p.devices bytes script

-- ---- calls

-- The files that were read stand for an image, and a script where one is named; and what was written is the report of
-- a run of that image by that script.
pub record WritesRun (e : CallRecord) (c : Command) (limit : ℕ) (named : Option (List ℕ))
    : Type 0 where
  pub reads : List Read
  pub read : AllRead e c reads
  pub own : List (List ℕ)
  pub more : List (List ℕ)
  pub files_are : contents reads ≡ own ++ more
  pub parts : PartsRow
  pub stand : StandFor c own parts
  pub script : List Due
  pub script_is : IsScriptFile parts named more script
  pub events : List Event
  pub happenings : List Happened
  pub is_run : IsRun parts script limit events happenings
  pub written : Appends e.sink.bytes e.sink_after.bytes (run_report parts events happenings)

-- what was written is the summary of a run of the firmware that is generated from a number
pub record WritesSummary (e : CallRecord) (number : ℕ) : Type 0 where
  pub parts : PartsRow
  pub stand : NumberStandsFor number parts
  pub events : List Event
  pub happenings : List Happened
  pub is_run : IsRun parts [] DEMO_STEPS events happenings
  pub written : Appends e.sink.bytes e.sink_after.bytes (last_line (state_after parts events))

abbrev pub WritesRunOf : CallRecord → Command → Type 0
WritesRunOf e (Run name limit script) = WritesRun e (Run name limit script) limit script
WritesRunOf e (RunImage name limit script) = WritesRun e (RunImage name limit script) limit script
WritesRunOf e (Demo number) = WritesSummary e number
WritesRunOf e _ = Unit {0}

-- where a call is done, the run that it wrote is licensed and safe
abbrev pub IsRunWritten : CallRecord → Status → Type 0
IsRunWritten e s = (c : Command) → command_form e.words ≡ Some c → s ≡ status.Done → WritesRunOf e c
