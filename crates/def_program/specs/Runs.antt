-- What a run of an image writes: the report line, the lines of what its steps did, and the summary. A run has a script:
-- the bytes that come to devices, each with the step before which it comes; without one none come.
use Rattle.std.specs.Prelude.{ℕ, zero, suc, ◌+◌, ◌-◌, ◌%◌, ◌==◌, ◌&&◌, nat_lt, List, [], ◌∷◌, ◌++◌, map, Option, Some, None, unwrap_or, if◌then◌else◌}
use Rattle.std.specs.List.{flat_map}
use Rattle.ct_entry.specs.declared.acts.End.{End}
use Rattle.ct_entry.specs.declared.acts.End.TheVariants.{Limit}
use Rattle.def_machine.specs.State.{State}
use Rattle.def_step.specs.declared.Event.{Event}
use Rattle.def_step.specs.declared.Event.TheVariants.{Step, Tick, Sweep, Input}
use Rattle.def_machine.specs.Platform.{Platform, MachineRow}
use Rattle.def_step.specs.Events.{run, happenings_of, end_of, totals_of}
use Rattle.def_trace.specs.Trace.{trace_line, summary_line}
use Rattle.def_image.specs.Parts.{PartsRow}
use Rattle.def_boot.specs.Boot.{booted_machine}
use Rattle.def_report.specs.Report.{report_line}
use Rattle.def_script.specs.declared.Given.{Given}
use Rattle.def_script.specs.Script.{Due, given_at}
use Rattle.def_program.specs.declared.TheConstants.{DEMO_STEPS}

-- ---- events

-- the script's bytes come before a step, in the script's order
abbrev pub input_of : Given → Event
input_of g = Input g.device g.byte

abbrev pub inputs_before : List Due → ℕ → List Event
inputs_before script k = map input_of (given_at script k)

-- a tick comes before a step, from the second on, after each quantum of steps
abbrev pub ticks_before : ℕ → ℕ → List Event
ticks_before quantum k = if nat_lt 1 k && ((k - 1) % quantum == 0) then Tick ∷ [] else []

-- step k with what comes before it: the script's bytes, a tick where one is due, then a slice of a sweep
abbrev pub round : List Due → ℕ → ℕ → List Event
round script quantum k =
    inputs_before script k ++ (ticks_before quantum k ++ Sweep ∷ Step ∷ [])

abbrev pub unless_ended : Option End → List Event → List Event
unless_ended None events = events
unless_ended (Some e) events = []

-- the events from step k on, of at most n steps: before each the run stops where the machine has
-- come to its end
unfoldable pub events_from : Platform → State → List Due → ℕ → ℕ → ℕ → List Event
events_from b s script quantum k zero = []
events_from b s script quantum k (suc n) =
    unless_ended (end_of s)
    (round script quantum k
    ++ events_from b (run b s (round script quantum k)) script quantum (k + 1) n)

-- all of them
abbrev pub events_until : MachineRow → List Due → ℕ → ℕ → List Event
events_until m script quantum limit = events_from m.board m.state script quantum 1 limit

-- ---- lines

-- the summary; a run that came to no end stopped at its limit
abbrev pub last_line : State → List ℕ
last_line s = summary_line (totals_of s (unwrap_or (end_of s) Limit))

abbrev pub or_last : Option End → State → List ℕ → List ℕ
or_last None s lines = lines
or_last (Some e) s lines = last_line s

-- the lines from step k on, of at most n steps, and the summary
unfoldable pub lines_from : Platform → State → List Due → ℕ → ℕ → ℕ → List ℕ
lines_from b s script quantum k zero = last_line s
lines_from b s script quantum k (suc n) =
    or_last (end_of s) s
    (flat_map (trace_line k) (happenings_of b s (round script quantum k))
    ++ lines_from b (run b s (round script quantum k)) script quantum (k + 1) n)

abbrev pub run_lines : MachineRow → List Due → ℕ → ℕ → List ℕ
run_lines m script quantum limit = lines_from m.board m.state script quantum 1 limit

-- the summary alone, of a run without a script
unfoldable pub summary_after : MachineRow → ℕ → ℕ → List ℕ
summary_after m quantum limit =
    last_line (run m.board m.state (events_until m [] quantum limit))

-- what `demo` writes of an image
unfoldable pub demo_text : PartsRow → List ℕ
demo_text p = summary_after (booted_machine p) p.quantum DEMO_STEPS

-- the image runs from its boot state
unfoldable pub run_text : PartsRow → List Due → ℕ → List ℕ
run_text p script limit = report_line p ++ run_lines (booted_machine p) script p.quantum limit
