-- What is written from a step on, round by round.
use Rattle.std.proofs.Common.{◌≡◌, ℕ, zero, suc, ◌+◌, Bool, true, false, List, [], ◌∷◌, ◌++◌, Option, Some, None, refl, sym, ap, ◌∙◌}
use Rattle.std.specs.List.{flat_map}
use Rattle.ct_entry.specs.declared.acts.End.{End}
use Rattle.ct_entry.specs.declared.acts.Happened.{Happened}
use Rattle.def_machine.specs.State.{State}
use Rattle.def_machine.specs.Platform.{Platform, MachineRow}
use Rattle.def_step.specs.declared.Event.{Event}
use Rattle.def_step.specs.Events.{run, happenings_of, end_of}
use Rattle.def_script.specs.Script.{Due}
use Rattle.def_program.specs.Runs.{round, or_last, unless_ended, last_line, lines_from, events_from, summary_after}
use Rattle.law_routines.proofs.Appended.{run_append}
use Rattle.ct_run.specs.Rounds.{after, line_if, lines_of, text_from}

-- ---- one round more, or none

pub text_at_limit : (with_lines : Bool) (m : MachineRow) (script : List Due) (quantum k n : ℕ) → n ≡ 0 → text_from with_lines m script quantum k n ≡ last_line m.state
unfolding text_from
text_at_limit with_lines m script quantum k n none = rw none refl

pub text_at_end : (with_lines : Bool) (m : MachineRow) (script : List Due) (quantum k n : ℕ) (e : End) → end_of m.state ≡ Some e → text_from with_lines m script quantum k n ≡ last_line m.state
unfolding text_from
text_at_end with_lines m script quantum k zero e ended = refl
text_at_end with_lines m script quantum k (suc n) e ended =
    ap (λ o. or_last o m.state (lines_of with_lines m k (round script quantum k) ++ text_from with_lines (after m (round script quantum k)) script quantum (k + 1) n)) ended

pub text_on : (with_lines : Bool) (m : MachineRow) (script : List Due) (quantum k n : ℕ) → end_of m.state ≡ None
    → text_from with_lines m script quantum k (suc n) ≡ lines_of with_lines m k (round script quantum k) ++ text_from with_lines (after m (round script quantum k)) script quantum (k + 1) n
unfolding text_from
text_on with_lines m script quantum k n on = rw on refl

-- ---- with lines, it is the run's lines

pub run_lines_from : (n : ℕ) (m : MachineRow) (script : List Due) (quantum k : ℕ) → text_from true m script quantum k n ≡ lines_from m.board m.state script quantum k n
unfolding text_from lines_from
run_lines_from zero m script quantum k = refl
run_lines_from (suc n) m script quantum k =
    ap (λ t. or_last (end_of m.state) m.state (lines_of true m k (round script quantum k) ++ t)) (run_lines_from n (after m (round script quantum k)) script quantum (k + 1))

-- ---- and without, the summary alone

no_lines : (k : ℕ) (hs : List Happened) → flat_map (line_if false k) hs ≡ []
no_lines k [] = refl
no_lines k (h ∷ hs) = no_lines k hs

summed : (b : Platform) (s : State) (text : List ℕ) (events : List Event) (o : Option End) → text ≡ last_line (run b s events) → or_last o s text ≡ last_line (run b s (unless_ended o events))
unfolding run
summed b s text events (Some e) h = refl
summed b s text events None h = h

summary_from : (n : ℕ) (m : MachineRow) (script : List Due) (quantum k : ℕ) → text_from false m script quantum k n ≡ last_line (run m.board m.state (events_from m.board m.state script quantum k n))
unfolding text_from events_from run
summary_from zero m script quantum k = refl
summary_from (suc n) m script quantum k =
    let es : List Event = round script quantum k in
    let next : MachineRow = after m es in
    summed m.board m.state _ (es ++ events_from m.board next.state script quantum (k + 1) n) (end_of m.state)
    (ap (λ t. t ++ text_from false next script quantum (k + 1) n) (no_lines k (happenings_of m.board m.state es))
    ∙ summary_from n next script quantum (k + 1)
    ∙ ap last_line (sym (run_append m.board m.state es (events_from m.board next.state script quantum (k + 1) n))))

pub summary_is : (m : MachineRow) (quantum limit : ℕ) → text_from false m [] quantum 1 limit ≡ summary_after m quantum limit
unfolding summary_after
summary_is m quantum limit = summary_from limit m [] quantum 1
