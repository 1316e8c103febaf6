-- The lines of a run, event by event.
use Rattle.std.proofs.Common.{◌≡◌, ℕ, zero, suc, ◌+◌, ◌-◌, ◌%◌, ◌&&◌, ◌==◌, nat_lt, Bool, true, false, List, [], ◌∷◌, ◌++◌, map, Option, Some, None, if◌then◌else◌, refl, sym, ap, ◌∙◌}
use Rattle.std.proofs.lemmas.List.{append_assoc, append-nil}
use Rattle.std.specs.List.{flat_map}
use Rattle.ct_entry.specs.declared.acts.End.{End}
use Rattle.def_machine.specs.State.{State}
use Rattle.def_step.specs.declared.Event.{Event}
use Rattle.def_step.specs.declared.Event.TheVariants.{Step, Tick, Sweep}
use Rattle.def_machine.specs.Platform.{Platform, MachineRow}
use Rattle.def_step.specs.Events.{happens, run, happenings_of, end_of}
use Rattle.def_trace.specs.Trace.{trace_line}
use Rattle.def_script.specs.declared.Given.{Given}
use Rattle.def_script.specs.Script.{Due, given_at}
use Rattle.def_program.specs.Runs.{round, input_of, unless_ended, events_from, events_until, last_line, or_last, lines_from, run_lines}
use Rattle.def_program.specs.Written.{event_lines}

-- what a list of events writes, and the summary after them
abbrev pub text_of : Platform → State → ℕ → List Event → List ℕ
text_of b s k es = event_lines k es (happenings_of b s es) ++ last_line (run b s es)

abbrev lines_of : Platform → State → ℕ → List Event → List ℕ
lines_of b s k es = flat_map (trace_line k) (happenings_of b s es)

abbrev pub due_by : Bool → List Event
due_by due = (if due then Tick ∷ [] else []) ++ Sweep ∷ Step ∷ []

abbrev pub round_by : List Given → Bool → List Event
round_by gs due = map input_of gs ++ due_by due

with_tick : (a b c more last : List ℕ) → (a ++ (b ++ (c ++ more))) ++ last ≡ (a ++ (b ++ (c ++ []))) ++ (more ++ last)
with_tick a b c more last = simp (append_assoc, append-nil)

without : (b c more last : List ℕ) → (b ++ (c ++ more)) ++ last ≡ (b ++ (c ++ [])) ++ (more ++ last)
without b c more last = simp (append_assoc, append-nil)

-- one step with what is due before it, and what comes after it
due_then : (b : Platform) (s : State) (k : ℕ) (due : Bool) (es : List Event)
    → text_of b s k (due_by due ++ es) ≡ lines_of b s k (due_by due) ++ text_of b (run b s (due_by due)) (k + 1) es
unfolding happenings_of run
due_then b s k true es =
    let first : State = (happens b s Tick).0 in
    let second : State = (happens b first Sweep).0 in
    let third : State = (happens b second Step).0 in
    with_tick (trace_line k (happens b s Tick).1) (trace_line k (happens b first Sweep).1) (trace_line k (happens b second Step).1)
    (event_lines (k + 1) es (happenings_of b third es)) (last_line (run b third es))
due_then b s k false es =
    let second : State = (happens b s Sweep).0 in
    let third : State = (happens b second Step).0 in
    without (trace_line k (happens b s Sweep).1) (trace_line k (happens b second Step).1)
    (event_lines (k + 1) es (happenings_of b third es)) (last_line (run b third es))

-- one byte, and what comes after it
input_then : (b : Platform) (s : State) (k : ℕ) (g : Given) (es : List Event)
    → text_of b s k (input_of g ∷ es) ≡ trace_line k (happens b s (input_of g)).1 ++ text_of b (happens b s (input_of g)).0 k es
unfolding happenings_of run
input_then b s k g es =
    let next : State = (happens b s (input_of g)).0 in
    append_assoc (trace_line k (happens b s (input_of g)).1) (event_lines k es (happenings_of b next es)) (last_line (run b next es))

lines_of_input : (b : Platform) (s : State) (k : ℕ) (g : Given) (es : List Event)
    → lines_of b s k (input_of g ∷ es) ≡ trace_line k (happens b s (input_of g)).1 ++ lines_of b (happens b s (input_of g)).0 k es
unfolding happenings_of
lines_of_input b s k g es = refl

pub run_input : (b : Platform) (s : State) (g : Given) (es : List Event) → run b s (input_of g ∷ es) ≡ run b (happens b s (input_of g)).0 es
unfolding run
run_input b s g es = refl

-- one round, and what comes after it
pub round_then : (b : Platform) (s : State) (k : ℕ) (gs : List Given) (due : Bool) (es : List Event)
    → text_of b s k (round_by gs due ++ es) ≡ lines_of b s k (round_by gs due) ++ text_of b (run b s (round_by gs due)) (k + 1) es
round_then b s k [] due es = due_then b s k due es
round_then b s k (g ∷ gs) due es =
    let next : State = (happens b s (input_of g)).0 in
    let line : List ℕ = trace_line k (happens b s (input_of g)).1 in
    input_then b s k g (round_by gs due ++ es)
    ∙ ap (λ t. line ++ t) (round_then b next k gs due es)
    ∙ sym (append_assoc line (lines_of b next k (round_by gs due)) (text_of b (run b next (round_by gs due)) (k + 1) es))
    ∙ ap (λ t. t ++ text_of b (run b next (round_by gs due)) (k + 1) es) (sym (lines_of_input b s k g (round_by gs due)))
    ∙ ap (λ z. lines_of b s k (round_by (g ∷ gs) due) ++ text_of b z (k + 1) es) (sym (run_input b s g (round_by gs due)))

pub events_at_end : (b : Platform) (s : State) (script : List Due) (quantum k n : ℕ) (e : End) → end_of s ≡ Some e → events_from b s script quantum k (suc n) ≡ []
unfolding events_from
events_at_end b s script quantum k n e ended = ap (λ o. unless_ended o (round script quantum k ++ events_from b (run b s (round script quantum k)) script quantum (k + 1) n)) ended

pub events_on : (b : Platform) (s : State) (script : List Due) (quantum k n : ℕ) → end_of s ≡ None
    → events_from b s script quantum k (suc n) ≡ round script quantum k ++ events_from b (run b s (round script quantum k)) script quantum (k + 1) n
unfolding events_from
events_on b s script quantum k n on = ap (λ o. unless_ended o (round script quantum k ++ events_from b (run b s (round script quantum k)) script quantum (k + 1) n)) on

lines_at_end : (b : Platform) (s : State) (script : List Due) (quantum k n : ℕ) (e : End) → end_of s ≡ Some e → lines_from b s script quantum k (suc n) ≡ last_line s
unfolding lines_from
lines_at_end b s script quantum k n e ended = ap (λ o. or_last o s (lines_of b s k (round script quantum k) ++ lines_from b (run b s (round script quantum k)) script quantum (k + 1) n)) ended

lines_on : (b : Platform) (s : State) (script : List Due) (quantum k n : ℕ) → end_of s ≡ None
    → lines_from b s script quantum k (suc n) ≡ lines_of b s k (round script quantum k) ++ lines_from b (run b s (round script quantum k)) script quantum (k + 1) n
unfolding lines_from
lines_on b s script quantum k n on = ap (λ o. or_last o s (lines_of b s k (round script quantum k) ++ lines_from b (run b s (round script quantum k)) script quantum (k + 1) n)) on

none_left : (b : Platform) (s : State) (k : ℕ) → text_of b s k [] ≡ last_line s
unfolding happenings_of run
none_left b s k = refl

at_limit : (b : Platform) (s : State) (script : List Due) (quantum k : ℕ) → lines_from b s script quantum k 0 ≡ text_of b s k (events_from b s script quantum k 0)
unfolding lines_from events_from happenings_of run
at_limit b s script quantum k = refl

pub are_told : (b : Platform) (s : State) (script : List Due) (quantum k n : ℕ) → lines_from b s script quantum k n ≡ text_of b s k (events_from b s script quantum k n)
are_told b s script quantum k zero = at_limit b s script quantum k
are_told b s script quantum k (suc n) = by_end (end_of s) refl (are_told b (run b s (round script quantum k)) script quantum (k + 1) n)
  where
    after : State
    after = run b s (round script quantum k)

    by_end : (o : Option End) → end_of s ≡ o → lines_from b after script quantum (k + 1) n ≡ text_of b after (k + 1) (events_from b after script quantum (k + 1) n) → lines_from b s script quantum k (suc n) ≡ text_of b s k (events_from b s script quantum k (suc n))
    by_end (Some e) ended rest =
        lines_at_end b s script quantum k n e ended
        ∙ sym (none_left b s k)
        ∙ ap (λ es. text_of b s k es) (sym (events_at_end b s script quantum k n e ended))
    by_end None on rest =
        lines_on b s script quantum k n on
        ∙ ap (λ t. lines_of b s k (round script quantum k) ++ t) rest
        ∙ sym (round_then b s k (given_at script k) (nat_lt 1 k && ((k - 1) % quantum == 0)) (events_from b (run b s (round script quantum k)) script quantum (k + 1) n))
        ∙ ap (λ es. text_of b s k es) (sym (events_on b s script quantum k n on))

pub run_is_told : (m : MachineRow) (script : List Due) (quantum limit : ℕ) → run_lines m script quantum limit ≡ text_of m.board m.state 1 (events_until m script quantum limit)
run_is_told m script quantum limit = are_told m.board m.state script quantum 1 limit
