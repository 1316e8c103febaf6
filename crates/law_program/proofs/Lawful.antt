-- Each event of a run may come when it comes.
use Rattle.std.proofs.Common.{◌≡◌, ℕ, zero, suc, ◌+◌, ◌-◌, ◌%◌, ◌&&◌, ◌==◌, ◌<◌, ◌≤◌, nat_lt, length, Bool, true, false, List, [], ◌∷◌, ◌++◌, Option, Some, None, refl, sym, ap, ◌∙◌, subst, arith}
use Rattle.std.specs.List.{All}
use Rattle.std.proofs.lemmas.Bool.{lt-ltb, and_from}
use Rattle.ct_entry.specs.declared.acts.End.{End}
use Rattle.def_profile.specs.declared.limits.TheConstants.{MOST_STEPS}
use Rattle.def_machine.specs.State.{State}
use Rattle.def_step.specs.declared.Event.{Event}
use Rattle.def_step.specs.declared.Event.TheVariants.{Tick, Sweep}
use Rattle.def_machine.specs.Platform.{Platform, MachineRow}
use Rattle.def_step.specs.Events.{happens, run, end_of, AreLawful}
use Rattle.def_image.specs.Parts.{PartsRow}
use Rattle.def_boot.specs.Boot.{booted_machine, boot_state}
use Rattle.def_script.specs.declared.Given.{Given}
use Rattle.def_script.specs.Script.{Due, given_at}
use Rattle.def_program.specs.Runs.{round, input_of, events_from, events_until}
use Rattle.def_program.specs.Scripts.{IsPlayable}
use Rattle.def_script.specs.Coming.{left_from}
use Rattle.law_script.proofs.Coming.{come_once, no_more, all_given}
use Rattle.def_events.specs.Kinds.{Kinds, kinds, all_more, IsUncounted}
use Rattle.law_routines.proofs.Counted.{event_kinds, run_kinds, inputs_more}
use Rattle.law_routines.proofs.Devices.{event_keeps, run_keeps}
use Rattle.law_program.proofs.Telling.{due_by, round_by, run_input, events_at_end, events_on}

-- so many rounds more may come
record HasSteps (s : State) (n : ℕ) : Type 0 where
  steps : s.counts.steps + n ≤ MOST_STEPS
  ticks : s.counts.ticks + n ≤ MOST_STEPS
  sweeps : s.counts.sweeps + n ≤ MOST_STEPS

abbrev AreNamed : State → List Given → Type 0
AreNamed s gs = All (λ (g : Given). g.device < length s.devices) gs

one_may : (count n : ℕ) → count + suc n ≤ MOST_STEPS → nat_lt count MOST_STEPS ≡ true
one_may count n room = lt-ltb count MOST_STEPS (omega (arith, room))

may_as : (a b n : ℕ) → a ≡ b → b + suc n ≤ MOST_STEPS → nat_lt a MOST_STEPS ≡ true
may_as a b n same room = one_may a n (omega (arith, same, room))

-- ---- a round

due_lawful : (b : Platform) (s : State) (due : Bool) (n : ℕ) (es : List Event) → HasSteps s (suc n) → AreLawful b (run b s (due_by due)) es → AreLawful b s (due_by due ++ es)
unfolding AreLawful run
due_lawful b s true n es room rest =
    let first : State = (happens b s Tick).0 in
    let second : State = (happens b first Sweep).0 in
    let ticked = event_kinds b s Tick in
    let swept = event_kinds b first Sweep in
    let sweeps : first.counts.sweeps ≡ s.counts.sweeps = ap (λ (k : Kinds). k.sweeps) ticked in
    let steps : second.counts.steps ≡ s.counts.steps = ap (λ (k : Kinds). k.steps) swept ∙ ap (λ (k : Kinds). k.steps) ticked in
    (one_may s.counts.ticks n room.ticks, (may_as first.counts.sweeps s.counts.sweeps n sweeps room.sweeps, (may_as second.counts.steps s.counts.steps n steps room.steps, rest)))
due_lawful b s false n es room rest =
    let second : State = (happens b s Sweep).0 in
    let swept = event_kinds b s Sweep in
    let steps : second.counts.steps ≡ s.counts.steps = ap (λ (k : Kinds). k.steps) swept in
    (one_may s.counts.sweeps n room.sweeps, (may_as second.counts.steps s.counts.steps n steps room.steps, rest))

-- a byte leaves room for the rest of the round
steps_left : (b : Platform) (s : State) (g : Given) (n : ℕ) → HasSteps s n → HasSteps (happens b s (input_of g)).0 n
steps_left b s g n room =
    let after = event_kinds b s (input_of g) in
    let steps = ap (λ (k : Kinds). k.steps) after in
    let ticks = ap (λ (k : Kinds). k.ticks) after in
    let sweeps = ap (λ (k : Kinds). k.sweeps) after in
    record { steps = omega (arith, steps, room.steps); ticks = omega (arith, ticks, room.ticks); sweeps = omega (arith, sweeps, room.sweeps) }

tail_named : (s : State) (g : Given) (gs : List Given) → AreNamed s (g ∷ gs) → AreNamed s gs
tail_named s g gs h = λ k d inside. h (suc k) d (omega (arith, inside))

named_on : (b : Platform) (s : State) (g : Given) (gs : List Given) → AreNamed s gs → AreNamed (happens b s (input_of g)).0 gs
named_on b s g gs h = subst (λ n. All (λ (x : Given). x.device < n) gs) (sym (event_keeps b s (input_of g))) h

input_lawful : (b : Platform) (s : State) (g : Given) (es : List Event) → nat_lt s.counts.inputs MOST_STEPS ≡ true → nat_lt g.device (length s.devices) ≡ true
    → AreLawful b (happens b s (input_of g)).0 es → AreLawful b s (input_of g ∷ es)
unfolding AreLawful
input_lawful b s g es room there later = (and_from (nat_lt s.counts.inputs MOST_STEPS) (nat_lt g.device (length s.devices)) room there, later)

round_lawful : (b : Platform) (s : State) (gs : List Given) (due : Bool) (n : ℕ) (es : List Event)
    → HasSteps s (suc n) → s.counts.inputs + length gs ≤ MOST_STEPS → AreNamed s gs
    → AreLawful b (run b s (round_by gs due)) es → AreLawful b s (round_by gs due ++ es)
round_lawful b s [] due n es room inputs named rest = due_lawful b s due n es room rest
round_lawful b s (g ∷ gs) due n es room inputs named rest =
    let next : State = (happens b s (input_of g)).0 in
    let more : next.counts.inputs ≡ s.counts.inputs + 1 = ap (λ (k : Kinds). k.inputs) (event_kinds b s (input_of g)) in
    let there : g.device < length s.devices = named 0 g (omega arith) in
    input_lawful b s g (round_by gs due ++ es) (one_may s.counts.inputs (length gs) (omega (arith, inputs))) (lt-ltb g.device (length s.devices) there)
    (round_lawful b next gs due n es (steps_left b s g (suc n) room) (omega (arith, more, inputs))
    (named_on b s g gs (tail_named s g gs named)) (subst (λ z. AreLawful b z es) (run_input b s g (round_by gs due)) rest))

-- ---- what is left after a round

after_round : (b : Platform) (s : State) (gs : List Given) (due : Bool) → kinds (run b s (round_by gs due)).counts ≡ all_more (due_by due) (record (kinds s.counts) { inputs = s.counts.inputs + length gs })
after_round b s gs due = run_kinds b s (round_by gs due) ∙ inputs_more input_of (λ g k. refl) gs (due_by due) (kinds s.counts)

-- so many rounds more may come, and the script's bytes from this step on
record HasRoom (s : State) (script : List Due) (k n : ℕ) : Type 0 where
  steps : HasSteps s n
  inputs : s.counts.inputs + left_from script k ≤ MOST_STEPS
  named : All (λ (d : Due). d.given.device < length s.devices) script

steps_after : (b : Platform) (s : State) (gs : List Given) (due : Bool) (n : ℕ) → HasSteps s (suc n) → HasSteps (run b s (round_by gs due)) n
steps_after b s gs true n room =
    let after = after_round b s gs true in
    let steps = ap (λ (k : Kinds). k.steps) after in
    let ticks = ap (λ (k : Kinds). k.ticks) after in
    let sweeps = ap (λ (k : Kinds). k.sweeps) after in
    record { steps = omega (arith, steps, room.steps); ticks = omega (arith, ticks, room.ticks); sweeps = omega (arith, sweeps, room.sweeps) }
steps_after b s gs false n room =
    let after = after_round b s gs false in
    let steps = ap (λ (k : Kinds). k.steps) after in
    let ticks = ap (λ (k : Kinds). k.ticks) after in
    let sweeps = ap (λ (k : Kinds). k.sweeps) after in
    record { steps = omega (arith, steps, room.steps); ticks = omega (arith, ticks, room.ticks); sweeps = omega (arith, sweeps, room.sweeps) }

inputs_after : (b : Platform) (s : State) (gs : List Given) (due : Bool) → (run b s (round_by gs due)).counts.inputs ≡ s.counts.inputs + length gs
inputs_after b s gs true = ap (λ (k : Kinds). k.inputs) (after_round b s gs true)
inputs_after b s gs false = ap (λ (k : Kinds). k.inputs) (after_round b s gs false)

room_left : (b : Platform) (s : State) (script : List Due) (due : Bool) (k n : ℕ) → HasRoom s script k (suc n) → HasRoom (run b s (round_by (given_at script k) due)) script (k + 1) n
room_left b s script due k n room =
    let came = inputs_after b s (given_at script k) due in
    let once = come_once script k in
    let before = room.inputs in
    record {
      steps = steps_after b s (given_at script k) due n room.steps;
      inputs = omega (arith, came, once, before);
      named = subst (λ m. All (λ (d : Due). d.given.device < m) script) (sym (run_keeps b s (round_by (given_at script k) due))) room.named;
    }

-- ---- all rounds

none_lawful : (b : Platform) (s : State) → AreLawful b s []
unfolding AreLawful
none_lawful b s = tt

at_limit : (b : Platform) (s : State) (script : List Due) (quantum k : ℕ) → events_from b s script quantum k 0 ≡ []
unfolding events_from
at_limit b s script quantum k = refl

from_lawful : (b : Platform) (s : State) (script : List Due) (quantum k n : ℕ) → HasRoom s script k n → AreLawful b s (events_from b s script quantum k n)
from_lawful b s script quantum k zero room = subst (λ es. AreLawful b s es) (sym (at_limit b s script quantum k)) (none_lawful b s)
from_lawful b s script quantum k (suc n) room =
    by_end (end_of s) refl
    (from_lawful b (run b s (round script quantum k)) script quantum (k + 1) n (room_left b s script (nat_lt 1 k && ((k - 1) % quantum == 0)) k n room))
  where
    fits : s.counts.inputs + length (given_at script k) ≤ MOST_STEPS
    fits =
        let once = come_once script k in
        let before = room.inputs in
        omega (arith, once, before)

    by_end : (o : Option End) → end_of s ≡ o → AreLawful b (run b s (round script quantum k)) (events_from b (run b s (round script quantum k)) script quantum (k + 1) n)
        → AreLawful b s (events_from b s script quantum k (suc n))
    by_end (Some e) ended rest = subst (λ es. AreLawful b s es) (sym (events_at_end b s script quantum k n e ended)) (none_lawful b s)
    by_end None on rest =
        subst (λ es. AreLawful b s es) (sym (events_on b s script quantum k n on))
        (round_lawful b s (given_at script k) (nat_lt 1 k && ((k - 1) % quantum == 0)) n (events_from b (run b s (round script quantum k)) script quantum (k + 1) n)
        room.steps fits (all_given (λ (g : Given). g.device < length s.devices) script k room.named) rest)

pub until_lawful : (m : MachineRow) (script : List Due) (quantum limit : ℕ) → IsUncounted m.state.counts → IsPlayable script m.state → limit ≤ MOST_STEPS
    → AreLawful m.board m.state (events_until m script quantum limit)
until_lawful m script quantum limit none playable few =
    let steps = none.steps in
    let ticks = none.ticks in
    let sweeps = none.sweeps in
    let inputs = none.inputs in
    let short = playable.few in
    let within = no_more script 1 in
    from_lawful m.board m.state script quantum 1 limit (record {
      steps = record { steps = omega (arith, steps, few); ticks = omega (arith, ticks, few); sweeps = omega (arith, sweeps, few) };
      inputs = omega (arith, inputs, short, within);
      named = playable.named;
    })

boots_uncounted : (p : PartsRow) → IsUncounted (boot_state p).counts
unfolding boot_state
boots_uncounted p = record { steps = refl; ticks = refl; sweeps = refl; inputs = refl }

pub booted_lawful : (p : PartsRow) (script : List Due) (limit : ℕ) → IsPlayable script (booted_machine p).state → limit ≤ MOST_STEPS
    → AreLawful (booted_machine p).board (booted_machine p).state (events_until (booted_machine p) script p.quantum limit)
booted_lawful p script limit playable few = until_lawful (booted_machine p) script p.quantum limit (boots_uncounted p) playable few
