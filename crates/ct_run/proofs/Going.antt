-- The loop of rounds.
use Rattle.std.proofs.Common.{◌≡◌, ℕ, suc, ◌+◌, ◌-◌, ◌==◌, ◌<◌, ◌≤◌, nat_eq, Bool, true, false, List, [], ◌∷◌, ◌++◌, Result, length, map, None, if◌then◌else◌, refl, sym, ap, ◌∙◌, subst, arith}
use Rattle.std.specs.List.{All}
use Rattle.std.proofs.lemmas.List.{append_assoc}
use Rattle.std.proofs.lemmas.Result.{MatchResult-weaker}
use Rattle.def_profile.specs.declared.limits.TheConstants.{MOST_STEPS}
use Rattle.def_port.specs.Bytes.{SinkView}
use Rattle.def_port.specs.Writes.{Writes, WriteFails, WriteAnswers}
use Rattle.def_machine.specs.Platform.{MachineRow}
use Rattle.def_step.specs.declared.Event.{Event}
use Rattle.def_step.specs.declared.Event.TheVariants.{Step, Sweep}
use Rattle.def_step.specs.Events.{end_of, AreLawful}
use Rattle.def_script.specs.declared.Given.{Given}
use Rattle.def_script.specs.Script.{Due, given_at}
use Rattle.def_script.specs.Coming.{left_from}
use Rattle.law_script.proofs.Coming.{come_once, no_more, all_given}
use Rattle.def_program.specs.Scripts.{IsPlayable}
use Rattle.def_program.specs.Runs.{input_of, inputs_before, last_line}
use Rattle.def_events.specs.Kinds.{Kinds, kinds, all_more, IsUncounted}
use Rattle.law_routines.proofs.Counted.{run_kinds, inputs_more}
use Rattle.law_routines.proofs.Devices.{run_keeps}
use Rattle.ct_run.specs.Rounds.{after, before_of, lines_of, text_from, ticks_if}
use Rattle.ct_run.proofs.Coming.{before_lawful}
use Rattle.ct_run.proofs.Pieces.{after_piece, piece_fails, Remainder}
use Rattle.ct_run.proofs.Text.{text_on}
use Rattle.ct_run.proofs.Ticking as ticking
use Rattle.ct_run.proofs.Ticking.{IsLeft}

-- a slice of a sweep, and a step
abbrev pub one_round : List Event
one_round = Sweep ∷ Step ∷ []

-- ---- what was counted

kinds_after : (m : MachineRow) (gs : List Given) (es : List Event) → kinds (after m (map input_of gs ++ es)).state.counts ≡ all_more es (record (kinds m.state.counts) { inputs = m.state.counts.inputs + length gs })
kinds_after m gs es = run_kinds m.board m.state (map input_of gs ++ es) ∙ inputs_more input_of (λ g k. refl) gs es (kinds m.state.counts)

-- what comes before a step leaves the counts of steps and of slices
before_counts : (m : MachineRow) (gs : List Given) (due : Bool) → ((after m (before_of gs due)).state.counts.steps ≡ m.state.counts.steps) × ((after m (before_of gs due)).state.counts.sweeps ≡ m.state.counts.sweeps)
before_counts m gs true = let same = kinds_after m gs (ticks_if true) in (ap (λ (k : Kinds). k.steps) same, ap (λ (k : Kinds). k.sweeps) same)
before_counts m gs false = let same = kinds_after m gs (ticks_if false) in (ap (λ (k : Kinds). k.steps) same, ap (λ (k : Kinds). k.sweeps) same)

-- and a whole round counts so
round_counts : (m : MachineRow) (gs : List Given) (due : Bool) → kinds (after m (map input_of gs ++ (ticks_if due ++ one_round))).state.counts ≡ record {
  steps = m.state.counts.steps + 1;
  ticks = if due then m.state.counts.ticks + 1 else m.state.counts.ticks;
  sweeps = m.state.counts.sweeps + 1;
  inputs = m.state.counts.inputs + length gs;
}
round_counts m gs true = kinds_after m gs (ticks_if true ++ one_round)
round_counts m gs false = kinds_after m gs (ticks_if false ++ one_round)

one_tick : (due : Bool) (n : ℕ) → (if due then n + 1 else n) ≤ n + 1
one_tick true n = omega arith
one_tick false n = omega arith

-- ---- the invariant

-- a run, of which this was written before
pub record Run : Type 0 where
  pub with_lines : Bool
  pub first : MachineRow
  pub script : List Due
  pub quantum : ℕ
  pub limit : ℕ
  pub before : SinkView

abbrev pub text_of : Run → List ℕ
text_of r = text_from r.with_lines r.first r.script r.quantum 1 r.limit

abbrev pub text_after : Run → MachineRow → ℕ → List ℕ
text_after r m done = text_from r.with_lines m r.script r.quantum (done + 1) (r.limit - done)

-- so many rounds came, and were counted
pub record Going (r : Run) (m : MachineRow) (done left : ℕ) (now : SinkView) : Type 0 where
  pub steps : m.state.counts.steps ≡ done
  pub ticks : m.state.counts.ticks ≤ done
  pub sweeps : m.state.counts.sweeps ≡ done
  pub inputs : m.state.counts.inputs + left_from r.script (done + 1) ≤ MOST_STEPS
  pub named : All (λ (d : Due). d.given.device < length m.state.devices) r.script
  pub tick : IsLeft r.quantum done left
  pub text : Remainder (text_after r m done) now (λ new. Writes r.before new (text_of r)) (λ new. WriteFails r.before new (text_of r))

-- the last of so many rounds has these events left
abbrev pub Amid : Run → MachineRow → List Event → ℕ → ℕ → SinkView → Type 0
Amid r m es done left now = Remainder (lines_of r.with_lines m done es) now (Going r (after m es) done left) (λ new. WriteFails r.before new (text_of r))

pub begins : (r : Run) → IsUncounted r.first.state.counts → IsPlayable r.script r.first.state → Going r r.first 0 r.quantum r.before
begins r none playable =
    let all : r.limit - 0 ≡ r.limit = omega arith in
    let one : 0 + 1 ≡ 1 = omega arith in
    record {
      steps = none.steps;
      ticks = omega (arith, none.ticks);
      sweeps = none.sweeps;
      inputs = omega (arith, none.inputs, playable.few, no_more r.script (0 + 1));
      named = playable.named;
      tick = ticking.starts r.quantum;
      text = rw (all, one) (record { whole = λ new w. w; part = λ new w. w });
    }

module _ (r : Run) (m : MachineRow) (done left : ℕ) {now : SinkView} (g : Going r m done left now) where
  -- what comes before a step may come
  pub may_come : (due : Bool) → done < r.limit → r.limit ≤ MOST_STEPS → AreLawful m.board m.state (before_of (given_at r.script (done + 1)) due)
  may_come due more few =
      before_lawful m.board m.state (given_at r.script (done + 1)) due (omega (arith, come_once r.script (done + 1), g.inputs)) (all_given (λ (x : Given). x.device < length m.state.devices) r.script (done + 1) g.named) (omega (arith, g.ticks, more, few))

  -- and leaves room for the rounds that may come at once
  pub room_for : (mid : MachineRow) (due : Bool) (most : ℕ) → mid ≡ after m (before_of (given_at r.script (done + 1)) due) → done + most ≤ r.limit → r.limit ≤ MOST_STEPS
      → (mid.state.counts.steps + most ≤ MOST_STEPS) × (mid.state.counts.sweeps + most ≤ MOST_STEPS)
  room_for mid due most is within few =
      let same = before_counts m (given_at r.script (done + 1)) due in
      let steps = ap (λ (z : MachineRow). z.state.counts.steps) is ∙ same.0 in
      let sweeps = ap (λ (z : MachineRow). z.state.counts.sweeps) is ∙ same.1 in
      (omega (arith, steps, g.steps, within, few), omega (arith, sweeps, g.sweeps, within, few))

  -- the next round, as the code makes it
  pub opens : 1 ≤ r.quantum → done < r.limit → end_of m.state ≡ None → Amid r m (before_of (given_at r.script (done + 1)) (nat_eq left 0) ++ one_round) (done + 1) ((if left == 0 then r.quantum else left) - 1) now
  opens some more on =
      let gs : List Given = given_at r.script (done + 1) in
      let due : Bool = nat_eq left 0 in
      let es : List Event = map input_of gs ++ (ticks_if due ++ one_round) in
      let same = round_counts m gs due in
      let less : r.limit - done ≡ suc (r.limit - (done + 1)) = omega (arith, more) in
      let lines : text_after r m done ≡ lines_of r.with_lines m (done + 1) es ++ text_after r (after m es) (done + 1) =
      ap (text_from r.with_lines m r.script r.quantum (done + 1)) less
      ∙ text_on r.with_lines m r.script r.quantum (done + 1) (r.limit - (done + 1)) on
      ∙ ap (λ ts. let events : List Event = inputs_before r.script (done + 1) ++ (ts ++ one_round) in lines_of r.with_lines m (done + 1) events ++ text_after r (after m events) (done + 1)) (ticking.due_is r.quantum done left some g.tick) in
      let text = subst (λ t. Remainder t now (λ new. Writes r.before new (text_of r)) (λ new. WriteFails r.before new (text_of r))) lines g.text in
      subst (λ events. Amid r m events (done + 1) ((if left == 0 then r.quantum else left) - 1) now) (sym (append_assoc (map input_of gs) (ticks_if due) one_round)) (record {
        whole = λ new w. record {
          steps = omega (arith, ap (λ (k : Kinds). k.steps) same, g.steps);
          ticks = omega (arith, ap (λ (k : Kinds). k.ticks) same, one_tick due m.state.counts.ticks, g.ticks);
          sweeps = omega (arith, ap (λ (k : Kinds). k.sweeps) same, g.sweeps);
          inputs = omega (arith, ap (λ (k : Kinds). k.inputs) same, come_once r.script (done + 1), g.inputs);
          named = subst (λ n. All (λ (d : Due). d.given.device < n) r.script) (sym (run_keeps m.board m.state es)) g.named;
          tick = ticking.goes_on r.quantum done left some g.tick;
          text = after_piece _ _ text w;
        };
        part = λ new w. piece_fails _ _ text w;
      })

  -- the summary ends it
  pub ends : {A B : Type 0} (new : SinkView) (result : Result A B) → text_after r m done ≡ last_line m.state → WriteAnswers now new (last_line m.state) result → WriteAnswers r.before new (text_of r) result
  ends new result last answers = let answers : WriteAnswers now new (text_after r m done) result = subst (λ t. WriteAnswers now new t result) (sym last) answers in
      MatchResult-weaker result answers (λ _ w. g.text.whole new w) (λ _ w. g.text.part new w)
