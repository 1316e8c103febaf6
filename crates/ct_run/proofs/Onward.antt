-- Rounds up to one that tells something are as many rounds of the run.
use Rattle.std.proofs.Common.{◌≡◌, ℕ, zero, suc, ◌+◌, ◌-◌, ◌==◌, ◌<◌, ◌≤◌, nat_eq, Bool, true, false, List, [], ◌∷◌, ◌++◌, take, drop, if◌then◌else◌, None, refl, sym, ap, ◌∙◌, subst, arith}
use Rattle.std.specs.Prelude.{min}
use Rattle.std.specs.List.{flat_map}
use Rattle.std.proofs.Math.Nat.{le-min, min-le_left, min-le_right}
use Rattle.std.proofs.lemmas.List.{append-nil}
use Rattle.ct_entry.specs.declared.acts.Happened.{Happened}
use Rattle.def_port.specs.Bytes.{SinkView}
use Rattle.def_port.specs.Writes.{Writes, WriteFails}
use Rattle.def_machine.specs.Platform.{MachineRow}
use Rattle.def_step.specs.Events.{run, happenings_of, end_of}
use Rattle.def_trace.specs.Trace.{trace_line}
use Rattle.def_script.specs.declared.Given.{Given}
use Rattle.def_script.specs.Script.{Due, given_at}
use Rattle.ct_machine.specs.Going.{silence}
use Rattle.ct_machine.specs.Onward.{after_rounds, RanOn}
use Rattle.ct_port.proofs.Pieces.{nothing}
use Rattle.ct_run.specs.Rounds.{before_of, line_if, lines_of, AreBare, Came}
use Rattle.ct_run.proofs.Coming.{some_come, some_fail}
use Rattle.ct_run.proofs.Going.{one_round, opens, text_of, Amid, Going, Run}
use Rattle.ct_run.proofs.Pieces.{Remainder}
use Rattle.ct_run.proofs.Ticking.{not_zero}

-- ---- a round of which the step alone may tell something

silent_line : (with_lines : Bool) (k : ℕ) → line_if with_lines k silence ≡ []
unfolding trace_line
silent_line true k = refl
silent_line false k = refl

round_line : (with_lines : Bool) (m : MachineRow) (k : ℕ) (h : Happened) → happenings_of m.board m.state one_round ≡ silence ∷ h ∷ [] → lines_of with_lines m k one_round ≡ line_if with_lines k h
round_line with_lines m k h happened = ap (flat_map (line_if with_lines k)) happened ∙ ap (λ t. t ++ (line_if with_lines k h ++ [])) (silent_line with_lines k) ∙ append-nil (line_if with_lines k h)

-- the first of several tells nothing
first_line : (with_lines : Bool) (m n : MachineRow) (count k : ℕ) (h : Happened) → RanOn m n (suc (suc count)) h → lines_of with_lines m k one_round ≡ []
unfolding happenings_of
first_line with_lines m n count k h r = round_line with_lines m k silence (ap (take 2) r.told) ∙ silent_line with_lines k

rest_ran : (m n : MachineRow) (count : ℕ) (h : Happened) → RanOn m n (suc (suc count)) h → RanOn (after_rounds m 1) n (suc count) h
unfolding run happenings_of
rest_ran m n count h r = record {
  board = r.board;
  state = r.state;
  told = ap (λ (hs : List Happened). drop 2 hs) r.told;
  going = λ k some few. r.going (suc k) (omega arith) (omega (arith, few));
}

-- ---- up to the last of several

-- of so many rounds, which left this machine, this is left to be told
abbrev pub Reached : Run → MachineRow → Happened → ℕ → ℕ → SinkView → Type 0
Reached r n h done left now = Remainder (line_if r.with_lines done h) now (Going r n done left) (λ new. WriteFails r.before new (text_of r))

-- the last of them
last_reaches : (r : Run) (m n : MachineRow) (h : Happened) (done left : ℕ) {now : SinkView} → Amid r m one_round done left now → RanOn m n 1 h → Reached r n h done left now
unfolding run
last_reaches r m n h done left {now} a ran =
    let same : n ≡ after_rounds m 1 = rw (ran.board, ran.state) refl in
    subst (λ z. Reached r z h done left now) (sym same)
    (subst (λ t. Remainder t now (Going r (after_rounds m 1) done left) (λ new. WriteFails r.before new (text_of r))) (round_line r.with_lines m done h ran.told) a)

-- a round before which neither a tick nor a byte comes
opens_bare : (r : Run) (m : MachineRow) (done left : ℕ) {now : SinkView} → 1 ≤ r.quantum → Going r m done (suc left) now → done < r.limit → end_of m.state ≡ None → given_at r.script (done + 1) ≡ []
    → Amid r m one_round (done + 1) left now
opens_bare r m done left some g more on bare =
    let less : suc left - 1 ≡ left = omega arith in
    rw (bare, not_zero (suc left) (omega arith), less) at (opens r m done (suc left) g some more on)

reaches : (count : ℕ) (r : Run) (m n : MachineRow) (h : Happened) (done left : ℕ) {now : SinkView} → 1 ≤ r.quantum → Amid r m one_round done (left + count) now → done + count ≤ r.limit
    → ((k : ℕ) → k < count → given_at r.script (done + 1 + k) ≡ []) → RanOn m n (suc count) h → Reached r n h (done + count) left now
reaches zero r m n h done left some a few bare ran =
    let none : done + 0 ≡ done = omega arith in
    let all : left + 0 ≡ left = omega arith in
    rw none (last_reaches r m n h done left (rw all at a) ran)
reaches (suc count) r m n h done left {now} some a few bare ran =
    let next : left + suc count ≡ suc (left + count) = omega arith in
    let here : done + 1 + 0 ≡ done + 1 = omega arith in
    let made : done + 1 + count ≡ done + suc count = omega arith in
    let going = a.whole now (subst (λ t. Writes now now t) (sym (first_line r.with_lines m n count done h ran)) (nothing now)) in
    subst (λ d. Reached r n h d left now) made
    (reaches count r (after_rounds m 1) n h (done + 1) left some
    (opens_bare r (after_rounds m 1) done (left + count) some (rw next at going) (omega (arith, few)) (ran.going 1 (omega arith) (omega arith)) (rw here at (bare 0 (omega arith))))
    (omega (arith, few))
    (λ k lt. let there : done + 1 + suc k ≡ done + 1 + 1 + k = omega arith in rw there at (bare (suc k) (omega (arith, lt))))
    (rest_ran m n count h ran))

module _ (r : Run) {m : MachineRow} {done left : ℕ} {s0 : SinkView}
    (some : 1 ≤ r.quantum) (g : Going r m done left s0) (more : done < r.limit) (on : end_of m.state ≡ None) where
  -- what comes before a step fails
  pub fails_before : {s1 : SinkView} → WriteFails s0 s1 (lines_of r.with_lines m (done + 1) (before_of (given_at r.script (done + 1)) (nat_eq left 0))) → WriteFails r.before s1 (text_of r)
  fails_before w = some_fail r.with_lines m (done + 1) (before_of (given_at r.script (done + 1)) (nat_eq left 0)) one_round (λ z. Going r z (done + 1) ((if left == 0 then r.quantum else left) - 1)) (opens r m done left g some more on) w

  -- or came: the machine goes on to the next tick, or as far as it may
  pub reached : {mid n : MachineRow} {ahead most count : ℕ} {gs : List Given} {h : Happened} {now : SinkView}
      → gs ≡ given_at r.script (done + 1) → Came r.with_lines m mid (done + 1) (before_of gs (nat_eq left 0)) s0 now
      → ahead ≡ (if left == 0 then r.quantum else left) → AreBare r.script ahead r.limit done most
      → 1 ≤ count → count ≤ most → RanOn mid n count h → Reached r n h (done + count) (ahead - count) now
  reached {count = zero} given came next b above within ran = absurd (omega (arith, above))
  reached {mid} {n} {ahead} {count = suc count} {h = h} {now = now} given came next b above within ran =
      let made : done + suc count ≡ done + 1 + count = omega arith in
      let less : ahead - 1 ≡ ahead - suc count + count = omega (arith, b.early, within) in
      let amid : Amid r mid one_round (done + 1) (ahead - 1) now =
      rw next
      (some_come r.with_lines m (done + 1) (before_of (given_at r.script (done + 1)) (nat_eq left 0)) one_round (λ z. Going r z (done + 1) ((if left == 0 then r.quantum else left) - 1))
      (opens r m done left g some more on) mid (rw given at came)) in
      rw made
      (reaches count r mid n h (done + 1) (ahead - suc count) some (rw less at amid) (omega (arith, b.few, within))
      (λ k lt. let there : done + 1 + suc k ≡ done + 1 + 1 + k = omega arith in rw there at (b.bare (suc k) (omega arith) (omega (arith, lt, within)))) ran)

-- as many rounds as come before the next tick and up to the limit, where no byte comes
pub most_bare : (left limit done all : ℕ) → 1 ≤ left → done < limit → all ≡ min left (limit - done) → AreBare [] left limit done all
most_bare left limit done all some more is =
    let early = min-le_left left (limit - done) in
    let few = min-le_right left (limit - done) in
    let above : 1 ≤ min left (limit - done) = le-min some (omega (arith, more)) in
    record {
      some = omega (arith, is, above);
      few = omega (arith, is, few, more);
      early = omega (arith, is, early);
      bare = λ k after lt. refl;
    }

-- one round, and so many bare ones
pub bare_from : (script : List Due) (left limit done all bare : ℕ) → 1 ≤ left → done < limit → all ≡ min left (limit - done) → bare ≤ all - 1
    → ((k : ℕ) → k < bare → given_at script (done + 2 + k) ≡ []) → AreBare script left limit done (1 + bare)
bare_from script left limit done all bare some more is most none =
    let b = most_bare left limit done all some more is in
    record {
      some = omega arith;
      few = omega (arith, b.some, most, b.few);
      early = omega (arith, b.some, most, b.early);
      bare = λ k after lt.
          let there : done + 2 + (k - 1) ≡ done + 1 + k = omega (arith, after) in
          subst (λ j. given_at script j ≡ []) there (none (k - 1) (omega (arith, after, lt)));
    }
