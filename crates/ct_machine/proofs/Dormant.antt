-- Rounds of a machine of which no thread runs and none is ready: they count, and that is all.
use Rattle.std.proofs.Common.{ℕ, zero, suc, ◌≡◌, true, false, is_none, Option, None, refl, sym, ap, ◌∙◌, subst}
use Rattle.std.proofs.lemmas.Bool.{and_parts}
use Rattle.law_lists.proofs.Tests.{none_is}
use Rattle.ct_entry.specs.declared.acts.Happened.{Happened}
use Rattle.ct_entry.specs.declared.acts.Owned.{Owned}
use Rattle.def_events.specs.Guarded.{Guarded}
use Rattle.def_machine.specs.Platform.{Platform, MachineRow}
use Rattle.def_machine.specs.State.{State}
use Rattle.def_machine.specs.Threads.{statuses_of}
use Rattle.def_sched.specs.Picks.{pick}
use Rattle.def_step.specs.declared.Event.TheVariants.{Step}
use Rattle.def_step.specs.Events.{begun_since, continued, end_of, happens, holder, one_more_step, picked_as, picked_from, preempted, run_on, scheduled, told_of}
use Rattle.ct_machine.specs.Going.{one_more_sweep}
use Rattle.ct_machine.specs.Quiet.{has_sweep, is_dormant, none_is_ready, with_rounds, WentRounds}
use Rattle.ct_machine.proofs.Rounding.{no_rounds, none_went, one_more_round, one_more_went}
use Rattle.ct_machine.proofs.Appending.{with_silence}
use Rattle.ct_machine.proofs.Guards.{same_machine}
use Rattle.ct_machine.proofs.Taking.{holder_none, none_preempted}

-- ---- what is dormant

pub record IsDormant (m : MachineRow) : Type 0 where
  pub runs : m.state.running ≡ None
  pub going : end_of m.state ≡ None
  pub picks : pick m.board.image.priorities (statuses_of m.state.threads) m.state.picks ≡ None

sleeps_by : (m : MachineRow) → is_dormant m ≡ true → IsDormant m
sleeps_by m dormant =
    let p = and_parts _ (none_is_ready m) dormant in
    let q = and_parts (is_none m.state.running) (is_none (end_of m.state)) p.0 in
    record { runs = none_is m.state.running q.0; going = none_is (end_of m.state) q.1; picks = none_is _ p.1 }

-- ---- one round

none_scheduled : (b : Platform) (s : State) → s.running ≡ None → pick b.image.priorities (statuses_of s.threads) s.picks ≡ None → scheduled b s ≡ s
none_scheduled b s runs picks = ap (picked_from b s) runs ∙ ap (picked_as b s) picks

abbrev with_span : State → Option Owned → State × Happened
with_span s o = (s, record { deed = None; off = o })

none_told : (s new : State) → new.running ≡ None → told_of s (new, None) ≡ with_silence new
none_told s new runs = ap (λ (o : Option (ℕ × ℕ)). with_span new (begun_since (holder s) new o)) (holder_none new new.running runs)

step_counts : (b : Platform) (s : State) → s.running ≡ None → pick b.image.priorities (statuses_of s.threads) s.picks ≡ None → with_silence (one_more_step s) ≡ happens b s Step
step_counts b s runs picks =
    let next : State = one_more_step s in
    let on : scheduled b (preempted next) ≡ next = ap (scheduled b) (none_preempted next runs) ∙ none_scheduled b next runs picks in
    sym (ap (λ (x : State). told_of s (run_on b x)) on ∙ ap (λ (o : Option ℕ). told_of s (continued b next o)) runs ∙ none_told s next runs)

-- ---- many

module _ (m : MachineRow) (h : IsDormant m) where
  abbrev after : ℕ → MachineRow
  after n = record { board = m.board; state = with_rounds m.state n }

  dormant_rounds : Guarded m → has_sweep m.state ≡ false → (n : ℕ) → WentRounds m (after n) n
  dormant_rounds g idle zero = subst (λ (s : State). WentRounds m (record { board = m.board; state = s }) 0) (no_rounds m.state) (none_went m g)
  dormant_rounds g idle (suc n) =
      one_more_went m (after n) (after (suc n)) n (dormant_rounds g idle n) idle (record {
        is = ap with_silence (one_more_round m.state n) ∙ step_counts m.board (one_more_sweep (with_rounds m.state n)) h.runs h.picks;
        board = refl;
        going = h.going;
      })

pub dormant_went : (m n : MachineRow) (count : ℕ) → Guarded m → has_sweep m.state ≡ false → is_dormant m ≡ true → n.state ≡ with_rounds m.state count → n.board ≡ m.board → WentRounds m n count
dormant_went m n count g idle dormant state board =
    let h = sleeps_by m dormant in
    subst (λ (x : MachineRow). WentRounds m x count) (sym (same_machine n (after m h count) board state)) (dormant_rounds m h g idle count)
