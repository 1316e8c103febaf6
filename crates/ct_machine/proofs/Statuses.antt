-- Threads with the statuses that the scheduler keeps.
use Rattle.std.proofs.Common.{ℕ, zero, suc, ◌+◌, ◌≡◌, ◌<◌, ◌&&◌, ◌||◌, Bool, true, false, cond, List, [], ◌∷◌, length, map, Some, None, refl, ap, ◌∙◌, arith}
use Rattle.std.specs.List.{list_all}
use Rattle.std.specs.Prelude.{count_by}
use Rattle.std.proofs.lemmas.List.Sums.{sum_by-cons}
use Rattle.std.proofs.lemmas.Bool.{and_right}
use Rattle.def_sched.specs.declared.Status.{Status}
use Rattle.def_sched.specs.declared.Status.TheVariants.{Ready, Sleeping, Waiting, Ended}
use Rattle.def_sched.specs.Statuses.{runs_again, is_ended, is_waiting, after_tick, status_of}
use Rattle.ct_entry.specs.declared.acts.End.TheVariants.{Finished, Idle}
use Rattle.def_machine.specs.State.{State, Thread}
use Rattle.def_machine.specs.Threads.{with_status, with_statuses, timed}
use Rattle.def_step.specs.Events.{all_ended, one_waits, none_goes_on, end_of}

-- ---- a tick

pub timed_with : (ts : List Thread) (ss : List Status) → length ss ≡ length ts → with_statuses ts (map after_tick ss) ≡ map timed (with_statuses ts ss)
timed_with [] [] e = refl
timed_with [] (s ∷ ss) e = absurd (omega (arith, e))
timed_with (x ∷ ts) [] e = absurd (omega (arith, e))
timed_with (x ∷ ts) (s ∷ ss) e = ap (λ (us : List Thread). with_status x (after_tick s) ∷ us) (timed_with ts ss (omega (arith, e)))

-- ---- the end of a run

pub ended_with : (ts : List Thread) (ss : List Status) → length ss ≡ length ts → all_ended (with_statuses ts ss) ≡ list_all is_ended ss
ended_with [] [] e = refl
ended_with [] (s ∷ ss) e = absurd (omega (arith, e))
ended_with (x ∷ ts) [] e = absurd (omega (arith, e))
ended_with (x ∷ ts) (s ∷ ss) e = ap (λ b. is_ended s && b) (ended_with ts ss (omega (arith, e)))

-- where one goes on they haven't all ended, and it isn't so that none goes on
pub record SomeGoes (ts : List Thread) : Type 0 where
  pub ended : all_ended ts ≡ false
  pub goes : none_goes_on ts ≡ false

more_go : (x : Thread) (ts : List Thread) → SomeGoes ts → SomeGoes (x ∷ ts)
more_go x ts h = record {
  ended = and_right (is_ended x.status) (all_ended ts) h.ended;
  goes = and_right (is_ended x.status || is_waiting x.status) (none_goes_on ts) h.goes;
}

pub goes_with : (ts : List Thread) (ss : List Status) → length ss ≡ length ts → 0 < count_by runs_again ss → SomeGoes (with_statuses ts ss)
goes_with [] [] e some = absurd (omega (arith, some))
goes_with [] (s ∷ ss) e some = absurd (omega (arith, e))
goes_with (x ∷ ts) [] e some = absurd (omega (arith, e))
goes_with (x ∷ ts) (Ready ∷ ss) e some = record { ended = refl; goes = refl }
goes_with (x ∷ ts) (Sleeping n ∷ ss) e some = record { ended = refl; goes = refl }
goes_with (x ∷ ts) (Waiting a ∷ ss) e some = more_go (with_status x (Waiting a)) (with_statuses ts ss) (goes_with ts ss (omega (arith, e)) (omega (arith, some)))
goes_with (x ∷ ts) (Ended ∷ ss) e some = more_go (with_status x Ended) (with_statuses ts ss) (goes_with ts ss (omega (arith, e)) (omega (arith, some)))

-- who is ready goes on
pub ready_goes : (ss : List Status) (t : ℕ) → status_of ss t ≡ Ready → 0 < count_by runs_again ss
ready_goes [] t is = absurd (let clash : Ended ≡ Ready = is in cc)
ready_goes (s ∷ ss) zero is =
    let weight : Status → ℕ = λ q. cond (runs_again q) 1 0 in
    let more : count_by runs_again (s ∷ ss) ≡ weight s + count_by runs_again ss = sum_by-cons weight s ss in
    let one : weight s ≡ 1 = ap weight is in
    omega (arith, more, one)
ready_goes (s ∷ ss) (suc t) is =
    let weight : Status → ℕ = λ q. cond (runs_again q) 1 0 in
    let more : count_by runs_again (s ∷ ss) ≡ weight s + count_by runs_again ss = sum_by-cons weight s ss in
    let rest = ready_goes ss t is in
    omega (arith, more, rest)

-- where none goes on they have all ended, or one waits
pub record NoneGoes (ts : List Thread) : Type 0 where
  pub waits : all_ended ts ≡ false → one_waits ts ≡ true
  pub goes : none_goes_on ts ≡ true

pub stays_with : (ts : List Thread) (ss : List Status) → length ss ≡ length ts → count_by runs_again ss ≡ 0 → NoneGoes (with_statuses ts ss)
stays_with [] [] e none = record { waits = λ h. cc; goes = refl }
stays_with [] (s ∷ ss) e none = absurd (omega (arith, e))
stays_with (x ∷ ts) [] e none = absurd (omega (arith, e))
stays_with (x ∷ ts) (Ready ∷ ss) e none = absurd (let more : count_by runs_again (Ready ∷ ss) ≡ 1 + count_by runs_again ss = sum_by-cons (λ (q : Status). cond (runs_again q) 1 0) Ready ss in omega (arith, more, none))
stays_with (x ∷ ts) (Sleeping n ∷ ss) e none = absurd (let more : count_by runs_again (Sleeping n ∷ ss) ≡ 1 + count_by runs_again ss = sum_by-cons (λ (q : Status). cond (runs_again q) 1 0) (Sleeping n) ss in omega (arith, more, none))
stays_with (x ∷ ts) (Waiting a ∷ ss) e none = let rest = stays_with ts ss (omega (arith, e)) (omega (arith, none)) in record { waits = λ h. refl; goes = rest.goes }
stays_with (x ∷ ts) (Ended ∷ ss) e none = let rest = stays_with ts ss (omega (arith, e)) (omega (arith, none)) in record { waits = rest.waits; goes = rest.goes }

-- ---- whether the run has ended

pub and_none : (b : Bool) → (b && false) ≡ false
and_none true = refl
and_none false = refl

module _ (s : State) (ts : List Thread) (ss : List Status) (is : s.threads ≡ with_statuses ts ss) (many : length ss ≡ length ts) where
  all_is : all_ended s.threads ≡ list_all is_ended ss
  all_is = ap all_ended is ∙ ended_with ts ss many

  pub end_none : 0 < count_by runs_again ss → None ≡ end_of s
  end_none some =
      let h = goes_with ts ss many some in
      let over : all_ended s.threads ≡ false = ap all_ended is ∙ h.ended in
      let idle : none_goes_on s.threads ≡ false = ap none_goes_on is ∙ h.goes in
      rw (over, idle, and_none (one_waits s.threads)) refl

  pub end_finished : list_all is_ended ss ≡ true → Some Finished ≡ end_of s
  end_finished all = rw (all_is, all) refl

  pub end_idle : count_by runs_again ss ≡ 0 → list_all is_ended ss ≡ false → Some Idle ≡ end_of s
  end_idle none some =
      let h = stays_with ts ss many none in
      let over : all_ended s.threads ≡ false = all_is ∙ some in
      let goes : none_goes_on s.threads ≡ true = ap none_goes_on is ∙ h.goes in
      let waits : one_waits s.threads ≡ true = ap one_waits is ∙ h.waits (ended_with ts ss many ∙ some) in
      rw (over, goes, waits) refl
