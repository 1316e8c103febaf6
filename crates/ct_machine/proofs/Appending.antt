-- Rounds one after another: those of two lists of them, and what was counted.
use Rattle.std.proofs.Common.{ℕ, zero, suc, ◌+◌, ◌-◌, ◌≡◌, ◌<◌, inl, inr, None, List, [], ◌∷◌, ◌++◌, refl, sym, ap, ◌∙◌, subst, arith}
use Rattle.std.proofs.lemmas.Bool.{cases_order}
use Rattle.ct_entry.specs.declared.acts.Happened.{Happened}
use Rattle.def_machine.specs.Platform.{MachineRow}
use Rattle.def_machine.specs.State.{State}
use Rattle.def_events.specs.Guarded.{Guarded}
use Rattle.def_events.specs.Kinds.{Kinds, kinds, all_more}
use Rattle.def_step.specs.declared.Event.{Event}
use Rattle.def_step.specs.declared.Event.TheVariants.{Step, Sweep}
use Rattle.def_step.specs.Events.{happens, run, happenings_of, end_of}
use Rattle.law_routines.proofs.Appended.{run_append, told_append}
use Rattle.law_routines.proofs.Counted.{run_kinds}
use Rattle.ct_machine.specs.Going.{silence}
use Rattle.ct_machine.proofs.Guards.{same_machine, told_guarded}
use Rattle.ct_machine.specs.Onward.{after_rounds, rounds, told_last, RanOn}

-- ---- lists of rounds

rounds_append : (a b : ℕ) → rounds (a + b) ≡ rounds a ++ rounds b
rounds_append zero b = let none : 0 + b ≡ b = omega arith in ap rounds none
rounds_append (suc a) b =
    let next : suc a + b ≡ suc (a + b) = omega arith in
    ap rounds next ∙ ap (λ (es : List Event). Sweep ∷ Step ∷ es) (rounds_append a b)

-- before the last round all of them tell nothing
silent_first : (n : ℕ) (h : Happened) → 0 < n → told_last (suc n) h ≡ silence ∷ silence ∷ told_last n h
silent_first zero h some = absurd (omega (arith, some))
silent_first (suc n) h some = refl

told_both : (a b : ℕ) (h : Happened) → 0 < b → told_last (a + b) h ≡ told_last a silence ++ told_last b h
told_both zero b h some = let none : 0 + b ≡ b = omega arith in ap (λ n. told_last n h) none
told_both (suc zero) b h some = let next : 1 + b ≡ suc b = omega arith in ap (λ n. told_last n h) next ∙ silent_first b h some
told_both (suc (suc a)) b h some =
    let next : suc (suc a) + b ≡ suc (suc (a + b)) = omega arith in
    let rest : suc (a + b) ≡ suc a + b = omega arith in
    ap (λ n. told_last n h) next
    ∙ ap (λ n. silence ∷ silence ∷ told_last n h) rest
    ∙ ap (λ (hs : List Happened). silence ∷ silence ∷ hs) (told_both (suc a) b h some)

-- ---- machines

abbrev pub with_silence : State → State × Happened
with_silence s = (s, silence)

pub none_ran : (m : MachineRow) (h : Happened) → RanOn m m 0 h
unfolding run happenings_of
none_ran m h = record { board = refl; state = refl; told = refl; going = λ k some few. absurd (omega (arith, few)) }

-- what comes after the first rounds
later : (first m : MachineRow) (a k : ℕ) → m ≡ after_rounds first a → after_rounds first (a + k) ≡ after_rounds m k
later first m a k here =
    same_machine (after_rounds first (a + k)) (after_rounds (after_rounds first a) k) refl
    (ap (run first.board first.state) (rounds_append a k) ∙ run_append first.board first.state (rounds a) (rounds k))
    ∙ ap (λ (x : MachineRow). after_rounds x k) (sym here)

-- rounds that told nothing, and then more
pub both_ran : (first m n : MachineRow) (a b : ℕ) (h : Happened) → RanOn first m a silence → (0 < a → end_of m.state ≡ None) → 0 < b → RanOn m n b h → RanOn first n (a + b) h
both_ran first m n a b h before going some more =
    let here : m ≡ after_rounds first a = same_machine m (after_rounds first a) before.board before.state in
    record {
      board = more.board ∙ before.board;
      state = more.state ∙ ap (λ (x : MachineRow). x.state) (sym (later first m a b here));
      told = ap (happenings_of first.board first.state) (rounds_append a b)
          ∙ told_append first.board first.state (rounds a) (rounds b)
          ∙ ap (λ (hs : List Happened). hs ++ happenings_of first.board (run first.board first.state (rounds a)) (rounds b)) before.told
          ∙ ap (λ (x : MachineRow). told_last a silence ++ happenings_of x.board x.state (rounds b)) (sym here)
          ∙ ap (λ (hs : List Happened). told_last a silence ++ hs) more.told
          ∙ sym (told_both a b h some);
      going = λ k above below. elim (cases_order k a) [
        | inl same ↦
            subst (λ j. end_of (after_rounds first j).state ≡ None) (sym same)
            (subst (λ (x : MachineRow). end_of x.state ≡ None) here (going (omega (arith, same, above))))
        | inr (inl less) ↦ before.going k above less
        | inr (inr past) ↦
            let rest : ℕ = k - a in
            let whole : a + rest ≡ k = omega (arith, past) in
            subst (λ j. end_of (after_rounds first j).state ≡ None) whole
            (subst (λ (x : MachineRow). end_of x.state ≡ None) (sym (later first m a rest here)) (more.going rest (omega (arith, past)) (omega (arith, past, below))))
      ];
    }

-- ---- one round

pub round_ran : {m mid n : MachineRow} {h : Happened} → (mid.state, silence) ≡ happens m.board m.state Sweep → mid.board ≡ m.board → Guarded mid
    → (n.state, h) ≡ happens mid.board mid.state Step → n.board ≡ mid.board → RanOn m n 1 h × Guarded n
unfolding run happenings_of
round_ran {m} {mid} {n} {h} swept board guarded is next =
    let there : mid ≡ record { board = m.board; state = (happens m.board m.state Sweep).0 } =
    same_machine mid (record { board = m.board; state = (happens m.board m.state Sweep).0 }) board (ap (λ (p : State × Happened). p.0) swept) in
    let whole : (n.state, h) ≡ happens m.board (happens m.board m.state Sweep).0 Step = is ∙ ap (λ (x : MachineRow). happens x.board x.state Step) there in (
      record {
        board = next ∙ board;
        state = ap (λ (p : State × Happened). p.0) whole;
        told = ap (λ (x : Happened). x ∷ (happens m.board (happens m.board m.state Sweep).0 Step).1 ∷ []) (sym (ap (λ (p : State × Happened). p.1) swept))
            ∙ ap (λ (p : State × Happened). silence ∷ p.1 ∷ []) (sym whole);
        going = λ k some few. absurd (omega (arith, some, few));
      },
      told_guarded Step guarded is next,
    )

-- ---- what was counted

more_kinds : (n : ℕ) (k : Kinds) → all_more (rounds n) k ≡ record k { steps = k.steps + n; sweeps = k.sweeps + n }
more_kinds zero k =
    let none : (x : ℕ) → x ≡ x + 0 = λ x. omega arith in
    ap (λ x. record k { steps = x }) (none k.steps) ∙ ap (λ x. record k { steps = k.steps + 0; sweeps = x }) (none k.sweeps)
more_kinds (suc n) k =
    let next : (x : ℕ) → x + 1 + n ≡ x + suc n = λ x. omega arith in
    more_kinds n (record k { steps = k.steps + 1; sweeps = k.sweeps + 1 })
    ∙ ap (λ x. record k { steps = x; sweeps = k.sweeps + 1 + n }) (next k.steps) ∙ ap (λ x. record k { steps = k.steps + suc n; sweeps = x }) (next k.sweeps)

pub ran_counts : {m n : MachineRow} {count : ℕ} {h : Happened} → RanOn m n count h → (n.state.counts.steps ≡ m.state.counts.steps + count) × (n.state.counts.sweeps ≡ m.state.counts.sweeps + count)
ran_counts {m} {count = count} r =
    let is = ap (λ (s : State). kinds s.counts) r.state ∙ run_kinds m.board m.state (rounds count) ∙ more_kinds count (kinds m.state.counts) in
    (ap (λ (k : Kinds). k.steps) is, ap (λ (k : Kinds). k.sweeps) is)
