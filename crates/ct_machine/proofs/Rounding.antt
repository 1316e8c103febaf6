-- Quiet rounds one after another: what they leave is what the events leave, and each tells nothing.
use Rattle.std.proofs.Common.{ℕ, zero, suc, ◌+◌, ◌≡◌, ◌||◌, Bool, false, cond, is_some, Option, Some, None, refl, sym, ap, ◌∙◌, subst, arith}
use Rattle.def_events.specs.Guarded.{Guarded}
use Rattle.def_machine.specs.Heap as heap
use Rattle.def_machine.specs.Image.{Image}
use Rattle.def_machine.specs.Objects.{has_quarantined, painted}
use Rattle.def_machine.specs.Platform.{Platform, MachineRow}
use Rattle.def_machine.specs.State.{State}
use Rattle.def_step.specs.declared.Event.TheVariants.{Step, Sweep}
use Rattle.def_step.specs.Events.{happens, run, end_of, one_more_step}
use Rattle.ct_machine.specs.Going.{silence, one_more_sweep}
use Rattle.ct_machine.specs.Quiet.{has_sweep, with_counts, with_rounds, WentRounds}
use Rattle.ct_machine.specs.Onward.{RanOn}
use Rattle.ct_machine.proofs.Guards.{told_guarded}
use Rattle.ct_machine.proofs.Appending.{both_ran, none_ran, round_ran}
use Rattle.ct_machine.proofs.Sweeping.{sweep_told}

-- ---- a slice where no sweep has work counts, and that is all

idle_parts : (o : Option ℕ) (q : Bool) → (is_some o || q) ≡ false → (o ≡ None) × (q ≡ false)
idle_parts None q idle = (refl, idle)
idle_parts (Some front) q idle = absurd (cc)

idle_swept : (i : Image) (s : State) → has_sweep s ≡ false → heap.swept i s ≡ s
idle_swept i s idle =
    let parts = idle_parts s.front (has_quarantined s.objects) idle in
    ap (λ (o : Option ℕ). heap.sweep_on i (heap.sweep_began s o) (heap.sweep_began s o).front) parts.0
    ∙ ap (λ (b : Bool). let x : State = cond b (record s { objects = painted s.objects; front = Some 0 }) s in heap.sweep_on i x x.front) parts.1
    ∙ ap (λ (o : Option ℕ). heap.sweep_on i s o) parts.0

pub idle_counts : (b : Platform) (s : State) → has_sweep s ≡ false → (happens b s Sweep).0 ≡ one_more_sweep s
idle_counts b s idle = idle_swept b.image (one_more_sweep s) idle

pub idle_told : (m mid : MachineRow) → Guarded m → has_sweep m.state ≡ false → mid.state ≡ one_more_sweep m.state → (mid.state, silence) ≡ happens m.board m.state Sweep
idle_told m mid g idle is = sweep_told m mid.state g (is ∙ sym (idle_counts m.board m.state idle))

-- ---- one round

-- One quiet round of machine m, which had come to no end, left machine n: where the sweep had no work it only counted.
pub record WentRound (m n : MachineRow) : Type 0 where
  pub is : (n.state, silence) ≡ happens m.board (one_more_sweep m.state) Step
  pub board : n.board ≡ m.board
  pub going : end_of m.state ≡ None

went_ran : (m n : MachineRow) → Guarded m → has_sweep m.state ≡ false → WentRound m n → RanOn m n 1 silence × Guarded n
went_ran m n g idle w =
    let mid : MachineRow = record { board = m.board; state = one_more_sweep m.state } in
    let swept = idle_told m mid g idle refl in
    round_ran {mid = mid} swept refl (told_guarded {n = mid} Sweep g swept refl) w.is w.board

-- ---- many

pub no_rounds : (s : State) → s ≡ with_rounds s 0
no_rounds s =
    let none : (x : ℕ) → x ≡ x + 0 = λ x. omega arith in
    ap (λ n. with_counts s (record s.counts { steps = n })) (none s.counts.steps) ∙ ap (λ n. with_counts s (record s.counts { steps = s.counts.steps + 0; sweeps = n })) (none s.counts.sweeps)

pub one_more_round : (s : State) (n : ℕ) → with_rounds s (suc n) ≡ one_more_step (one_more_sweep (with_rounds s n))
one_more_round s n =
    let next : (x : ℕ) → x + suc n ≡ x + n + 1 = λ x. omega arith in
    ap (λ k. with_counts s (record s.counts { steps = k; sweeps = s.counts.sweeps + suc n })) (next s.counts.steps)
    ∙ ap (λ k. with_counts s (record s.counts { steps = s.counts.steps + n + 1; sweeps = k })) (next s.counts.sweeps)

pub none_went : (m : MachineRow) → Guarded m → WentRounds m m 0
none_went m g = record { ran = none_ran m silence; going = λ some. absurd (omega (arith, some)); guarded = g }

-- the first of them began where the machine had come to no end
first_going : (made : ℕ) (first m n : MachineRow) → WentRounds first m made → WentRound m n → end_of first.state ≡ None
unfolding run
first_going zero first m n went w = subst (λ (s : State). end_of s ≡ None) went.ran.state w.going
first_going (suc made) first m n went w = went.going (omega arith)

pub one_more_went : (first m n : MachineRow) (made : ℕ) → WentRounds first m made → has_sweep m.state ≡ false → WentRound m n → WentRounds first n (suc made)
one_more_went first m n made before idle w =
    let next : made + 1 ≡ suc made = omega arith in
    let last = went_ran m n before.guarded idle w in
    record {
      ran = subst (λ k. RanOn first n k silence) next (both_ran first m n made 1 silence before.ran (λ some. w.going) (omega arith) last.0);
      going = λ some. first_going made first m n before w;
      guarded = last.1;
    }
