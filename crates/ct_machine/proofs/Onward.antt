-- The loop of rounds up to one that tells something.
use Rattle.std.proofs.Common.{ℕ, zero, suc, ◌+◌, ◌-◌, ◌≡◌, ◌≤◌, ◌<◌, ◌&&◌, ◌||◌, nat_lt, Bool, true, false, is_some, List, Option, None, Some, refl, sym, ap, ◌∙◌, subst, arith}
use Rattle.std.proofs.lemmas.Bool.{lt-ltb}
use Rattle.ct_entry.specs.declared.acts.Deed.{Deed}
use Rattle.ct_entry.specs.declared.acts.End.{End}
use Rattle.ct_entry.specs.declared.acts.Happened.{Happened}
use Rattle.ct_entry.specs.Listed.{Listed}
use Rattle.def_confined.specs.Telling.{AllLicensed, IsLicensedEvent}
use Rattle.law_events.proofs.Running.{told_licensed}
use Rattle.ct_entry.specs.declared.acts.Owned.{Owned}
use Rattle.def_events.specs.Guarded.{Guarded}
use Rattle.def_machine.specs.Platform.{MachineRow}
use Rattle.def_step.specs.Events.{end_of}
use Rattle.ct_machine.specs.Going.{silence}
use Rattle.ct_machine.specs.Onward.{rounds, tells, told_last, RanOn}
use Rattle.ct_machine.proofs.Appending.{both_ran, none_ran, ran_counts}

-- after so many rounds of a machine that was so first, which told nothing
pub record Onward (first m : MachineRow) (most count : ℕ) : Type 0 where
  pub within : count ≤ most
  pub ran : RanOn first m count silence
  pub going : 0 < count → end_of m.state ≡ None
  pub guarded : Guarded m

pub starts : (m : MachineRow) (most : ℕ) → Guarded m → Onward m m most 0
starts m most g = record { within = omega arith; ran = none_ran m silence; going = λ some. absurd (omega (arith, some)); guarded = g }

-- what was counted leaves room for the rest
pub steps_left : (first m : MachineRow) (most count all : ℕ) → Onward first m most count → first.state.counts.steps + most ≤ all → m.state.counts.steps + (most - count) ≤ all
steps_left first m most count all o room = omega (arith, o.within, (ran_counts o.ran).0, room)

pub sweeps_left : (first m : MachineRow) (most count all : ℕ) → Onward first m most count → first.state.counts.sweeps + most ≤ all → m.state.counts.sweeps + (most - count) ≤ all
sweeps_left first m most count all o room = omega (arith, o.within, (ran_counts o.ran).1, room)

pub more_ran : (first m n : MachineRow) (most count more : ℕ) (h : Happened) → Onward first m most count → 1 ≤ more → RanOn m n more h × Guarded n → RanOn first n (count + more) h × Guarded n
more_ran first m n most count more h o some r = (both_ran first m n count more h o.ran o.going some r.0, r.1)

-- after some rounds the machine has come to no end, where it isn't over
pub not_over : (made : ℕ) (o : Option End) (over : Bool) → over ≡ (nat_lt 0 made && is_some o) → over ≡ false → 0 < made → o ≡ None
not_over made None over is none some = refl
not_over made (Some e) over is none some = absurd (let clash : true ≡ false = sym (is ∙ ap (λ b. b && true) (lt-ltb 0 made some)) ∙ none in cc)

pub none_some : (o : Option End) (b : Bool) → b ≡ is_some o → b ≡ false → o ≡ None
none_some None b is none = refl
none_some (Some e) b is none = absurd (cc)

-- nothing was told, and the machine is at no end
silent_by : (d : Option Deed) (o : Option Owned) → (is_some d || is_some o) ≡ false → record { deed = d; off = o } ≡ silence
silent_by None None none = refl
silent_by None (Some o) none = absurd (cc)
silent_by (Some d) None none = absurd (cc)
silent_by (Some d) (Some o) none = absurd (cc)

pub untold : (h : Happened) → tells h ≡ false → h ≡ silence
untold h none = silent_by h.deed h.off none

pub goes_on : (first m n : MachineRow) (most count more : ℕ) (h : Happened) → Onward first m most count → count < most → 1 ≤ more → more ≤ most - count → RanOn m n more h × Guarded n → tells h ≡ false → end_of n.state ≡ None
    → Onward first n most (count + more)
goes_on first m n most count more h o left some few r none going = record {
  within = omega (arith, left, few);
  ran = subst (λ (x : Happened). RanOn first n (count + more) x) (untold h none) (more_ran first m n most count more h o some r).0;
  going = λ above. going;
  guarded = r.1;
}

-- ---- what the last told

last_licensed : (e : Listed) (n : ℕ) (h : Happened) → 1 ≤ n → AllLicensed e (told_last n h) → IsLicensedEvent e h
last_licensed e zero h some all = absurd (omega (arith, some))
last_licensed e (suc zero) h some all = all.1.0
last_licensed e (suc (suc n)) h some all = last_licensed e (suc n) h (omega arith) all.1.1

licensed_by : (m n : MachineRow) (count : ℕ) (h : Happened) → Guarded m → 1 ≤ count → RanOn m n count h → IsLicensedEvent m.board.image.entries h
licensed_by m n count h g some r =
    last_licensed m.board.image.entries count h some
    (subst (λ (hs : List Happened). AllLicensed m.board.image.entries hs) r.told (told_licensed m.board m.state (rounds count) g.partitioned g.facts g.wired g.keeps))

pub ran_licensed : (m seen n : MachineRow) (count : ℕ) (h : Happened) → Guarded m → m ≡ seen → 1 ≤ count → RanOn m n count h → IsLicensedEvent seen.board.image.entries h
ran_licensed m seen n count h g same some r = subst (λ (x : MachineRow). IsLicensedEvent x.board.image.entries h) same (licensed_by m n count h g some r)
