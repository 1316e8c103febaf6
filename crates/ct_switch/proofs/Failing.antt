-- Lists of checks: what follows where none fails, and one list after another.
use Rattle.std.proofs.Common.{ℕ, ◌≡◌, ◌≤◌, ◌++◌, ◌&&◌, ◌==◌, inl, inr, true, false, nat_le, List, [], ◌∷◌, Some, None, refl, sym, ◌∙◌}
use Rattle.std.proofs.lemmas.Bool.{leb-true}
use Rattle.law_lists.proofs.Tests.{bool_tells, eq_tells, both_left, both_right}
use Rattle.def_words.specs.declared.Cap.{Cap}
use Rattle.def_words.specs.declared.Trap.{Trap}
use Rattle.def_words.specs.Authority.{cap_address, cap_base}
use Rattle.def_words.specs.Seals.{cap_seal}
use Rattle.def_step.specs.Checks.{Check, first_failed}
use Rattle.def_step.specs.Switch.{return_checks, gate_checks, stack_checks}

pub first_passes : (c : Check) (cs : List Check) → first_failed (c ∷ cs) ≡ None → (c.0 ≡ true) × (first_failed cs ≡ None)
first_passes c cs none = elim (bool_tells c.0) [
  | inl e ↦ (e, rw e at none)
  | inr e ↦ absurd (let clash : Some c.1 ≡ None = rw e at none in cc)
]

pub failed_some : (cs ds : List Check) (why : Trap) → first_failed cs ≡ Some why → first_failed (cs ++ ds) ≡ Some why
failed_some [] ds why some = absurd (cc)
failed_some (c ∷ cs) ds why some = elim (bool_tells c.0) [
  | inl e ↦ rw e (failed_some cs ds why (rw e at some))
  | inr e ↦ rw e (rw e at some)
]

pub failed_none : (cs ds : List Check) → first_failed cs ≡ None → first_failed (cs ++ ds) ≡ first_failed ds
failed_none [] ds none = refl
failed_none (c ∷ cs) ds none = let p = first_passes c cs none in rw p.0 (failed_none cs ds p.1)

abbrev pub AllPass : List Check → Type 0
AllPass [] = Unit {0}
AllPass (c ∷ cs) = (c.0 ≡ true) × AllPass cs

pub all_pass : (cs : List Check) → first_failed cs ≡ None → AllPass cs
all_pass [] none = tt
all_pass (c ∷ cs) none = let p = first_passes c cs none in (p.0, all_pass cs p.1)

-- what a switch's checks tell where none fails
pub record Passed (base top : ℕ) (c6 c2 : Cap) : Type 0 where
  pub tagged : c6.tag ≡ true
  pub import : cap_seal c6 ≡ 9
  pub low : base ≤ cap_address c2
  pub high : cap_address c2 ≤ top

pub checks_passed : (base top : ℕ) (c1 c6 c2 : Cap) → first_failed (return_checks c1 ++ gate_checks c6 ++ stack_checks base top c2) ≡ None → Passed base top c6 c2
checks_passed base top c1 c6 c2 none =
    let all : AllPass (return_checks c1 ++ gate_checks c6 ++ stack_checks base top c2) = all_pass (return_checks c1 ++ gate_checks c6 ++ stack_checks base top c2) none in
    let seal : (cap_seal c6 == 9) ≡ true = all.1.1.1.0 in
    let place : ((cap_base c2 == base) && (nat_le base (cap_address c2) && nat_le (cap_address c2) top)) ≡ true = all.1.1.1.1.1.1.1.0 in
    let between : (nat_le base (cap_address c2) && nat_le (cap_address c2) top) ≡ true = both_right (cap_base c2 == base) (nat_le base (cap_address c2) && nat_le (cap_address c2) top) place in
    record {
      tagged = all.1.1.0;
      import = elim (eq_tells (cap_seal c6) 9) [ inl e ↦ e.1 | inr e ↦ absurd (let clash : true ≡ false = sym seal ∙ e.0 in cc) ];
      low = leb-true base (cap_address c2) (both_left (nat_le base (cap_address c2)) (nat_le (cap_address c2) top) between);
      high = leb-true (cap_address c2) top (both_right (nat_le base (cap_address c2)) (nat_le (cap_address c2) top) between);
    }
