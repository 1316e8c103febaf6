-- What is given before a step stands together, between two places that halving finds.
use Rattle.std.proofs.Common.{◌≡◌, ℕ, ◌+◌, ◌-◌, ◌<◌, ◌≤◌, ◌==◌, zero, suc, List, [], ◌∷◌, Bool, true, false, inl, inr, refl, ap, sym, ◌∙◌, arith, length, map, take, drop}
use Rattle.std.proofs.Math.ListN.{get_or}
use Rattle.std.specs.List.{filter}
use Rattle.std.proofs.lemmas.List.{get_or-map, get_or_default, take-map, drop-map, length-map}
use Rattle.law_lists.proofs.Tests.{bool_tells, eq_tells, le_tells}
use Rattle.law_lists.proofs.Finds.{filter_window}
use Rattle.def_script.specs.declared.Given.{Given}
use Rattle.def_script.specs.Script.{Due, given_at}
use Rattle.ct_script.specs.Lines.{LinesRow, AreLines, IsFirstFrom, IsGap, dues_of}

abbrev step_in : Due → ℕ
step_in d = d.step

abbrev given_in : Due → Given
given_in d = d.given

steps_are : (steps : List ℕ) (givens : List Given) → length steps ≡ length givens → map step_in (dues_of steps givens) ≡ steps
steps_are [] givens even = refl
steps_are (s ∷ ss) [] even = absurd (omega (arith, even))
steps_are (s ∷ ss) (g ∷ gs) even = ap (λ xs. s ∷ xs) (steps_are ss gs (omega (arith, even)))

givens_are : (steps : List ℕ) (givens : List Given) → length steps ≡ length givens → map given_in (dues_of steps givens) ≡ givens
givens_are [] [] even = refl
givens_are [] (g ∷ gs) even = absurd (omega (arith, even))
givens_are (s ∷ ss) [] even = absurd (omega (arith, even))
givens_are (s ∷ ss) (g ∷ gs) even = ap (λ xs. g ∷ xs) (givens_are ss gs (omega (arith, even)))

abbrev is_at : ℕ → Due → Bool
is_at step d = d.step == step

at_tells : (step : ℕ) (d : Due) → d.step ≡ step → is_at step d ≡ true
at_tells step d same = elim (eq_tells d.step step) [ inl e ↦ e.0 | inr n ↦ absurd (n.1 same) ]

other_tells : (step : ℕ) (d : Due) → (d.step ≡ step → ⊥) → is_at step d ≡ false
other_tells step d other = elim (eq_tells d.step step) [ inl e ↦ absurd (other e.1) | inr n ↦ n.0 ]

pub in_order : (steps : List ℕ) (step low high : ℕ) → IsFirstFrom steps step low → IsFirstFrom steps (step + 1) high → low ≤ high
in_order steps step low high a b =
    elim (le_tells low high) [
      | inl le ↦ le.1
      | inr gt ↦ absurd (omega (arith, gt.1, a.inside, a.less high gt.1, b.rest high (omega arith) (omega (arith, gt.1, a.inside))))
    ]

pub found : (l : LinesRow) (step low high : ℕ) → AreLines l → IsFirstFrom l.steps step low → IsFirstFrom l.steps (step + 1) high → take (high - low) (drop low l.givens) ≡ given_at (dues_of l.steps l.givens) step
found l step low high lines a b =
    let dues : List Due = dues_of l.steps l.givens in
    let same : map step_in dues ≡ l.steps = steps_are l.steps l.givens lines.even in
    let size : length dues ≡ length l.steps = sym (length-map dues step_in) ∙ ap length same in
    let step_at = λ (k : ℕ) (d : Due) (inside : k < length dues). sym (get_or-map step_in dues k d 0 inside) ∙ ap (λ ss. get_or ss k 0) same in
    let window : filter (is_at step) dues ≡ take (high - low) (drop low dues) =
    filter_window (is_at step) dues low high (in_order l.steps step low high a b) (omega (arith, b.inside, size))
    (λ k d lt. other_tells step (get_or dues k d) (λ e. omega (arith, e, step_at k d (omega (arith, lt, a.inside, size)), a.less k lt)))
    (λ k d lo lt. at_tells step (get_or dues k d) (omega (arith, step_at k d (omega (arith, lt, b.inside, size)), a.rest k lo (omega (arith, lt, b.inside)), b.less k lt)))
    (λ k d lo lt. other_tells step (get_or dues k d) (λ e. omega (arith, e, step_at k d lt, b.rest k lo (omega (arith, lt, size))))) in
    ap (λ gs. take (high - low) (drop low gs)) (sym (givens_are l.steps l.givens lines.even))
    ∙ ap (λ gs. take (high - low) gs) (drop-map given_in low dues)
    ∙ take-map given_in (high - low) (drop low dues)
    ∙ ap (λ ds. map given_in ds) (sym window)

-- ---- numbers that are no step

-- what passes stays
none_stays : {A : Type 0} (p : A → Bool) (xs : List A) (k : ℕ) (d : A) → k < length xs → p (get_or xs k d) ≡ true → filter p xs ≡ [] → ⊥
none_stays p [] k d inside passes none = omega (arith, inside)
none_stays p (x ∷ xs) zero d inside passes none = let e : (x ∷ filter p xs) ≡ [] = rw passes at none in absurd (cc)
none_stays p (x ∷ xs) (suc k) d inside passes none =
    elim (bool_tells (p x)) [
      | inl here ↦ absurd (let e : (x ∷ filter p xs) ≡ [] = rw here at none in cc)
      | inr other ↦ none_stays p xs k d (omega (arith, inside)) passes (rw other at none)
    ]

no_image : (ds : List Due) → map given_in ds ≡ [] → ds ≡ []
no_image [] none = refl
no_image (d ∷ ds) none = absurd (cc)

module _ (l : LinesRow) (from most count : ℕ) (lines : AreLines l) (gap : IsGap l.steps from most count) where
  abbrev dues : List Due
  dues = dues_of l.steps l.givens

  same : map step_in dues ≡ l.steps
  same = steps_are l.steps l.givens lines.even

  size : length dues ≡ length l.steps
  size = sym (length-map dues step_in) ∙ ap length same

  step_at : (k : ℕ) (d : Due) → k < length dues → (get_or dues k d).step ≡ get_or l.steps k 0
  step_at k d inside = sym (get_or-map step_in dues k d 0 inside) ∙ ap (λ ss. get_or ss k 0) same

  no_step : (n k : ℕ) (d : Due) → n < count → k < length dues → is_at (from + n) (get_or dues k d) ≡ false
  no_step n k d lt inside =
      other_tells (from + n) (get_or dues k d)
      (λ e. elim (gap.none k (omega (arith, inside, size))) [
        | inl less ↦ omega (arith, e, step_at k d inside, less)
        | inr more ↦ omega (arith, e, step_at k d inside, more, lt)
      ])

  -- before none of them something is given
  pub gap_bare : (n : ℕ) → n < count → given_at dues (from + n) ≡ []
  gap_bare n lt =
      ap (λ ds. map given_in ds)
      (filter_window (is_at (from + n)) dues 0 0 (omega arith) (omega arith)
      (λ k d less. absurd (omega (arith, less)))
      (λ k d lo less. absurd (omega (arith, less)))
      (λ k d lo inside. no_step n k d lt inside))

  -- before the one that follows something is, where they are fewer than may be
  pub gap_given : count < most → given_at dues (from + count) ≡ [] → ⊥
  gap_given less none =
      let (k, inside, is) = gap.next less in
      let d : Due = record { step = 0; given = record { device = 0; byte = 0 } } in
      let here : k < length dues = omega (arith, inside, size) in
      none_stays (is_at (from + count)) dues k d here
      (at_tells (from + count) (get_or dues k d) (step_at k d here ∙ get_or_default l.steps k 0 (from + count) inside ∙ is))
      (no_image (filter (is_at (from + count)) dues) none)
