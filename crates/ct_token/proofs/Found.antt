-- What a search finds among rows that rise.
use Rattle.std.proofs.Common.{◌≡◌, ℕ, zero, suc, ◌<◌, ◌≤◌, ◌≢◌, List, [], ◌∷◌, length, get_or, Result, Ok, Err, IfOk, IfErr, sym, ap, refl, arith}
use Rattle.std.specs.List.Sorted.{IsSearchInRange, IsBinarySearchResult, IsNonDecreasingBy}
use Rattle.std.specs.Ordering.{nat_cmp, ordering_index}
use Rattle.std.proofs.lemmas.Cmp.{ranked}
use Rattle.std.proofs.lemmas.List.Sorted.{IsNonDecreasingBy-from_default}
use Rattle.std.proofs.lemmas.Bool.Decides.{nat_tests}
use Rattle.ct_token.specs.declared.rows.Standing.TheVariants.{Gone}
use Rattle.ct_token.specs.declared.rows.Row.{Row}
use Rattle.ct_token.specs.Kept.{AllAbove, Rise, no_row, number_at, IsAt, IsGapFor, standing_in}

above_at : (n : ℕ) (l : List Row) (j : ℕ) → AllAbove n l → j < length l → n < number_at l j
above_at n [] j all lt = absurd (omega (arith, lt))
above_at n (r ∷ rs) zero all lt = all.0
above_at n (r ∷ rs) (suc j) all lt = above_at n rs j all.1 (omega (arith, lt))

pub rises : (l : List Row) → Rise l → (i j : ℕ) → i < j → j < length l → number_at l i < number_at l j
rises [] rise i j lt in_range = absurd (omega (arith, in_range))
rises (r ∷ rs) rise i zero lt in_range = absurd (omega (arith, lt))
rises (r ∷ rs) rise zero (suc j) lt in_range = above_at r.number rs j rise.0 (omega (arith, in_range))
rises (r ∷ rs) rise (suc i) (suc j) lt in_range = rises rs rise.1 i j (omega (arith, lt)) (omega (arith, in_range))

module _ (l : List Row) (rise : Rise l) (n : ℕ) where
  comparisons_rise : IsNonDecreasingBy (λ (r : Row). ordering_index (nat_cmp r.number n)) l
  comparisons_rise = IsNonDecreasingBy-from_default (λ (r : Row). ordering_index (nat_cmp r.number n)) l no_row (λ i j le in_range.
      let keys_rise : number_at l i ≤ number_at l j = grind (arith, rises l rise i j, λ (same : i ≡ j). ap (number_at l) same) in
      grind (arith, nat_tests))

  pub searched : (r : Result ℕ ℕ) → IsSearchInRange r (length l) → IsBinarySearchResult (λ (r : Row). nat_cmp r.number n) l r → record { found : IfOk r (IsAt l n); absent : IfErr r (IsGapFor l n) }
  searched (Ok at) in_range equal = record { found = record { in_range = in_range; has_number = ranked _ n _ (sym (equal no_row)) }; absent = tt }
  searched (Err at) in_range parted = record {
    found = tt;
    absent = record {
      in_range = in_range;
      smaller_before = λ j lt. ranked _ n _ (sym ((parted comparisons_rise).0 j no_row (omega arith) lt));
      greater_after = λ j le lt. ranked _ n _ (sym ((parted comparisons_rise).1 j no_row le lt));
    };
  }

abbrev pub NoneBefore : List Row → ℕ → ℕ → Type 0
NoneBefore l n i = (j : ℕ) → j < i → number_at l j ≢ n

before_tail : (x : Row) (l : List Row) (n i : ℕ) → NoneBefore (x ∷ l) n (suc i) → NoneBefore l n i
before_tail x l n i none j lt = none (suc j) (omega arith)

none_kept : (l : List Row) (n : ℕ) → NoneBefore l n (length l) → standing_in l n ≡ Gone
none_kept [] n none = refl
none_kept (x ∷ l) n none = grind (arith, nat_tests, none 0 (omega arith), none_kept l n (before_tail x l n _ none))

one_kept : (l : List Row) (n i : ℕ) → IsAt l n i → NoneBefore l n i → standing_in l n ≡ (get_or l i no_row).standing
one_kept [] n i at none = absurd (omega (arith, at.in_range))
one_kept (x ∷ l) n zero at none = grind (arith, nat_tests, at.has_number)
one_kept (x ∷ l) n (suc i) at none =
    grind (arith, nat_tests, none 0 (omega arith), one_kept l n i (record { in_range = omega (arith, at.in_range); has_number = at.has_number }) (before_tail x l n _ none))

pub standing_found : (l : List Row) (n i : ℕ) → Rise l → IsAt l n i → standing_in l n ≡ (get_or l i no_row).standing
standing_found l n i rise at = one_kept l n i at (λ j lt same. omega (arith, rises l rise j i lt at.in_range, at.has_number))

pub standing_missing : (l : List Row) (n i : ℕ) → IsGapFor l n i → standing_in l n ≡ Gone
standing_missing l n i gap = none_kept l n (λ j lt same. grind (arith, gap.smaller_before j, gap.greater_after j))
