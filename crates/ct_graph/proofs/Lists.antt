-- Lists of places.
use Rattle.std.proofs.Common.{◌≡◌, ℕ, zero, suc, ◌+◌, ◌<◌, ◌≤◌, Bool, true, false, cond, nat_eq, List, [], ◌∷◌, length, refl, arith, slice_index_or, slice_set}
use Rattle.std.proofs.lemmas.Bool.{eq-eqb}
use Rattle.ct_graph.specs.Cells.{unknown, cell, far}

pub unknown_set : (n : ℕ) (ds : List ℕ) (v d : ℕ) → v < length ds → unknown n (slice_set ds v d) + cond (nat_eq (slice_index_or ds v n) n) 1 0 ≡ unknown n ds + cond (nat_eq d n) 1 0
unknown_set n [] v d lt = absurd (omega (arith, lt))
unknown_set n (x ∷ ds) zero d lt = omega arith
unknown_set n (x ∷ ds) (suc v) d lt =
    let later : unknown n (slice_set ds v d) + cond (nat_eq (slice_index_or ds v n) n) 1 0 ≡ unknown n ds + cond (nat_eq d n) 1 0 = unknown_set n ds v d (omega (arith, lt)) in
    omega (arith, later)

pub one_unknown : (n : ℕ) (ds : List ℕ) (v : ℕ) → v < length ds → slice_index_or ds v n ≡ n → 1 ≤ unknown n ds
one_unknown n [] v lt is = absurd (omega (arith, lt))
one_unknown n (x ∷ ds) zero lt is = let one : ℕ = 1 in let here : cond (nat_eq x n) 1 0 ≡ one = rw (eq-eqb x n is) refl in omega (arith, here)
one_unknown n (x ∷ ds) (suc v) lt is = let later : 1 ≤ unknown n ds = one_unknown n ds v (omega (arith, lt)) is in omega (arith, later)

-- a place outside the rows goes nowhere
pub goes_inside : (rows : List (List Bool)) (v x : ℕ) → cell rows v x ≡ true → v < length rows
goes_inside [] v x goes = absurd (none x goes)
  where
    none : (x : ℕ) → slice_index_or [] x false ≡ true → ⊥
    none x h = cc
goes_inside (r ∷ rows) zero x goes = omega arith
goes_inside (r ∷ rows) (suc v) x goes = let later : v < length rows = goes_inside rows v x goes in omega (arith, later)

-- a place past the end is never reached
pub reached_inside : (n : ℕ) (ds : List ℕ) (x : ℕ) → far n ds x < n → x < length ds
reached_inside n [] x lt = absurd (omega (arith, lt))
reached_inside n (d ∷ ds) zero lt = omega arith
reached_inside n (d ∷ ds) (suc x) lt = let later : x < length ds = reached_inside n ds x lt in omega (arith, later)
