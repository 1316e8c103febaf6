-- Tests that every place of a walk passes.
use Rattle.std.proofs.Common.{ℕ, zero, suc, ◌≡◌, ◌+◌, ◌<◌, ◌≤◌, Bool, true, Option, List, [], ◌∷◌, ◌++◌, map, None, refl, ap, ◌∙◌, arith}
use Rattle.std.specs.List.{list_all, range_with_len}
use Rattle.std.proofs.lemmas.Bool.{and_from}
use Rattle.std.proofs.lemmas.List.Folds.{list_all-append}
use Rattle.law_lists.proofs.Tests.{both_left, both_right}
use Rattle.serde_json.specs.Data.{Data}
use Rattle.serde_json.specs.View.{items_of}
use Rattle.def_desc.specs.declared.faults.PartWord.TheVariants as part
use Rattle.def_desc.specs.declared.faults.Fault.{Fault}
use Rattle.def_desc.specs.declared.faults.Place.{Place}
use Rattle.def_desc.specs.Members.{list_of}
use Rattle.def_desc.specs.Tables.{inner_lists}
use Rattle.def_desc.specs.Walk.{Spot, spot, place, inside, each_from}
use Rattle.def_desc.specs.WellFormed.{first_failing, fault_or}

pub list_items : (ds : List Data) → list_of (items_of ds) ≡ ds
list_items [] = refl
list_items (d ∷ ds) = ap (λ (l : List Data). d ∷ l) (list_items ds)

pub front : (test : Spot → Bool) (s : Spot) (ss : List Spot) → test s ≡ true → list_all test ss ≡ true → list_all test (s ∷ ss) ≡ true
front test s ss h k = and_from (test s) (list_all test ss) h k

pub both : (test : Spot → Bool) (ss ts : List Spot) → list_all test ss ≡ true → list_all test ts ≡ true → list_all test (ss ++ ts) ≡ true
both test ss ts h k = list_all-append test ss ts ∙ and_from (list_all test ss) (list_all test ts) h k

-- no place fails where all pass
pub none_fails : (test : Spot → Bool) (ss : List Spot) → list_all test ss ≡ true → first_failing test ss ≡ None
none_fails test [] h = refl
none_fails test (s ∷ ss) h =
    let t : test s ≡ true = both_left (test s) (list_all test ss) h in
    rw t (none_fails test ss (both_right (test s) (list_all test ss) h))

pub none_or : (number : ℕ) (o : Option Place) (rest : Option Fault) → o ≡ None → rest ≡ None → fault_or number o rest ≡ None
none_or number o rest h k = rw h k

-- a compartment with what stands inside it
abbrev pub own_spots : Data → ℕ → Data → List Spot
own_spots d i x = spot (place part.Compartment i 0) d x ∷ inside x i (inner_lists part.Compartment)

pub all_own : (test : Spot → Bool) (d : Data) (f : ℕ → Data) (n : ℕ)
    → ((i : ℕ) → i < n → list_all test (own_spots d i (f i)) ≡ true)
    → (a m : ℕ) → a + m ≤ n → list_all test (each_from part.Compartment d a (map f (range_with_len a m))) ≡ true
all_own test d f n h a zero le = refl
all_own test d f n h a (suc m) le =
    both test (own_spots d a (f a)) (each_from part.Compartment d (a + 1) (map f (range_with_len (a + 1) m)))
    (h a (omega arith)) (all_own test d f n h (a + 1) m (omega arith))
