-- What stands in the list of edges, and in what order.
use Rattle.std.proofs.Common.{ℕ, zero, suc, ◌≡◌, ◌+◌, ◌-◌, ◌<◌, ◌≤◌, Bool, true, false, cond, List, [], ◌∷◌, ◌++◌, length, slice_index_or, refl, sym, subst, inl, inr, arith}
use Rattle.std.specs.List.{AllByRecursion, Contains, flat_map, range_with_len}
use Rattle.std.proofs.lemmas.Bool.{both_ways, cases_eq}
use Rattle.std.proofs.lemmas.List.Elements.{Contains-append_left, Contains-append_right}
use Rattle.law_lists.proofs.Alls.{all_joined, all_so}
use Rattle.ct_entry.specs.Listed.{Listed}
use Rattle.def_report.specs.Edges.{are_joined, edge_of, edges_from, edges}
use Rattle.def_report.specs.Listing.{Precedes, IsAscending}

takes : {A : Type 0} (P : A → Type 0) (xs : List A) (x : A) (k : ℕ) → k < length xs → slice_index_or xs k x ≡ x → AllByRecursion P xs → P x
takes P [] x k lt is h = absurd (omega (arith, lt))
takes P (y ∷ ys) x zero lt is h = subst P is h.0
takes P (y ∷ ys) x (suc k) lt is h = takes P ys x k (omega (arith, lt)) is h.1

asc_append : (xs ys : List (ℕ × ℕ)) → IsAscending xs → IsAscending ys → AllByRecursion (λ x. AllByRecursion (Precedes x) ys) xs → IsAscending (xs ++ ys)
asc_append [] ys a b h = b
asc_append (x ∷ xs) ys a b h = (all_joined (Precedes x) xs ys a.0 h.0, asc_append xs ys a.1 b h.1)

-- ---- the edges from one compartment, to those of a range

abbrev InRow : Listed → ℕ → ℕ → ℕ → ℕ × ℕ → Type 0
InRow e a b k x = (x.0 ≡ a) × (b ≤ x.1) × (x.1 < b + k) × (are_joined e x.0 x.1 ≡ true)

one_in : (e : Listed) (a b k : ℕ) (t : Bool) → (t ≡ true → InRow e a b k (a, b)) → AllByRecursion (InRow e a b k) (cond t ((a, b) ∷ []) [])
one_in e a b k true h = (h refl, tt)
one_in e a b k false h = tt

row_in : (e : Listed) (a b k : ℕ) → AllByRecursion (InRow e a b k) (flat_map (edge_of e a) (range_with_len b k))
row_in e a b zero = tt
row_in e a b (suc k) =
    all_joined (InRow e a b (suc k)) (edge_of e a b) (flat_map (edge_of e a) (range_with_len (b + 1) k))
    (one_in e a b (suc k) (are_joined e a b) (λ t. (refl, omega arith, omega arith, t)))
    (all_so (InRow e a (b + 1) k) (InRow e a b (suc k)) (flat_map (edge_of e a) (range_with_len (b + 1) k)) (λ x h. let low = h.1 in let high = h.2 in (h.0, omega (arith, low), omega (arith, high), h.3)) (row_in e a (b + 1) k))

one_first : (e : Listed) (a b k : ℕ) (t : Bool) (rest : List (ℕ × ℕ)) → AllByRecursion (InRow e a (b + 1) k) rest → IsAscending rest → IsAscending (cond t ((a, b) ∷ []) [] ++ rest)
one_first e a b k false rest in_row asc = asc
one_first e a b k true rest in_row asc =
    (all_so (InRow e a (b + 1) k) (Precedes (a, b)) rest (λ x h. let low = h.1 in inr (sym h.0, omega (arith, low))) in_row, asc)

row_asc : (e : Listed) (a b k : ℕ) → IsAscending (flat_map (edge_of e a) (range_with_len b k))
row_asc e a b zero = tt
row_asc e a b (suc k) = one_first e a b k (are_joined e a b) (flat_map (edge_of e a) (range_with_len (b + 1) k)) (row_in e a (b + 1) k) (row_asc e a (b + 1) k)

here : (a b : ℕ) (t : Bool) → t ≡ true → Contains {X = ℕ × ℕ} (cond t ((a, b) ∷ []) []) (a, b)
here a b true h = (0, omega arith, refl)
here a b false h = absurd (both_ways false refl h)

row_has : (e : Listed) (a j b k : ℕ) → b ≤ j → j < b + k → are_joined e a j ≡ true → Contains (flat_map (edge_of e a) (range_with_len b k)) (a, j)
row_has e a j b zero low high t = absurd (omega (arith, low, high))
row_has e a j b (suc k) low high t = elim (cases_eq b j) [
  | inl same ↦ Contains-append_left (edge_of e a b) (flat_map (edge_of e a) (range_with_len (b + 1) k)) (a, j) (subst (λ m. Contains (edge_of e a m) (a, j)) (sym same) (here a j (are_joined e a j) t))
  | inr other ↦ Contains-append_right (edge_of e a b) (flat_map (edge_of e a) (range_with_len (b + 1) k)) (a, j) (row_has e a j (b + 1) k (above b j low other) (omega (arith, high)) t)
]
  where
    above : (b j : ℕ) → b ≤ j → (b ≡ j → ⊥) → b + 1 ≤ j
    above b j low other = omega (arith, low, other)

-- ---- the edges of all compartments of a range

abbrev InAll : Listed → ℕ → ℕ → ℕ → ℕ × ℕ → Type 0
InAll e n a k x = (a ≤ x.0) × (x.0 < a + k) × (x.0 < x.1) × (x.1 < n) × (are_joined e x.0 x.1 ≡ true)

from_row : (e : Listed) (n a k : ℕ) (x : ℕ × ℕ) → InRow e a (a + 1) (n - (a + 1)) x → InAll e n a (suc k) x
from_row e n a k x h =
    let same = h.0 in
    let low = h.1 in
    let high = h.2 in
    (omega (arith, same), omega (arith, same), omega (arith, same, low), omega (arith, low, high), h.3)

all_in : (e : Listed) (n a k : ℕ) → AllByRecursion (InAll e n a k) (flat_map (edges_from e n) (range_with_len a k))
all_in e n a zero = tt
all_in e n a (suc k) =
    all_joined (InAll e n a (suc k)) (edges_from e n a) (flat_map (edges_from e n) (range_with_len (a + 1) k))
    (all_so (InRow e a (a + 1) (n - (a + 1))) (InAll e n a (suc k)) (edges_from e n a) (from_row e n a k) (row_in e a (a + 1) (n - (a + 1))))
    (all_so (InAll e n (a + 1) k) (InAll e n a (suc k)) (flat_map (edges_from e n) (range_with_len (a + 1) k)) (λ x h. let low = h.0 in let high = h.1 in (omega (arith, low), omega (arith, high), h.2, h.3, h.4)) (all_in e n (a + 1) k))

all_asc : (e : Listed) (n a k : ℕ) → IsAscending (flat_map (edges_from e n) (range_with_len a k))
all_asc e n a zero = tt
all_asc e n a (suc k) =
    let rest : List (ℕ × ℕ) = flat_map (edges_from e n) (range_with_len (a + 1) k) in
    asc_append (edges_from e n a) rest (row_asc e a (a + 1) (n - (a + 1))) (all_asc e n (a + 1) k)
    (all_so (InRow e a (a + 1) (n - (a + 1))) (λ x. AllByRecursion (Precedes x) rest) (edges_from e n a)
    (λ x h. let same = h.0 in all_so (InAll e n (a + 1) k) (Precedes x) rest (λ y g. let low = g.0 in inl (omega (arith, same, low))) (all_in e n (a + 1) k))
    (row_in e a (a + 1) (n - (a + 1))))

all_has : (e : Listed) (n i j a k : ℕ) → a ≤ i → i < a + k → i < j → j < n → are_joined e i j ≡ true → Contains (flat_map (edges_from e n) (range_with_len a k)) (i, j)
all_has e n i j a zero low high less small t = absurd (omega (arith, low, high))
all_has e n i j a (suc k) low high less small t = elim (cases_eq a i) [
  | inl same ↦
      Contains-append_left (edges_from e n a) (flat_map (edges_from e n) (range_with_len (a + 1) k)) (i, j)
      (subst (λ m. Contains (edges_from e n m) (i, j)) (sym same) (row_has e i j (i + 1) (n - (i + 1)) (omega (arith, less)) (inside i j less small) t))
  | inr other ↦ Contains-append_right (edges_from e n a) (flat_map (edges_from e n) (range_with_len (a + 1) k)) (i, j) (all_has e n i j (a + 1) k (above a i low other) (omega (arith, high)) less small t)
]
  where
    inside : (i j : ℕ) → i < j → j < n → j < i + 1 + (n - (i + 1))
    inside i j less small = omega (arith, less, small)

    above : (a i : ℕ) → a ≤ i → (a ≡ i → ⊥) → a + 1 ≤ i
    above a i low other = omega (arith, low, other)

-- ---- the list

pub listed_joins : (e : Listed) (n a b : ℕ) → Contains (edges e n) (a, b) → (a < b) × (b < n) × (are_joined e a b ≡ true)
unfolding edges
listed_joins e n a b c =
    let h : InAll e n 0 n (a, b) = takes (InAll e n 0 n) (flat_map (edges_from e n) (range_with_len 0 n)) (a, b) c.0 c.1 c.2 (all_in e n 0 n) in
    (h.2, h.3, h.4)

pub joins_listed : (e : Listed) (n a b : ℕ) → a < b → b < n → are_joined e a b ≡ true → Contains (edges e n) (a, b)
unfolding edges
joins_listed e n a b less small t = all_has e n a b 0 n (omega arith) (omega (arith, less, small)) less small t

pub edges_ascend : (e : Listed) (n : ℕ) → IsAscending (edges e n)
unfolding edges
edges_ascend e n = all_asc e n 0 n
