-- The order of picks has each thread once, whatever is picked.
use Rattle.std.proofs.Common.{◌≡◌, ℕ, zero, suc, ◌<◌, List, [], ◌∷◌, ◌++◌, ◌==◌, true, false, not, ◌⊎◌, inl, inr, refl, ap, sym, ◌∙◌, subst, arith, length, length-append}
use Rattle.std.proofs.Math.ListN.{get_or}
use Rattle.std.specs.List.{All, AllPairs, Contains, filter, remove, range_with_len}
use Rattle.std.proofs.lemmas.List.FromFn.{length-range_with_len, get_or-range_with_len}
use Rattle.std.proofs.lemmas.List.Elements.{All-append, All-filter, Contains-append_left, Contains-push, filter_passes}
use Rattle.std.proofs.lemmas.List.Kept.{AllPairs-filter}
use Rattle.std.proofs.lemmas.List.Quantifiers.{all_pairs_push}
use Rattle.std.proofs.lemmas.List.{get_or_default}
use Rattle.std.proofs.lemmas.List.Edits.{length-remove}
use Rattle.law_lists.proofs.Tests.{eq_tells}
use Rattle.def_sched.specs.Picks.{IsOrder, first_order, moved_last}

abbrev pub Differ : ℕ → ℕ → Type 0
Differ t u = t ≡ u → ⊥

-- all but thread t
abbrev pub others : ℕ → List ℕ → List ℕ
others t xs = filter (λ u. not (u == t)) xs

pub tail_pairs : (R : ℕ → ℕ → Type 0) (x : ℕ) (xs : List ℕ) → AllPairs R (x ∷ xs) → AllPairs R xs
tail_pairs R x xs h = λ i j d lt inside. h (suc i) (suc j) d (omega (arith, lt)) (omega (arith, inside))

-- who is left out is out, who isn't stays
pub left_out : (t : ℕ) (xs : List ℕ) → All (λ u. u ≡ t → ⊥) (others t xs)
left_out t xs = λ k d inside same.
    let passes : not (get_or (others t xs) k d == t) ≡ true = filter_passes (λ u. not (u == t)) xs k d inside in
    elim (eq_tells (get_or (others t xs) k d) t) [
      | inl equal ↦ let bad : false ≡ true = rw equal.0 at passes in absurd (cc)
      | inr apart ↦ apart.1 same
    ]

pub contains_cases : (u x : ℕ) (xs : List ℕ) → Contains (x ∷ xs) u → (x ≡ u) ⊎ Contains xs u
contains_cases u x xs (zero, inside, is) = inl is
contains_cases u x xs (suc k, inside, is) = inr (k, omega (arith, inside), is)

pub contains_more : (u x : ℕ) (xs : List ℕ) → Contains xs u → Contains (x ∷ xs) u
contains_more u x xs (k, inside, is) = (suc k, omega (arith, inside), is)

pub keeps_others : (t u : ℕ) (xs : List ℕ) → (u ≡ t → ⊥) → Contains xs u → Contains (others t xs) u
keeps_others t u [] differ (k, inside, is) = absurd (omega (arith, inside))
keeps_others t u (x ∷ xs) differ c =
    elim (eq_tells x t) [
      | inl same ↦ rw same.0 (elim (contains_cases u x xs c) [
        | inl here ↦ absurd (differ (sym here ∙ same.1))
        | inr later ↦ keeps_others t u xs differ later
      ])
      | inr apart ↦ rw apart.0 (elim (contains_cases u x xs c) [
        | inl here ↦ (0, omega arith, here)
        | inr later ↦ contains_more u x (others t xs) (keeps_others t u xs differ later)
      ])
    ]

-- where all are apart, to leave out the one at a place is to remove it
pub all_stay : (t : ℕ) (xs : List ℕ) → All (λ u. u ≡ t → ⊥) xs → others t xs ≡ xs
all_stay t [] h = refl
all_stay t (x ∷ xs) h =
    elim (eq_tells x t) [
      | inl same ↦ absurd (h 0 0 (omega arith) same.1)
      | inr apart ↦ rw apart.0 (ap (λ r. x ∷ r) (all_stay t xs (λ k d inside. h (suc k) d (omega (arith, inside)))))
    ]

pub leaves_out : (xs : List ℕ) (place t : ℕ) → place < length xs → get_or xs place 0 ≡ t → AllPairs Differ xs → others t xs ≡ remove xs place
leaves_out [] place t inside is once = absurd (omega (arith, inside))
leaves_out (x ∷ xs) zero t inside is once =
    elim (eq_tells x t) [
      | inl same ↦ rw same.0 (all_stay t xs (λ k d inner e. once 0 (suc k) d (omega arith) (omega (arith, inner)) (is ∙ sym e)))
      | inr apart ↦ absurd (apart.1 is)
    ]
leaves_out (x ∷ xs) (suc place) t inside is once =
    elim (eq_tells x t) [
      | inl same ↦ absurd (once 0 (suc place) 0 (omega arith) inside (same.1 ∙ sym is))
      | inr apart ↦ rw apart.0 (ap (λ r. x ∷ r) (leaves_out xs place t (omega (arith, inside)) is (tail_pairs Differ x xs once)))
    ]

pub moves : (xs : List ℕ) (place t : ℕ) → place < length xs → get_or xs place 0 ≡ t → AllPairs Differ xs → remove xs place ++ t ∷ [] ≡ moved_last t xs
moves xs place t inside is once = ap (λ r. r ++ t ∷ []) (sym (leaves_out xs place t inside is once))

-- ---- an order stays one

just : (t count : ℕ) → t < count → All (λ u. u < count) (t ∷ [])
just t count lt zero d inside = lt
just t count lt (suc k) d inside = absurd (omega (arith, inside))

pub starts : (count : ℕ) → IsOrder count (first_order count)
starts count =
    let size : length (range_with_len 0 count) ≡ count = length-range_with_len 0 count in
    let at = λ (k d : ℕ) (inside : k < length (range_with_len 0 count)). get_or-range_with_len 0 count k d (omega (arith, inside, size)) in
    record {
      size = size;
      below = λ k d inside. omega (arith, inside, size, at k d inside);
      each = λ t lt. (t, omega (arith, lt, size), omega (arith, get_or-range_with_len 0 count t t lt));
      once = λ i j d lt inside same. omega (arith, lt, same, at i d (omega (arith, lt, inside)), at j d inside);
    }

pub goes_on : (count t : ℕ) (order : List ℕ) → t < count → IsOrder count order → IsOrder count (moved_last t order)
goes_on count t order inside is =
    let here : Contains order t = is.each t inside in
    let whole : remove order here.0 ++ t ∷ [] ≡ moved_last t order = moves order here.0 t here.1 (get_or_default order here.0 0 t here.1 ∙ here.2) is.once in
    record {
      size = omega (arith, ap length whole, length-append (remove order here.0) (t ∷ []), length-remove order here.0 here.1, is.size);
      below = All-append (λ u. u < count) (others t order) (t ∷ []) (All-filter _ (λ u. u < count) order is.below) (just t count inside);
      each = λ u lt. elim (eq_tells u t) [
        | inl same ↦ subst (λ v. Contains (moved_last t order) v) (sym same.1) (Contains-push (others t order) t)
        | inr apart ↦ Contains-append_left (others t order) (t ∷ []) u (keeps_others t u order apart.1 (is.each u lt))
      ];
      once = all_pairs_push Differ (others t order) t (AllPairs-filter Differ _ order is.once) (λ k d inner. left_out t order k d inner);
    }
