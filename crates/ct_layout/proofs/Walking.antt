-- Sizes one after another: what is left of them, and where their regions end.
use Rattle.std.proofs.Common.{ℕ, ◌+◌, ◌<◌, ◌≤◌, ◌≡◌, List, [], ◌∷◌, ◌++◌, length, get_or, drop, refl, ap, sym, subst, ◌∙◌, append_assoc, drop-cons, add-one}
use Rattle.std.proofs.lemmas.List.{append-nil}
use Rattle.std.proofs.Math.ListN.{drop_of_length-le}
use Rattle.def_layout.specs.declared.Region.{Region}
use Rattle.def_layout.specs.Placement.{region_base, region_length, region_from, placed, last_end}
use Rattle.def_layout.specs.Lies.{AreSmall}
use Rattle.def_layout.specs.declared.TheConstants.{MOST_REGION}
use Rattle.law_layout.proofs.Placing.{next_end, last_cons, placed_cons, last_nil, placed_nil, grows}

rest_is : (sizes : List ℕ) (i : ℕ) → i < length sizes → drop i sizes ≡ get_or sizes i 0 ∷ drop (i + 1) sizes
rest_is sizes i lt = rw (add-one, drop-cons sizes i 0) refl

pub small_at : (sizes : List ℕ) (i : ℕ) → i < length sizes → AreSmall (drop i sizes) → get_or sizes i 0 ≤ MOST_REGION
small_at sizes i lt small = (subst AreSmall (rest_is sizes i lt) small).0

pub small_after : (sizes : List ℕ) (i : ℕ) → i < length sizes → AreSmall (drop i sizes) → AreSmall (drop (i + 1) sizes)
small_after sizes i lt small = (subst AreSmall (rest_is sizes i lt) small).1

pub last_after : (end i total : ℕ) (sizes : List ℕ) → i < length sizes → last_end end (drop i sizes) ≡ total → last_end (next_end end (get_or sizes i 0)) (drop (i + 1) sizes) ≡ total
last_after end i total sizes lt same = sym (ap (λ (ns : List ℕ). last_end end ns) (rest_is sizes i lt) ∙ last_cons end (get_or sizes i 0) (drop (i + 1) sizes)) ∙ same

-- so far, where the last of them ends at `total`
pub ends_under : (end i total : ℕ) (sizes : List ℕ) → i < length sizes → last_end end (drop i sizes) ≡ total → next_end end (get_or sizes i 0) ≤ total
ends_under end i total sizes lt same =
    let after = last_after end i total sizes lt same in
    subst (λ n. next_end end (get_or sizes i 0) ≤ n) after (grows (next_end end (get_or sizes i 0)) (drop (i + 1) sizes))

pub placed_after : (front : List Region) (end i : ℕ) (sizes : List ℕ) (all : List Region) → i < length sizes → front ++ placed end (drop i sizes) ≡ all
    → (front ++ region_from (region_base end (get_or sizes i 0)) (region_length (get_or sizes i 0)) ∷ []) ++ placed (next_end end (get_or sizes i 0)) (drop (i + 1) sizes) ≡ all
placed_after front end i sizes all lt told =
    let one : placed end (drop i sizes) ≡ region_from (region_base end (get_or sizes i 0)) (region_length (get_or sizes i 0)) ∷ placed (next_end end (get_or sizes i 0)) (drop (i + 1) sizes) =
    ap (λ (ns : List ℕ). placed end ns) (rest_is sizes i lt) ∙ placed_cons end (get_or sizes i 0) (drop (i + 1) sizes) in
    simp append_assoc (sym (ap (λ (rs : List Region). front ++ rs) one) ∙ told)

-- ---- past the end

past : (sizes : List ℕ) (i : ℕ) → length sizes ≤ i → drop i sizes ≡ []
past sizes i le = drop_of_length-le sizes le

pub none_left : (end i total : ℕ) (sizes : List ℕ) → length sizes ≤ i → last_end end (drop i sizes) ≡ total → end ≡ total
none_left end i total sizes le same = sym (ap (λ (ns : List ℕ). last_end end ns) (past sizes i le) ∙ last_nil end) ∙ same

pub none_placed : (front : List Region) (end i : ℕ) (sizes : List ℕ) (all : List Region) → length sizes ≤ i → front ++ placed end (drop i sizes) ≡ all → front ≡ all
none_placed front end i sizes all le told =
    sym (append-nil front) ∙ sym (ap (λ (rs : List Region). front ++ rs) (ap (λ (ns : List ℕ). placed end ns) (past sizes i le) ∙ placed_nil end)) ∙ told
