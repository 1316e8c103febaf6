-- The names of compartments, of their sources and exports: each has its form, and no two are equal.
use Rattle.std.proofs.Common.{ℕ, zero, suc, ◌≡◌, ◌+◌, ◌<◌, ◌≤◌, ◌^◌, true, false, List, [], ◌∷◌, ◌++◌, map, codes, decimal, Some, refl, ◌∙◌, arith, lit<}
use Rattle.std.specs.Str.{bytes_eq}
use Rattle.std.specs.List.{range_with_len}
use Rattle.std.specs.Fmt.{digits}
use Rattle.std.proofs.lemmas.Bool.{agree_below_at, false_from_ne_true, or_from}
use Rattle.std.proofs.lemmas.Fmt.{decimal_injective}
use Rattle.std.proofs.lemmas.List.Folds.{list_any-append}
use Rattle.std.proofs.lemmas.Slice.Eq.{bytes_eq-Decides}
use Rattle.def_texts.specs.Names.{is_name, among, with_name}
use Rattle.def_desc.specs.Limits.{keeps_file}
use Rattle.def_gen.specs.Description.{name_of_compartment, file_name}

pub names_formed : (i : ℕ) → i < 64 → is_name (name_of_compartment i) ≡ true
unfolding digits
names_formed i h = agree_below_at (λ j. is_name (name_of_compartment j)) (λ j. true) 64 i refl h

pub files_fit : (i : ℕ) → i < 64 → keeps_file (Some (file_name i)) ≡ true
unfolding digits
files_fit i h = agree_below_at (λ j. keeps_file (Some (file_name j))) (λ j. true) 64 i refl h

tail_same : (a b : List ℕ) → 110 ∷ a ≡ 110 ∷ b → a ≡ b
tail_same a b e = cc

pub differ : (i j : ℕ) → i < 64 → j < 64 → (i ≡ j → ⊥) → bytes_eq (name_of_compartment i) (name_of_compartment j) ≡ false
differ i j hi hj ne =
    let low : 64 < 2 ^ 64 = lit< tt in
    false_from_ne_true (bytes_eq (name_of_compartment i) (name_of_compartment j))
    (λ e. ne (decimal_injective i j (omega arith) (omega arith)
    (tail_same (decimal i) (decimal j) ((bytes_eq-Decides (name_of_compartment i) (name_of_compartment j)).0 e))))

pub new_name : (i a m : ℕ) → i < 64 → a + m ≤ i → among (name_of_compartment i) (map name_of_compartment (range_with_len a m)) ≡ false
new_name i a zero h le = refl
new_name i a (suc m) h le =
    or_from (bytes_eq (name_of_compartment i) (name_of_compartment a)) (among (name_of_compartment i) (map name_of_compartment (range_with_len (a + 1) m)))
    (differ i a h (omega arith) (λ e. omega arith)) (new_name i (a + 1) m h (omega arith))

-- threads have names of one letter, which isn't that of compartments
pub not_first : (a m : ℕ) → among (codes "a") (map name_of_compartment (range_with_len a m)) ≡ false
not_first a zero = refl
not_first a (suc m) = not_first (a + 1) m

pub not_second : (a m : ℕ) → among (codes "b") (map name_of_compartment (range_with_len a m)) ≡ false
not_second a zero = refl
not_second a (suc m) = not_second (a + 1) m

pub not_after : (name other : List ℕ) (seen : List (List ℕ)) → among name seen ≡ false → bytes_eq name other ≡ false → among name (seen ++ other ∷ []) ≡ false
not_after name other seen h k =
    list_any-append (bytes_eq name) seen (other ∷ [])
    ∙ or_from (among name seen) (among name (other ∷ [])) h (or_from (bytes_eq name other) false k refl)

pub added : (seen : List (List ℕ)) (name : List ℕ) → among name seen ≡ false → with_name seen name ≡ seen ++ name ∷ []
added seen name h = rw h refl
