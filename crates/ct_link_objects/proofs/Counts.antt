-- How many codes of a description are files, and what it says that there is one text for each.
use Rattle.std.proofs.Common.{ℕ, ◌≡◌, ◌+◌, ◌≤◌, ◌<◌, ◌^◌, ◌↔◌, Bool, true, false, ◌&&◌, List, [], ◌∷◌, length, map, take, Some, None, slice_get, Vec, Global, refl, sym, ap₂, ◌∙◌, arith}
use Rattle.std.specs.Prelude.{Option, IsTrue, nat_lt}
use Rattle.std.specs.List.{AllByRecursion, list_all}
use Rattle.std.proofs.lemmas.Bool.{and_parts, ltb-true, lt-ltb}
use Rattle.std.proofs.lemmas.List.{length-map}
use Rattle.def_desc.specs.Rows.{DescRow}
use Rattle.def_link.specs.Owners.{Unit as OwnerUnit, units_of}
use Rattle.ct_link_objects.specs.Objects.{file_of, files_of, AreSourced}
use Rattle.ct_link_objects.proofs.Progress.{one_taken}

-- ---- how many

pub one_file : (o : Option (List ℕ)) → file_of o ≤ 1
one_file None = omega arith
one_file (Some name) = omega arith

-- one more owner of a loop
pub one_more : (us : List OwnerUnit) (k : ℕ) (u : OwnerUnit) (files more : ℕ) → slice_get us k ≡ Some u → (files ≡ files_of (take k us)) × (files ≤ k) → more ≡ file_of u.code.file
    → (files + more ≡ files_of (take (k + 1) us)) × (files + more ≤ k + 1)
one_more us k u files more is so sized =
    let so_far = so.0 in
    let few = so.1 in
    let all = one_taken us k u is in
    let one = one_file u.code.file in
    (omega (arith, all, so_far, sized), omega (arith, few, one, sized))

-- ---- one text for each

short_texts : (texts : List (Vec ℕ Global)) → list_all (λ t. nat_lt (length t.items) (2 ^ 32)) texts ≡ true
    → AllByRecursion (λ (t : List ℕ). length t < 2 ^ 32) (map (λ t. t.items) texts)
short_texts [] h = tt
short_texts (t ∷ ts) h =
    let both = and_parts (nat_lt (length t.items) (2 ^ 32)) (list_all (λ y. nat_lt (length y.items) (2 ^ 32)) ts) h in
    (ltb-true (length t.items) (2 ^ 32) both.0, short_texts ts both.1)

all_short : (texts : List (Vec ℕ Global)) → AllByRecursion (λ (t : List ℕ). length t < 2 ^ 32) (map (λ t. t.items) texts)
    → list_all (λ t. nat_lt (length t.items) (2 ^ 32)) texts ≡ true
all_short [] h = refl
all_short (t ∷ ts) h = ap₂ (λ a b. a && b) (lt-ltb (length t.items) (2 ^ 32) h.0) (all_short ts h.1)

pub counted : (d : DescRow) (texts : List (Vec ℕ Global)) (files : ℕ) (short : Bool) → files ≡ files_of (units_of d) → length texts ≡ files
    → short ≡ list_all (λ t. nat_lt (length t.items) (2 ^ 32)) texts → IsTrue short ↔ AreSourced d (map (λ t. t.items) texts)
counted d texts files short all count is = (
  λ h. record { each = length-map texts (λ (t : Vec ℕ Global). t.items) ∙ count ∙ all; short = short_texts texts (sym is ∙ h) },
  λ s. is ∙ all_short texts s.short,
)

pub miscounted : (d : DescRow) (texts : List (Vec ℕ Global)) (files : ℕ) → files ≡ files_of (units_of d) → (length texts ≡ files → ⊥) → IsTrue false ↔ AreSourced d (map (λ t. t.items) texts)
miscounted d texts files all other = (
  λ h. absurd (let no : false ≡ true = h in cc),
  λ s. absurd (other (sym (length-map texts (λ (t : Vec ℕ Global). t.items)) ∙ s.each ∙ sym all)),
)
