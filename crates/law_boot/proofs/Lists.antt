-- The regions of an image's list, by what each is of.
use Rattle.std.proofs.Common.{ℕ, zero, suc, ◌≡◌, ◌+◌, List, [], ◌∷◌, ◌++◌, Some, slice_get, refl, ap, ◌∙◌, subst, arith}
use Rattle.ct_entry.specs.declared.rows.Owner.TheVariants.{Compartment}
use Rattle.def_image.specs.declared.format.TheConstants.{SHARED, THREAD}
use Rattle.def_image.specs.Parts.{SharedRow, SealedRow, CodeRow, CompartmentRow, ThreadRow, PartsRow}
use Rattle.def_image.specs.Sizes.{sealed_size, compartment_size, library_size}
use Rattle.def_image.specs.Spelling.{raw_sealed, raw_compartment, raw_code}
use Rattle.def_image.specs.Regions.{Holder, CodeOf, TableOf, GlobalsOf, RegionRow, region_row, shared_regions, sealed_regions, compartment_regions, library_regions, stack_regions, trusted_region, later_regions, regions_of, table_length}
use Rattle.def_image.specs.Laid.{IsRegion}
use Rattle.law_boot.proofs.Regions.{shared_part, sealed_part, own_part, library_part, stack_part, objects, with_own, with_libraries}
use Rattle.def_boot.specs.Held.{IsOf, Spans}

-- ---- each region of a list

abbrev pub All : PartsRow → List RegionRow → Type 0
All p rs = (i : ℕ) (r : RegionRow) → slice_get rs i ≡ Some r → IsOf p r r.holder

all_none : (p : PartsRow) → All p []
all_none p i r is = cc

all_cons : (p : PartsRow) (x : RegionRow) (xs : List RegionRow) → IsOf p x x.holder → All p xs → All p (x ∷ xs)
all_cons p x xs one rest zero r is = let same : x ≡ r = cc in let P : RegionRow → Type 0 = λ z. IsOf p z z.holder in subst P same one
all_cons p x xs one rest (suc i) r is = rest i r is

all_both : (p : PartsRow) (xs ys : List RegionRow) → All p xs → All p ys → All p (xs ++ ys)
all_both p [] ys first second = second
all_both p (x ∷ xs) ys first second = all_cons p x (xs ++ ys) (first 0 x refl) (all_both p xs ys (λ i r is. first (suc i) r is) second)

-- a list is the rest of another, from an index on
abbrev Rest : {A : Type 0} → List A → ℕ → List A → Type 0
Rest {A = A} all n xs = (k : ℕ) (x : A) → slice_get xs k ≡ Some x → slice_get all (n + k) ≡ Some x

rest_next : {A : Type 0} (all : List A) (n : ℕ) (x : A) (xs : List A) → Rest all n (x ∷ xs) → Rest all (n + 1) xs
rest_next all n x xs rest k y is = let same : n + 1 + k ≡ n + suc k = omega arith in ap (λ i. slice_get all i) same ∙ rest (suc k) y is

rest_here : {A : Type 0} (all : List A) (n : ℕ) (x : A) (xs : List A) → Rest all n (x ∷ xs) → slice_get all n ≡ Some x
rest_here all n x xs rest = let same : n ≡ n + 0 = omega arith in ap (λ i. slice_get all i) same ∙ rest 0 x refl

rest_all : {A : Type 0} (all : List A) → Rest all 0 all
rest_all all k x is = let same : 0 + k ≡ k = omega arith in ap (λ i. slice_get all i) same ∙ is

spans : (h : Holder) (place base size : ℕ) → Spans (region_row h place base size) base size
spans h place base size = record { base_is = refl; length_is = refl }

shared_are : (p : PartsRow) (at n : ℕ) (ss : List SharedRow) → Rest p.shared n ss → All p (shared_regions at n ss)
shared_are p at n [] rest = all_none p
shared_are p at n (s ∷ ss) rest = all_cons p _ (shared_regions (at + SHARED) (n + 1) ss) (s, rest_here p.shared n s ss rest, spans _ _ _ _) (shared_are p (at + SHARED) (n + 1) ss (rest_next p.shared n s ss rest))

sealed_are : (p : PartsRow) (at n : ℕ) (ss : List SealedRow) → Rest p.sealed n ss → All p (sealed_regions at n ss)
sealed_are p at n [] rest = all_none p
sealed_are p at n (s ∷ ss) rest =
    all_cons p _ (sealed_regions (at + sealed_size (raw_sealed s)) (n + 1) ss) (s, rest_here p.sealed n s ss rest, spans _ _ _ _) (sealed_are p (at + sealed_size (raw_sealed s)) (n + 1) ss (rest_next p.sealed n s ss rest))

own_are : (p : PartsRow) (at n : ℕ) (cs : List CompartmentRow) → Rest p.compartments n cs → All p (compartment_regions at n cs)
own_are p at n [] rest = all_none p
own_are p at n (c ∷ cs) rest =
    let here = rest_here p.compartments n c cs rest in
    let next = own_are p (at + compartment_size (raw_compartment c)) (n + 1) cs (rest_next p.compartments n c cs rest) in
    let more = compartment_regions (at + compartment_size (raw_compartment c)) (n + 1) cs in
    let code = region_row (CodeOf (Compartment n)) (at + 32) c.code.base c.code.length in
    let table = region_row (TableOf n) (at + 44) c.table (table_length c) in
    let globals = region_row (GlobalsOf n) (at + 48) c.globals c.globals_length in
    all_cons p code (table ∷ globals ∷ more) (c, here, spans _ _ _ _)
    (all_cons p table (globals ∷ more) (c, here, spans _ _ _ _) (all_cons p globals more (c, here, spans _ _ _ _) next))

library_are : (p : PartsRow) (at n : ℕ) (cs : List CodeRow) → Rest p.libraries n cs → All p (library_regions at n cs)
library_are p at n [] rest = all_none p
library_are p at n (c ∷ cs) rest =
    all_cons p _ (library_regions (at + library_size (raw_code c)) (n + 1) cs) (c, rest_here p.libraries n c cs rest, spans _ _ _ _) (library_are p (at + library_size (raw_code c)) (n + 1) cs (rest_next p.libraries n c cs rest))

stack_are : (p : PartsRow) (at n : ℕ) (xs : List ThreadRow) → Rest p.threads n xs → All p (stack_regions at n xs)
stack_are p at n [] rest = all_none p
stack_are p at n (x ∷ xs) rest = all_cons p _ (stack_regions (at + THREAD) (n + 1) xs) (x, rest_here p.threads n x xs rest, spans _ _ _ _) (stack_are p (at + THREAD) (n + 1) xs (rest_next p.threads n x xs rest))

-- ---- of an image

-- each region is of what it names
pub held : (p : PartsRow) (i : ℕ) (r : RegionRow) → IsRegion p i r → IsOf p r r.holder
unfolding regions_of
held p =
    all_cons p (trusted_region p) (later_regions p) (spans _ _ _ _)
    (all_both p (with_libraries p) (stack_part p)
    (all_both p (with_own p) (library_part p)
    (all_both p (objects p) (own_part p)
    (all_both p (shared_part p) (sealed_part p) (shared_are p _ 0 p.shared (rest_all p.shared)) (sealed_are p _ 0 p.sealed (rest_all p.sealed)))
    (own_are p _ 0 p.compartments (rest_all p.compartments)))
    (library_are p _ 0 p.libraries (rest_all p.libraries)))
    (stack_are p _ 0 p.threads (rest_all p.threads)))
