-- The objects of a description's code are what was built, and each is within its limits.
use Rattle.std.proofs.Common.{ℕ, zero, suc, ◌≡◌, ◌+◌, ◌≤◌, List, [], ◌∷◌, length, map, take, drop, refl, sym, ap, ap₂, ◌∙◌, subst, arith}
use Rattle.std.specs.Prelude.{Result, Ok, Err}
use Rattle.std.specs.List.{AllByRecursion}
use Rattle.std.proofs.Math.Path.{fun_ext}
use Rattle.law_lists.proofs.Alls.{all_joined}
use Rattle.def_profile.specs.declared.limits.TheConstants.{MOST_BYTES}
use Rattle.def_desc.specs.Lawful.{IsLawfulCode, IsLawfulCompartment, IsLawfulLibrary}
use Rattle.def_desc.specs.Rows.{DescCompartment, LibraryRow, DescRow}
use Rattle.def_link.specs.declared.LinkFault.{LinkFault}
use Rattle.def_link.specs.Owners.{Unit as OwnerUnit, Built, units_of, compartment_unit, library_unit, numbered, unit_built, built_before, source_for, rest_of, all_built}
use Rattle.law_link.proofs.Texts.{IsText}
use Rattle.law_link.proofs.Builts.{unit_sound}
use Rattle.ct_asm.specs.Labels.{Assembled, label_named}
use Rattle.ct_link_objects.specs.Objects.{built_of, HoldsBuilt, AllHold}
use Rattle.ct_link.specs.Rows.{IsSized}

-- what an object holds is what was built
same_built : (b : Built) (o : Assembled) → HoldsBuilt b o → built_of o ≡ b
same_built b o h =
    let labels : (λ (name : List ℕ). label_named name o.labels) ≡ b.labels = fun_ext (λ name. h.labels name) in
    λ i. record { text = h.text i; initial = h.initial i; labels = labels i }

pub same_builts : (bs : List Built) (os : List Assembled) → AllHold bs os → map built_of os ≡ bs
same_builts [] [] h = refl
same_builts [] (o ∷ os) h = absurd h
same_builts (b ∷ bs) [] h = absurd h
same_builts (b ∷ bs) (o ∷ os) h = ap₂ (λ x xs. x ∷ xs) (same_built b o h.0) (same_builts bs os h.1)

-- ---- one for each owner

pub built_each : (us : List OwnerUnit) (sources : List (List ℕ)) (bs : List Built) → all_built us sources ≡ Ok bs → length bs ≡ length us
unfolding all_built
built_each [] sources bs e = let same : [] ≡ bs = cc in ap length (sym same)
built_each (u ∷ us) sources bs e = by (unit_built u (source_for u.code.file sources)) (all_built us (rest_of u.code.file sources)) refl e
    (λ cs k. built_each us (rest_of u.code.file sources) cs k)
  where
    by : (o : Result Built LinkFault) (r : Result (List Built) LinkFault) → all_built us (rest_of u.code.file sources) ≡ r → built_before o r ≡ Ok bs
        → ((cs : List Built) → all_built us (rest_of u.code.file sources) ≡ Ok cs → length cs ≡ length us) → length bs ≡ length (u ∷ us)
    by (Err f) r rest h so = absurd (let no : Err f ≡ Ok bs = h in cc)
    by (Ok b) (Err f) rest h so = absurd (let no : Err f ≡ Ok bs = h in cc)
    by (Ok b) (Ok cs) rest h so =
        let same : b ∷ cs ≡ bs = cc in
        let count = so cs rest in
        ap length (sym same) ∙ (let e : length (b ∷ cs) ≡ length (u ∷ us) = omega (arith, count) in e)

-- ---- within their limits

AreTexts : List Built → Type 0
AreTexts bs = AllByRecursion (λ (b : Built). IsText b.text b.initial) bs

built_texts : (us : List OwnerUnit) (sources : List (List ℕ)) (bs : List Built) → AllByRecursion (λ (u : OwnerUnit). IsLawfulCode u.code) us → all_built us sources ≡ Ok bs → AreTexts bs
unfolding all_built AreTexts
built_texts [] sources bs h e = let same : [] ≡ bs = cc in subst AreTexts same tt
built_texts (u ∷ us) sources bs h e = by (unit_built u (source_for u.code.file sources)) refl (all_built us (rest_of u.code.file sources)) refl e
    (λ cs k. built_texts us (rest_of u.code.file sources) cs h.1 k)
  where
    by : (o : Result Built LinkFault) → unit_built u (source_for u.code.file sources) ≡ o
        → (r : Result (List Built) LinkFault) → all_built us (rest_of u.code.file sources) ≡ r → built_before o r ≡ Ok bs
        → ((cs : List Built) → all_built us (rest_of u.code.file sources) ≡ Ok cs → AreTexts cs) → AreTexts bs
    by (Err f) is r rest k so = absurd (let no : Err f ≡ Ok bs = k in cc)
    by (Ok b) is (Err f) rest k so = absurd (let no : Err f ≡ Ok bs = k in cc)
    by (Ok b) is (Ok cs) rest k so =
        let same : b ∷ cs ≡ bs = cc in
        subst AreTexts same ((unit_sound u (source_for u.code.file sources) b h.0 is).text, so cs rest)

compartment_codes : (d : DescRow) (n : ℕ) (cs : List DescCompartment) → AllByRecursion (IsLawfulCompartment d) cs → AllByRecursion (λ (u : OwnerUnit). IsLawfulCode u.code) (numbered compartment_unit n cs)
compartment_codes d n [] h = tt
compartment_codes d n (c ∷ cs) h = (h.0.code, compartment_codes d (n + 1) cs h.1)

library_codes : (d : DescRow) (n : ℕ) (ls : List LibraryRow) → AllByRecursion (IsLawfulLibrary d) ls → AllByRecursion (λ (u : OwnerUnit). IsLawfulCode u.code) (numbered library_unit n ls)
library_codes d n [] h = tt
library_codes d n (l ∷ ls) h = (h.0.code, library_codes d (n + 1) ls h.1)

sized : (bs : List Built) (os : List Assembled) → AllHold bs os → AreTexts bs → AllByRecursion IsSized os
unfolding AreTexts
sized [] [] h t = tt
sized [] (o ∷ os) h t = absurd h
sized (b ∷ bs) [] h t = absurd h
sized (b ∷ bs) (o ∷ os) h t = (
  record {
    text = subst (λ (l : List ℕ). length l ≤ MOST_BYTES) (sym h.0.text) t.0.few;
    initial = subst (λ (l : List ℕ). length l ≤ MOST_BYTES) (sym h.0.initial) t.0.initial_few;
  },
  sized bs os h.1 t.1,
)

pub objects_sized : (d : DescRow) (sources : List (List ℕ)) (bs : List Built) (os : List Assembled) → AllByRecursion (IsLawfulCompartment d) d.compartments → AllByRecursion (IsLawfulLibrary d) d.libraries
    → all_built (units_of d) sources ≡ Ok bs → AllHold bs os → AllByRecursion IsSized os
objects_sized d sources bs os own lent is held =
    sized bs os held
    (built_texts (units_of d) sources bs
    (all_joined (λ (u : OwnerUnit). IsLawfulCode u.code) (numbered compartment_unit 0 d.compartments) (numbered library_unit 0 d.libraries) (compartment_codes d 0 d.compartments own) (library_codes d 0 d.libraries lent)) is)

pub all_taken : {A : Type 0} (P : A → Type 0) (n : ℕ) (xs : List A) → AllByRecursion P xs → AllByRecursion P (take n xs)
all_taken P zero xs h = tt
all_taken P (suc n) [] h = tt
all_taken P (suc n) (x ∷ xs) h = (h.0, all_taken P n xs h.1)

pub all_dropped : {A : Type 0} (P : A → Type 0) (n : ℕ) (xs : List A) → AllByRecursion P xs → AllByRecursion P (drop n xs)
all_dropped P zero xs h = h
all_dropped P (suc n) [] h = tt
all_dropped P (suc n) (x ∷ xs) h = all_dropped P n xs h.1
