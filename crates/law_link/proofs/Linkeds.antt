-- What was linked: the built owners of the description, and the parts over their regions.
use Rattle.std.proofs.Common.{ℕ, ◌≡◌, ◌+◌, ◌≤◌, true, false, cond, nat_lt, List, [], ◌∷◌, ◌++◌, length, map, take, drop, refl, sym, ap, ◌∙◌, subst, inl, inr}
use Rattle.std.specs.Prelude.{⊤, Result, Ok, Err}
use Rattle.std.specs.List.{AllByRecursion}
use Rattle.law_lists.proofs.Alls.{all_unmapped}
use Rattle.law_lists.proofs.Tests.{lt_tells}
use Rattle.def_layout.specs.declared.Region.{Region}
use Rattle.def_layout.specs.Placement.{placed, last_end, needed}
use Rattle.def_image.specs.Parts.{CompartmentRow as CompartmentPart, CodeRow as CodePart, PartsRow}
use Rattle.def_desc.specs.Rows.{DescCompartment, LibraryRow, DescRow}
use Rattle.def_desc.specs.Lawful.{IsLawfulCompartment, IsLawfulLibrary}
use Rattle.def_link.specs.declared.LinkFault.{LinkFault}
use Rattle.def_link.specs.declared.LinkFault.TheVariants as fault
use Rattle.def_link.specs.Owners.{Unit as OwnerUnit, Built, compartment_unit, library_unit, numbered, units_of, unit_built, built_before, source_for, rest_of, all_built}
use Rattle.def_link.specs.Linked.{BuiltCompartment, BuiltLibrary, compartments_with, libraries_with, sizes_of, compartment_part, compartment_parts, built_compartment_entries, library_part, library_parts, built_library_entries, parts_of, built_parts, linked_with, linked}

-- ---- owners one after another

-- a unit was built from some source
pub record IsBuilt (u : OwnerUnit) (b : Built) : Type 0 where
  pub source : List ℕ
  pub built : unit_built u source ≡ Ok b

pub AreBuilt : List OwnerUnit → List Built → Type 0
AreBuilt [] [] = ⊤
AreBuilt (u ∷ us) (b ∷ bs) = IsBuilt u b × AreBuilt us bs
AreBuilt _ _ = ⊥

are_built : (us : List OwnerUnit) (sources : List (List ℕ)) (bs : List Built) → all_built us sources ≡ Ok bs → AreBuilt us bs
unfolding all_built AreBuilt
are_built [] sources bs e = let same : [] ≡ bs = cc in subst (AreBuilt []) same tt
are_built (u ∷ us) sources bs e = by (unit_built u (source_for u.code.file sources)) refl (all_built us (rest_of u.code.file sources)) refl e (λ cs h. are_built us (rest_of u.code.file sources) cs h)
  where
    by : (o : Result Built LinkFault) → unit_built u (source_for u.code.file sources) ≡ o
        → (r : Result (List Built) LinkFault) → all_built us (rest_of u.code.file sources) ≡ r → built_before o r ≡ Ok bs
        → ((cs : List Built) → all_built us (rest_of u.code.file sources) ≡ Ok cs → AreBuilt us cs) → AreBuilt (u ∷ us) bs
    by (Err f) is r rest h so = absurd (let no : Err f ≡ Ok bs = h in cc)
    by (Ok b) is (Err f) rest h so = absurd (let no : Err f ≡ Ok bs = h in cc)
    by (Ok b) is (Ok cs) rest h so = let same : b ∷ cs ≡ bs = cc in subst (AreBuilt (u ∷ us)) same (record { source = source_for u.code.file sources; built = is }, so cs rest)

-- ---- each row with what was built of it

pub record CompartmentBuilt (x : BuiltCompartment) : Type 0 where
  pub index : ℕ
  pub built : IsBuilt (compartment_unit index x.row) x.built

pub record LibraryBuilt (x : BuiltLibrary) : Type 0 where
  pub index : ℕ
  pub built : IsBuilt (library_unit index x.row) x.built

record CompartmentsWith (cs : List DescCompartment) (rest : List OwnerUnit) (bs : List Built) : Type 0 where
  pub rows : map (λ (x : BuiltCompartment). x.row) (compartments_with cs (take (length cs) bs)) ≡ cs
  pub built : AllByRecursion CompartmentBuilt (compartments_with cs (take (length cs) bs))
  pub after : AreBuilt rest (drop (length cs) bs)

compartments_are : (i : ℕ) (cs : List DescCompartment) (rest : List OwnerUnit) (bs : List Built) → AreBuilt (numbered compartment_unit i cs ++ rest) bs → CompartmentsWith cs rest bs
unfolding AreBuilt
compartments_are i [] rest bs h = record { rows = refl; built = tt; after = h }
compartments_are i (c ∷ cs) rest [] h = absurd h
compartments_are i (c ∷ cs) rest (b ∷ bs) h =
    let later = compartments_are (i + 1) cs rest bs h.1 in
    record { rows = ap (λ l. c ∷ l) later.rows; built = (record { index = i; built = h.0 }, later.built); after = later.after }

record LibrariesWith (ls : List LibraryRow) (bs : List Built) : Type 0 where
  pub rows : map (λ (x : BuiltLibrary). x.row) (libraries_with ls bs) ≡ ls
  pub built : AllByRecursion LibraryBuilt (libraries_with ls bs)

libraries_are : (i : ℕ) (ls : List LibraryRow) (bs : List Built) → AreBuilt (numbered library_unit i ls) bs → LibrariesWith ls bs
unfolding AreBuilt
libraries_are i [] bs h = record { rows = refl; built = tt }
libraries_are i (l ∷ ls) [] h = absurd h
libraries_are i (l ∷ ls) (b ∷ bs) h =
    let later = libraries_are (i + 1) ls bs h.1 in
    record { rows = ap (λ z. l ∷ z) later.rows; built = (record { index = i; built = h.0 }, later.built) }

-- ---- the parts

pub record Parts (d : DescRow) (p : PartsRow) : Type 0 where
  pub cs : List BuiltCompartment
  pub ls : List BuiltLibrary
  pub rows : map (λ (x : BuiltCompartment). x.row) cs ≡ d.compartments
  pub library_rows : map (λ (x : BuiltLibrary). x.row) ls ≡ d.libraries
  pub built : AllByRecursion CompartmentBuilt cs
  pub library_built : AllByRecursion LibraryBuilt ls
  pub room : needed d.ram.base (sizes_of d cs ls) ≤ d.ram.size
  pub parts : p ≡ parts_of d cs ls (placed d.ram.base (sizes_of d cs ls)) (last_end d.ram.base (sizes_of d cs ls))

parts_laid : (d : DescRow) (p : PartsRow) (cs : List BuiltCompartment) (ls : List BuiltLibrary)
    → map (λ (x : BuiltCompartment). x.row) cs ≡ d.compartments → map (λ (x : BuiltLibrary). x.row) ls ≡ d.libraries
    → AllByRecursion CompartmentBuilt cs → AllByRecursion LibraryBuilt ls → built_parts d cs ls ≡ Ok p → Parts d p
parts_laid d p cs ls rows library_rows built library_built e = elim (lt_tells d.ram.size (needed d.ram.base (sizes_of d cs ls))) [
  | inl h ↦ absurd (let none : built_parts d cs ls ≡ Err (fault.NoRoom (needed d.ram.base (sizes_of d cs ls)) d.ram.size) = by_case h.0 in let no : Err (fault.NoRoom (needed d.ram.base (sizes_of d cs ls)) d.ram.size) ≡ Ok p = sym none ∙ e in cc)
  | inr h ↦ (
      let all = parts_of d cs ls (placed d.ram.base (sizes_of d cs ls)) (last_end d.ram.base (sizes_of d cs ls)) in
      let some : built_parts d cs ls ≡ Ok all = by_case' h.0 in
      let both : Ok all ≡ Ok p = sym some ∙ e in
      let same : all ≡ p = cc in
      record { cs = cs; ls = ls; rows = rows; library_rows = library_rows; built = built; library_built = library_built; room = h.1; parts = sym same }
      )
]
  where
    by_case : nat_lt d.ram.size (needed d.ram.base (sizes_of d cs ls)) ≡ true → built_parts d cs ls ≡ Err (fault.NoRoom (needed d.ram.base (sizes_of d cs ls)) d.ram.size)
    by_case t = ap (λ b. cond b (Err (fault.NoRoom (needed d.ram.base (sizes_of d cs ls)) d.ram.size)) (Ok (parts_of d cs ls (placed d.ram.base (sizes_of d cs ls)) (last_end d.ram.base (sizes_of d cs ls))))) t

    by_case' : nat_lt d.ram.size (needed d.ram.base (sizes_of d cs ls)) ≡ false → built_parts d cs ls ≡ Ok (parts_of d cs ls (placed d.ram.base (sizes_of d cs ls)) (last_end d.ram.base (sizes_of d cs ls)))
    by_case' t = ap (λ b. cond b (Err (fault.NoRoom (needed d.ram.base (sizes_of d cs ls)) d.ram.size)) (Ok (parts_of d cs ls (placed d.ram.base (sizes_of d cs ls)) (last_end d.ram.base (sizes_of d cs ls))))) t

pub parts : (d : DescRow) (sources : List (List ℕ)) (p : PartsRow) → linked d sources ≡ Ok p → Parts d p
unfolding linked
parts d sources p e = by (all_built (units_of d) sources) refl e
  where
    by : (r : Result (List Built) LinkFault) → all_built (units_of d) sources ≡ r → linked_with d r ≡ Ok p → Parts d p
    by (Err f) is h = absurd (let no : Err f ≡ Ok p = h in cc)
    by (Ok bs) is h =
        let each = are_built (units_of d) sources bs is in
        let c = compartments_are 0 d.compartments (numbered library_unit 0 d.libraries) bs each in
        let l = libraries_are 0 d.libraries (drop (length d.compartments) bs) c.after in
        parts_laid d p (compartments_with d.compartments (take (length d.compartments) bs)) (libraries_with d.libraries (drop (length d.compartments) bs))
        c.rows l.rows c.built l.built h

-- ---- compartments and libraries of the parts

-- a compartment of lawful rows, with what was built of it
pub record GoodCompartment (d : DescRow) (x : BuiltCompartment) : Type 0 where
  pub row : IsLawfulCompartment d x.row
  pub built : CompartmentBuilt x

pub record GoodLibrary (d : DescRow) (x : BuiltLibrary) : Type 0 where
  pub row : IsLawfulLibrary d x.row
  pub built : LibraryBuilt x

good_compartments : (d : DescRow) (cs : List BuiltCompartment) → AllByRecursion (λ (x : BuiltCompartment). IsLawfulCompartment d x.row) cs → AllByRecursion CompartmentBuilt cs → AllByRecursion (GoodCompartment d) cs
good_compartments d [] h k = tt
good_compartments d (x ∷ xs) h k = (record { row = h.0; built = k.0 }, good_compartments d xs h.1 k.1)

good_libraries : (d : DescRow) (ls : List BuiltLibrary) → AllByRecursion (λ (x : BuiltLibrary). IsLawfulLibrary d x.row) ls → AllByRecursion LibraryBuilt ls → AllByRecursion (GoodLibrary d) ls
good_libraries d [] h k = tt
good_libraries d (x ∷ xs) h k = (record { row = h.0; built = k.0 }, good_libraries d xs h.1 k.1)

pub compartments_good : (d : DescRow) (p : PartsRow) → AllByRecursion (IsLawfulCompartment d) d.compartments → (s : Parts d p) → AllByRecursion (GoodCompartment d) s.cs
compartments_good d p h s = good_compartments d s.cs (all_unmapped (IsLawfulCompartment d) (λ (x : BuiltCompartment). x.row) s.cs (subst (AllByRecursion (IsLawfulCompartment d)) (sym s.rows) h)) s.built

pub libraries_good : (d : DescRow) (p : PartsRow) → AllByRecursion (IsLawfulLibrary d) d.libraries → (s : Parts d p) → AllByRecursion (GoodLibrary d) s.ls
libraries_good d p h s = good_libraries d s.ls (all_unmapped (IsLawfulLibrary d) (λ (x : BuiltLibrary). x.row) s.ls (subst (AllByRecursion (IsLawfulLibrary d)) (sym s.library_rows) h)) s.library_built

-- what holds of each part that is made of such a one
pub compartments_all : (d : DescRow) (Q : BuiltCompartment → Type 0) (P : CompartmentPart → Type 0) (entry : ℕ) (regions : List Region) (cs : List BuiltCompartment)
    → ((entry : ℕ) (regions : List Region) (x : BuiltCompartment) → Q x → P (compartment_part d entry regions x)) → AllByRecursion Q cs
    → AllByRecursion P (compartment_parts d entry regions cs)
unfolding compartment_parts
compartments_all d Q P entry regions [] so h = tt
compartments_all d Q P entry regions (x ∷ xs) so h = (so entry regions x h.0, compartments_all d Q P (entry + built_compartment_entries x) (drop 3 regions) xs so h.1)

pub libraries_all : (d : DescRow) (Q : BuiltLibrary → Type 0) (P : CodePart → Type 0) (entry : ℕ) (regions : List Region) (ls : List BuiltLibrary)
    → ((entry : ℕ) (regions : List Region) (x : BuiltLibrary) → Q x → P (library_part d entry regions x)) → AllByRecursion Q ls
    → AllByRecursion P (library_parts d entry regions ls)
unfolding library_parts
libraries_all d Q P entry regions [] so h = tt
libraries_all d Q P entry regions (x ∷ xs) so h = (so entry regions x h.0, libraries_all d Q P (entry + built_library_entries x) (drop 1 regions) xs so h.1)
