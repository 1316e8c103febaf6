-- Each owner of the parts, by its index, is built of its row and source.
use Rattle.std.proofs.Common.{ℕ, zero, suc, ◌≡◌, ◌+◌, ◌*◌, Bool, true, false, cond, List, [], ◌∷◌, ◌++◌, length, take, drop, Some, None, Option, slice_get, refl, sym, ap, ◌∙◌, subst, arith}
use Rattle.std.specs.Prelude.{Result, Ok, Err, nat_lt}
use Rattle.law_lists.proofs.Places.{still_there}
use Rattle.def_layout.specs.declared.Region.{Region}
use Rattle.def_layout.specs.Placement.{placed, last_end, needed}
use Rattle.def_image.specs.Sizes.{sum_of}
use Rattle.def_image.specs.Parts.{CodeRow as CodePart, CompartmentRow as CompartmentPart, PartsRow}
use Rattle.def_desc.specs.Rows.{DescCompartment, LibraryRow, DescRow}
use Rattle.def_link.specs.declared.LinkFault.{LinkFault}
use Rattle.def_link.specs.declared.LinkFault.TheVariants as fault
use Rattle.def_link.specs.Owners.{Unit as OwnerUnit, Built, compartment_unit, library_unit, numbered, units_of, unit_built, built_before, source_for, rest_of, all_built}
use Rattle.def_link.specs.Slots.{compartment_gate_rows, library_gate_rows}
use Rattle.def_link.specs.Linked.{BuiltCompartment, BuiltLibrary, compartments_with, libraries_with, sizes_of, compartment_slot_count, compartment_part, library_part, compartment_parts, built_compartment_entries, library_parts, built_library_entries, parts_of, linked_with, linked}
use Rattle.def_link.specs.Links.{RowsLinkTo}
use Rattle.law_link.proofs.Indexed.{numbered_length}
use Rattle.def_link.specs.Code.{source_in, CompartmentCode, LibraryCode}

-- ---- lists by index

numbered_at : {A B : Type 0} (f : ℕ → A → B) (n : ℕ) (xs : List A) (i : ℕ) (x : A) → slice_get xs i ≡ Some x → slice_get (numbered f n xs) i ≡ Some (f (n + i) x)
numbered_at f n [] i x is = absurd (let no : None ≡ Some x = is in cc)
numbered_at f n (y ∷ ys) zero x is =
    let same : y ≡ x = cc in
    let none : n ≡ n + 0 = omega arith in
    subst (λ m. Some (f n y) ≡ Some (f m x)) none (ap (λ z. Some (f n z)) same)
numbered_at f n (y ∷ ys) (suc i) x is =
    let on : n + 1 + i ≡ n + suc i = omega arith in
    subst (λ m. slice_get (numbered f (n + 1) ys) i ≡ Some (f m x)) on (numbered_at f (n + 1) ys i x is)

right_at : {A : Type 0} (xs ys : List A) (j k : ℕ) (y : A) → k ≡ length xs + j → slice_get ys j ≡ Some y → slice_get (xs ++ ys) k ≡ Some y
right_at [] ys j k y at is = let same : j ≡ k = omega (arith, at) in subst (λ m. slice_get ys m ≡ Some y) same is
right_at (x ∷ xs) ys j zero y at is = absurd (omega (arith, at))
right_at (x ∷ xs) ys j (suc k) y at is = right_at xs ys j k y (omega (arith, at)) is

drop_at : {A : Type 0} (n : ℕ) (bs : List A) (j k : ℕ) (b : A) → k ≡ n + j → slice_get bs k ≡ Some b → slice_get (drop n bs) j ≡ Some b
drop_at zero bs j k b at is = let same : k ≡ j = omega (arith, at) in subst (λ m. slice_get bs m ≡ Some b) same is
drop_at (suc n) [] j k b at is = absurd (let no : None ≡ Some b = is in cc)
drop_at (suc n) (c ∷ bs) j zero b at is = absurd (omega (arith, at))
drop_at (suc n) (c ∷ bs) j (suc k) b at is = drop_at n bs j k b (omega (arith, at)) is

-- ---- owners

record Owned (u : OwnerUnit) (source : List ℕ) (bs : List Built) (i : ℕ) : Type 0 where
  pub built : Built
  pub at : slice_get bs i ≡ Some built
  pub is : unit_built u source ≡ Ok built

owned : (us : List OwnerUnit) (sources : List (List ℕ)) (bs : List Built) (i : ℕ) (u : OwnerUnit) → all_built us sources ≡ Ok bs → slice_get us i ≡ Some u → Owned u (source_in us sources i) bs i
unfolding all_built
owned [] sources bs i u e at = absurd (let no : None ≡ Some u = at in cc)
owned (v ∷ us) sources bs i u e at = by i (unit_built v (source_for v.code.file sources)) refl (all_built us (rest_of v.code.file sources)) refl e at
    (λ j cs h there. owned us (rest_of v.code.file sources) cs j u h there)
  where
    by : (i : ℕ) (o : Result Built LinkFault) → unit_built v (source_for v.code.file sources) ≡ o
        → (r : Result (List Built) LinkFault) → all_built us (rest_of v.code.file sources) ≡ r → built_before o r ≡ Ok bs → slice_get (v ∷ us) i ≡ Some u
        → ((j : ℕ) (cs : List Built) → all_built us (rest_of v.code.file sources) ≡ Ok cs → slice_get us j ≡ Some u → Owned u (source_in us (rest_of v.code.file sources) j) cs j)
        → Owned u (source_in (v ∷ us) sources i) bs i
    by i (Err f) is r rest h there so = absurd (let no : Err f ≡ Ok bs = h in cc)
    by i (Ok b) is (Err f) rest h there so = absurd (let no : Err f ≡ Ok bs = h in cc)
    by zero (Ok b) is (Ok cs) rest h there so =
        let same : b ∷ cs ≡ bs = cc in
        let unit : v ≡ u = cc in
        record {
          built = b;
          at = ap (λ (l : List Built). slice_get l 0) (sym same);
          is = subst (λ (w : OwnerUnit). unit_built w (source_for v.code.file sources) ≡ Ok b) unit is;
        }
    by (suc j) (Ok b) is (Ok cs) rest h there so =
        let same : b ∷ cs ≡ bs = cc in
        let later = so j cs rest there in
        record { built = later.built; at = ap (λ (l : List Built). slice_get l (suc j)) (sym same) ∙ later.at; is = later.is }

with_at : (cs : List DescCompartment) (bs : List Built) (i : ℕ) (row : DescCompartment) (b : Built) → slice_get cs i ≡ Some row → slice_get bs i ≡ Some b
    → slice_get (compartments_with cs (take (length cs) bs)) i ≡ Some (record { row = row; built = b })
with_at [] bs i row b at there = absurd (let no : None ≡ Some row = at in cc)
with_at (c ∷ cs) [] i row b at there = absurd (let no : None ≡ Some b = there in cc)
with_at (c ∷ cs) (e ∷ es) zero row b at there =
    let one : c ≡ row = cc in
    let two : e ≡ b = cc in
    pair one two
  where
    pair : c ≡ row → e ≡ b → ◌≡◌ {A = Option BuiltCompartment} (Some (record { row = c; built = e })) (Some (record { row = row; built = b }))
    pair x y = rw (x, y) refl
with_at (c ∷ cs) (e ∷ es) (suc i) row b at there = with_at cs es i row b at there

library_with_at : (ls : List LibraryRow) (bs : List Built) (i : ℕ) (row : LibraryRow) (b : Built) → slice_get ls i ≡ Some row → slice_get bs i ≡ Some b
    → slice_get (libraries_with ls bs) i ≡ Some (record { row = row; built = b })
library_with_at [] bs i row b at there = absurd (let no : None ≡ Some row = at in cc)
library_with_at (l ∷ ls) [] i row b at there = absurd (let no : None ≡ Some b = there in cc)
library_with_at (l ∷ ls) (e ∷ es) zero row b at there =
    let one : l ≡ row = cc in
    let two : e ≡ b = cc in
    pair one two
  where
    pair : l ≡ row → e ≡ b → ◌≡◌ {A = Option BuiltLibrary} (Some (record { row = l; built = e })) (Some (record { row = row; built = b }))
    pair x y = rw (x, y) refl
library_with_at (l ∷ ls) (e ∷ es) (suc i) row b at there = library_with_at ls es i row b at there

-- ---- parts

record CompartmentIs (x : BuiltCompartment) (c : CompartmentPart) : Type 0 where
  pub text : c.code.text ≡ x.built.text
  pub initial : c.initial ≡ x.built.initial
  pub entry : ℕ
  pub exports : c.code.exports ≡ compartment_gate_rows x.built entry x.row

compartment_is : (d : DescRow) (entry : ℕ) (regions : List Region) (xs : List BuiltCompartment) (i : ℕ) (x : BuiltCompartment) (c : CompartmentPart)
    → slice_get xs i ≡ Some x → slice_get (compartment_parts d entry regions xs) i ≡ Some c → CompartmentIs x c
unfolding compartment_parts
compartment_is d entry regions [] i x c at there = absurd (let no : None ≡ Some x = at in cc)
compartment_is d entry regions (y ∷ ys) zero x c at there =
    let one : y ≡ x = cc in
    let part = compartment_part d entry regions y in
    let two : part ≡ c = cc in
    subst (λ (z : BuiltCompartment). CompartmentIs z c) one (subst (CompartmentIs y) two (record { text = refl; initial = refl; entry = entry + 2 + compartment_slot_count y.row; exports = refl }))
compartment_is d entry regions (y ∷ ys) (suc i) x c at there = compartment_is d (entry + built_compartment_entries y) (drop 3 regions) ys i x c at there

record LibraryIs (x : BuiltLibrary) (c : CodePart) : Type 0 where
  pub text : c.text ≡ x.built.text
  pub entry : ℕ
  pub exports : c.exports ≡ library_gate_rows x.built entry x.row

library_is : (d : DescRow) (entry : ℕ) (regions : List Region) (xs : List BuiltLibrary) (i : ℕ) (x : BuiltLibrary) (c : CodePart)
    → slice_get xs i ≡ Some x → slice_get (library_parts d entry regions xs) i ≡ Some c → LibraryIs x c
unfolding library_parts
library_is d entry regions [] i x c at there = absurd (let no : None ≡ Some x = at in cc)
library_is d entry regions (y ∷ ys) zero x c at there =
    let one : y ≡ x = cc in
    let part = library_part d entry regions y in
    let two : part ≡ c = cc in
    subst (λ (z : BuiltLibrary). LibraryIs z c) one (subst (LibraryIs y) two (record { text = refl; entry = entry + 1 + length y.row.imports; exports = refl }))
library_is d entry regions (y ∷ ys) (suc i) x c at there = library_is d (entry + built_library_entries y) (drop 1 regions) ys i x c at there

-- ---- what was linked

record Whole (d : DescRow) (sources : List (List ℕ)) (p : PartsRow) : Type 0 where
  pub bs : List Built
  pub built : all_built (units_of d) sources ≡ Ok bs
  pub entry : ℕ
  pub regions : List Region
  pub later : List Region
  pub compartments : p.compartments ≡ compartment_parts d 1 regions (compartments_with d.compartments (take (length d.compartments) bs))
  pub libraries : p.libraries ≡ library_parts d entry later (libraries_with d.libraries (drop (length d.compartments) bs))

chosen : (t : Bool) (f : LinkFault) (q p : PartsRow) → cond {A = Result PartsRow LinkFault} t (Err f) (Ok q) ≡ Ok p → q ≡ p
chosen true f q p e = absurd (let no : Err f ≡ Ok p = e in cc)
chosen false f q p e = let same : q ≡ p = cc in same

whole : (d : DescRow) (sources : List (List ℕ)) (p : PartsRow) → linked d sources ≡ Ok p → Whole d sources p
unfolding linked parts_of
whole d sources p e = by (all_built (units_of d) sources) refl e
  where
    by : (r : Result (List Built) LinkFault) → all_built (units_of d) sources ≡ r → linked_with d r ≡ Ok p → Whole d sources p
    by (Err f) is h = absurd (let no : Err f ≡ Ok p = h in cc)
    by (Ok bs) is h =
        let cs = compartments_with d.compartments (take (length d.compartments) bs) in
        let ls = libraries_with d.libraries (drop (length d.compartments) bs) in
        let sizes = sizes_of d cs ls in
        let all = placed d.ram.base sizes in
        let same = chosen (nat_lt d.ram.size (needed d.ram.base sizes)) (fault.NoRoom (needed d.ram.base sizes) d.ram.size) (parts_of d cs ls all (last_end d.ram.base sizes)) p h in
        record {
          bs = bs;
          built = is;
          entry = 1 + sum_of built_compartment_entries cs;
          regions = all;
          later = drop (3 * length cs) all;
          compartments = ap (λ (q : PartsRow). q.compartments) (sym same);
          libraries = ap (λ (q : PartsRow). q.libraries) (sym same);
        }

pub compartment_built : (d : DescRow) (sources : List (List ℕ)) (p : PartsRow) (i : ℕ) (row : DescCompartment) (c : CompartmentPart)
    → RowsLinkTo d sources p → slice_get d.compartments i ≡ Some row → slice_get p.compartments i ≡ Some c → CompartmentCode d sources i row c
compartment_built d sources p i row c h at there =
    let w = whole d sources p h.linked in
    let none : 0 + i ≡ i = omega arith in
    let here : slice_get (units_of d) i ≡ Some (compartment_unit i row) =
    still_there (numbered compartment_unit 0 d.compartments) (numbered library_unit 0 d.libraries) i (compartment_unit i row)
    (subst (λ m. slice_get (numbered compartment_unit 0 d.compartments) i ≡ Some (compartment_unit m row)) none (numbered_at compartment_unit 0 d.compartments i row at)) in
    let o = owned (units_of d) sources w.bs i (compartment_unit i row) w.built here in
    let x : BuiltCompartment = record { row = row; built = o.built } in
    let k = compartment_is d 1 w.regions (compartments_with d.compartments (take (length d.compartments) w.bs)) i x c (with_at d.compartments w.bs i row o.built at o.at)
    (subst (λ (l : List CompartmentPart). slice_get l i ≡ Some c) w.compartments there) in
    record { built = o.built; is = o.is; text = k.text; initial = k.initial; entry = k.entry; exports = k.exports }

pub library_built : (d : DescRow) (sources : List (List ℕ)) (p : PartsRow) (i : ℕ) (row : LibraryRow) (c : CodePart)
    → RowsLinkTo d sources p → slice_get d.libraries i ≡ Some row → slice_get p.libraries i ≡ Some c → LibraryCode d sources i row c
library_built d sources p i row c h at there =
    let w = whole d sources p h.linked in
    let n = length d.compartments in
    let none : 0 + i ≡ i = omega arith in
    let count : length (numbered compartment_unit 0 d.compartments) ≡ n = numbered_length compartment_unit 0 d.compartments in
    let here : slice_get (units_of d) (n + i) ≡ Some (library_unit i row) =
    right_at (numbered compartment_unit 0 d.compartments) (numbered library_unit 0 d.libraries) i (n + i) (library_unit i row) (omega (arith, count))
    (subst (λ m. slice_get (numbered library_unit 0 d.libraries) i ≡ Some (library_unit m row)) none (numbered_at library_unit 0 d.libraries i row at)) in
    let o = owned (units_of d) sources w.bs (n + i) (library_unit i row) w.built here in
    let x : BuiltLibrary = record { row = row; built = o.built } in
    let k = library_is d w.entry w.later (libraries_with d.libraries (drop n w.bs)) i x c (library_with_at d.libraries (drop n w.bs) i row o.built at (drop_at n w.bs i (n + i) o.built refl o.at))
    (subst (λ (l : List CodePart). slice_get l i ≡ Some c) w.libraries there) in
    record { built = o.built; is = o.is; text = k.text; entry = k.entry; exports = k.exports }
