-- Compartments and libraries, made part by part, each good under its own numbers of entries.
use Rattle.std.proofs.Common.{ℕ, ◌≡◌, ◌+◌, ◌*◌, ◌^◌, ◌<◌, ◌≤◌, max, true, List, [], ◌∷◌, ◌++◌, length, map, drop, refl, subst, arith}
use Rattle.std.specs.Prelude.{codes}
use Rattle.std.specs.List.{AllByRecursion}
use Rattle.std.proofs.lemmas.List.{length-map}
use Rattle.def_profile.specs.declared.limits.TheConstants.{MOST_COMPARTMENT_ENTRIES, MOST_LIBRARY_ENTRIES}
use Rattle.def_layout.specs.declared.Region.{Region}
use Rattle.def_layout.specs.Placement.{region_length, region_base, placed, last_end}
use Rattle.def_texts.specs.Names.{is_name}
use Rattle.def_image.specs.Raw.{RawCode, RawCompartment}
use Rattle.def_image.specs.Parts.{SlotRow, GateRow, CodeRow as CodePart, CompartmentRow as CompartmentPart}
use Rattle.def_image.specs.Spelling.{raw_slot, raw_gate, raw_code, raw_compartment}
use Rattle.def_image.specs.Sizes.{sum_of}
use Rattle.def_image.specs.Limits as lim
use Rattle.def_image.specs.Limits.{compartment_bounds, library_bounds}
use Rattle.def_desc.specs.Rows.{DescRow}
use Rattle.def_desc.specs.Lawful.{IsLawful}
use Rattle.def_link.specs.Owners.{compartment_unit, library_unit}
use Rattle.def_link.specs.Slots.{slot, switch_row, import_slot, quota_slot, key_slot, compartment_slots, library_slots, export_gate, lexport_gate, compartment_gate_rows, library_gate_rows}
use Rattle.def_link.specs.Linked.{BuiltCompartment, BuiltLibrary, compartment_slot_count, compartment_code_size, library_code_size, compartment_sizes, compartment_part, compartment_parts, built_compartment_entries, library_part, library_parts, built_library_entries}
use Rattle.law_link.proofs.Linkeds.{GoodCompartment, GoodLibrary}
use Rattle.law_link.proofs.Indexed.{numbered_length}
use Rattle.law_link.proofs.Texts.{IsText}
use Rattle.law_link.proofs.Builts.{UnitSound, unit_sound}
use Rattle.law_link.proofs.Lengths.{unit_fits, bytes_kept}
use Rattle.law_link.proofs.Along.{Along}
use Rattle.law_link.proofs.Slots.{own_slots, library_slots_good, slot_count, library_slot_count}
use Rattle.law_link.proofs.Gates.{Gates, compartment_gates_good, library_gates_good}
use Rattle.law_link.proofs.Owners.{CodeGood, CompartmentGood, LibraryGood}
use Rattle.law_layout.proofs.Placing.{size_fits}

sum_end : {A : Type 0} (f : A → ℕ) (xs : List A) (y : A) → sum_of f (xs ++ y ∷ []) ≡ sum_of f xs + f y
sum_end f [] y = omega arith
sum_end f (x ∷ xs) y = let rest = sum_end f xs y in omega (arith, rest)

-- slots and exports are as many as their fields
fields_count : (slots : List SlotRow) (gates : List GateRow) → length (map raw_slot slots) + length (map raw_gate gates) ≡ length slots + length gates
fields_count slots gates = let a = length-map slots raw_slot in let b = length-map gates raw_gate in omega (arith, a, b)

-- code of an assembled text
code_good : (c : CodePart) (initial : List ℕ) → is_name c.name ≡ true → IsText c.text initial → 8 * length c.slots + length c.text ≤ c.length → length c.exports ≤ 64 → CodeGood c
code_good c initial name text fits few = record { named = name; fits = fits; few = text.few; words = text.words; bytes = text.bytes; exports = few }

-- ---- compartments

compartment_built : (d : DescRow) (x : BuiltCompartment) → (g : GoodCompartment d x) → UnitSound (compartment_unit g.built.index x.row) x.built
compartment_built d x g = unit_sound (compartment_unit g.built.index x.row) g.built.built.source x.built g.row.code g.built.built.built

-- of a compartment with the regions of its three sizes first
compartment_good : (d : DescRow) (entry end : ℕ) (rest : List ℕ) (x : BuiltCompartment) → is_name x.row.name ≡ true → IsLawful d → GoodCompartment d x → entry + 300 < 2 ^ 32
    → CompartmentGood entry (compartment_part d entry (placed end (compartment_code_size x ∷ (16 + 16 * length x.row.exports) ∷ max x.row.globals (length x.built.initial) ∷ rest)) x)
unfolding placed
compartment_good d entry end rest x name law g small =
    let row = g.row in
    let b = compartment_built d x g in
    let text = b.text in
    let count = slot_count d x.row in
    let i = row.imports in
    let q = row.quotas in
    let k = row.keys in
    let e = row.exports in
    let globals = row.globals in
    let initial = text.initial_few in
    let gates = numbered_length (export_gate x.built) (entry + 2 + compartment_slot_count x.row) x.row.exports in
    let code_fits = size_fits (compartment_code_size x) in
    let n = max x.row.globals (length x.built.initial) in
    let fits = size_fits n in
    let regions = placed end (compartment_code_size x ∷ (16 + 16 * length x.row.exports) ∷ n ∷ rest) in
    let first = entry + 2 + compartment_slot_count x.row in
    let same : first ≡ entry + 2 + length (compartment_slots d x.row) = omega (arith, count) in
    record {
      code = code_good (compartment_part d entry regions x).code x.built.initial name text (omega (arith, code_fits, count)) (omega (arith, e, gates));
      globals = (unit_fits n, bytes_kept n (omega (arith, globals, initial)));
      initial_few = initial;
      initial_bytes = text.initial_bytes;
      initial = omega (arith, fits);
      head = slot (codes "switch") switch_row;
      others = map (import_slot d) x.row.imports ++ map quota_slot x.row.quotas ++ map key_slot x.row.keys;
      slots = refl;
      slots_few = omega (arith, count, i, q, k);
      own = own_slots d law x.row row;
      gates = subst (λ m. Gates compartment_bounds (length x.built.text) m (compartment_gate_rows x.built first x.row)) same
          (compartment_gates_good x.built first x.row text.few (omega (arith, i, q, k, e, small)) b.begins row.export row.gates);
    }

raw_count : (d : DescRow) (entry : ℕ) (regions : List Region) (x : BuiltCompartment) → lim.raw_compartment_entries (raw_compartment (compartment_part d entry regions x)) ≡ built_compartment_entries x
raw_count d entry regions x =
    let first = entry + 2 + compartment_slot_count x.row in
    let fields = fields_count (compartment_slots d x.row) (compartment_gate_rows x.built first x.row) in
    let slots = slot_count d x.row in
    let gates = numbered_length (export_gate x.built) first x.row.exports in
    omega (arith, fields, slots, gates)

entries_few : (d : DescRow) (x : BuiltCompartment) → GoodCompartment d x → built_compartment_entries x ≤ MOST_COMPARTMENT_ENTRIES
entries_few d x g =
    let row = g.row in
    let i = row.imports in
    let q = row.quotas in
    let k = row.keys in
    let e = row.exports in
    omega (arith, i, q, k, e)

-- each part is good under the number of its first entry
unfoldable pub Numbered : List RawCompartment → CompartmentPart → Type 0
Numbered before c = CompartmentGood (1 + sum_of lim.raw_compartment_entries before) c

pub compartments_along : (d : DescRow) → IsLawful d → (entry end : ℕ) (rest : List ℕ) (earlier : List RawCompartment) (cs : List BuiltCompartment)
    → entry ≡ 1 + sum_of lim.raw_compartment_entries earlier → entry + MOST_COMPARTMENT_ENTRIES * length cs ≤ 100000
    → AllByRecursion (GoodCompartment d) cs → AllByRecursion (λ (x : BuiltCompartment). is_name x.row.name ≡ true) cs
    → Along raw_compartment Numbered earlier (compartment_parts d entry (placed end (compartment_sizes cs ++ rest)) cs)
unfolding compartment_parts Along Numbered placed last_end
compartments_along d law entry end rest earlier [] is small good names = tt
compartments_along d law entry end rest earlier (x ∷ xs) is small good names =
    let part = compartment_part d entry (placed end (compartment_sizes (x ∷ xs) ++ rest)) x in
    let few = entries_few d x good.0 in
    let count = raw_count d entry (placed end (compartment_sizes (x ∷ xs) ++ rest)) x in
    let sum = sum_end lim.raw_compartment_entries earlier (raw_compartment part) in (
      subst (λ n. CompartmentGood n part) is (compartment_good d entry end (compartment_sizes xs ++ rest) x names.0 law good.0 (omega (arith, small))),
      compartments_along d law (entry + built_compartment_entries x) (last_end end (compartment_sizes (x ∷ []))) rest (earlier ++ raw_compartment part ∷ []) xs (omega (arith, is, count, sum)) (omega (arith, small, few)) good.1 names.1,
    )

-- ---- libraries

library_built : (d : DescRow) (x : BuiltLibrary) → (g : GoodLibrary d x) → UnitSound (library_unit g.built.index x.row) x.built
library_built d x g = unit_sound (library_unit g.built.index x.row) g.built.built.source x.built g.row.code g.built.built.built

library_good : (d : DescRow) (entry end : ℕ) (rest : List ℕ) (x : BuiltLibrary) → is_name x.row.name ≡ true → IsLawful d → GoodLibrary d x → entry + 300 < 2 ^ 32
    → LibraryGood entry (library_part d entry (placed end (library_code_size x ∷ rest)) x)
unfolding placed
library_good d entry end rest x name law g small =
    let row = g.row in
    let b = library_built d x g in
    let text = b.text in
    let count = library_slot_count d x.row in
    let i = row.imports in
    let e = row.exports in
    let first = entry + 1 + length x.row.imports in
    let gates = numbered_length (lexport_gate x.built) first x.row.exports in
    let code_fits = size_fits (library_code_size x) in
    let same : first ≡ entry + 1 + length (library_slots d x.row) = omega (arith, count) in
    record {
      code = code_good (library_part d entry (placed end (library_code_size x ∷ rest)) x) x.built.initial name text (omega (arith, code_fits, count)) (omega (arith, e, gates));
      few = omega (arith, count, i);
      slots = library_slots_good d law x.row row;
      gates = subst (λ m. Gates library_bounds (length x.built.text) m (library_gate_rows x.built first x.row)) same
          (library_gates_good x.built first x.row text.few (omega (arith, i, e, small)) b.begins row.gates);
    }

raw_library_count : (d : DescRow) (entry : ℕ) (regions : List Region) (x : BuiltLibrary) → lim.raw_library_entries (raw_code (library_part d entry regions x)) ≡ built_library_entries x
raw_library_count d entry regions x =
    let first = entry + 1 + length x.row.imports in
    let fields = fields_count (library_slots d x.row) (library_gate_rows x.built first x.row) in
    let slots = library_slot_count d x.row in
    let gates = numbered_length (lexport_gate x.built) first x.row.exports in
    omega (arith, fields, slots, gates)

unfoldable pub NumberedAfter : ℕ → List RawCode → CodePart → Type 0
NumberedAfter first before c = LibraryGood (first + sum_of lim.raw_library_entries before) c

pub libraries_along : (d : DescRow) → IsLawful d → (first entry end : ℕ) (rest : List ℕ) (earlier : List RawCode) (ls : List BuiltLibrary)
    → entry ≡ first + sum_of lim.raw_library_entries earlier → entry + MOST_LIBRARY_ENTRIES * length ls ≤ 200000
    → AllByRecursion (GoodLibrary d) ls → AllByRecursion (λ (x : BuiltLibrary). is_name x.row.name ≡ true) ls
    → Along raw_code (NumberedAfter first) earlier (library_parts d entry (placed end (map library_code_size ls ++ rest)) ls)
unfolding library_parts Along NumberedAfter placed
libraries_along d law first entry end rest earlier [] is small good names = tt
libraries_along d law first entry end rest earlier (x ∷ xs) is small good names =
    let n = library_code_size x in
    let next = region_base end n + region_length n in
    let regions = placed end (map library_code_size (x ∷ xs) ++ rest) in
    let part = library_part d entry regions x in
    let row = good.0.row in
    let i = row.imports in
    let e = row.exports in
    let count = raw_library_count d entry regions x in
    let sum = sum_end lim.raw_library_entries earlier (raw_code part) in (
      subst (λ k. LibraryGood k part) is (library_good d entry end (map library_code_size xs ++ rest) x names.0 law good.0 (omega (arith, small))),
      libraries_along d law first (entry + built_library_entries x) next rest (earlier ++ raw_code part ∷ []) xs (omega (arith, is, count, sum)) (omega (arith, small, i, e)) good.1 names.1,
    )

-- how many entries compartments have, at most
pub entries_most : (d : DescRow) (cs : List BuiltCompartment) → AllByRecursion (GoodCompartment d) cs → sum_of built_compartment_entries cs ≤ MOST_COMPARTMENT_ENTRIES * length cs
entries_most d [] good = omega arith
entries_most d (x ∷ xs) good = let few = entries_few d x good.0 in let rest = entries_most d xs good.1 in omega (arith, few, rest)

-- the entries of the parts' fields are those of the rows
pub entries_same : (d : DescRow) (entry : ℕ) (regions : List Region) (cs : List BuiltCompartment) → sum_of lim.raw_compartment_entries (map raw_compartment (compartment_parts d entry regions cs)) ≡ sum_of built_compartment_entries cs
unfolding compartment_parts
entries_same d entry regions [] = refl
entries_same d entry regions (x ∷ xs) =
    let one = raw_count d entry regions x in
    let rest = entries_same d (entry + built_compartment_entries x) (drop 3 regions) xs in
    omega (arith, one, rest)
