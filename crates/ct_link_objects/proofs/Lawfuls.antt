-- What a lawful description and its sources grant to the loop over its owners.
use Rattle.std.proofs.Common.{ℕ, ◌≡◌, ◌+◌, ◌≤◌, ◌<◌, ◌^◌, List, [], ◌∷◌, length, Some, slice_get, subst, arith}
use Rattle.std.specs.List.{AllByRecursion}
use Rattle.std.proofs.lemmas.List.{length-map}
use Rattle.std.proofs.lemmas.Option.{slice_get_within, get_or_from_slice_get}
use Rattle.law_lists.proofs.Alls.{all_joined}
use Rattle.law_lists.proofs.Places.{at_each}
use Rattle.def_desc.specs.Lawful.{IsLawfulCompartment, IsLawfulLibrary}
use Rattle.def_desc.specs.Rows.{ExportRow, LexportRow, DescCompartment, LibraryRow, DescRow}
use Rattle.def_link.specs.Owners.{Unit as OwnerUnit, numbered, compartment_unit, library_unit, units_of}
use Rattle.ct_link_objects.specs.Objects.{files_of, IsCounted, IsLinkable}
use Rattle.ct_link_objects.proofs.Counts.{one_file}
use Rattle.ct_link_objects.proofs.Rows.{owners_counted}

own_counted : (d : DescRow) (n : ℕ) (cs : List DescCompartment) → n + length cs < 2 ^ 32 → AllByRecursion (IsLawfulCompartment d) cs → AllByRecursion IsCounted (numbered compartment_unit n cs)
own_counted d n [] few h = tt
own_counted d n (c ∷ cs) few h =
    let exports = h.0.exports in
    let count = length-map c.exports (λ (e : ExportRow). e.at) in
    (record { index = omega (arith, few); slots = h.0.slots; exports = omega (arith, exports, count) }, own_counted d (n + 1) cs (omega (arith, few)) h.1)

lent_counted : (d : DescRow) (n : ℕ) (ls : List LibraryRow) → n + length ls < 2 ^ 32 → AllByRecursion (IsLawfulLibrary d) ls → AllByRecursion IsCounted (numbered library_unit n ls)
lent_counted d n [] few h = tt
lent_counted d n (l ∷ ls) few h =
    let exports = h.0.exports in
    let count = length-map l.exports (λ (e : LexportRow). e.at) in
    (record { index = omega (arith, few); slots = h.0.slots; exports = omega (arith, exports, count) }, lent_counted d (n + 1) ls (omega (arith, few)) h.1)

pub counted_at : (d : DescRow) (sources : List (List ℕ)) (k : ℕ) (u : OwnerUnit) → IsLinkable d sources → slice_get (units_of d) k ≡ Some u → IsCounted u
counted_at d sources k u h is =
    let own = h.lawful.few.compartments in
    let lent = h.lawful.few.libraries in
    let all = all_joined IsCounted (numbered compartment_unit 0 d.compartments) (numbered library_unit 0 d.libraries)
    (own_counted d 0 d.compartments (omega (arith, own)) h.lawful.compartment) (lent_counted d 0 d.libraries (omega (arith, lent)) h.lawful.library) in
    subst IsCounted (get_or_from_slice_get (units_of d) k u u is) (at_each IsCounted (units_of d) k u all (slice_get_within (units_of d) k u is))

few_files : (us : List OwnerUnit) → files_of us ≤ length us
few_files [] = omega arith
few_files (u ∷ us) =
    let rest = few_files us in
    let one = one_file u.code.file in
    omega (arith, rest, one)

pub texts_counted : (d : DescRow) (sources : List (List ℕ)) → IsLinkable d sources → length sources < 2 ^ 32
texts_counted d sources h =
    let each = h.sourced.each in
    let files = few_files (units_of d) in
    let count = owners_counted d in
    let own = h.lawful.few.compartments in
    let lent = h.lawful.few.libraries in
    omega (arith, each, files, count, own, lent)
