-- The sizes and counts of a lawful description's rows, within what placement and tables take.
use Rattle.std.proofs.Common.{ℕ, ◌≡◌, ◌+◌, ◌*◌, ◌<◌, ◌≤◌, ◌^◌, List, [], ◌∷◌, ◌++◌, length, map, refl, sym, ap, subst, arith}
use Rattle.std.specs.List.{AllByRecursion}
use Rattle.std.proofs.lemmas.List.{length-append, length-map}
use Rattle.law_lists.proofs.Alls.{all_joined, all_mapped, all_so}
use Rattle.def_profile.specs.declared.limits.TheConstants.{MOST_FRAMES, MOST_THREADS_2}
use Rattle.def_layout.specs.Placement.{needed}
use Rattle.def_image.specs.Sizes.{sum_of}
use Rattle.def_desc.specs.Lawful.{IsLawful, IsLawfulCompartment, IsLawfulLibrary, IsLawfulExport, IsLawfulShared, IsLawfulSealed, IsLawfulThread}
use Rattle.def_desc.specs.Rows.{ExportRow, DescShared, DescSealed, DescThread, DescCompartment, LibraryRow, DescRow}
use Rattle.def_link.specs.declared.LinkFault.TheVariants as fault
use Rattle.law_image.proofs.Limited.{threads_most}
use Rattle.def_link.specs.Linked.{compartment_sizes, library_code_size, saved_area_size}
use Rattle.law_link.proofs.Lying.{shared_sizes, sealed_sizes, stack_sizes, trusted_size}
use Rattle.law_link.proofs.Placings.{few_areas}
use Rattle.ct_asm.specs.Labels.{Assembled}
use Rattle.ct_link_objects.specs.Objects.{RefusesLink}
use Rattle.ct_layout.specs.Rows.{SizesRow, PlacesRow, IsPlaceable, HasRoom}
use Rattle.ct_link_slots.specs.Exporters.{IsExporter, IsLibraryExporter, AreCounted}
use Rattle.ct_link.specs.Laid.{sizes_with, laid_of, IsPlaced, AreObjects}
use Rattle.ct_link.specs.Rows.{IsSized, IsSmallOwner, IsSmallLibrary, AreOwn, AreLent, own_built, lent_built}
use Rattle.ct_link.proofs.Ready.{no_room}

-- ---- rows

small_owner : (d : DescRow) (c : DescCompartment) → IsLawfulCompartment d c → IsSmallOwner c
small_owner d c h = record {
  globals = h.globals;
  imports = h.imports;
  quotas = h.quotas;
  keys = h.keys;
  exports = h.exports;
  key = all_so _ (λ k. k < 2 ^ 32) c.keys (λ k w. let high = w.1 in omega (arith, high)) h.key;
  args = all_so IsLawfulExport (λ (x : ExportRow). x.args < 256) c.exports (λ x w. let few = w.args in omega (arith, few)) h.export;
}

small_library : (d : DescRow) (l : LibraryRow) → IsLawfulLibrary d l → IsSmallLibrary l
small_library d l h = record { imports = h.imports; exports = h.exports }

pub are_own : (d : DescRow) (own lent : List Assembled) → AreObjects d own lent → AreOwn d.compartments own
are_own d own lent h = record {
  rows = all_so (IsLawfulCompartment d) IsSmallOwner d.compartments (small_owner d) h.lawful.compartment;
  objects = h.own_sized;
  each = sym h.own_each;
  few = h.lawful.few.compartments;
}

pub are_lent : (d : DescRow) (own lent : List Assembled) → AreObjects d own lent → AreLent d.libraries lent
are_lent d own lent h = record {
  rows = all_so (IsLawfulLibrary d) IsSmallLibrary d.libraries (small_library d) h.lawful.library;
  objects = h.lent_sized;
  each = sym h.lent_each;
  few = h.lawful.few.libraries;
}

pub are_counted : (d : DescRow) (own lent : List Assembled) → AreObjects d own lent → AreCounted d
are_counted d own lent h =
    let few = h.lawful.few in
    record {
      devices = omega (arith, few.devices);
      shared = omega (arith, few.shared);
      sealed = omega (arith, few.sealed);
      compartments = omega (arith, few.compartments);
      libraries = omega (arith, few.libraries);
      exporter = all_so (IsLawfulCompartment d) IsExporter d.compartments (λ c w. omega (arith, w.exports)) h.lawful.compartment;
      library_exporter = all_so (IsLawfulLibrary d) IsLibraryExporter d.libraries (λ l w. omega (arith, w.exports)) h.lawful.library;
    }

-- ---- sizes

IsSmall : ℕ → Type 0
IsSmall n = n ≤ 2097152

abbrev own_sizes : DescRow → List Assembled → List ℕ
own_sizes d own = compartment_sizes (own_built d.compartments own)

abbrev lent_sizes : DescRow → List Assembled → List ℕ
lent_sizes d lent = map library_code_size (lent_built d.libraries lent)

small_own : (cs : List DescCompartment) (os : List Assembled) → AllByRecursion IsSmallOwner cs → AllByRecursion IsSized os → AllByRecursion IsSmall (compartment_sizes (own_built cs os))
unfolding IsSmall
small_own [] os h k = tt
small_own (c ∷ cs) [] h k = tt
small_own (c ∷ cs) (o ∷ os) h k =
    let row = h.0 in
    let imports = row.imports in
    let quotas = row.quotas in
    let keys = row.keys in
    let exports = row.exports in
    let globals = row.globals in
    let text = k.0.text in
    let initial = k.0.initial in
    (omega (arith, imports, quotas, keys, text), (omega (arith, exports), (omega (arith, globals, initial), small_own cs os h.1 k.1)))

small_lent : (ls : List LibraryRow) (os : List Assembled) → AllByRecursion IsSmallLibrary ls → AllByRecursion IsSized os → AllByRecursion IsSmall (map library_code_size (lent_built ls os))
unfolding IsSmall
small_lent [] os h k = tt
small_lent (l ∷ ls) [] h k = tt
small_lent (l ∷ ls) (o ∷ os) h k =
    let imports = h.0.imports in
    let text = k.0.text in
    (omega (arith, imports, text), small_lent ls os h.1 k.1)

pub frames_few : (d : DescRow) → IsLawful d → AllByRecursion (λ (t : DescThread). t.frames ≤ MOST_FRAMES) d.threads
frames_few d law = all_so (IsLawfulThread d) (λ (t : DescThread). t.frames ≤ MOST_FRAMES) d.threads (λ t h. h.frames.1) law.thread

pub threads_few : (d : DescRow) → IsLawful d → length d.threads ≤ MOST_THREADS_2
threads_few d law =
    let few = law.few.threads in
    let most = threads_most d.version in
    omega (arith, few, most)

pub areas_few : (d : DescRow) → IsLawful d → sum_of saved_area_size d.threads ≤ 403456
areas_few d law =
    let small = few_areas d.threads 64 (frames_few d law) (threads_few d law) in
    omega (arith, small)

small_all : (d : DescRow) (own lent : List Assembled) → AreObjects d own lent → AllByRecursion IsSmall (sizes_with d own lent)
unfolding IsSmall shared_sizes sealed_sizes stack_sizes trusted_size
small_all d own lent h =
    let law = h.lawful in
    let a = own_sizes d own in
    let b = lent_sizes d lent in
    let s = shared_sizes d in
    let x = sealed_sizes d in
    let areas = areas_few d law in
    let in_a = small_own d.compartments own (are_own d own lent h).rows h.own_sized in
    let in_b = small_lent d.libraries lent (are_lent d own lent h).rows h.lent_sized in
    let in_s = all_mapped IsSmall (λ (s : DescShared). s.size) d.shared (all_so IsLawfulShared (λ (y : DescShared). y.size ≤ 2097152) d.shared (λ y w. let k = w.1 in omega (arith, k)) law.shared_object) in
    let in_x = all_mapped IsSmall (λ (s : DescSealed). length s.bytes) d.sealed (all_so IsLawfulSealed (λ (y : DescSealed). length y.bytes ≤ 2097152) d.sealed (λ y w. let k = w.few.1 in omega (arith, k)) law.sealed_object) in
    let in_t = all_mapped IsSmall (λ (t : DescThread). t.stack) d.threads (all_so (IsLawfulThread d) (λ (y : DescThread). y.stack ≤ 2097152) d.threads (λ y w. let k = w.stack.1 in omega (arith, k)) law.thread) in
    let in_z : AllByRecursion IsSmall (trusted_size d ∷ []) = (omega (arith, areas), tt) in
    all_joined IsSmall (a ++ b ++ s ++ x ++ stack_sizes d) (trusted_size d ∷ [])
    (all_joined IsSmall (a ++ b ++ s ++ x) (stack_sizes d)
    (all_joined IsSmall (a ++ b ++ s) x
    (all_joined IsSmall (a ++ b) s (all_joined IsSmall a b in_a in_b) in_s) in_x) in_t) in_z

own_count : (cs : List DescCompartment) (os : List Assembled) → length cs ≡ length os → length (compartment_sizes (own_built cs os)) ≡ 3 * length cs
own_count [] os e = refl
own_count (c ∷ cs) [] e = absurd (omega (arith, e))
own_count (c ∷ cs) (o ∷ os) e = let rest = own_count cs os (omega (arith, e)) in omega (arith, rest)

lent_count : (ls : List LibraryRow) (os : List Assembled) → length ls ≡ length os → length (map library_code_size (lent_built ls os)) ≡ length ls
lent_count [] os e = refl
lent_count (l ∷ ls) [] e = absurd (omega (arith, e))
lent_count (l ∷ ls) (o ∷ os) e = let rest = lent_count ls os (omega (arith, e)) in omega (arith, rest)

few_all : (d : DescRow) (own lent : List Assembled) → AreObjects d own lent → length (sizes_with d own lent) < 1024
unfolding shared_sizes sealed_sizes stack_sizes trusted_size
few_all d own lent h =
    let few = h.lawful.few in
    let threads = threads_few d h.lawful in
    let a = own_sizes d own in
    let b = lent_sizes d lent in
    let na = own_count d.compartments own (are_own d own lent h).each in
    let nb = lent_count d.libraries lent (are_lent d own lent h).each in
    let ns = length-map d.shared (λ (s : DescShared). s.size) in
    let nx = length-map d.sealed (λ (s : DescSealed). length s.bytes) in
    let nt = length-map d.threads (λ (t : DescThread). t.stack) in
    let l1 = length-append a b in
    let l2 = length-append (a ++ b) (shared_sizes d) in
    let l3 = length-append (a ++ b ++ shared_sizes d) (sealed_sizes d) in
    let l4 = length-append (a ++ b ++ shared_sizes d ++ sealed_sizes d) (stack_sizes d) in
    let l5 = length-append (a ++ b ++ shared_sizes d ++ sealed_sizes d ++ stack_sizes d) (trusted_size d ∷ []) in
    omega (arith, few.shared, few.sealed, few.compartments, few.libraries, threads, na, nb, ns, nx, nt, l1, l2, l3, l4, l5)

pub are_placeable : (d : DescRow) (own lent : List Assembled) (s : SizesRow) → AreObjects d own lent → s ≡ record { base = d.ram.base; size = d.ram.size; regions = sizes_with d own lent } → IsPlaceable s
unfolding IsSmall
are_placeable d own lent s h is =
    let ram = h.lawful.ram in
    let here : IsPlaceable (record { base = d.ram.base; size = d.ram.size; regions = sizes_with d own lent }) = record {
      base = ram.base;
      size = ram.size;
      end = ram.end;
      few = few_all d own lent h;
      small = small_all d own lent h;
    } in
    subst IsPlaceable (sym is) here

-- ---- places

pub are_placed : (d : DescRow) (own lent : List Assembled) (s : SizesRow) (p : PlacesRow) → s ≡ record { base = d.ram.base; size = d.ram.size; regions = sizes_with d own lent }
    → HasRoom s p → IsPlaced d own lent p
are_placed d own lent s p is h =
    let here = subst (λ (z : SizesRow). HasRoom z p) is h in
    record {
      room = here.room;
      regions = ap (λ (q : PlacesRow). q.regions) here.places;
      heap = ap (λ (q : PlacesRow). q.heap.base) here.places;
    }

pub room_wanted : (d : DescRow) (own lent : List Assembled) (s : SizesRow) (n has : ℕ) → s ≡ record { base = d.ram.base; size = d.ram.size; regions = sizes_with d own lent }
    → (n ≡ needed s.base s.regions) × (has ≡ s.size) × (s.size < needed s.base s.regions) → RefusesLink (laid_of d own lent) (fault.NoRoom n has)
room_wanted d own lent s n has is h =
    let here = subst (λ (z : SizesRow). (n ≡ needed z.base z.regions) × (has ≡ z.size) × (z.size < needed z.base z.regions)) is h in
    no_room d own lent n has here.0 here.1 here.2
