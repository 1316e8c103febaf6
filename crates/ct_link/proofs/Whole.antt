-- The parts over all regions, by where the regions of each list begin.
use Rattle.std.proofs.Common.{ℕ, ◌≡◌, ◌+◌, ◌*◌, ◌<◌, List, [], ◌∷◌, length, drop, get_or, refl, sym, ap, ap₂, ◌∙◌, arith, add-zero}
use Rattle.std.proofs.lemmas.List.{get_or-drop}
use Rattle.def_layout.specs.declared.Region.{Region}
use Rattle.def_layout.specs.Placement.{region_from}
use Rattle.def_image.specs.Parts.{PartsRow}
use Rattle.def_image.specs.Sizes.{sum_of}
use Rattle.def_desc.specs.Rows.{DescCompartment, LibraryRow, DescRow}
use Rattle.def_link.specs.Linked.{built_compartment_entries, base_at, compartment_parts, library_parts, shared_parts, sealed_parts, thread_parts, parts_of}
use Rattle.ct_asm.specs.Labels.{Assembled}
use Rattle.ct_link.specs.declared.laid.Starts.{Starts}
use Rattle.ct_link.specs.Laid.{parts_with, AreObjects}
use Rattle.ct_link.specs.Rows.{own_built, lent_built, row_entries}
use Rattle.ct_link.specs.Starting.{AreSmallRows, AreStarts, AreFewStarts, parts_at}
use Rattle.ct_link.proofs.Bounds.{are_own, are_lent, threads_few}

own_length : (cs : List DescCompartment) (os : List Assembled) → length cs ≡ length os → length (own_built cs os) ≡ length cs
own_length [] os e = refl
own_length (c ∷ cs) [] e = absurd (omega (arith, e))
own_length (c ∷ cs) (o ∷ os) e = let rest = own_length cs os (omega (arith, e)) in omega (arith, rest)

lent_length : (ls : List LibraryRow) (os : List Assembled) → length ls ≡ length os → length (lent_built ls os) ≡ length ls
lent_length [] os e = refl
lent_length (l ∷ ls) [] e = absurd (omega (arith, e))
lent_length (l ∷ ls) (o ∷ os) e = let rest = lent_length ls os (omega (arith, e)) in omega (arith, rest)

own_entries : (cs : List DescCompartment) (os : List Assembled) → length cs ≡ length os → sum_of built_compartment_entries (own_built cs os) ≡ sum_of row_entries cs
own_entries [] os e = refl
own_entries (c ∷ cs) [] e = absurd (omega (arith, e))
own_entries (c ∷ cs) (o ∷ os) e = ap (λ n. row_entries c + n) (own_entries cs os (omega (arith, e)))

pub are_small_rows : (d : DescRow) (own lent : List Assembled) → AreObjects d own lent → AreSmallRows d
are_small_rows d own lent h = record {
  rows = (are_own d own lent h).rows;
  compartments = h.lawful.few.compartments;
  libraries = h.lawful.few.libraries;
  shared = h.lawful.few.shared;
  sealed = h.lawful.few.sealed;
  threads = threads_few d h.lawful;
}

pub are_few_starts : (d : DescRow) (own lent : List Assembled) (s : Starts) → AreObjects d own lent → AreStarts d s → AreFewStarts d s
are_few_starts d own lent s h k =
    let few = h.lawful.few in
    let compartments = few.compartments in
    let libraries = few.libraries in
    let shared = few.shared in
    let sealed = few.sealed in
    let threads = threads_few d h.lawful in
    let a = k.libraries in
    let b = k.shared in
    let x = k.sealed in
    let t = k.threads in
    let z = k.trusted in
    let e = k.few in
    record {
      libraries = omega (arith, compartments, a);
      shared = omega (arith, compartments, libraries, shared, a, b);
      sealed = omega (arith, compartments, libraries, shared, sealed, a, b, x);
      threads = omega (arith, compartments, libraries, shared, sealed, threads, a, b, x, t);
      trusted = omega (arith, compartments, libraries, shared, sealed, threads, a, b, x, t, z);
      entry = omega (arith, e);
    }

pub parts_made : (d : DescRow) (own lent : List Assembled) (regions : List Region) (heap : ℕ) (s : Starts) (p : PartsRow) → AreObjects d own lent → AreStarts d s
    → p ≡ parts_at d own lent regions heap s → p ≡ parts_with d own lent regions heap
unfolding parts_of
parts_made d own lent regions heap s p h k is =
    let n = own_length d.compartments own (are_own d own lent h).each in
    let m = lent_length d.libraries lent (are_lent d own lent h).each in
    let e = own_entries d.compartments own (are_own d own lent h).each in
    let cs = own_built d.compartments own in
    let ls = lent_built d.libraries lent in
    let a = k.libraries in
    let b = k.shared in
    let x = k.sealed in
    let t = k.threads in
    let z = k.trusted in
    let first = k.entry in
    let libraries : s.libraries ≡ 3 * length cs = omega (arith, a, n) in
    let shared : s.shared ≡ 3 * length cs + length ls = omega (arith, b, libraries, m) in
    let sealed : s.sealed ≡ 3 * length cs + length ls + length d.shared = omega (arith, x, shared) in
    let threads : s.threads ≡ 3 * length cs + length ls + length d.shared + length d.sealed = omega (arith, t, sealed) in
    let trusted : s.trusted ≡ 3 * length cs + length ls + length d.shared + length d.sealed + length d.threads = omega (arith, z, threads) in
    let entry : s.entry ≡ 1 + sum_of built_compartment_entries cs = omega (arith, first, e) in
    let base : base_at (drop s.trusted regions) 0 ≡ base_at regions (3 * length cs + length ls + length d.shared + length d.sealed + length d.threads) =
    ap (λ (r : Region). r.base) (get_or-drop s.trusted regions 0 (region_from 0 0) ∙ ap (λ k. get_or regions k (region_from 0 0)) (add-zero s.trusted ∙ trusted)) in
    is ∙ (λ i. record {
      version = d.version;
      sweep = d.sweep;
      quantum = d.quantum;
      ram = d.ram.base;
      size = d.ram.size;
      trusted = base i;
      heap = heap;
      name = d.firmware;
      devices = d.devices;
      shared = shared_parts (drop (shared i) regions) d.shared;
      sealed = sealed_parts (drop (sealed i) regions) d.sealed;
      compartments = compartment_parts d 1 regions cs;
      libraries = library_parts d (entry i) (drop (libraries i) regions) ls;
      threads = thread_parts d (drop (threads i) regions) d.threads;
    })
