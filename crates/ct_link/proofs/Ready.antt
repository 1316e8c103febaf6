-- What is linked is what the objects of all owners are laid to.
use Rattle.std.proofs.Common.{ℕ, ◌≡◌, ◌+◌, ◌<◌, ◌≤◌, Bool, true, false, cond, nat_lt, List, [], ◌∷◌, ◌++◌, length, map, take, drop, refl, sym, ap, ap₂, ◌∙◌, subst, arith, inl, inr}
use Rattle.std.specs.Prelude.{Result, Ok, Err}
use Rattle.std.proofs.lemmas.List.{length-append, length-map, length-drop, length-take-le, take-map, drop-map}
use Rattle.law_lists.proofs.Tests.{lt_tells}
use Rattle.def_layout.specs.Placement.{placed, last_end, needed}
use Rattle.def_image.specs.Parts.{PartsRow}
use Rattle.def_image.specs.Accepted.{IsFaultless}
use Rattle.def_desc.specs.Lawful.{IsLawful}
use Rattle.def_desc.specs.Rows.{DescRow}
use Rattle.def_link.specs.declared.LinkFault.{LinkFault}
use Rattle.def_link.specs.declared.LinkFault.TheVariants as fault
use Rattle.def_link.specs.Owners.{Built, units_of, compartment_unit, library_unit, numbered, all_built}
use Rattle.def_link.specs.Linked.{compartments_with, libraries_with, built_parts, linked_with, linked}
use Rattle.law_link.proofs.Indexed.{numbered_length}
use Rattle.law_link.proofs.Whole as whole
use Rattle.ct_asm.specs.Labels.{Assembled}
use Rattle.ct_link_objects.specs.Objects.{built_of, IsLinkable, AreBuilt, RefusesLink}
use Rattle.ct_link.specs.Laid.{sizes_with, laid_of, parts_with, IsPlaced, AreObjects, AreReady}
use Rattle.ct_layout.specs.Rows.{PlacesRow}
use Rattle.ct_link.proofs.Holding.{same_builts, built_each, objects_sized, all_taken, all_dropped}

linked_is : (d : DescRow) (sources : List (List ℕ)) (os : List Assembled) → AreBuilt (all_built (units_of d) sources) os
    → linked d sources ≡ laid_of d (take (length d.compartments) os) (drop (length d.compartments) os)
unfolding linked
linked_is d sources os h =
    let n = length d.compartments in
    let all : all_built (units_of d) sources ≡ Ok (map built_of os) = h.is ∙ ap (λ (bs : List Built). Ok bs) (sym (same_builts h.built os h.held)) in
    ap (linked_with d) all
    ∙ ap₂ (λ (own lent : List Built). built_parts d (compartments_with d.compartments own) (libraries_with d.libraries lent))
    (take-map built_of n os) (drop-map built_of n os)

unit_count : (d : DescRow) → length (units_of d) ≡ length d.compartments + length d.libraries
unit_count d =
    let a = numbered_length compartment_unit 0 d.compartments in
    let b = numbered_length library_unit 0 d.libraries in
    let ab = length-append (numbered compartment_unit 0 d.compartments) (numbered library_unit 0 d.libraries) in
    omega (arith, a, b, ab)

object_count : (d : DescRow) (sources : List (List ℕ)) (os : List Assembled) → AreBuilt (all_built (units_of d) sources) os → length os ≡ length d.compartments + length d.libraries
object_count d sources os h =
    let a = length-map os built_of in
    let b : length (map built_of os) ≡ length h.built = ap length (same_builts h.built os h.held) in
    let c = built_each (units_of d) sources h.built h.is in
    let e = unit_count d in
    omega (arith, a, b, c, e)

pub owners_fit : (d : DescRow) (sources : List (List ℕ)) (os : List Assembled) → AreBuilt (all_built (units_of d) sources) os → length d.compartments ≤ length os
owners_fit d sources os h = let count = object_count d sources os h in omega (arith, count)

are_objects : (d : DescRow) (sources : List (List ℕ)) (os : List Assembled) → IsLawful d → AreBuilt (all_built (units_of d) sources) os
    → AreObjects d (take (length d.compartments) os) (drop (length d.compartments) os)
are_objects d sources os lawful h =
    let n = length d.compartments in
    let count = object_count d sources os h in
    let sized = objects_sized d sources h.built os lawful.compartment lawful.library h.is h.held in
    record {
      lawful = lawful;
      own_each = length-take-le n os (omega (arith, count));
      lent_each = (let e = length-drop n os in omega (arith, count, e));
      own_sized = all_taken _ n os sized;
      lent_sized = all_dropped _ n os sized;
    }

pub ready : (d : DescRow) (sources : List (List ℕ)) (os own lent : List Assembled) → IsLinkable d sources → AreBuilt (all_built (units_of d) sources) os
    → own ≡ take (length d.compartments) os → lent ≡ drop (length d.compartments) os → AreReady d own lent
ready d sources os own lent h built first rest =
    let n = length d.compartments in
    let here : AreReady d (take n os) (drop n os) = record { objects = are_objects d sources os h.lawful built; sources = sources; linked = linked_is d sources os built } in
    subst (λ (l : List Assembled). AreReady d own l) (sym rest) (subst (λ (l : List Assembled). AreReady d l (drop n os)) (sym first) here)

pub linked_so : (d : DescRow) (sources : List (List ℕ)) (os own lent : List Assembled) → AreBuilt (all_built (units_of d) sources) os
    → own ≡ take (length d.compartments) os → lent ≡ drop (length d.compartments) os → linked d sources ≡ laid_of d own lent
linked_so d sources os own lent built first rest = linked_is d sources os built ∙ ap₂ (laid_of d) (sym first) (sym rest)

pub linked_ok : (d : DescRow) (sources : List (List ℕ)) (os own lent : List Assembled) (p : PartsRow) → AreBuilt (all_built (units_of d) sources) os
    → own ≡ take (length d.compartments) os → lent ≡ drop (length d.compartments) os → laid_of d own lent ≡ Ok p → linked d sources ≡ Ok p
linked_ok d sources os own lent p built first rest is = linked_so d sources os own lent built first rest ∙ is

pub linked_err : (d : DescRow) (sources : List (List ℕ)) (os own lent : List Assembled) (e : LinkFault) → AreBuilt (all_built (units_of d) sources) os
    → own ≡ take (length d.compartments) os → lent ≡ drop (length d.compartments) os → RefusesLink (laid_of d own lent) e → RefusesLink (linked d sources) e
linked_err d sources os own lent e built first rest h =
    subst (λ (r : Result PartsRow LinkFault). RefusesLink r e) (sym (linked_so d sources os own lent built first rest)) h

fails : (d : DescRow) (sources : List (List ℕ)) (e : LinkFault) → all_built (units_of d) sources ≡ Err e → linked d sources ≡ Err e
unfolding linked
fails d sources e is = ap (linked_with d) is

-- a fault of an owner is that of the whole
pub owner_fault : (d : DescRow) (sources : List (List ℕ)) (e : LinkFault) → RefusesLink (all_built (units_of d) sources) e → RefusesLink (linked d sources) e
owner_fault d sources fault.NoMemory h = tt
owner_fault d sources (fault.Asm owner number line) h = fails d sources (fault.Asm owner number line) h
owner_fault d sources (fault.Export owner item) h = fails d sources (fault.Export owner item) h
owner_fault d sources (fault.NoRoom needed has) h = fails d sources (fault.NoRoom needed has) h
owner_fault d sources (fault.Import owner line) h = fails d sources (fault.Import owner line) h
owner_fault d sources (fault.Initial owner) h = fails d sources (fault.Initial owner) h

-- ---- by placement

pub no_room : (d : DescRow) (own lent : List Assembled) (n has : ℕ) → n ≡ needed d.ram.base (sizes_with d own lent) → has ≡ d.ram.size → d.ram.size < needed d.ram.base (sizes_with d own lent)
    → laid_of d own lent ≡ Err (fault.NoRoom n has)
no_room d own lent n has is size more =
    elim (lt_tells d.ram.size (needed d.ram.base (sizes_with d own lent))) [
      | inl h ↦ (
          let parts = parts_with d own lent (placed d.ram.base (sizes_with d own lent)) (last_end d.ram.base (sizes_with d own lent)) in
          ap (λ b. cond b (Err (fault.NoRoom (needed d.ram.base (sizes_with d own lent)) d.ram.size)) (Ok parts)) h.0
          ∙ ap₂ (λ a b. Err (fault.NoRoom a b)) (sym is) (sym size)
          )
      | inr h ↦ absurd (let le = h.1 in omega (arith, le, more))
    ]

pub laid_so : (d : DescRow) (own lent : List Assembled) (places : PlacesRow) (p : PartsRow) → IsPlaced d own lent places → p ≡ parts_with d own lent places.regions places.heap.base
    → laid_of d own lent ≡ Ok p
laid_so d own lent places p h is =
    elim (lt_tells d.ram.size (needed d.ram.base (sizes_with d own lent))) [
      | inl k ↦ absurd (let room = h.room in let more = k.1 in omega (arith, room, more))
      | inr k ↦ (
          let all = parts_with d own lent (placed d.ram.base (sizes_with d own lent)) (last_end d.ram.base (sizes_with d own lent)) in
          let same : p ≡ all = is ∙ ap₂ (parts_with d own lent) h.regions h.heap in
          ap (λ b. cond b (Err (fault.NoRoom (needed d.ram.base (sizes_with d own lent)) d.ram.size)) (Ok all)) k.0
          ∙ ap (λ (q : PartsRow). Ok q) (sym same)
          )
    ]

pub is_faultless : (d : DescRow) (own lent : List Assembled) (places : PlacesRow) (p : PartsRow) → AreReady d own lent → IsPlaced d own lent places
    → p ≡ parts_with d own lent places.regions places.heap.base → IsFaultless p
is_faultless d own lent places p r h is =
    whole.faultless d r.sources p (record { lawful = r.objects.lawful; linked = r.linked ∙ laid_so d own lent places p h is })
