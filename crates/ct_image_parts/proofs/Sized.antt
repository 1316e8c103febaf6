-- The places of an image's lists, by its parts and by its fields.
use Rattle.std.proofs.Common.{ℕ, ◌≡◌, length, arith}
use Rattle.std.proofs.lemmas.List.{length-map, length-replicate}
use Rattle.def_image.specs.Parts.{SealedRow, CodeRow, CompartmentRow, PartsRow}
use Rattle.def_image.specs.Spelling.{zeros, padding_after, raw_slot, raw_gate, raw_device, raw_shared, raw_sealed, raw_code, raw_compartment, raw_thread, raw_of, image_bytes}
use Rattle.def_image.specs.Shapes.{IsSpellable}
use Rattle.def_image.specs.Sizes.{sealed_size, tables_size, compartment_size, library_size, shared_at, sealed_at, compartments_at, libraries_at, threads_at}
use Rattle.law_image.proofs.Members.{sum_map}
use Rattle.law_image.proofs.Places.{places_are}
use Rattle.ct_image_parts.specs.Places.{sealed_bytes, tables_bytes, compartment_bytes, library_bytes, shared_place, sealed_place, compartments_place, libraries_place, threads_place, end_place}

pub sealed_is : (s : SealedRow) → sealed_size (raw_sealed s) ≡ sealed_bytes s
sealed_is s = let z : length (zeros (padding_after (length s.bytes))) ≡ padding_after (length s.bytes) = length-replicate (padding_after (length s.bytes)) 0 in omega (arith, z)

tables_are : (c : CodeRow) → tables_size (raw_code c) ≡ tables_bytes c
tables_are c =
    let slots = length-map c.slots raw_slot in
    let exports = length-map c.exports raw_gate in
    omega (arith, slots, exports)

pub library_is : (c : CodeRow) → library_size (raw_code c) ≡ library_bytes c
library_is c = let tables = tables_are c in omega (arith, tables)

pub compartment_is : (c : CompartmentRow) → compartment_size (raw_compartment c) ≡ compartment_bytes c
compartment_is c =
    let tables = tables_are c.code in
    let z : length (zeros (padding_after (length c.initial))) ≡ padding_after (length c.initial) = length-replicate (padding_after (length c.initial)) 0 in
    omega (arith, tables, z)

pub shared_is : (p : PartsRow) → shared_at (raw_of p) ≡ shared_place p
unfolding raw_of
shared_is p = let devices = length-map p.devices raw_device in omega (arith, devices)

pub sealed_there : (p : PartsRow) → sealed_at (raw_of p) ≡ sealed_place p
unfolding raw_of
sealed_there p =
    let before = shared_is p in
    let shared = length-map p.shared raw_shared in
    omega (arith, before, shared)

pub compartments_there : (p : PartsRow) → compartments_at (raw_of p) ≡ compartments_place p
unfolding raw_of
compartments_there p =
    let before = sealed_there p in
    let sealed = sum_map sealed_size raw_sealed sealed_bytes p.sealed sealed_is in
    omega (arith, before, sealed)

pub libraries_there : (p : PartsRow) → libraries_at (raw_of p) ≡ libraries_place p
unfolding raw_of
libraries_there p =
    let before = compartments_there p in
    let compartments = sum_map compartment_size raw_compartment compartment_bytes p.compartments compartment_is in
    omega (arith, before, compartments)

pub threads_there : (p : PartsRow) → threads_at (raw_of p) ≡ threads_place p
unfolding raw_of
threads_there p =
    let before = libraries_there p in
    let libraries = sum_map library_size raw_code library_bytes p.libraries library_is in
    omega (arith, before, libraries)

pub end_is : (p : PartsRow) → IsSpellable p → length (image_bytes p) ≡ end_place p
unfolding raw_of image_bytes
end_is p h =
    let whole = places_are (raw_of p) h.shaped in
    let threads = threads_there p in
    let count = length-map p.threads raw_thread in
    omega (arith, whole, threads, count)
