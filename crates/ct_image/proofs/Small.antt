-- What the limits of an image say of the sizes of its regions, and of the rights in its rows.
use Rattle.std.proofs.Common.{ℕ, zero, suc, ◌≡◌, ◌+◌, ◌<◌, ◌≤◌, ◌^◌, List, [], ◌∷◌, length, map, None, All, refl, arith}
use Rattle.std.specs.List.{AllByRecursion}
use Rattle.std.proofs.lemmas.List.Elements.{All-from_recursion}
use Rattle.std.proofs.lemmas.Bool.{ltb-false}
use Rattle.law_lists.proofs.Alls.{all_unmapped}
use Rattle.law_lists.proofs.Places.{all_there}
use Rattle.def_image.specs.declared.RawEntry.{RawEntry}
use Rattle.def_image.specs.declared.format.TheConstants.{ENTRY, ROW, COMPARTMENT_HEAD, LIBRARY_HEAD}
use Rattle.def_image.specs.Raw.{RawCode, RawCompartment}
use Rattle.def_image.specs.Parts.{SlotRow, CodeRow, CompartmentRow, ThreadRow, PartsRow}
use Rattle.def_image.specs.Spelling.{raw_of, raw_slot, raw_code, raw_compartment}
use Rattle.def_image.specs.Sizes.{compartment_size, library_size, compartments_at, libraries_at}
use Rattle.def_image.specs.Checks.{first}
use Rattle.def_image.specs.Limits.{byte_in, row_limits, name_checks, own_slot_limits, slot_limits, compartment_limits_by, compartment_limits, library_limits_by, library_limits, entry_name, is_misnamed, is_unnamed_key}
use Rattle.law_image.proofs.Passing.{left_none, all_pass, every}
use Rattle.law_image.proofs.Holding.{limited, compartment_holds, library_holds}
use Rattle.law_image.proofs.Limited.{few_threads, header_fits, thread_fits}
use Rattle.law_image.proofs.Owners.{compartment_limited}
use Rattle.ct_image.specs.Answers.{Stand}
use Rattle.ct_image_parts.specs.Places.{end_place}
use Rattle.ct_image.specs.Spans.{AreSmall}
use Rattle.ct_image.specs.Packed.{ArePacked, OwnersPacked, LibrariesPacked}
use Rattle.ct_image_parts.proofs.Sized.{end_is}

-- ---- by index

pub small_is : (p : PartsRow) → Stand p → AreSmall p
small_is p s =
    let h = limited (raw_of p) s.limits in
    let header = header_fits p h.header in
    record {
      threads = few_threads p header.few;
      frames = all_there (λ (t : ThreadRow). t.frames ≤ 96) p.threads (λ i t is. (thread_fits p h i t is).frames.1);
      exports = all_there (λ (c : CompartmentRow). length c.code.exports ≤ 64) p.compartments (λ b c is. (compartment_limited p h b c is).code.exports);
      ram = header.end;
    }

pub room_is : (p : PartsRow) → Stand p → end_place p < 2 ^ 32
room_is p s = let e = end_is p s.spellable in omega (arith, e, s.small)

-- ---- rights are six bits

abbrev IsPacked : RawEntry → Type 0
IsPacked e = byte_in e.row 1 < 64

row_packed : (at : ℕ) (row : List ℕ) → first (row_limits at row) ≡ None → byte_in row 1 < 64
unfolding row_limits
row_packed at row none = let most = ltb-false 63 (byte_in row 1) (all_pass (row_limits at row) none).1.0 in omega (arith, most)

own_packed : (at : ℕ) (earlier : List RawEntry) (e : RawEntry) → first (own_slot_limits at earlier e) ≡ None → IsPacked e
unfolding own_slot_limits
own_packed at earlier e none = row_packed at e.row (left_none (row_limits at e.row) (name_checks (at + ROW) (is_misnamed earlier e) (map entry_name earlier) e.name) none)

slot_packed : (at : ℕ) (earlier : List RawEntry) (e : RawEntry) → first (slot_limits at earlier e) ≡ None → IsPacked e
unfolding slot_limits
slot_packed at earlier e none = row_packed at e.row (left_none (row_limits at e.row) (name_checks (at + ROW) (is_unnamed_key e) (map entry_name earlier) e.name) none)

compartment_packed : (entry at : ℕ) (seen : List (List ℕ)) (c : RawCompartment) → first (compartment_limits_by entry at seen c) ≡ None → AllByRecursion IsPacked c.code.slots
compartment_packed entry at seen c none =
    every own_slot_limits (λ s. ENTRY) IsPacked own_packed (at + COMPARTMENT_HEAD) [] c.code.slots (compartment_holds entry at seen c none).slots

library_packed : (entry at : ℕ) (seen : List (List ℕ)) (c : RawCode) → first (library_limits_by entry at seen c) ≡ None → AllByRecursion IsPacked c.slots
library_packed entry at seen c none =
    every slot_limits (λ s. ENTRY) IsPacked slot_packed (at + LIBRARY_HEAD) [] c.slots (library_holds entry at seen c none).slots

abbrev RowPacked : SlotRow → Type 0
RowPacked s = s.row.rights < 64

slots_packed : (ss : List SlotRow) → AllByRecursion IsPacked (map raw_slot ss) → ArePacked ss
slots_packed ss h = All-from_recursion RowPacked ss (all_unmapped IsPacked raw_slot ss h)

pub owners_packed : (p : PartsRow) → Stand p → OwnersPacked p.compartments
unfolding raw_of
owners_packed p s =
    let h = (limited (raw_of p) s.limits).compartments in
    let each = every compartment_limits compartment_size (λ (c : RawCompartment). AllByRecursion IsPacked c.code.slots) (λ at earlier k f. compartment_packed _ at _ k f)
    (compartments_at (raw_of p)) [] (map raw_compartment p.compartments) h in
    All-from_recursion (λ (c : CompartmentRow). ArePacked c.code.slots) p.compartments (each_own p.compartments (all_unmapped (λ (c : RawCompartment). AllByRecursion IsPacked c.code.slots) raw_compartment p.compartments each))
  where
    each_own : (cs : List CompartmentRow) → AllByRecursion (λ (c : CompartmentRow). AllByRecursion IsPacked (map raw_slot c.code.slots)) cs → AllByRecursion (λ (c : CompartmentRow). ArePacked c.code.slots) cs
    each_own [] h = tt
    each_own (c ∷ cs) h = (slots_packed c.code.slots h.0, each_own cs h.1)

pub libraries_packed : (p : PartsRow) → Stand p → LibrariesPacked p.libraries
unfolding raw_of
libraries_packed p s =
    let h = (limited (raw_of p) s.limits).libraries in
    let each = every (library_limits (raw_of p)) library_size (λ (c : RawCode). AllByRecursion IsPacked c.slots) (λ at earlier k f. library_packed _ at _ k f)
    (libraries_at (raw_of p)) [] (map raw_code p.libraries) h in
    All-from_recursion (λ (c : CodeRow). ArePacked c.slots) p.libraries (each_one p.libraries (all_unmapped (λ (c : RawCode). AllByRecursion IsPacked c.slots) raw_code p.libraries each))
  where
    each_one : (cs : List CodeRow) → AllByRecursion (λ (c : CodeRow). AllByRecursion IsPacked (map raw_slot c.slots)) cs → AllByRecursion (λ (c : CodeRow). ArePacked c.slots) cs
    each_one [] h = tt
    each_one (c ∷ cs) h = (slots_packed c.slots h.0, each_one cs h.1)
