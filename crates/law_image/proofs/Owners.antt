-- What the limits of an image's fields say of compartments and libraries, their slots and their exports.
use Rattle.std.proofs.Common.{ℕ, ◌≡◌, ◌+◌, ◌*◌, ◌<◌, ◌≤◌, ◌^◌, ◌%◌, ◌||◌, not, Bool, true, false, nat_le, nat_lt, nat_eq, List, [], ◌++◌, length, map, take, Some, None, slice_get, refl, sym, ap, ◌∙◌, subst, arith, inl, inr}
use Rattle.std.proofs.lemmas.List.{length-map}
use Rattle.std.proofs.lemmas.Bool.{not-false, ltb-false, eqb-true, or_parts}
use Rattle.def_profile.specs.declared.limits.TheConstants.{MOST_BYTES}
use Rattle.law_lists.proofs.Tests.{le_tells}
use Rattle.ct_entry.specs.declared.rows.Mode.{Mode}
use Rattle.ct_entry.specs.declared.rows.Mode.TheVariants.{Inherit, Disabled, Enabled}
use Rattle.def_image.specs.declared.ImportRow.{ImportRow}
use Rattle.def_image.specs.declared.ExportRow.{ExportRow}
use Rattle.def_image.specs.declared.format.TheConstants.{ENTRY, COMPARTMENT_HEAD, LIBRARY_HEAD}
use Rattle.def_image.specs.Parts.{SlotRow, GateRow, CodeRow, CompartmentRow, PartsRow}
use Rattle.def_image.specs.Spelling.{raw_of, raw_slot, raw_gate, raw_compartment, raw_code, import_field, export_field, kind_byte, posture_byte, passes_byte}
use Rattle.def_image.specs.Shapes.{SpellableSlot, SpellableGate}
use Rattle.def_image.specs.Sizes.{sum_of, compartment_size, library_size, compartments_at, libraries_at, entries_size}
use Rattle.def_image.specs.Profile.{outside}
use Rattle.def_image.specs.Checks.{first, walked}
use Rattle.def_image.specs.Limits as lim
use Rattle.def_image.specs.Limits.{name_checks, code_limits, row_limits, gate_limits, own_slot_limits, slot_limits, export_limits, own_numbers, compartment_limits, compartment_limits_by, library_numbers, library_limits, library_limits_by, Bounds, compartment_bounds, library_bounds, misnumbered, is_misnamed, is_unnamed_key, entry_name}
use Rattle.def_image.specs.Members as mem
use Rattle.def_image.specs.Sound.{IsWithin, CodeFits, ExportFits, LibraryExportFits}
use Rattle.law_image.proofs.Tells.{within_is}
use Rattle.law_image.proofs.Passing.{left_none, all_pass}
use Rattle.law_image.proofs.Members.{taken, sum_map, number_is}
use Rattle.law_image.proofs.Rows.{first_at, offset_at, stack_at, entry_at}
use Rattle.law_image.proofs.Holding.{Limited, compartment_holds, library_holds}
use Rattle.law_image.proofs.Limited.{asked_of}

-- ---- rows

row_numbered : (at : ℕ) (r : ImportRow) → r.first < 2 ^ 32 → first (row_limits at (import_field r)) ≡ None → misnumbered (kind_byte r.kind) r.first ≡ false
unfolding row_limits
row_numbered at r small e =
    let h = all_pass (row_limits at (import_field r)) e in
    subst (λ n. misnumbered (kind_byte r.kind) n ≡ false) (first_at r small) h.1.1.1.0

pub record GateLimited (b : Bounds) (text entry : ℕ) (x : ExportRow) : Type 0 where
  pub even : x.offset % 4 ≡ 0
  pub inside : x.offset < text
  pub stack : x.stack ≤ b.stack
  pub args : x.args ≤ b.args
  pub posture : outside b.posture 3 (posture_byte x.posture) ≡ false
  pub passes : outside 1 b.passes (passes_byte x.capabilities) ≡ false
  pub entry_is : x.entry ≡ entry

le_not : (a b : ℕ) → nat_le a b ≡ false → b < a
le_not a b e = elim (le_tells a b) [ inl h ↦ absurd (let no_way : true ≡ false = sym h.0 ∙ e in cc) | inr h ↦ h.1 ]

gate_limited : (b : Bounds) (text entry at : ℕ) (x : ExportRow) → x.offset < 2 ^ 32 → x.stack < 2 ^ 32 → x.entry < 2 ^ 32 → first (gate_limits b text entry at (export_field x)) ≡ None → GateLimited b text entry x
unfolding gate_limits
gate_limited b text entry at x so ss se e =
    let h = all_pass (gate_limits b text entry at (export_field x)) e in
    let place = subst (λ n. (not (nat_eq (n % 4) 0) || nat_le text n) ≡ false) (offset_at x so) h.0 in
    record {
      even = eqb-true (x.offset % 4) 0 (not-false (nat_eq (x.offset % 4) 0) (or_parts (not (nat_eq (x.offset % 4) 0)) (nat_le text x.offset) place).0);
      inside = le_not text x.offset (or_parts (not (nat_eq (x.offset % 4) 0)) (nat_le text x.offset) place).1;
      stack = ltb-false b.stack x.stack (subst (λ n. nat_lt b.stack n ≡ false) (stack_at x ss) h.1.0);
      args = ltb-false b.args x.args h.1.1.0;
      posture = h.1.1.1.0;
      passes = h.1.1.1.1.0;
      entry_is = eqb-true x.entry entry (not-false (nat_eq x.entry entry) (subst (λ n. not (nat_eq n entry) ≡ false) (entry_at x se) h.1.1.1.1.1.1.0));
    }

-- ---- slots and exports in their lists

pub own_numbered : (at : ℕ) (slots : List SlotRow) → first (walked own_slot_limits (λ s. ENTRY) at [] (map raw_slot slots)) ≡ None → (j : ℕ) (s : SlotRow) → slice_get slots j ≡ Some s → SpellableSlot s
    → misnumbered (kind_byte s.row.kind) s.row.first ≡ false
unfolding own_slot_limits
own_numbered at slots e j s is small =
    let a = asked_of raw_slot own_slot_limits (λ s. ENTRY) at slots e j s is in
    let earlier = map raw_slot (take j slots) in
    let names = name_checks (a.0 + 16) (is_misnamed earlier (raw_slot s)) (map entry_name earlier) (raw_slot s).name in
    row_numbered a.0 s.row small.1 (left_none (row_limits a.0 (import_field s.row)) names a.1)

pub slot_numbered : (at : ℕ) (slots : List SlotRow) → first (walked slot_limits (λ s. ENTRY) at [] (map raw_slot slots)) ≡ None → (j : ℕ) (s : SlotRow) → slice_get slots j ≡ Some s → SpellableSlot s
    → misnumbered (kind_byte s.row.kind) s.row.first ≡ false
unfolding slot_limits
slot_numbered at slots e j s is small =
    let a = asked_of raw_slot slot_limits (λ s. ENTRY) at slots e j s is in
    let earlier = map raw_slot (take j slots) in
    let names = name_checks (a.0 + 16) (is_unnamed_key (raw_slot s)) (map entry_name earlier) (raw_slot s).name in
    row_numbered a.0 s.row small.1 (left_none (row_limits a.0 (import_field s.row)) names a.1)

pub gate_numbered : (b : Bounds) (text entry at : ℕ) (gates : List GateRow) → first (walked (export_limits b text entry) (λ x. ENTRY) at [] (map raw_gate gates)) ≡ None → (j : ℕ) (x : GateRow) → slice_get gates j ≡ Some x
    → SpellableGate x → GateLimited b text (entry + j) x.row
unfolding export_limits
gate_numbered b text entry at gates e j x is small =
    let a = asked_of raw_gate (export_limits b text entry) (λ x. ENTRY) at gates e j x is in
    let earlier = map raw_gate (take j gates) in
    let names = name_checks (a.0 + 16) false (map entry_name earlier) (raw_gate x).name in
    let count : length earlier ≡ j = length-map (take j gates) raw_gate ∙ taken gates j x is in
    let own = left_none (gate_limits b text (entry + length earlier) a.0 (export_field x.row)) names a.1 in
    gate_limited b text (entry + j) a.0 x.row small.1 small.2 small.3 (subst (λ n. first (gate_limits b text (entry + n) a.0 (export_field x.row)) ≡ None) count own)

-- ---- owners

pub record CompartmentLimited (c : CompartmentRow) (entry : ℕ) : Type 0 where
  pub code : CodeFits c.code
  pub slots : IsWithin 1 148 (length c.code.slots)
  pub globals : IsWithin 16 MOST_BYTES c.globals_length
  pub initial : length c.initial ≤ c.globals_length
  pub slot : (j : ℕ) (s : SlotRow) → slice_get c.code.slots j ≡ Some s → SpellableSlot s → misnumbered (kind_byte s.row.kind) s.row.first ≡ false
  pub export : (j : ℕ) (x : GateRow) → slice_get c.code.exports j ≡ Some x → SpellableGate x → GateLimited compartment_bounds (length c.code.text) (entry + 2 + length c.code.slots + j) x.row

code_fits : (at : ℕ) (c : CodeRow) → first (code_limits at (raw_code c)) ≡ None → length c.exports ≤ 64 → CodeFits c
code_fits at c e few =
    let h = all_pass (code_limits at (raw_code c)) e in
    let slots : length (map raw_slot c.slots) ≡ length c.slots = length-map c.slots raw_slot in
    let fits = ltb-false c.length (8 * length (map raw_slot c.slots) + length c.text) h.0 in
    let words = nat_eq (length c.text % 4) 0 in
    let long = nat_lt MOST_BYTES (length c.text) in
    record {
      fits = subst (λ n. 8 * n + length c.text ≤ c.length) slots fits;
      words = eqb-true (length c.text % 4) 0 (not-false words (or_parts long (not words) h.1.0).1);
      text = ltb-false MOST_BYTES (length c.text) (or_parts long (not words) h.1.0).0;
      exports = few;
    }

compartment_limited_by : (c : CompartmentRow) (entry at : ℕ) (seen : List (List ℕ)) → first (compartment_limits_by entry at seen (raw_compartment c)) ≡ None → CompartmentLimited c entry
compartment_limited_by c entry at seen e =
    let r = raw_compartment c in
    let h = compartment_holds entry at seen r e in
    let each = all_pass (own_numbers at r) h.numbers in
    let slots : length r.code.slots ≡ length c.code.slots = length-map c.code.slots raw_slot in
    let exports : length r.code.exports ≡ length c.code.exports = length-map c.code.exports raw_gate in
    record {
      code = code_fits at c.code h.code (subst (λ n. n ≤ 64) exports (ltb-false 64 (length r.code.exports) each.1.1.1.0));
      slots = within_is 1 148 (length c.code.slots) (subst (λ n. outside 1 148 n ≡ false) slots each.1.1.0);
      globals = within_is 16 MOST_BYTES c.globals_length each.0;
      initial = ltb-false c.globals_length (length c.initial) (or_parts (nat_lt MOST_BYTES (length c.initial)) (nat_lt c.globals_length (length c.initial)) each.1.0).1;
      slot = λ j s is small. own_numbered (at + COMPARTMENT_HEAD) c.code.slots h.slots j s is small;
      export = λ j x is small. subst (λ n. GateLimited compartment_bounds (length c.code.text) (entry + 2 + n + j) x.row) slots
          (gate_numbered compartment_bounds (length c.code.text) (entry + 2 + length r.code.slots) (at + COMPARTMENT_HEAD + entries_size r.code.slots) c.code.exports h.gates j x is small);
    }

pub compartment_limited : (p : PartsRow) → Limited (raw_of p) → (b : ℕ) (c : CompartmentRow) → slice_get p.compartments b ≡ Some c → CompartmentLimited c (mem.code_number p b)
unfolding raw_of
compartment_limited p h b c is =
    let a = asked_of raw_compartment compartment_limits compartment_size (compartments_at (raw_of p)) p.compartments h.compartments b c is in
    let sums : sum_of lim.raw_compartment_entries (map raw_compartment (take b p.compartments)) ≡ sum_of mem.compartment_entries (take b p.compartments) =
    sum_map lim.raw_compartment_entries raw_compartment mem.compartment_entries (take b p.compartments) (λ x. counts x) in
    let entry : 1 + sum_of lim.raw_compartment_entries (map raw_compartment (take b p.compartments)) ≡ mem.code_number p b = ap (λ n. 1 + n) sums ∙ sym (number_is mem.compartment_entries 1 p.compartments b c is) in
    subst (λ n. CompartmentLimited c n) entry (compartment_limited_by c (1 + sum_of lim.raw_compartment_entries (map raw_compartment (take b p.compartments))) a.0 (map lim.compartment_name (map raw_compartment (take b p.compartments))) a.1)
  where
    counts : (x : CompartmentRow) → lim.raw_compartment_entries (raw_compartment x) ≡ mem.compartment_entries x
    counts x = let s = length-map x.code.slots raw_slot in let e = length-map x.code.exports raw_gate in omega (arith, s, e)

pub record LibraryLimited (c : CodeRow) (entry : ℕ) : Type 0 where
  pub code : CodeFits c
  pub slots : length c.slots ≤ 128
  pub slot : (j : ℕ) (s : SlotRow) → slice_get c.slots j ≡ Some s → SpellableSlot s → misnumbered (kind_byte s.row.kind) s.row.first ≡ false
  pub export : (j : ℕ) (x : GateRow) → slice_get c.exports j ≡ Some x → SpellableGate x → GateLimited library_bounds (length c.text) (entry + 1 + length c.slots + j) x.row

library_limited_by : (c : CodeRow) (entry at : ℕ) (seen : List (List ℕ)) → first (library_limits_by entry at seen (raw_code c)) ≡ None → LibraryLimited c entry
library_limited_by c entry at seen e =
    let r = raw_code c in
    let h = library_holds entry at seen r e in
    let each = all_pass (library_numbers at r) h.numbers in
    let slots : length r.slots ≡ length c.slots = length-map c.slots raw_slot in
    let exports : length r.exports ≡ length c.exports = length-map c.exports raw_gate in
    record {
      code = code_fits at c h.code (subst (λ n. n ≤ 64) exports (ltb-false 64 (length r.exports) each.1.0));
      slots = subst (λ n. n ≤ 128) slots (ltb-false 128 (length r.slots) each.0);
      slot = λ j s is small. slot_numbered (at + LIBRARY_HEAD) c.slots h.slots j s is small;
      export = λ j x is small. subst (λ n. GateLimited library_bounds (length c.text) (entry + 1 + n + j) x.row) slots
          (gate_numbered library_bounds (length c.text) (entry + 1 + length r.slots) (at + LIBRARY_HEAD + entries_size r.slots) c.exports h.gates j x is small);
    }

pub library_limited : (p : PartsRow) → Limited (raw_of p) → (l : ℕ) (c : CodeRow) → slice_get p.libraries l ≡ Some c → LibraryLimited c (mem.library_number p l)
unfolding raw_of
library_limited p h l c is =
    let a = asked_of raw_code (library_limits (raw_of p)) library_size (libraries_at (raw_of p)) p.libraries h.libraries l c is in
    let before : sum_of lim.raw_compartment_entries (map raw_compartment p.compartments) ≡ sum_of mem.compartment_entries p.compartments =
    sum_map lim.raw_compartment_entries raw_compartment mem.compartment_entries p.compartments (λ x. owned x) in
    let sums : sum_of lim.raw_library_entries (map raw_code (take l p.libraries)) ≡ sum_of mem.library_entries (take l p.libraries) =
    sum_map lim.raw_library_entries raw_code mem.library_entries (take l p.libraries) (λ x. counts x) in
    let number = number_is mem.library_entries (mem.first_library p) p.libraries l c is in
    let entry : 1 + sum_of lim.raw_compartment_entries (map raw_compartment p.compartments) + sum_of lim.raw_library_entries (map raw_code (take l p.libraries)) ≡ mem.library_number p l =
    ap (λ n. 1 + n + sum_of lim.raw_library_entries (map raw_code (take l p.libraries))) before ∙ ap (λ n. mem.first_library p + n) sums ∙ sym number in
    subst (λ n. LibraryLimited c n) entry (library_limited_by c (1 + sum_of lim.raw_compartment_entries (map raw_compartment p.compartments) + sum_of lim.raw_library_entries (map raw_code (take l p.libraries))) a.0
    (map lim.compartment_name (map raw_compartment p.compartments) ++ map lim.library_name (map raw_code (take l p.libraries))) a.1)
  where
    owned : (x : CompartmentRow) → lim.raw_compartment_entries (raw_compartment x) ≡ mem.compartment_entries x
    owned x = let s = length-map x.code.slots raw_slot in let e = length-map x.code.exports raw_gate in omega (arith, s, e)

    counts : (x : CodeRow) → lim.raw_library_entries (raw_code x) ≡ mem.library_entries x
    counts x = let s = length-map x.slots raw_slot in let e = length-map x.exports raw_gate in omega (arith, s, e)

-- ---- exports as they fit

posture_not : (m : Mode) → outside 2 3 (posture_byte m) ≡ false → m ≡ Inherit → ⊥
posture_not Inherit e is = absurd (let clash : true ≡ false = e in cc)
posture_not Disabled e is = cc
posture_not Enabled e is = cc

passes_all : (b : Bool) → outside 1 1 (passes_byte b) ≡ false → b ≡ true
passes_all true e = refl
passes_all false e = absurd (let clash : true ≡ false = e in cc)

pub export_fits : (c : CodeRow) (n : ℕ) (x : ExportRow) → GateLimited compartment_bounds (length c.text) n x → ExportFits c n x
export_fits c n x h = record {
  offset = record { even = h.even; inside = h.inside };
  stack = h.stack;
  args = h.args;
  posture = posture_not x.posture h.posture;
  entry = h.entry_is;
}

pub library_export_fits : (c : CodeRow) (n : ℕ) (x : ExportRow) → GateLimited library_bounds (length c.text) n x → LibraryExportFits c n x
library_export_fits c n x h = record {
  offset = record { even = h.even; inside = h.inside };
  stack = (let le = h.stack in omega (arith, le));
  args = (let le = h.args in omega (arith, le));
  capabilities = passes_all x.capabilities h.passes;
  entry = h.entry_is;
}
