-- Where the rows of each owner and of each stack stand, and that they are listed under their numbers.
use Rattle.std.proofs.Common.{ℕ, zero, suc, ◌≡◌, ◌+◌, ◌-◌, ◌*◌, ◌<◌, List, [], ◌∷◌, ◌++◌, length, map, Some, None, option_map, unwrap_or, slice_get, slice_index_or, refl, sym, ap, ◌∙◌, subst, arith, length-append, append_assoc}
use Rattle.std.proofs.lemmas.List.{length-map, append-nil}
use Rattle.std.proofs.lemmas.Option.{slice_get-map, slice_get_within}
use Rattle.ct_entry.specs.declared.rows.Entry.{Entry}
use Rattle.ct_entry.specs.declared.rows.Gate.{Gate}
use Rattle.ct_entry.specs.declared.rows.Owner.{Owner}
use Rattle.ct_entry.specs.declared.rows.Owner.TheVariants.{Compartment, Library}
use Rattle.def_profile.specs.declared.layout.TheConstants.{SLOT_SIZE, TABLE_HEAD, TABLE_ROW}
use Rattle.def_words.specs.declared.Cap.{Cap}
use Rattle.def_memory.specs.Granules.{plain}
use Rattle.def_reach.specs.Roots.{root_of, gate_for, listed_root, no_gate}
use Rattle.def_image.specs.declared.ImportRow.{ImportRow}
use Rattle.def_image.specs.declared.SlotKind.{SlotKind}
use Rattle.def_image.specs.declared.SlotKind.TheVariants as slot
use Rattle.def_image.specs.Parts.{SlotRow, GateRow, CodeRow, CompartmentRow, ThreadRow, PartsRow}
use Rattle.def_image.specs.Sizes.{sum_of}
use Rattle.def_image.specs.Members.{no_code, no_compartment, compartment, library, compartment_entries, library_entries, first_library, first_stack, code_number, globals_number, library_number, stack_number, gate_address, gate_number, library_gate_number}
use Rattle.def_boot.specs.Entries.{slot_entry, slot_rows, code_row, globals_row, export_row, export_rows, compartment_rows, library_export_row, library_rows, stack_row, rows_from, entry_rows}
use Rattle.def_boot.specs.Gates.{gate, gates_of, entries_of}
use Rattle.def_boot.specs.Made.{entry_cap, entry_caps, caps_at_boot}
use Rattle.def_boot.specs.Rows.{HasRow, HasCompartment, HasLibrary, HasStack, slot_row_at, slot_number, library_slot_number}
use Rattle.law_boot.proofs.Blocks.{before, further, number_low, number_next, block_there, blocks_past, IsCounted}
use Rattle.law_boot.proofs.Gates.{own_none, own_gate, shared_none, shared_gate, stack_gate}

-- ---- slots and exports

pub slot_owner : (p : PartsRow) (o : Owner) (at : ℕ) (r : ImportRow) (k : SlotKind) → (slot_entry p o at r k).owner ≡ o
slot_owner p o at r slot.Service = refl
slot_owner p o at r slot.Device = refl
slot_owner p o at r slot.Shared = refl
slot_owner p o at r slot.Sealed = refl
slot_owner p o at r slot.Call = refl
slot_owner p o at r slot.Library = refl
slot_owner p o at r slot.Quota = refl
slot_owner p o at r slot.Key = refl

pub slots_count : (p : PartsRow) (o : Owner) (at : ℕ) (ss : List SlotRow) → length (slot_rows p o at ss) ≡ length ss
slots_count p o at [] = refl
slots_count p o at (s ∷ ss) = ap suc (slots_count p o (at + SLOT_SIZE) ss)

slots_there : (p : PartsRow) (o : Owner) (at : ℕ) (ss : List SlotRow) (j : ℕ) (s : SlotRow) → slice_get ss j ≡ Some s
    → slice_get (slot_rows p o at ss) j ≡ Some (slot_entry p o (at + SLOT_SIZE * j) s.row s.row.kind)
slots_there p o at [] j s is = cc
slots_there p o at (r ∷ rs) zero s is =
    let same : r ≡ s = cc in
    let place : at ≡ at + SLOT_SIZE * 0 = omega arith in
    ap (λ q. Some (slot_entry p o q r.row r.row.kind)) place ∙ ap (λ (z : SlotRow). Some (slot_entry p o (at + SLOT_SIZE * 0) z.row z.row.kind)) same
slots_there p o at (r ∷ rs) (suc j) s is =
    let place : at + SLOT_SIZE + SLOT_SIZE * j ≡ at + SLOT_SIZE * suc j = omega arith in
    slots_there p o (at + SLOT_SIZE) rs j s is ∙ ap (λ q. Some (slot_entry p o q s.row s.row.kind)) place

pub exports_count : (b at : ℕ) (xs : List GateRow) → length (export_rows b at xs) ≡ length xs
exports_count b at [] = refl
exports_count b at (x ∷ xs) = ap suc (exports_count b (at + TABLE_ROW) xs)

exports_there : (b at : ℕ) (xs : List GateRow) (j : ℕ) (x : GateRow) → slice_get xs j ≡ Some x → slice_get (export_rows b at xs) j ≡ Some (export_row b (at + TABLE_ROW * j))
exports_there b at [] j x is = cc
exports_there b at (y ∷ ys) zero x is = let place : at ≡ at + TABLE_ROW * 0 = omega arith in ap (λ q. Some (export_row b q)) place
exports_there b at (y ∷ ys) (suc j) x is =
    let place : at + TABLE_ROW + TABLE_ROW * j ≡ at + TABLE_ROW * suc j = omega arith in
    exports_there b (at + TABLE_ROW) ys j x is ∙ ap (λ q. Some (export_row b q)) place

-- ---- an owner's rows

own_count : (p : PartsRow) → IsCounted (compartment_rows p) compartment_entries
own_count p b c =
    let both = length-append (slot_rows p (Compartment b) c.code.base c.code.slots) (export_rows b (c.table + TABLE_HEAD) c.code.exports) in
    let slots = slots_count p (Compartment b) c.code.base c.code.slots in
    let exports = exports_count b (c.table + TABLE_HEAD) c.code.exports in
    omega (arith, both, slots, exports)

own_slot : (p : PartsRow) (b : ℕ) (c : CompartmentRow) (j : ℕ) (s : SlotRow) → slice_get c.code.slots j ≡ Some s
    → slice_get (compartment_rows p b c) (2 + j) ≡ Some (slot_row_at p (Compartment b) c.code j s.row)
own_slot p b c j s is =
    let place : 2 + j ≡ suc (suc j) = omega arith in
    let size = slots_count p (Compartment b) c.code.base c.code.slots in
    let few = slice_get_within c.code.slots j s is in
    ap (λ i. slice_get (compartment_rows p b c) i) place
    ∙ before (slot_rows p (Compartment b) c.code.base c.code.slots) (export_rows b (c.table + TABLE_HEAD) c.code.exports) j (omega (arith, size, few))
    ∙ slots_there p (Compartment b) c.code.base c.code.slots j s is

own_export : (p : PartsRow) (b : ℕ) (c : CompartmentRow) (j : ℕ) (x : GateRow) → slice_get c.code.exports j ≡ Some x
    → slice_get (compartment_rows p b c) (2 + length c.code.slots + j) ≡ Some (export_row b (gate_address c j))
own_export p b c j x is =
    let size = slots_count p (Compartment b) c.code.base c.code.slots in
    let place : 2 + length c.code.slots + j ≡ suc (suc (length (slot_rows p (Compartment b) c.code.base c.code.slots) + j)) = omega (arith, size) in
    ap (λ i. slice_get (compartment_rows p b c) i) place
    ∙ further (slot_rows p (Compartment b) c.code.base c.code.slots) (export_rows b (c.table + TABLE_HEAD) c.code.exports) j
    ∙ exports_there b (c.table + TABLE_HEAD) c.code.exports j x is

library_count_is : (p : PartsRow) → IsCounted (library_rows p) library_entries
library_count_is p l c =
    let both = length-append (slot_rows p (Library l) c.base c.slots) (map (λ (x : GateRow). library_export_row l c) c.exports) in
    let slots = slots_count p (Library l) c.base c.slots in
    let exports = length-map c.exports (λ (x : GateRow). library_export_row l c) in
    omega (arith, both, slots, exports)

library_slot : (p : PartsRow) (l : ℕ) (c : CodeRow) (j : ℕ) (s : SlotRow) → slice_get c.slots j ≡ Some s
    → slice_get (library_rows p l c) (1 + j) ≡ Some (slot_row_at p (Library l) c j s.row)
library_slot p l c j s is =
    let place : 1 + j ≡ suc j = omega arith in
    let size = slots_count p (Library l) c.base c.slots in
    let few = slice_get_within c.slots j s is in
    ap (λ i. slice_get (library_rows p l c) i) place
    ∙ before (slot_rows p (Library l) c.base c.slots) (map (λ (x : GateRow). library_export_row l c) c.exports) j (omega (arith, size, few))
    ∙ slots_there p (Library l) c.base c.slots j s is

library_export : (p : PartsRow) (l : ℕ) (c : CodeRow) (j : ℕ) (x : GateRow) → slice_get c.exports j ≡ Some x
    → slice_get (library_rows p l c) (1 + length c.slots + j) ≡ Some (library_export_row l c)
library_export p l c j x is =
    let size = slots_count p (Library l) c.base c.slots in
    let place : 1 + length c.slots + j ≡ suc (length (slot_rows p (Library l) c.base c.slots) + j) = omega (arith, size) in
    ap (λ i. slice_get (library_rows p l c) i) place
    ∙ further (slot_rows p (Library l) c.base c.slots) (map (λ (x : GateRow). library_export_row l c) c.exports) j
    ∙ slice_get-map (λ (x : GateRow). library_export_row l c) c.exports j
    ∙ ap (λ o. option_map (λ (x : GateRow). library_export_row l c) o) is

pub stack_count_is : IsCounted (λ t x. stack_row t x ∷ []) (λ (x : ThreadRow). 1)
stack_count_is t x = refl

-- ---- among all rows

abbrev three_lists : PartsRow → List Entry
three_lists p =
    rows_from (compartment_rows p) 0 p.compartments
    ++ (rows_from (library_rows p) 0 p.libraries
    ++ (rows_from (λ t x. stack_row t x ∷ []) 0 p.threads ++ []))

pub rows_are : (p : PartsRow) → entry_rows p ≡ three_lists p
unfolding entry_rows
rows_are p =
    let stacks = rows_from (λ t x. stack_row t x ∷ []) 0 p.threads in
    append_assoc (rows_from (compartment_rows p) 0 p.compartments) (rows_from (library_rows p) 0 p.libraries) stacks
    ∙ ap (λ rows. rows_from (compartment_rows p) 0 p.compartments ++ (rows_from (library_rows p) 0 p.libraries ++ rows))
    (sym (append-nil stacks))

own_row : (p : PartsRow) (b : ℕ) (c : CompartmentRow) (j m : ℕ) → slice_get p.compartments b ≡ Some c → j < compartment_entries c → 1 + m ≡ code_number p b + j
    → slice_get (entry_rows p) m ≡ slice_get (compartment_rows p b c) j
own_row p b c j m is lt at =
    let index : 0 + b ≡ b = omega arith in
    ap (λ rows. slice_get rows m) (rows_are p)
    ∙ block_there (compartment_rows p) compartment_entries (own_count p) 0 1 p.compartments
    (rows_from (library_rows p) 0 p.libraries ++ (rows_from (λ t x. stack_row t x ∷ []) 0 p.threads ++ [])) b c j m is lt at
    ∙ ap (λ i. slice_get (compartment_rows p i c) j) index

after_own : (p : PartsRow) (m q : ℕ) → m ≡ sum_of compartment_entries p.compartments + q
    → slice_get (entry_rows p) m ≡ slice_get (rows_from (library_rows p) 0 p.libraries ++ (rows_from (λ t x. stack_row t x ∷ []) 0 p.threads ++ [])) q
after_own p m q at =
    ap (λ rows. slice_get rows m) (rows_are p)
    ∙ blocks_past (compartment_rows p) compartment_entries (own_count p) 0 p.compartments
    (rows_from (library_rows p) 0 p.libraries ++ (rows_from (λ t x. stack_row t x ∷ []) 0 p.threads ++ [])) m q at

library_row : (p : PartsRow) (l : ℕ) (c : CodeRow) (j m : ℕ) → slice_get p.libraries l ≡ Some c → j < library_entries c → 1 + m ≡ library_number p l + j
    → slice_get (entry_rows p) m ≡ slice_get (library_rows p l c) j
library_row p l c j m is lt at =
    let index : 0 + l ≡ l = omega arith in
    let low = number_low library_entries (first_library p) p.libraries l c is in
    let own = sum_of compartment_entries p.compartments in
    let place : m ≡ own + (m - own) = omega (arith, at, low) in
    after_own p m (m - own) place
    ∙ block_there (library_rows p) library_entries (library_count_is p) 0 (first_library p) p.libraries
    (rows_from (λ t x. stack_row t x ∷ []) 0 p.threads ++ []) l c j (m - own) is lt (omega (arith, at, low))
    ∙ ap (λ i. slice_get (library_rows p i c) j) index

pub after_libraries : (p : PartsRow) (m q : ℕ) → 1 + m ≡ first_stack p + q → slice_get (entry_rows p) m ≡ slice_get (rows_from (λ t x. stack_row t x ∷ []) 0 p.threads ++ []) q
after_libraries p m q at =
    let own = sum_of compartment_entries p.compartments in
    let shared = sum_of library_entries p.libraries in
    let place : m ≡ own + (shared + q) = omega (arith, at) in
    after_own p m (shared + q) place
    ∙ blocks_past (library_rows p) library_entries (library_count_is p) 0 p.libraries (rows_from (λ t x. stack_row t x ∷ []) 0 p.threads ++ []) (shared + q) q refl

thread_row : (p : PartsRow) (t : ℕ) (x : ThreadRow) (m : ℕ) → slice_get p.threads t ≡ Some x → 1 + m ≡ stack_number p t → slice_get (entry_rows p) m ≡ Some (stack_row t x)
thread_row p t x m is at =
    let index : 0 + t ≡ t = omega arith in
    let low = number_low (λ (y : ThreadRow). 1) (first_stack p) p.threads t x is in
    let q = 1 + m - first_stack p in
    after_libraries p m q (omega (arith, at, low))
    ∙ block_there (λ t x. stack_row t x ∷ []) (λ (y : ThreadRow). 1) stack_count_is 0 (first_stack p) p.threads [] t x 0 q is (omega arith) (omega (arith, at, low))
    ∙ ap (λ i. Some (stack_row i x)) index

-- ---- what boot makes

pub made_there : (p : PartsRow) (n : ℕ) (rows : List Entry) (m : ℕ) (r : Entry) (d : Cap) → slice_get rows m ≡ Some r → slice_index_or (entry_caps p n rows) m d ≡ entry_cap p (n + m) r r.kind
made_there p n [] m r d is = cc
made_there p n (x ∷ xs) zero r d is =
    let same : x ≡ r = cc in
    let sum : n ≡ n + 0 = omega arith in
    ap (λ (y : Entry). entry_cap p n y y.kind) same ∙ ap (λ k. entry_cap p k r r.kind) sum
made_there p n (x ∷ xs) (suc m) r d is =
    let next : n + 1 + m ≡ n + suc m = omega arith in
    made_there p (n + 1) xs m r d is ∙ ap (λ k. entry_cap p k r r.kind) next

pub made_past : (p : PartsRow) (n : ℕ) (rows : List Entry) (m : ℕ) (d : Cap) → slice_get rows m ≡ None → slice_index_or (entry_caps p n rows) m d ≡ d
made_past p n [] m d is = refl
made_past p n (x ∷ xs) zero d is = cc
made_past p n (x ∷ xs) (suc m) d is = made_past p (n + 1) xs m d is

has_row : (p : PartsRow) (n m : ℕ) (r : Entry) (g : Gate) → n ≡ suc m → slice_get (entry_rows p) m ≡ Some r → gate_for (gates_of p) n ≡ g → HasRow p n r g
unfolding root_of entries_of caps_at_boot
has_row p n m r g number there found =
    let sum : 1 + m ≡ suc m = omega arith in
    let P : ℕ → Type 0 = λ k. gate_for (gates_of p) k ≡ g → HasRow p k r g in
    subst P (sym number) (λ is. record {
      counted = omega arith;
      root_is = ap (λ o. listed_root o (gate_for (gates_of p) (suc m))) there ∙ ap (λ h. listed_root (Some r) h) is;
      gate_is = is;
      made_is = made_there p 1 (entry_rows p) m r (plain 0) there ∙ ap (λ k. entry_cap p k r r.kind) sum;
    }) found

-- ---- each owner has its rows

own_has : (p : PartsRow) (b : ℕ) (c : CompartmentRow) (j n : ℕ) (r : Entry) (g : Gate) → slice_get p.compartments b ≡ Some c → j < compartment_entries c → n ≡ code_number p b + j
    → slice_get (compartment_rows p b c) j ≡ Some r → gate_for (gates_of p) n ≡ g → HasRow p n r g
own_has p b c j n r g is lt at there found =
    let low = number_low compartment_entries 1 p.compartments b c is in
    has_row p n (n - 1) r g (omega (arith, at, low)) (own_row p b c j (n - 1) is lt (omega (arith, at, low)) ∙ there) found

library_has : (p : PartsRow) (l : ℕ) (c : CodeRow) (j n : ℕ) (r : Entry) (g : Gate) → slice_get p.libraries l ≡ Some c → j < library_entries c → n ≡ library_number p l + j
    → slice_get (library_rows p l c) j ≡ Some r → gate_for (gates_of p) n ≡ g → HasRow p n r g
library_has p l c j n r g is lt at there found =
    let low = number_low library_entries (first_library p) p.libraries l c is in
    has_row p n (n - 1) r g (omega (arith, at, low)) (library_row p l c j (n - 1) is lt (omega (arith, at, low)) ∙ there) found

pub gate_number_is : (p : PartsRow) (b : ℕ) (c : CompartmentRow) (j : ℕ) → slice_get p.compartments b ≡ Some c → gate_number p b j ≡ code_number p b + (2 + length c.code.slots + j)
gate_number_is p b c j is =
    let same : compartment p b ≡ c = ap (λ o. unwrap_or o no_compartment) is in
    ap (λ (d : CompartmentRow). code_number p b + 2 + length d.code.slots + j) same
    ∙ (let sum : code_number p b + 2 + length c.code.slots + j ≡ code_number p b + (2 + length c.code.slots + j) = omega arith in sum)

pub library_gate_number_is : (p : PartsRow) (l : ℕ) (c : CodeRow) (j : ℕ) → slice_get p.libraries l ≡ Some c → library_gate_number p l j ≡ library_number p l + (1 + length c.slots + j)
library_gate_number_is p l c j is =
    let same : library p l ≡ c = ap (λ o. unwrap_or o no_code) is in
    ap (λ (d : CodeRow). library_number p l + 1 + length d.slots + j) same
    ∙ (let sum : library_number p l + 1 + length c.slots + j ≡ library_number p l + (1 + length c.slots + j) = omega arith in sum)

pub compartment_of : (p : PartsRow) (b : ℕ) (c : CompartmentRow) → slice_get p.compartments b ≡ Some c → HasCompartment p b c
compartment_of p b c is =
    let next = number_next compartment_entries 1 p.compartments b c is in
    record {
      there = is;
      code = own_has p b c 0 (code_number p b) (code_row (Compartment b) c.code) no_gate is (omega arith) (omega arith) refl
          (own_none p b c 0 (code_number p b) is (omega arith) (omega arith));
      globals = own_has p b c 1 (globals_number p b) (globals_row b c) no_gate is (omega arith) next refl
          (own_none p b c 1 (globals_number p b) is (omega arith) next);
      next = next;
      slot = λ j s at.
          let few = slice_get_within c.code.slots j s at in
          own_has p b c (2 + j) (slot_number p b j) (slot_row_at p (Compartment b) c.code j s.row) no_gate is (omega (arith, few)) (omega arith) (own_slot p b c j s at)
          (own_none p b c (2 + j) (slot_number p b j) is (omega (arith, few)) (omega arith));
      export = λ j x at.
          let few = slice_get_within c.code.exports j x at in
          let number = gate_number_is p b c j is in
          own_has p b c (2 + length c.code.slots + j) (gate_number p b j) (export_row b (gate_address c j)) (gate (gate_number p b j) c.code x.row) is (omega (arith, few)) number (own_export p b c j x at)
          (own_gate p b c j (gate_number p b j) x is at few number);
    }

pub library_of : (p : PartsRow) (l : ℕ) (c : CodeRow) → slice_get p.libraries l ≡ Some c → HasLibrary p l c
library_of p l c is = record {
  there = is;
  code = library_has p l c 0 (library_number p l) (code_row (Library l) c) no_gate is (omega arith) (omega arith) refl
      (shared_none p l c 0 (library_number p l) is (omega arith) (omega arith));
  slot = λ j s at.
      let few = slice_get_within c.slots j s at in
      library_has p l c (1 + j) (library_slot_number p l j) (slot_row_at p (Library l) c j s.row) no_gate is (omega (arith, few)) (omega arith) (library_slot p l c j s at)
      (shared_none p l c (1 + j) (library_slot_number p l j) is (omega (arith, few)) (omega arith));
  export = λ j x at.
      let few = slice_get_within c.exports j x at in
      let number = library_gate_number_is p l c j is in
      library_has p l c (1 + length c.slots + j) (library_gate_number p l j) (library_export_row l c) (gate (library_gate_number p l j) c x.row) is (omega (arith, few)) number (library_export p l c j x at)
      (shared_gate p l c j (library_gate_number p l j) x is at few number);
}

pub stack_of : (p : PartsRow) (t : ℕ) (x : ThreadRow) → slice_get p.threads t ≡ Some x → HasStack p t x
stack_of p t x is =
    let low = number_low (λ (y : ThreadRow). 1) (first_stack p) p.threads t x is in
    record {
      there = is;
      row = has_row p (stack_number p t) (stack_number p t - 1) (stack_row t x) no_gate (omega (arith, low)) (thread_row p t x (stack_number p t - 1) is (omega (arith, low)))
          (stack_gate p (stack_number p t) low);
    }
