-- Compartments and libraries of what is linked keep the limits of an image.
use Rattle.std.proofs.Common.{ℕ, suc, ◌≡◌, ◌+◌, ◌*◌, ◌%◌, ◌<◌, ◌≤◌, ◌==◌, ◌||◌, not, true, false, nat_lt, List, [], ◌∷◌, ◌++◌, length, map, drop, None, refl, sym, ap, ap₂, ◌∙◌, subst, arith}
use Rattle.std.specs.List.{AllByRecursion}
use Rattle.std.proofs.lemmas.List.{length-map}
use Rattle.std.proofs.lemmas.Bool.{le-ltb, eq-eqb}
use Rattle.def_profile.specs.declared.limits.TheConstants.{MOST_BYTES}
use Rattle.def_texts.specs.Names.{is_name, among}
use Rattle.def_image.specs.declared.format.TheConstants.{ENTRY, COMPARTMENT_HEAD, LIBRARY_HEAD}
use Rattle.def_image.specs.Parts.{SlotRow, GateRow, CodeRow as CodePart, CompartmentRow as CompartmentPart}
use Rattle.def_image.specs.Spelling.{padding_after, raw_slot, raw_gate, raw_code, raw_compartment}
use Rattle.def_image.specs.Sizes.{entries_size, tables_size}
use Rattle.def_image.specs.Profile.{outside}
use Rattle.def_image.specs.Checks.{first, walked, check}
use Rattle.def_image.specs.Limits.{name_checks, code_limits, own_slot_limits, slot_limits, export_limits, own_numbers, own_slots_limits, own_gates, dirty_padding, library_numbers, slots_limits, library_gate_checks, exports_limits, compartment_limits_by, library_limits_by, Bounds, compartment_bounds, library_bounds, entry_name, are_zeros, switch_name}
use Rattle.def_image.specs.Sound.{IsWithin}
use Rattle.law_link.proofs.Walks.{next_none}
use Rattle.law_link.proofs.Fields.{inside, zeros_are, name_passes}
use Rattle.law_link.proofs.Along.{walk_along, along_both, along_all, along_new, along_more}
use Rattle.law_link.proofs.Rows.{SlotGood, GateGood, slot_name_back, gate_name_back, first_slot_passes, own_slot_passes, slot_passes, gate_passes}
use Rattle.law_link.proofs.Slots.{title, OwnSlots, LibrarySlots}
use Rattle.law_link.proofs.Gates.{gate_title, Gates}
use Rattle.law_image.proofs.Passing.{joined_none, one_none}

-- ---- lists of slots and exports

names_back : (slots : List SlotRow) → AllByRecursion SlotGood slots → AllByRecursion (λ s. entry_name (raw_slot s) ≡ title s) slots
unfolding title
names_back [] h = tt
names_back (s ∷ ss) h = (slot_name_back s h.0.named, names_back ss h.1)

own_slots_pass : (at : ℕ) (s : SlotRow) (rest : List SlotRow) → OwnSlots s rest → first (walked own_slot_limits (λ s. ENTRY) at [] (map raw_slot (s ∷ rest))) ≡ None
unfolding walked title
own_slots_pass at s rest h =
    let head : map entry_name (raw_slot s ∷ []) ≡ switch_name ∷ [] = ap (λ n. n ∷ []) (slot_name_back s h.head.named ∙ h.switch) in
    joined_none (own_slot_limits at [] (raw_slot s)) (walked own_slot_limits (λ s. ENTRY) (at + ENTRY) (raw_slot s ∷ []) (map raw_slot rest))
    (first_slot_passes at s h.head h.switch)
    (walk_along raw_slot (λ before x. (SlotGood x × (among (title x) (map entry_name before) ≡ false)) × ((k : ℕ) × (length before ≡ suc k))) own_slot_limits (λ s. ENTRY)
    (λ place before x k. own_slot_passes place before x k.0.0 k.0.1 k.1.0 k.1.1) (at + ENTRY) (raw_slot s ∷ []) rest
    (along_both raw_slot (λ before x. SlotGood x × (among (title x) (map entry_name before) ≡ false)) (λ before x. (k : ℕ) × (length before ≡ suc k)) (raw_slot s ∷ []) rest
    (along_both raw_slot (λ before x. SlotGood x) (λ before x. among (title x) (map entry_name before) ≡ false) (raw_slot s ∷ []) rest
    (along_all raw_slot SlotGood (raw_slot s ∷ []) rest h.each)
    (along_new raw_slot entry_name title (raw_slot s ∷ []) (switch_name ∷ []) rest head (names_back rest h.each) h.new))
    (along_more raw_slot [] (raw_slot s) rest)))

library_slots_pass : (at : ℕ) (slots : List SlotRow) → LibrarySlots slots → first (walked slot_limits (λ s. ENTRY) at [] (map raw_slot slots)) ≡ None
unfolding title
library_slots_pass at slots h =
    walk_along raw_slot (λ before x. SlotGood x × (among (title x) (map entry_name before) ≡ false)) slot_limits (λ s. ENTRY)
    (λ place before x k. slot_passes place before x k.0 k.1) at [] slots
    (along_both raw_slot (λ before x. SlotGood x) (λ before x. among (title x) (map entry_name before) ≡ false) [] slots
    (along_all raw_slot SlotGood [] slots h.each)
    (along_new raw_slot entry_name title [] [] slots refl (names_back slots h.each) h.new))

gate_names_back : (b : Bounds) (text : ℕ) (gates : List GateRow) → AllByRecursion (GateGood b text) gates → AllByRecursion (λ x. entry_name (raw_gate x) ≡ gate_title x) gates
unfolding gate_title
gate_names_back b text [] h = tt
gate_names_back b text (x ∷ xs) h = (gate_name_back x h.0.named, gate_names_back b text xs h.1)

gates_pass : (b : Bounds) (text entry at : ℕ) (gates : List GateRow) → Gates b text entry gates → first (walked (export_limits b text entry) (λ x. ENTRY) at [] (map raw_gate gates)) ≡ None
unfolding gate_title
gates_pass b text entry at gates h =
    walk_along raw_gate (λ before x. (GateGood b text x × (among (gate_title x) (map entry_name before) ≡ false)) × (x.row.entry ≡ entry + length before)) (export_limits b text entry) (λ x. ENTRY)
    (λ place before x k. gate_passes b text entry place before x k.0.0 k.0.1 k.1) at [] gates
    (along_both raw_gate (λ before x. GateGood b text x × (among (gate_title x) (map entry_name before) ≡ false)) (λ before (x : GateRow). x.row.entry ≡ entry + length before) [] gates
    (along_both raw_gate (λ before x. GateGood b text x) (λ before x. among (gate_title x) (map entry_name before) ≡ false) [] gates
    (along_all raw_gate (GateGood b text) [] gates h.each)
    (along_new raw_gate entry_name gate_title [] [] gates refl (gate_names_back b text gates h.each) h.new))
    h.numbered)

-- ---- a compartment

-- what is asked of code: slots and text fit its region
pub record CodeGood (c : CodePart) : Type 0 where
  pub named : is_name c.name ≡ true
  pub fits : 8 * length c.slots + length c.text ≤ c.length
  pub few : length c.text ≤ MOST_BYTES
  pub words : length c.text % 4 ≡ 0
  pub bytes : AllByRecursion (λ b. b < 256) c.text
  pub exports : length c.exports ≤ 64

code_passes : (at : ℕ) (c : CodePart) → CodeGood c → first (code_limits at (raw_code c)) ≡ None
code_passes at c h =
    let count : length (map raw_slot c.slots) ≡ length c.slots = length-map c.slots raw_slot in
    let fits = h.fits in
    next_none (check (at + 36) (nat_lt c.length (8 * length (map raw_slot c.slots) + length c.text))) (check (at + 40) (nat_lt MOST_BYTES (length c.text) || not (length c.text % 4 == 0)) ∷ [])
    (le-ltb c.length (8 * length (map raw_slot c.slots) + length c.text) (omega (arith, fits, count)))
    (one_none (at + 40) (nat_lt MOST_BYTES (length c.text) || not (length c.text % 4 == 0)) (ap₂ (λ a b. a || not b) (le-ltb MOST_BYTES (length c.text) h.few) (eq-eqb (length c.text % 4) 0 h.words)))

pub record CompartmentGood (entry : ℕ) (c : CompartmentPart) : Type 0 where
  pub code : CodeGood c.code
  pub globals : IsWithin 16 MOST_BYTES c.globals_length
  pub initial_few : length c.initial ≤ MOST_BYTES
  pub initial_bytes : AllByRecursion (λ b. b < 256) c.initial
  pub initial : length c.initial ≤ c.globals_length
  pub head : SlotRow
  pub others : List SlotRow
  pub slots : c.code.slots ≡ head ∷ others
  pub slots_few : length c.code.slots ≤ 148
  pub own : OwnSlots head others
  pub gates : Gates compartment_bounds (length c.code.text) (entry + 2 + length c.code.slots) c.code.exports

pub compartment_passes : (entry at : ℕ) (seen : List (List ℕ)) (c : CompartmentPart) → CompartmentGood entry c → among c.code.name seen ≡ false
    → first (compartment_limits_by entry at seen (raw_compartment c)) ≡ None
unfolding compartment_limits_by
compartment_passes entry at seen c h new =
    let r = raw_compartment c in
    let n = name_checks at false seen r.code.name in
    let k = code_limits at r.code in
    let m = own_numbers at r in
    let own = own_slots_limits (at + COMPARTMENT_HEAD) r.code in
    let x = own_gates entry at r.code in
    let z = dirty_padding at r in
    let slots : length r.code.slots ≡ length c.code.slots = length-map c.code.slots raw_slot in
    let exports : length r.code.exports ≡ length c.code.exports = length-map c.code.exports raw_gate in
    let some : 1 ≤ length c.code.slots = subst (λ l. 1 ≤ length l) (sym h.slots) (omega arith) in
    let own_none : first own ≡ None = subst (λ l. first (walked own_slot_limits (λ s. ENTRY) (at + COMPARTMENT_HEAD) [] (map raw_slot l)) ≡ None) (sym h.slots) (own_slots_pass (at + COMPARTMENT_HEAD) h.head h.others h.own) in
    let gates_none : first x ≡ None = subst (λ k. first (exports_limits compartment_bounds (entry + 2 + k) (at + COMPARTMENT_HEAD + entries_size r.code.slots) r.code) ≡ None) (sym slots)
    (gates_pass compartment_bounds (length c.code.text) (entry + 2 + length c.code.slots) (at + COMPARTMENT_HEAD + entries_size r.code.slots) c.code.exports h.gates) in
    let long = nat_lt MOST_BYTES (length c.initial) || nat_lt c.globals_length (length c.initial) in
    let numbers_none : first m ≡ None =
    next_none (check (at + 52) (outside 16 MOST_BYTES c.globals_length)) (drop 1 m) (inside 16 MOST_BYTES c.globals_length h.globals)
    (next_none (check (at + 56) long) (drop 2 m) (ap₂ (λ a b. a || b) (le-ltb MOST_BYTES (length c.initial) h.initial_few) (le-ltb c.globals_length (length c.initial) h.initial))
    (next_none (check (at + 60) (outside 1 148 (length r.code.slots))) (drop 3 m) (subst (λ n. outside 1 148 n ≡ false) (sym slots) (inside 1 148 (length c.code.slots) (some, h.slots_few)))
    (one_none (at + 64) (nat_lt 64 (length r.code.exports)) (subst (λ n. nat_lt 64 n ≡ false) (sym exports) (le-ltb 64 (length c.code.exports) h.code.exports))))) in
    joined_none (n ++ k ++ m ++ own ++ x) z
    (joined_none (n ++ k ++ m ++ own) x
    (joined_none (n ++ k ++ m) own
    (joined_none (n ++ k) m
    (joined_none n k (name_passes at false seen c.code.name h.code.named new refl) (code_passes at c.code h.code))
    numbers_none)
    own_none)
    gates_none)
    (one_none (at + COMPARTMENT_HEAD + tables_size r.code + length r.initial) (not (are_zeros r.padding)) (ap not (zeros_are (padding_after (length c.initial)))))

-- ---- a library

pub record LibraryGood (entry : ℕ) (c : CodePart) : Type 0 where
  pub code : CodeGood c
  pub few : length c.slots ≤ 128
  pub slots : LibrarySlots c.slots
  pub gates : Gates library_bounds (length c.text) (entry + 1 + length c.slots) c.exports

pub library_passes : (entry at : ℕ) (seen : List (List ℕ)) (c : CodePart) → LibraryGood entry c → among c.name seen ≡ false → first (library_limits_by entry at seen (raw_code c)) ≡ None
unfolding library_limits_by
library_passes entry at seen c h new =
    let r = raw_code c in
    let n = name_checks at false seen r.name in
    let k = code_limits at r in
    let m = library_numbers at r in
    let own = slots_limits (at + LIBRARY_HEAD) r in
    let x = library_gate_checks entry at r in
    let slots : length r.slots ≡ length c.slots = length-map c.slots raw_slot in
    let exports : length r.exports ≡ length c.exports = length-map c.exports raw_gate in
    let gates_none : first x ≡ None = subst (λ k. first (exports_limits library_bounds (entry + 1 + k) (at + LIBRARY_HEAD + entries_size r.slots) r) ≡ None) (sym slots)
    (gates_pass library_bounds (length c.text) (entry + 1 + length c.slots) (at + LIBRARY_HEAD + entries_size r.slots) c.exports h.gates) in
    joined_none (n ++ k ++ m ++ own) x
    (joined_none (n ++ k ++ m) own
    (joined_none (n ++ k) m
    (joined_none n k (name_passes at false seen c.name h.code.named new refl) (code_passes at c h.code))
    (next_none (check (at + 44) (nat_lt 128 (length r.slots))) (drop 1 m) (subst (λ n. nat_lt 128 n ≡ false) (sym slots) (le-ltb 128 (length c.slots) h.few))
    (one_none (at + 48) (nat_lt 64 (length r.exports)) (subst (λ n. nat_lt 64 n ≡ false) (sym exports) (le-ltb 64 (length c.exports) h.code.exports)))))
    (library_slots_pass (at + LIBRARY_HEAD) c.slots h.slots))
    gates_none
