-- There is a label for each row, of its owner.
use Rattle.std.proofs.Common.{ℕ, zero, suc, ◌≡◌, ◌+◌, ◌∙◌, List, [], ◌∷◌, ◌++◌, Some, None, length, map, refl, sym, ap, ap₂, subst, get_or, slice_get, unwrap_or, arith}
use Rattle.std.specs.List.{flat_map}
use Rattle.std.proofs.lemmas.List.{length-append, length-map, map-append}
use Rattle.ct_entry.specs.declared.rows.Entry.{Entry}
use Rattle.ct_entry.specs.declared.rows.Owner.{Owner}
use Rattle.ct_entry.specs.declared.rows.Owner.TheVariants.{Compartment, Library}
use Rattle.def_profile.specs.declared.layout.TheConstants.{SLOT_SIZE, TABLE_HEAD, TABLE_ROW}
use Rattle.def_image.specs.declared.ImportRow.{ImportRow}
use Rattle.def_image.specs.declared.SlotKind.{SlotKind}
use Rattle.def_image.specs.declared.SlotKind.TheVariants as slot
use Rattle.def_image.specs.Members.{no_code, no_compartment}
use Rattle.def_image.specs.Parts.{SlotRow, GateRow, CodeRow, CompartmentRow, ThreadRow, PartsRow}
use Rattle.def_program.specs.Owners.{owner_name}
use Rattle.def_boot.specs.Entries.{slot_entry, slot_rows, export_rows, library_export_row, compartment_rows, library_rows, stack_row, rows_from, entry_rows}
use Rattle.def_report.specs.Labels.{Label, owner_label, slot_label, export_label, slots_and_exports, compartment_labels, library_labels, labels_of}
use Rattle.law_boot.proofs.Standing.{slots_count, exports_count, slot_owner}

code_count : (p : PartsRow) (c : CodeRow) → length (slots_and_exports p c) ≡ length c.slots + length c.exports
code_count p c =
    let both = length-append (map (slot_label p c.name) c.slots) (map (export_label c.name) c.exports) in
    let slots = length-map c.slots (slot_label p c.name) in
    let exports = length-map c.exports (export_label c.name) in
    omega (arith, both, slots, exports)

compartment_fits : (p : PartsRow) (b : ℕ) (c : CompartmentRow) → length (compartment_labels p c) ≡ length (compartment_rows p b c)
compartment_fits p b c =
    let labels = code_count p c.code in
    let both = length-append (slot_rows p (Compartment b) c.code.base c.code.slots) (export_rows b (c.table + TABLE_HEAD) c.code.exports) in
    let slots = slots_count p (Compartment b) c.code.base c.code.slots in
    let exports = exports_count b (c.table + TABLE_HEAD) c.code.exports in
    omega (arith, labels, both, slots, exports)

library_fits : (p : PartsRow) (l : ℕ) (c : CodeRow) → length (library_labels p c) ≡ length (library_rows p l c)
library_fits p l c =
    let labels = code_count p c in
    let both = length-append (slot_rows p (Library l) c.base c.slots) (map (λ (x : GateRow). library_export_row l c) c.exports) in
    let slots = slots_count p (Library l) c.base c.slots in
    let exports = length-map c.exports (λ (x : GateRow). library_export_row l c) in
    omega (arith, labels, both, slots, exports)

-- of each list's members
members_fit : {A : Type 0} (labels : A → List Label) (rows : ℕ → A → List Entry) → ((i : ℕ) (x : A) → length (labels x) ≡ length (rows i x))
    → (i : ℕ) (xs : List A) → length (flat_map labels xs) ≡ length (rows_from rows i xs)
members_fit labels rows fits i [] = refl
members_fit labels rows fits i (x ∷ xs) =
    let here = fits i x in
    let rest = members_fit labels rows fits (i + 1) xs in
    let left = length-append (labels x) (flat_map labels xs) in
    let right = length-append (rows i x) (rows_from rows (i + 1) xs) in
    omega (arith, here, rest, left, right)

stacks_fit : (i : ℕ) (ts : List ThreadRow) → length (map (λ (t : ThreadRow). owner_label t.name) ts) ≡ length (rows_from (λ t x. stack_row t x ∷ []) i ts)
stacks_fit i [] = refl
stacks_fit i (t ∷ ts) = ap suc (stacks_fit (i + 1) ts)

all_fit : (ks ls ms : List Label) (xs ys zs : List Entry) → length ks ≡ length xs → length ls ≡ length ys → length ms ≡ length zs → length (ks ++ ls ++ ms) ≡ length (xs ++ ys ++ zs)
all_fit ks ls ms xs ys zs k l m =
    let one = length-append (ks ++ ls) ms in
    let two = length-append ks ls in
    let three = length-append (xs ++ ys) zs in
    let four = length-append xs ys in
    omega (arith, one, two, three, four, k, l, m)

pub labels_fit : (p : PartsRow) → length (labels_of p) ≡ length (entry_rows p)
unfolding labels_of entry_rows
labels_fit p = all_fit
    (flat_map (compartment_labels p) p.compartments) (flat_map (library_labels p) p.libraries) (map (λ (t : ThreadRow). owner_label t.name) p.threads)
    (rows_from (compartment_rows p) 0 p.compartments) (rows_from (library_rows p) 0 p.libraries) (rows_from (λ t x. stack_row t x ∷ []) 0 p.threads)
    (members_fit (compartment_labels p) (compartment_rows p) (compartment_fits p) 0 p.compartments)
    (members_fit (library_labels p) (library_rows p) (library_fits p) 0 p.libraries)
    (stacks_fit 0 p.threads)

-- ---- whose they are

-- the labels are of these rows' owners
abbrev NamesOwners : PartsRow → List Label → List Entry → Type 0
NamesOwners p ls es = map (λ (l : Label). l.owner) ls ≡ map (λ (e : Entry). owner_name p e.owner) es

names_both : (p : PartsRow) (ks ls : List Label) (xs ys : List Entry) → NamesOwners p ks xs → NamesOwners p ls ys → NamesOwners p (ks ++ ls) (xs ++ ys)
names_both p ks ls xs ys k l =
    map-append (λ (m : Label). m.owner) ks ls ∙ ap₂ (λ a b. a ++ b) k l ∙ sym (map-append (λ (e : Entry). owner_name p e.owner) xs ys)

slots_named : (p : PartsRow) (o : Owner) (name : List ℕ) (at : ℕ) (ss : List SlotRow) → name ≡ owner_name p o → NamesOwners p (map (slot_label p name) ss) (slot_rows p o at ss)
slots_named p o name at [] is = refl
slots_named p o name at (s ∷ ss) is =
    ap₂ (λ n ns. n ∷ ns) (is ∙ ap (owner_name p) (sym (slot_owner p o at s.row s.row.kind))) (slots_named p o name (at + SLOT_SIZE) ss is)

exports_named : (p : PartsRow) (b : ℕ) (name : List ℕ) (at : ℕ) (xs : List GateRow) → name ≡ owner_name p (Compartment b) → NamesOwners p (map (export_label name) xs) (export_rows b at xs)
exports_named p b name at [] is = refl
exports_named p b name at (x ∷ xs) is = ap₂ (λ n ns. n ∷ ns) is (exports_named p b name (at + TABLE_ROW) xs is)

library_exports_named : (p : PartsRow) (l : ℕ) (c : CodeRow) (xs : List GateRow) → c.name ≡ owner_name p (Library l)
    → NamesOwners p (map (export_label c.name) xs) (map (λ (x : GateRow). library_export_row l c) xs)
library_exports_named p l c [] is = refl
library_exports_named p l c (x ∷ xs) is = ap₂ (λ n ns. n ∷ ns) is (library_exports_named p l c xs is)

compartment_named : (p : PartsRow) (b : ℕ) (c : CompartmentRow) → c.code.name ≡ owner_name p (Compartment b) → NamesOwners p (compartment_labels p c) (compartment_rows p b c)
compartment_named p b c is =
    let slots = slots_named p (Compartment b) c.code.name c.code.base c.code.slots is in
    let exports = exports_named p b c.code.name (c.table + TABLE_HEAD) c.code.exports is in
    ap₂ (λ n ns. n ∷ ns) is (ap₂ (λ n ns. n ∷ ns) is
    (names_both p (map (slot_label p c.code.name) c.code.slots) (map (export_label c.code.name) c.code.exports)
    (slot_rows p (Compartment b) c.code.base c.code.slots) (export_rows b (c.table + TABLE_HEAD) c.code.exports) slots exports))

library_named : (p : PartsRow) (l : ℕ) (c : CodeRow) → c.name ≡ owner_name p (Library l) → NamesOwners p (library_labels p c) (library_rows p l c)
library_named p l c is =
    ap₂ (λ n ns. n ∷ ns) is
    (names_both p (map (slot_label p c.name) c.slots) (map (export_label c.name) c.exports)
    (slot_rows p (Library l) c.base c.slots) (map (λ (x : GateRow). library_export_row l c) c.exports)
    (slots_named p (Library l) c.name c.base c.slots is) (library_exports_named p l c c.exports is))

-- of each list's members, each at its index in the whole list
members_named : {A : Type 0} (p : PartsRow) (all : List A) (labels : A → List Label) (rows : ℕ → A → List Entry)
    → ((i : ℕ) (x : A) → slice_get all i ≡ Some x → NamesOwners p (labels x) (rows i x))
    → (i : ℕ) (xs : List A) → ((j : ℕ) (x : A) → slice_get xs j ≡ Some x → slice_get all (i + j) ≡ Some x)
    → NamesOwners p (flat_map labels xs) (rows_from rows i xs)
members_named p all labels rows each i [] there = refl
members_named p all labels rows each i (x ∷ xs) there =
    names_both p (labels x) (flat_map labels xs) (rows i x) (rows_from rows (i + 1) xs)
    (each i x (subst (λ k. slice_get all k ≡ Some x) (let same : i + 0 ≡ i = omega arith in same) (there 0 x refl)))
    (members_named p all labels rows each (i + 1) xs
    (λ j y is. subst (λ k. slice_get all k ≡ Some y) (let same : i + suc j ≡ i + 1 + j = omega arith in same) (there (suc j) y is)))

stacks_named : (p : PartsRow) (i : ℕ) (ts : List ThreadRow) → ((j : ℕ) (x : ThreadRow) → slice_get ts j ≡ Some x → slice_get p.threads (i + j) ≡ Some x)
    → NamesOwners p (map (λ (t : ThreadRow). owner_label t.name) ts) (rows_from (λ t x. stack_row t x ∷ []) i ts)
stacks_named p i [] there = refl
stacks_named p i (t ∷ ts) there =
    let here : slice_get p.threads i ≡ Some t = subst (λ k. slice_get p.threads k ≡ Some t) (let same : i + 0 ≡ i = omega arith in same) (there 0 t refl) in
    ap₂ (λ n ns. n ∷ ns) (sym (thread_name p.threads i t here))
    (stacks_named p (i + 1) ts (λ j y is. subst (λ k. slice_get p.threads k ≡ Some y) (let same : i + suc j ≡ i + 1 + j = omega arith in same) (there (suc j) y is)))
  where
    thread_name : (xs : List ThreadRow) (k : ℕ) (x : ThreadRow) → slice_get xs k ≡ Some x → get_or (map (λ (y : ThreadRow). y.name) xs) k [] ≡ x.name
    thread_name [] k x is = absurd (let clash : None ≡ Some x = is in cc)
    thread_name (y ∷ ys) zero x is = let same : y ≡ x = (let first : Some y ≡ Some x = is in cc) in ap (λ (z : ThreadRow). z.name) same
    thread_name (y ∷ ys) (suc k) x is = thread_name ys k x is

-- a whole list begins at 0
from_zero : {A : Type 0} (xs : List A) (j : ℕ) (x : A) → slice_get xs j ≡ Some x → slice_get xs (0 + j) ≡ Some x
from_zero xs j x is = subst (λ k. slice_get xs k ≡ Some x) (let same : j ≡ 0 + j = omega arith in same) is

pub owners_named : (p : PartsRow) → map (λ (l : Label). l.owner) (labels_of p) ≡ map (λ (e : Entry). owner_name p e.owner) (entry_rows p)
unfolding labels_of entry_rows
owners_named p =
    let compartments = members_named p p.compartments (compartment_labels p) (compartment_rows p) (λ b c is. compartment_named p b c (ap (λ o. (unwrap_or o no_compartment).code.name) (sym is))) 0 p.compartments (from_zero p.compartments) in
    let libraries = members_named p p.libraries (library_labels p) (library_rows p) (λ l c is. library_named p l c (ap (λ o. (unwrap_or o no_code).name) (sym is))) 0 p.libraries (from_zero p.libraries) in
    let ks = flat_map (compartment_labels p) p.compartments in
    let ls = flat_map (library_labels p) p.libraries in
    let ms = map (λ (t : ThreadRow). owner_label t.name) p.threads in
    names_both p (ks ++ ls) ms (rows_from (compartment_rows p) 0 p.compartments ++ rows_from (library_rows p) 0 p.libraries) (rows_from (λ t x. stack_row t x ∷ []) 0 p.threads)
    (names_both p ks ls (rows_from (compartment_rows p) 0 p.compartments) (rows_from (library_rows p) 0 p.libraries) compartments libraries)
    (stacks_named p 0 p.threads (from_zero p.threads))
