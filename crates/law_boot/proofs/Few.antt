-- An image lists few entries: an owner has at most 256.
use Rattle.std.proofs.Common.{ℕ, suc, ◌≡◌, ◌+◌, ◌*◌, ◌≤◌, List, [], ◌∷◌, ◌++◌, length, map, Some, slice_get, refl, ap, arith}
use Rattle.std.proofs.lemmas.List.{length-append, length-map}
use Rattle.ct_entry.specs.declared.rows.Entry.{Entry}
use Rattle.ct_entry.specs.declared.rows.Owner.TheVariants.{Compartment, Library}
use Rattle.def_profile.specs.declared.layout.TheConstants.{TABLE_HEAD}
use Rattle.def_profile.specs.declared.limits.TheConstants.{MOST_COMPARTMENTS, MOST_EXPORTS, MOST_LIBRARIES, MOST_SLOTS, MOST_THREADS_2}
use Rattle.def_image.specs.Parts.{GateRow, CodeRow, CompartmentRow, ThreadRow, PartsRow}
use Rattle.def_image.specs.Sound.{Sound}
use Rattle.law_image.proofs.Limited.{few_threads}
use Rattle.def_boot.specs.Entries.{slot_rows, export_rows, library_export_row, compartment_rows, library_rows, stack_row, rows_from, entry_rows}
use Rattle.law_boot.proofs.Standing.{slots_count, exports_count}

-- an owner's code has few slots and exports
abbrev pub HasFew : CodeRow → Type 0
HasFew c = (length c.slots ≤ MOST_SLOTS) × (length c.exports ≤ MOST_EXPORTS)

compartment_few : (p : PartsRow) (b : ℕ) (c : CompartmentRow) → HasFew c.code → length (compartment_rows p b c) ≤ 256
compartment_few p b c h =
    let slots = slots_count p (Compartment b) c.code.base c.code.slots in
    let exports = exports_count b (c.table + TABLE_HEAD) c.code.exports in
    let both = length-append (slot_rows p (Compartment b) c.code.base c.code.slots) (export_rows b (c.table + TABLE_HEAD) c.code.exports) in
    let few = h.0 in
    let some = h.1 in
    omega (arith, slots, exports, both, few, some)

library_few : (p : PartsRow) (l : ℕ) (c : CodeRow) → HasFew c → length (library_rows p l c) ≤ 256
library_few p l c h =
    let slots = slots_count p (Library l) c.base c.slots in
    let exports = length-map c.exports (λ (x : GateRow). library_export_row l c) in
    let both = length-append (slot_rows p (Library l) c.base c.slots) (map (λ (x : GateRow). library_export_row l c) c.exports) in
    let few = h.0 in
    let some = h.1 in
    omega (arith, slots, exports, both, few, some)

few_from : {A : Type 0} (rows : ℕ → A → List Entry) (i : ℕ) (xs : List A) → ((k : ℕ) (x : A) → slice_get xs k ≡ Some x → (j : ℕ) → length (rows j x) ≤ 256)
    → length (rows_from rows i xs) ≤ 256 * length xs
few_from rows i [] each = omega arith
few_from rows i (x ∷ xs) each =
    let here = each 0 x refl i in
    let rest = few_from rows (i + 1) xs (λ k y is j. each (suc k) y is j) in
    let both = length-append (rows i x) (rows_from rows (i + 1) xs) in
    omega (arith, here, rest, both)

stacks_from : (i : ℕ) (ts : List ThreadRow) → length (rows_from (λ t x. stack_row t x ∷ []) i ts) ≡ length ts
stacks_from i [] = refl
stacks_from i (t ∷ ts) = ap (λ n. suc n) (stacks_from (i + 1) ts)

total_few : (xs ys zs : List Entry) (k m n : ℕ) → length xs ≤ 256 * k → length ys ≤ 256 * m → length zs ≡ n → k ≤ 64 → m ≤ 32 → n ≤ 64
    → length (xs ++ ys ++ zs) ≤ 32766
total_few xs ys zs k m n one two three few some others =
    let all = length-append (xs ++ ys) zs in
    let owners = length-append xs ys in
    omega (arith, one, two, three, few, some, others, all, owners)

-- how many entries an image has whose owners have few
pub few_rows : (p : PartsRow) → ((k : ℕ) (c : CompartmentRow) → slice_get p.compartments k ≡ Some c → HasFew c.code) → ((k : ℕ) (c : CodeRow) → slice_get p.libraries k ≡ Some c → HasFew c)
    → length p.compartments ≤ MOST_COMPARTMENTS → length p.libraries ≤ MOST_LIBRARIES → length p.threads ≤ MOST_THREADS_2 → length (entry_rows p) ≤ 32766
unfolding entry_rows
few_rows p own lent few some threads = total_few
    (rows_from (compartment_rows p) 0 p.compartments)
    (rows_from (library_rows p) 0 p.libraries)
    (rows_from (λ t x. stack_row t x ∷ []) 0 p.threads)
    (length p.compartments) (length p.libraries) (length p.threads)
    (few_from (compartment_rows p) 0 p.compartments (λ k c is j. compartment_few p j c (own k c is)))
    (few_from (library_rows p) 0 p.libraries (λ k c is j. library_few p j c (lent k c is)))
    (stacks_from 0 p.threads) few some threads

-- a sound image has few
pub few_entries : (p : PartsRow) → Sound p → length (entry_rows p) ≤ 32766
few_entries p s = few_rows p
    (λ k c is. let f = s.compartment k c is in (f.slots.1, f.code.exports))
    (λ k c is. let f = s.library k c is in let few = f.slots in (omega (arith, few), f.code.exports))
    s.few.compartments s.few.libraries (few_threads p s.few)
