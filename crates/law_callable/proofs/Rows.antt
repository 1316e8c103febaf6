-- The exports of a compartment among the rows of an image.
use Rattle.std.proofs.Common.{ℕ, zero, suc, ◌≡◌, ◌-◌, ◌&&◌, ◌<◌, ◌≤◌, inl, inr, Bool, true, false, List, [], ◌∷◌, length, Some, slice_get, refl, sym, ap, ◌∙◌, arith, subst}
use Rattle.std.specs.Prelude.{find, unwrap_or}
use Rattle.std.proofs.lemmas.Bool.{eqb-true, and_parts}
use Rattle.std.proofs.lemmas.Option.{slice_get_within, slice_get_past, slice_get-get_or}
use Rattle.std.proofs.lemmas.List.{get_or_default}
use Rattle.law_lists.proofs.Tests.{bool_tells, eq_tells, lt_tells}
use Rattle.law_lists.proofs.Finds.{find_is}
use Rattle.law_lists.proofs.Places.{present}
use Rattle.ct_entry.specs.declared.rows.Entry.{Entry}
use Rattle.ct_entry.specs.declared.rows.Gate.{Gate}
use Rattle.ct_entry.specs.declared.rows.Owner.{Owner}
use Rattle.def_reach.specs.Roots.{Root, Origin, Unknown, TrustedPart, Listing, root_of, gate_for, listed_root, compartment_of}
use Rattle.def_image.specs.declared.ImportRow.{ImportRow}
use Rattle.def_image.specs.declared.SlotKind.{SlotKind}
use Rattle.def_image.specs.declared.SlotKind.TheVariants as slot
use Rattle.def_image.specs.Parts.{GateRow, CompartmentRow, PartsRow}
use Rattle.def_image.specs.Members.{gate_address, gate_number}
use Rattle.def_image.specs.Regions.{table_size, table_length}
use Rattle.def_image.specs.Sound.{Sound}
use Rattle.def_boot.specs.Entries.{slot_entry, export_row, entry_rows}
use Rattle.def_boot.specs.Gates.{gate, gates_of, entries_of}
use Rattle.def_boot.specs.Rows.{HasRow, HasCompartment, EntryIs, is_nothing, is_trusted, is_code, is_globals, is_slot, is_export, is_library, is_library_slot, is_library_export, is_stack}
use Rattle.law_boot.proofs.Listing.{entry_of}
use Rattle.law_boot.proofs.Standing as standing
use Rattle.def_boot.specs.Fits.{Lies, ExportAt}
use Rattle.law_boot.proofs.Lying.{own_there}
use Rattle.ct_entry.specs.Kinds.{is_export as is_export_kind}
use Rattle.ct_switch.specs.Exports.{IsExport, AreTogether, HeadLies, IsCallable, no_row, row_at, is_compartment, is_export_of, table_of, callee_of}
use Rattle.law_layout.proofs.Placing.{size_fits}

-- ---- rows as roots

abbrev pub origin_exports : Origin → Bool
origin_exports Unknown = false
origin_exports TrustedPart = false
origin_exports (Listing k) = is_export_kind k

abbrev pub root_exports : ℕ → Root → Bool
root_exports b r = origin_exports r.origin && is_compartment b r.owner

past_row : (rows : List Entry) (k : ℕ) → length rows ≤ k → row_at rows k ≡ no_row
past_row [] k le = refl
past_row (r ∷ rs) zero le = absurd (omega (arith, le))
past_row (r ∷ rs) (suc k) le = past_row rs k (omega (arith, le))

pub row_root : (p : PartsRow) (b k : ℕ) → is_export_of b (row_at (entry_rows p) k) ≡ root_exports b (root_of (entries_of p) (suc k))
unfolding root_of entries_of
row_root p b k = elim (lt_tells k (length (entry_rows p))) [
  | inl e ↦ sym (ap (λ o. root_exports b (listed_root o (gate_for (gates_of p) (suc k)))) (slice_get-get_or (entry_rows p) k no_row e.1))
  | inr e ↦ ap (λ r. is_export_of b r) (past_row (entry_rows p) k e.1)
      ∙ sym (ap (λ o. root_exports b (listed_root o (gate_for (gates_of p) (suc k)))) (slice_get_past (entry_rows p) k e.1))
]

-- ---- which numbers they have

slot_no_export : (p : PartsRow) (o : Owner) (at : ℕ) (r : ImportRow) (k : SlotKind) → is_export_kind (slot_entry p o at r k).kind ≡ false
slot_no_export p o at r slot.Service = refl
slot_no_export p o at r slot.Device = refl
slot_no_export p o at r slot.Shared = refl
slot_no_export p o at r slot.Sealed = refl
slot_no_export p o at r slot.Call = refl
slot_no_export p o at r slot.Library = refl
slot_no_export p o at r slot.Quota = refl
slot_no_export p o at r slot.Key = refl

-- export j of compartment b
pub record ExportIs (p : PartsRow) (b n : ℕ) : Type 0 where
  pub home : CompartmentRow
  pub which : ℕ
  pub export : GateRow
  pub has : HasCompartment p b home
  pub there : slice_get home.code.exports which ≡ Some export
  pub number : n ≡ gate_number p b which

clash : {A : Type 0} → false ≡ true → A
clash e = absurd (let no : false ≡ true = e in cc)

not_kind : (b : ℕ) (r : Root) → origin_exports r.origin ≡ false → root_exports b r ≡ true → {A : Type 0} → A
not_kind b r no_ yes_ = clash (sym no_ ∙ (and_parts (origin_exports r.origin) (is_compartment b r.owner) yes_).0)

by_row : (p : PartsRow) (b n m : ℕ) (r : Entry) (g : Gate) → n ≡ m → HasRow p m r g → is_export_kind r.kind ≡ false → root_exports b (root_of (entries_of p) n) ≡ true → {A : Type 0} → A
by_row p b n m r g at has no_ yes_ =
    not_kind b (listed_root (Some r) g) no_ (subst (λ (x : Root). root_exports b x ≡ true) (ap (λ k. root_of (entries_of p) k) at ∙ has.root_is) yes_)

pub exports_are : (p : PartsRow) (b n : ℕ) → EntryIs p n → root_exports b (root_of (entries_of p) n) ≡ true → ExportIs p b n
exports_are p b n (is_nothing r g m) yes_ = clash (ap (λ x. root_exports b x) (sym r) ∙ yes_)
exports_are p b n (is_trusted z r g m) yes_ = clash (ap (λ x. root_exports b x) (sym r) ∙ yes_)
exports_are p b n (is_code d c has at) yes_ = by_row p b n _ _ _ at has.code refl yes_
exports_are p b n (is_globals d c has at) yes_ = by_row p b n _ _ _ at has.globals refl yes_
exports_are p b n (is_slot d c j s has is at) yes_ = by_row p b n _ _ _ at (has.slot j s is) (slot_no_export p _ _ s.row s.row.kind) yes_
exports_are p b n (is_export d c j x has is at) yes_ =
    let row = has.export j x is in
    let here : root_exports b (listed_root (Some (export_row d (gate_address c j))) (gate (gate_number p d j) c.code x.row)) ≡ true =
    subst (λ (r : Root). root_exports b r ≡ true) (ap (λ k. root_of (entries_of p) k) at ∙ row.root_is) yes_ in
    let same : d ≡ b = eqb-true d b here in
    record {
      home = c;
      which = j;
      export = x;
      has = subst (λ k. HasCompartment p k c) same has;
      there = is;
      number = at ∙ ap (λ k. gate_number p k j) same;
    }
exports_are p b n (is_library l c has at) yes_ = by_row p b n _ _ _ at has.code refl yes_
exports_are p b n (is_library_slot l c j s has is at) yes_ = by_row p b n _ _ _ at (has.slot j s is) (slot_no_export p _ _ s.row s.row.kind) yes_
exports_are p b n (is_library_export l c j x has is at) yes_ =
    clash (subst (λ (r : Root). root_exports b r ≡ true) (ap (λ k. root_of (entries_of p) k) at ∙ (has.export j x is).root_is) yes_)
exports_are p b n (is_stack t x has at) yes_ = by_row p b n _ _ _ at has.row refl yes_

-- ---- where they stand

export_passes : (b at : ℕ) (g : Gate) → root_exports b (listed_root (Some (export_row b at)) g) ≡ true
export_passes b at g = elim (eq_tells b b) [ inl e ↦ e.0 | inr e ↦ absurd (e.1 refl) ]

stands : (p : PartsRow) (b : ℕ) (c : CompartmentRow) (j : ℕ) (x : GateRow) (m : ℕ) → HasCompartment p b c → slice_get c.code.exports j ≡ Some x
    → suc m ≡ gate_number p b j → is_export_of b (row_at (entry_rows p) m) ≡ true
stands p b c j x m has there at =
    row_root p b m ∙ ap (λ k. root_exports b (root_of (entries_of p) k)) at ∙ ap (λ r. root_exports b r) (has.export j x there).root_is
    ∙ export_passes b (gate_address c j) (gate (gate_number p b j) c.code x.row)

is_listed : (p : PartsRow) (b m : ℕ) → is_export_of b (row_at (entry_rows p) m) ≡ true → ExportIs p b (suc m)
is_listed p b m passes = exports_are p b (suc m) (entry_of p (suc m)) (sym (row_root p b m) ∙ passes)

pub together : (p : PartsRow) (b : ℕ) → AreTogether (entry_rows p) b
together p b i j k low high first last =
    let a = is_listed p b i first in
    let z = is_listed p b k last in
    let here = a.number in
    let there = z.number in
    let most = slice_get_within z.home.code.exports z.which z.export z.there in
    let w : ℕ = suc j - gate_number p b 0 in
    let found = present z.home.code.exports w (omega (arith, low, high, here, there, most)) in
    stands p b z.home w found.0 j z.has found.1 (omega (arith, low, here))

inside_rows : (b : ℕ) (rows : List Entry) (m : ℕ) → is_export_of b (row_at rows m) ≡ true → m < length rows
inside_rows b rows m passes = elim (lt_tells m (length rows)) [
  | inl e ↦ e.1
  | inr e ↦ clash (sym (ap (λ r. is_export_of b r) (past_row rows m e.1)) ∙ passes)
]

row_base : (p : PartsRow) (m n : ℕ) (r : Entry) (g : Gate) → m < length (entry_rows p) → suc m ≡ n → HasRow p n r g → (row_at (entry_rows p) m).base ≡ r.base
unfolding root_of entries_of
row_base p m n r g lt at has =
    sym (ap (λ o. (listed_root o (gate_for (gates_of p) (suc m))).base) (slice_get-get_or (entry_rows p) m no_row lt))
    ∙ ap (λ (k : ℕ). (root_of (entries_of p) k).base) at ∙ ap (λ (x : Root). x.base) has.root_is

pub table_is : (p : PartsRow) (b : ℕ) (c : CompartmentRow) (x : GateRow) → HasCompartment p b c → slice_get c.code.exports 0 ≡ Some x → table_of (entries_of p) b ≡ c.table
unfolding entries_of
table_is p b c x has there =
    let place : ℕ = gate_number p b 0 - 1 in
    let at : suc place ≡ gate_number p b 0 = omega arith in
    let passes : is_export_of b (row_at (entry_rows p) place) ≡ true = stands p b c 0 x place has there at in
    let lt : place < length (entry_rows p) = inside_rows b (entry_rows p) place passes in
    let r : Entry = row_at (entry_rows p) place in
    let found : find (λ z. is_export_of b z) (entry_rows p) ≡ Some (row_at (entry_rows p) place) = find_is (λ z. is_export_of b z) (entry_rows p) (row_at (entry_rows p) place) (record {
      place = place;
      inside = lt;
      is = get_or_default (entry_rows p) place r no_row lt;
      passes = passes;
      before = λ k less. ap (λ z. is_export_of b z) (get_or_default (entry_rows p) k r no_row (omega (arith, less, lt))) ∙ first k less at;
    }) in
    let base : (row_at (entry_rows p) place).base ≡ gate_address c 0 = row_base p place (gate_number p b 0) _ _ lt at (has.export 0 x there) in
    ap (λ o. (unwrap_or o no_row).base - 16) found ∙ ap (λ n. n - 16) base ∙ (let back : gate_address c 0 - 16 ≡ c.table = omega arith in back)
  where
    first : (k : ℕ) → k < gate_number p b 0 - 1 → suc (gate_number p b 0 - 1) ≡ gate_number p b 0 → is_export_of b (row_at (entry_rows p) k) ≡ false
    first k less at = elim (bool_tells (is_export_of b (row_at (entry_rows p) k))) [
      | inl e ↦ absurd (let n = (is_listed p b k e).number in omega (arith, n, less, at))
      | inr e ↦ e
    ]

-- ---- what a call import names

head_lies : (p : PartsRow) (b : ℕ) (c : CompartmentRow) → Sound p → Lies p c.table (table_length c) → table_of (entries_of p) b ≡ c.table
    → HeadLies p.ram p.size (table_of (entries_of p) b)
head_lies p b c s lies is =
    let even = lies.even in
    let base = s.ram.base in
    let high = lies.high in
    let inside = s.heap.inside in
    let long = size_fits (table_size c.code) in
    subst (λ t. HeadLies p.ram p.size t) (sym is) (record { low = lies.low; even = omega (arith, even, base); high = omega (arith, high, inside, long) })

by_home : (p : PartsRow) (n b : ℕ) → callee_of (entries_of p) n ≡ b → 1 ≤ n → is_export_of b (row_at (entry_rows p) (n - 1)) ≡ true
    → HeadLies p.ram p.size (table_of (entries_of p) b) → IsCallable (entries_of p) p.ram p.size n
unfolding entries_of
by_home p n b home some passes head = record {
  counted = some;
  export = subst (λ c. IsExport (entries_of p) c (n - 1)) (sym home) (record { inside = inside_rows b (entry_rows p) (n - 1) passes; is = passes });
  together = together p (callee_of (entries_of p) n);
  head = subst (λ c. HeadLies p.ram p.size (table_of (entries_of p) c)) (sym home) head;
}

pub callable : (p : PartsRow) (n : ℕ) → Sound p → ExportAt p n → IsCallable (entries_of p) p.ram p.size n
callable p n s x =
    let has : HasCompartment p x.index x.compartment = standing.compartment_of p x.index x.compartment x.owner in
    let lies : Lies p x.compartment.table (table_length x.compartment) = (own_there p s x.index x.compartment x.owner).table in
    let some = x.row.counted in
    let at : suc (n - 1) ≡ n = omega (arith, some) in
    let most = slice_get_within x.compartment.code.exports x.which x.export x.there in
    let one = present x.compartment.code.exports 0 (omega (arith, most)) in
    by_home p n x.index (ap (λ (r : Root). compartment_of r.owner) x.row.root_is) some
    (stands p x.index x.compartment x.which x.export (n - 1) has x.there (at ∙ x.number))
    (head_lies p x.index x.compartment s lies (table_is p x.index x.compartment one.0 has one.1))
