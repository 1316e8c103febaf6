-- What the checks of indexes and rights say: what slots and threads name is there.
use Rattle.std.proofs.Common.{ℕ, zero, suc, ◌≡◌, ◌+◌, ◌==◌, ◌&&◌, ◌||◌, not, true, false, cond, nat_lt, nat_eq, List, [], ◌∷◌, ◌++◌, length, take, Option, Some, None, slice_get, refl, subst, arith, inl, inr}
use Rattle.std.specs.List.{list_any}
use Rattle.std.specs.Prelude.{option_map}
use Rattle.std.proofs.lemmas.Option.{slice_get-map}
use Rattle.std.proofs.lemmas.Bool.{ltb-true, ltb-false, eqb-true, not-false, or_parts}
use Rattle.law_lists.proofs.Tests.{eq_tells, both_left, both_right}
use Rattle.law_lists.proofs.Places.{present}
use Rattle.def_image.specs.declared.ImportRow.{ImportRow}
use Rattle.def_image.specs.declared.SlotKind.{SlotKind}
use Rattle.def_image.specs.declared.SlotKind.TheVariants.{Service, Device, Shared, Sealed, Call, Library, Quota, Key}
use Rattle.def_image.specs.declared.format.TheConstants.{ENTRY, THREAD}
use Rattle.def_image.specs.Parts.{SlotRow, GateRow, CodeRow, CompartmentRow, ThreadRow, PartsRow}
use Rattle.def_image.specs.Spelling.{raw_of, kind_byte}
use Rattle.def_image.specs.Sizes.{compartments_at, libraries_at, threads_at}
use Rattle.def_image.specs.Profile.{last_service}
use Rattle.def_image.specs.Checks.{first, walked, check}
use Rattle.def_image.specs.Limits.{misnumbered}
use Rattle.def_image.specs.Indexes.{index_checks, compartment_asked, library_asked, thread_asked, own_slot_asked, slot_asked, part_size, code_size, is_own_astray, is_import_astray, is_slot_named, is_reserved, is_switch, is_service, comes_before, enters_export, exports_of, code_in}
use Rattle.def_image.specs.Rights.{right_checks, compartment_rights, library_rights, right_asked, library_right_asked, fits_kind, rights_of, is_library}
use Rattle.def_image.specs.Sound.{Names, IsInPlace, OwnSlotFits, LibrarySlotFits}
use Rattle.law_image.proofs.Tells.{within_is}
use Rattle.law_image.proofs.Passing.{left_none, right_none, head_none, passes}

-- ---- the parts of the walks

pub record Indexed (p : PartsRow) : Type 0 where
  pub compartments : first (walked (compartment_asked p) part_size (compartments_at (raw_of p)) [] p.compartments) ≡ None
  pub libraries : first (walked (library_asked p) code_size (libraries_at (raw_of p)) [] p.libraries) ≡ None
  pub threads : first (walked (thread_asked p) (λ t. THREAD) (threads_at (raw_of p)) [] p.threads) ≡ None

pub indexed : (p : PartsRow) → first (index_checks p) ≡ None → Indexed p
unfolding index_checks
indexed p e =
    let c = walked (compartment_asked p) part_size (compartments_at (raw_of p)) [] p.compartments in
    let l = walked (library_asked p) code_size (libraries_at (raw_of p)) [] p.libraries in
    let t = walked (thread_asked p) (λ t. THREAD) (threads_at (raw_of p)) [] p.threads in
    let e1 = left_none (c ++ l) t e in
    record { compartments = left_none c l e1; libraries = right_none c l e1; threads = right_none (c ++ l) t e }

pub record Righted (p : PartsRow) : Type 0 where
  pub compartments : first (walked compartment_rights part_size (compartments_at (raw_of p)) [] p.compartments) ≡ None
  pub libraries : first (walked library_rights code_size (libraries_at (raw_of p)) [] p.libraries) ≡ None

pub righted : (p : PartsRow) → first (right_checks p) ≡ None → Righted p
unfolding right_checks
righted p e =
    let c = walked compartment_rights part_size (compartments_at (raw_of p)) [] p.compartments in
    let l = walked library_rights code_size (libraries_at (raw_of p)) [] p.libraries in
    record { compartments = left_none c l e; libraries = right_none c l e }

-- ---- what is there

pub export_there : (c : CodeRow) (j : ℕ) → nat_lt j (length c.exports) ≡ true → (x : GateRow) × (slice_get c.exports j ≡ Some x)
export_there c j e = present c.exports j (ltb-true j (length c.exports) e)

pub record Called (cs : List CompartmentRow) (b j : ℕ) : Type 0 where
  pub compartment : CompartmentRow
  pub gate : GateRow
  pub at : slice_get cs b ≡ Some compartment
  pub in_it : slice_get compartment.code.exports j ≡ Some gate

pub called : (cs : List CompartmentRow) (b j : ℕ) → nat_lt j (exports_of (code_in cs b)) ≡ true → Called cs b j
called cs b j e = by (slice_get cs b) refl (subst (λ o. nat_lt j (exports_of o) ≡ true) (slice_get-map (λ (c : CompartmentRow). c.code) cs b) e)
  where
    by : (o : Option CompartmentRow) → slice_get cs b ≡ o → nat_lt j (exports_of (option_map (λ (c : CompartmentRow). c.code) o)) ≡ true → Called cs b j
    by None is h = absurd (let lt = ltb-true j 0 h in omega (arith, lt))
    by (Some c) is h = let x = export_there c.code j h in record { compartment = c; gate = x.0; at = is; in_it = x.1 }

pub record Linked (ls : List CodeRow) (l j : ℕ) : Type 0 where
  pub library : CodeRow
  pub gate : GateRow
  pub at : slice_get ls l ≡ Some library
  pub in_it : slice_get library.exports j ≡ Some gate

pub linked : (ls : List CodeRow) (l j : ℕ) → nat_lt j (exports_of (slice_get ls l)) ≡ true → Linked ls l j
linked ls l j e = by (slice_get ls l) refl e
  where
    by : (o : Option CodeRow) → slice_get ls l ≡ o → nat_lt j (exports_of o) ≡ true → Linked ls l j
    by None is h = absurd (let lt = ltb-true j 0 h in omega (arith, lt))
    by (Some c) is h = let x = export_there c j h in record { library = c; gate = x.0; at = is; in_it = x.1 }

-- ---- slots

pub names_of : (p : PartsRow) (r : ImportRow) (k : SlotKind) → is_slot_named p r k ≡ true → misnumbered (kind_byte k) r.first ≡ false → Names p r k
names_of p r Service e m = let le = ltb-false last_service r.first m in omega (arith, le)
names_of p r Device e m = present p.devices r.first (ltb-true r.first (length p.devices) e)
names_of p r Shared e m = present p.shared r.first (ltb-true r.first (length p.shared) e)
names_of p r Sealed e m = present p.sealed r.first (ltb-true r.first (length p.sealed) e)
names_of p r Call e m = let h = called p.compartments r.first r.second e in (h.compartment, h.gate, h.at, h.in_it)
names_of p r Library e m = let h = linked p.libraries r.first r.second e in (h.library, h.gate, h.at, h.in_it)
names_of p r Quota e m = ltb-false 2147483647 r.first m
names_of p r Key e m = within_is 13 15 r.first m

-- the switch names what is there
switch_names : (p : PartsRow) (r : ImportRow) (k : SlotKind) → (is_service k && (r.first == 0)) ≡ true → Names p r k
switch_names p r Service e = let zero_is = eqb-true r.first 0 (both_right true (nat_eq r.first 0) e) in omega (arith, zero_is)
switch_names p r Device e = absurd (let clash : false ≡ true = e in cc)
switch_names p r Shared e = absurd (let clash : false ≡ true = e in cc)
switch_names p r Sealed e = absurd (let clash : false ≡ true = e in cc)
switch_names p r Call e = absurd (let clash : false ≡ true = e in cc)
switch_names p r Library e = absurd (let clash : false ≡ true = e in cc)
switch_names p r Quota e = absurd (let clash : false ≡ true = e in cc)
switch_names p r Key e = absurd (let clash : false ≡ true = e in cc)

pub record NotAstray (p : PartsRow) (r : ImportRow) : Type 0 where
  pub named : is_slot_named p r r.kind ≡ true
  pub free : is_reserved r ≡ false

not_astray : (p : PartsRow) (earlier : List SlotRow) (r : ImportRow) → is_import_astray p earlier r ≡ false → NotAstray p r
not_astray p earlier r e =
    let a = not (is_slot_named p r r.kind) in
    let b = is_reserved r in
    let ab = (or_parts (a || b) (list_any (comes_before r) earlier) e).0 in
    record { named = not-false (is_slot_named p r r.kind) (or_parts a b ab).0; free = (or_parts a b ab).1 }

-- the test of slot j of a compartment
own_test : (p : PartsRow) → Indexed p → (b : ℕ) (c : CompartmentRow) → slice_get p.compartments b ≡ Some c → (j : ℕ) (s : SlotRow) → slice_get c.code.slots j ≡ Some s
    → is_own_astray p (take j c.code.slots) s.row ≡ false
own_test p h b c is j s at =
    let a = passes (compartment_asked p) part_size (compartments_at (raw_of p)) p.compartments h.compartments b c is in
    let one = passes (own_slot_asked p) (λ s. ENTRY) (a.0 + 68) c.code.slots a.1 j s at in
    (head_none (check one.0 (is_own_astray p (take j c.code.slots) s.row)) [] one.1).0

pub own_fits : (p : PartsRow) (slots : List SlotRow) (j : ℕ) (s : SlotRow) → slice_get slots j ≡ Some s → is_own_astray p (take j slots) s.row ≡ false → misnumbered (kind_byte s.row.kind) s.row.first ≡ false
    → Names p s.row s.row.kind × IsInPlace j s.row
own_fits p [] j s at e m = cc
own_fits p (y ∷ ys) zero s at e m = let sw = not-false (is_switch s.row) e in (switch_names p s.row s.row.kind sw, sw)
own_fits p (y ∷ ys) (suc j) s at e m =
    let more : nat_eq (length (y ∷ take j ys)) 0 ≡ false = some_more (length (take j ys)) in
    let h = not_astray p (y ∷ take j ys) s.row (subst (λ b. cond b (not (is_switch s.row)) (is_import_astray p (y ∷ take j ys) s.row) ≡ false) more e) in
    (names_of p s.row s.row.kind h.named m, h.free)
  where
    some_more : (n : ℕ) → nat_eq (suc n) 0 ≡ false
    some_more n = elim (eq_tells (suc n) 0) [ inl t ↦ absurd (let is = t.1 in omega (arith, is)) | inr t ↦ t.0 ]

pub own_slot_fits : (p : PartsRow) → Indexed p → Righted p → (b : ℕ) (c : CompartmentRow) → slice_get p.compartments b ≡ Some c → (j : ℕ) (s : SlotRow) → slice_get c.code.slots j ≡ Some s
    → misnumbered (kind_byte s.row.kind) s.row.first ≡ false → OwnSlotFits p j s.row
own_slot_fits p h r b c is j s at m =
    let both = own_fits p c.code.slots j s at (own_test p h b c is j s at) m in
    let a = passes compartment_rights part_size (compartments_at (raw_of p)) p.compartments r.compartments b c is in
    let one = passes right_asked (λ s. ENTRY) (a.0 + 68) c.code.slots a.1 j s at in
    record {
      fits = record { names = both.0; rights = not-false (fits_kind s.row.kind (rights_of s.row)) (head_none (check one.0 (not (fits_kind s.row.kind (rights_of s.row)))) [] one.1).0 };
      place = both.1;
    }

library_is : (k : SlotKind) → is_library k ≡ true → k ≡ Library
library_is Library e = refl
library_is Service e = absurd (let clash : false ≡ true = e in cc)
library_is Device e = absurd (let clash : false ≡ true = e in cc)
library_is Shared e = absurd (let clash : false ≡ true = e in cc)
library_is Sealed e = absurd (let clash : false ≡ true = e in cc)
library_is Call e = absurd (let clash : false ≡ true = e in cc)
library_is Quota e = absurd (let clash : false ≡ true = e in cc)
library_is Key e = absurd (let clash : false ≡ true = e in cc)

pub library_slot_fits : (p : PartsRow) → Indexed p → Righted p → (l : ℕ) (c : CodeRow) → slice_get p.libraries l ≡ Some c → (j : ℕ) (s : SlotRow) → slice_get c.slots j ≡ Some s
    → misnumbered (kind_byte s.row.kind) s.row.first ≡ false → LibrarySlotFits p s.row
library_slot_fits p h r l c is j s at m =
    let a = passes (library_asked p) code_size (libraries_at (raw_of p)) p.libraries h.libraries l c is in
    let one = passes (slot_asked p) (λ s. ENTRY) (a.0 + 52) c.slots a.1 j s at in
    let test = (head_none (check one.0 (is_import_astray p (take j c.slots) s.row)) [] one.1).0 in
    let b = passes library_rights code_size (libraries_at (raw_of p)) p.libraries r.libraries l c is in
    let two = passes library_right_asked (λ s. ENTRY) (b.0 + 52) c.slots b.1 j s at in
    let fits = fits_kind s.row.kind (rights_of s.row) in
    let own = is_library s.row.kind in
    let both = not-false (fits && own) (head_none (check two.0 (not (fits && own))) [] two.1).0 in
    record {
      fits = record { names = names_of p s.row s.row.kind (not_astray p (take j c.slots) s.row test).named m; rights = both_left fits own both };
      kind = library_is s.row.kind (both_right fits own both);
    }

-- ---- threads

pub thread_enters : (p : PartsRow) → Indexed p → (i : ℕ) (t : ThreadRow) → slice_get p.threads i ≡ Some t → Called p.compartments t.compartment t.export
thread_enters p h i t is =
    let a = passes (thread_asked p) (λ t. THREAD) (threads_at (raw_of p)) p.threads h.threads i t is in
    called p.compartments t.compartment t.export (not-false (enters_export p t) (head_none (check (a.0 + 40) (not (enters_export p t))) [] a.1).0)
