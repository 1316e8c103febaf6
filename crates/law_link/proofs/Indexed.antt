-- What slots and threads name is there, and slots stand in their order.
use Rattle.std.proofs.Common.{ℕ, zero, suc, ◌≡◌, ◌+◌, ◌*◌, ◌<◌, ◌≤◌, ◌||◌, not, true, false, cond, nat_lt, nat_eq, List, [], ◌∷◌, ◌++◌, length, map, drop, Option, Some, None, slice_get, refl, sym, ap, ap₂, ◌∙◌, subst, arith}
use Rattle.std.specs.Prelude.{codes, unwrap_or}
use Rattle.std.specs.List.{AllByRecursion, list_any}
use Rattle.std.proofs.lemmas.List.{length-map}
use Rattle.std.proofs.lemmas.Bool.{lt-ltb, le-ltb, ne_eqb}
use Rattle.law_lists.proofs.Alls.{all_joined, all_mapped, all_so}
use Rattle.def_layout.specs.declared.Region.{Region}
use Rattle.def_layout.specs.Placement.{placed, last_end}
use Rattle.def_image.specs.declared.ImportRow.{ImportRow as SlotImport}
use Rattle.def_image.specs.declared.format.TheConstants.{ENTRY, COMPARTMENT_HEAD, LIBRARY_HEAD, THREAD}
use Rattle.def_image.specs.Parts.{SlotRow, CompartmentRow as CompartmentPart, CodeRow as CodePart, ThreadRow as ThreadPart, PartsRow}
use Rattle.def_image.specs.Spelling.{raw_of}
use Rattle.def_image.specs.Sizes.{sum_of, compartments_at, libraries_at, threads_at}
use Rattle.def_image.specs.Checks.{first, walked, check}
use Rattle.def_image.specs.Indexes.{exports_of, code_in, is_slot_named, slot_class, comes_before, is_switch, is_reserved, is_import_astray, slot_asked, is_own_astray, own_slot_asked, compartment_asked, library_asked, enters_export, thread_asked, part_size, code_size, index_checks}
use Rattle.def_desc.specs.declared.tables.Form.{Form}
use Rattle.def_desc.specs.declared.tables.Form.TheVariants as form
use Rattle.def_desc.specs.Tables.{service_of}
use Rattle.ct_entry.specs.Listed.{DeviceRow}
use Rattle.def_desc.specs.Rows.{Target, DescShared, DescSealed, ImportRow, QuotaRow, ExportRow, DescCompartment, LimportRow, LexportRow, LibraryRow, DescThread, DescRow}
use Rattle.def_desc.specs.Named.{device_names, shared_names, sealed_names, export_names, library_export_names}
use Rattle.def_desc.specs.Lawful.{IsCallImport, IsLent, Resolves, IsLawful, IsLawfulImport, IsLawfulCompartment, IsLawfulLibrary, IsLawfulThread}
use Rattle.def_link.specs.Owners.{numbered}
use Rattle.def_link.specs.Slots.{index_of, slot, switch_row, claimed, target_row, form_row, import_slot, quota_slot, key_slot, compartment_slots, library_slots, Exporter, compartment_export_named, library_export_named, export_gate, lexport_gate}
use Rattle.def_link.specs.Linked.{sizes_of, BuiltCompartment, BuiltLibrary, compartment_parts, built_compartment_entries, library_parts, built_library_entries, shared_parts, sealed_parts, thread_parts, parts_of}
use Rattle.def_link.specs.Links.{RowsLinkTo}
use Rattle.law_link.proofs.Walks.{next_none, walk_all, walk_holding, walk_joined}
use Rattle.law_link.proofs.Linkeds.{Parts, parts, GoodCompartment, GoodLibrary, compartments_good, libraries_good, compartments_all, libraries_all}
use Rattle.law_link.proofs.Found.{exporter_of, library_exporter_of, index_less, call_found, lent_found}
use Rattle.law_image.proofs.Passing.{joined_none, one_none}

-- ---- tests

-- ---- lengths of the parts

pub numbered_length : {A B : Type 0} (f : ℕ → A → B) (n : ℕ) (xs : List A) → length (numbered f n xs) ≡ length xs
numbered_length f n [] = refl
numbered_length f n (x ∷ xs) = ap suc (numbered_length f (n + 1) xs)

pub shared_length : (regions : List Region) (ss : List DescShared) → length (shared_parts regions ss) ≡ length ss
unfolding shared_parts
shared_length regions [] = refl
shared_length regions (s ∷ ss) = ap suc (shared_length (drop 1 regions) ss)

pub sealed_length : (regions : List Region) (ss : List DescSealed) → length (sealed_parts regions ss) ≡ length ss
unfolding sealed_parts
sealed_length regions [] = refl
sealed_length regions (s ∷ ss) = ap suc (sealed_length (drop 1 regions) ss)

-- compartment n of the parts has the exports of the one of its row
exports_there : (d : DescRow) (entry : ℕ) (regions : List Region) (cs : List BuiltCompartment) (n : ℕ) (x : Exporter)
    → slice_get (map exporter_of (map (λ (c : BuiltCompartment). c.row) cs)) n ≡ Some x → exports_of (code_in (compartment_parts d entry regions cs) n) ≡ length x.exports
unfolding compartment_parts exporter_of
exports_there d entry regions [] n x is = absurd (let no : None ≡ Some x = is in cc)
exports_there d entry regions (c ∷ cs) zero x is =
    let same : exporter_of c.row ≡ x = cc in
    let count : length (export_names c.row) ≡ length c.row.exports = length-map c.row.exports (λ (e : ExportRow). e.name) in
    numbered_length (export_gate c.built) (entry + 2 + (1 + length c.row.imports + length c.row.quotas + length c.row.keys)) c.row.exports ∙ sym count ∙ ap (λ (e : Exporter). length e.exports) same
exports_there d entry regions (c ∷ cs) (suc n) x is = exports_there d (entry + built_compartment_entries c) (drop 3 regions) cs n x is

lent_there : (d : DescRow) (entry : ℕ) (regions : List Region) (ls : List BuiltLibrary) (n : ℕ) (x : Exporter)
    → slice_get (map library_exporter_of (map (λ (c : BuiltLibrary). c.row) ls)) n ≡ Some x → exports_of (slice_get (library_parts d entry regions ls) n) ≡ length x.exports
unfolding library_parts library_exporter_of
lent_there d entry regions [] n x is = absurd (let no : None ≡ Some x = is in cc)
lent_there d entry regions (c ∷ cs) zero x is =
    let same : library_exporter_of c.row ≡ x = cc in
    let count : length (library_export_names c.row) ≡ length c.row.exports = length-map c.row.exports (λ (e : LexportRow). e.name) in
    numbered_length (lexport_gate c.built) (entry + 1 + length c.row.imports) c.row.exports ∙ sym count ∙ ap (λ (e : Exporter). length e.exports) same
lent_there d entry regions (c ∷ cs) (suc n) x is = lent_there d (entry + built_library_entries c) (drop 1 regions) cs n x is

-- what slots name is in the parts
pub record Targets (d : DescRow) (p : PartsRow) : Type 0 where
  pub devices : length p.devices ≡ length d.devices
  pub shared : length p.shared ≡ length d.shared
  pub sealed : length p.sealed ≡ length d.sealed
  pub called : (text : List ℕ) → IsCallImport d text → nat_lt (compartment_export_named d text).export (exports_of (code_in p.compartments (compartment_export_named d text).owner)) ≡ true
  pub lent : (text : List ℕ) → IsLent d text → nat_lt (library_export_named d text).export (exports_of (slice_get p.libraries (library_export_named d text).owner)) ≡ true

below : (e n : ℕ) (k : ℕ) → e < n → k ≡ n → nat_lt e k ≡ true
below e n k lt is = lt-ltb e k (rw is lt)

pub targets : (d : DescRow) (p : PartsRow) → Parts d p → Targets d p
unfolding parts_of exporter_of library_exporter_of
targets d p s =
    let regions = placed d.ram.base (sizes_of d s.cs s.ls) in
    let all = parts_of d s.cs s.ls regions (last_end d.ram.base (sizes_of d s.cs s.ls)) in
    subst (Targets d) (sym s.parts) (record {
      devices = refl;
      shared = shared_length (drop (3 * length s.cs + length s.ls) regions) d.shared;
      sealed = sealed_length (drop (3 * length s.cs + length s.ls + length d.shared) regions) d.sealed;
      called = λ text h.
          let f = call_found d text h in
          let at : slice_get (map exporter_of (map (λ (c : BuiltCompartment). c.row) s.cs)) f.index ≡ Some f.owner = subst (λ l. slice_get (map exporter_of l) f.index ≡ Some f.owner) (sym s.rows) f.at in
          let count = exports_there d 1 regions s.cs f.index f.owner at in
          let owner : (compartment_export_named d text).owner ≡ f.index = (let c = f.counted in omega (arith, c)) in
          below (compartment_export_named d text).export (length f.owner.exports) (exports_of (code_in (compartment_parts d 1 regions s.cs) (compartment_export_named d text).owner)) f.inside
          (ap (λ i. exports_of (code_in (compartment_parts d 1 regions s.cs) i)) owner ∙ count);
      lent = λ text h.
          let f = lent_found d text h in
          let entry = 1 + sum_of built_compartment_entries s.cs in
          let tail = drop (3 * length s.cs) regions in
          let at : slice_get (map library_exporter_of (map (λ (c : BuiltLibrary). c.row) s.ls)) f.index ≡ Some f.owner = subst (λ l. slice_get (map library_exporter_of l) f.index ≡ Some f.owner) (sym s.library_rows) f.at in
          let count = lent_there d entry tail s.ls f.index f.owner at in
          let owner : (library_export_named d text).owner ≡ f.index = (let c = f.counted in omega (arith, c)) in
          below (library_export_named d text).export (length f.owner.exports) (exports_of (slice_get (library_parts d entry tail s.ls) (library_export_named d text).owner)) f.inside
          (ap (λ i. exports_of (slice_get (library_parts d entry tail s.ls) i)) owner ∙ count);
    })

-- ---- one slot

-- it names what is there, and isn't the switch or the return
pub record IsSlot (p : PartsRow) (n : ℕ) (s : SlotRow) : Type 0 where
  pub named : is_slot_named p s.row s.row.kind ≡ true
  pub free : is_reserved s.row ≡ false
  pub class : slot_class s.row.kind ≡ n

served : (text : List ℕ) (n : ℕ) → service_of text ≡ Some n → 2 ≤ n → (nat_eq (unwrap_or (service_of text) 0) 0 || nat_eq (unwrap_or (service_of text) 0) 1) ≡ false
served text n is low =
    let value : unwrap_or (service_of text) 0 ≡ n = ap (λ o. unwrap_or o 0) is in
    rw value (ap₂ (λ a b. a || b) (ne_eqb n 0 (λ e. omega (arith, e, low))) (ne_eqb n 1 (λ e. omega (arith, e, low))))

form_slot : (d : DescRow) (p : PartsRow) → Targets d p → (x : ImportRow) (f : Form) (text : List ℕ) → Resolves d f text → IsSlot p 0 (slot x.alias (form_row d (claimed x) f text))
form_slot d p t x form.Device text h = record {
  named = (let lt = index_less text (device_names d) h in let count : length (device_names d) ≡ length d.devices = length-map d.devices (λ (v : DeviceRow). v.name) in let all = t.devices in lt-ltb (index_of text (device_names d)) (length p.devices) (omega (arith, lt, count, all)));
  free = refl;
  class = refl;
}
form_slot d p t x form.Shared text h = record {
  named = (let lt = index_less text (shared_names d) h in let count : length (shared_names d) ≡ length d.shared = length-map d.shared (λ (v : DescShared). v.name) in let all = t.shared in lt-ltb (index_of text (shared_names d)) (length p.shared) (omega (arith, lt, count, all)));
  free = refl;
  class = refl;
}
form_slot d p t x form.Sealed text h = record {
  named = (let lt = index_less text (sealed_names d) h in let count : length (sealed_names d) ≡ length d.sealed = length-map d.sealed (λ (v : DescSealed). v.name) in let all = t.sealed in lt-ltb (index_of text (sealed_names d)) (length p.sealed) (omega (arith, lt, count, all)));
  free = refl;
  class = refl;
}
form_slot d p t x form.Call text h = record { named = t.called text h; free = refl; class = refl }
form_slot d p t x form.Service text h = record { named = refl; free = served text h.0 h.1 h.2.0; class = refl }
form_slot d p t x form.Library text h = record { named = t.lent text h; free = refl; class = refl }

import_slot_is : (d : DescRow) (p : PartsRow) → Targets d p → (x : ImportRow) → IsLawfulImport d x → IsSlot p 0 (import_slot d x)
import_slot_is d p t x h =
    subst (λ (o : Option Target). IsSlot p 0 (slot x.alias (target_row d (claimed x) o))) (sym h.named) (form_slot d p t x h.target.form h.target.name h.resolves)

quota_slot_is : (p : PartsRow) (q : QuotaRow) → IsSlot p 1 (quota_slot q)
quota_slot_is p q = record { named = refl; free = refl; class = refl }

key_slot_is : (p : PartsRow) (k : ℕ) → IsSlot p 2 (key_slot k)
key_slot_is p k = record { named = refl; free = refl; class = refl }

library_slot_is : (d : DescRow) (p : PartsRow) → Targets d p → (x : LimportRow) → IsLent d x.library → IsSlot p 0 (slot x.alias (form_row d 0 form.Library x.library))
library_slot_is d p t x h = record { named = t.lent x.library h; free = refl; class = refl }

-- ---- the order of slots

-- those before are of no later class
AtMost : ℕ → List SlotRow → Type 0
AtMost n earlier = AllByRecursion (λ (s : SlotRow). slot_class s.row.kind ≤ n) earlier

none_later : (n : ℕ) (r : SlotImport) (earlier : List SlotRow) → slot_class r.kind ≡ n → AtMost n earlier → list_any (comes_before r) earlier ≡ false
unfolding AtMost
none_later n r [] is h = refl
none_later n r (s ∷ ss) is h =
    let le = h.0 in
    ap₂ (λ a b. a || b) (le-ltb (slot_class r.kind) (slot_class s.row.kind) (omega (arith, is, le))) (none_later n r ss is h.1)

not_astray : (p : PartsRow) (n : ℕ) (earlier : List SlotRow) (s : SlotRow) → AtMost n earlier → IsSlot p n s → is_import_astray p earlier s.row ≡ false
not_astray p n earlier s before h = rw (h.named, h.free, none_later n s.row earlier h.class before) refl

one_more : (n : ℕ) (p : PartsRow) (earlier : List SlotRow) (s : SlotRow) → AtMost n earlier → IsSlot p n s → AtMost n (earlier ++ s ∷ [])
unfolding AtMost
one_more n p earlier s h k = all_joined (λ (s : SlotRow). slot_class s.row.kind ≤ n) earlier (s ∷ []) h ((let is = k.class in omega (arith, is)), tt)

-- after the first slot, where some stand before
HasMore : ℕ → List SlotRow → Type 0
HasMore n earlier = (nat_eq (length earlier) 0 ≡ false) × AtMost n earlier

more_length : (earlier : List SlotRow) (s : SlotRow) → nat_eq (length (earlier ++ s ∷ [])) 0 ≡ false
more_length [] s = refl
more_length (e ∷ es) s = ne_eqb (suc (length (es ++ s ∷ []))) 0 (λ e. omega (arith, e))

own_passes : (p : PartsRow) (n at : ℕ) (earlier : List SlotRow) (s : SlotRow) → HasMore n earlier → IsSlot p n s → first (own_slot_asked p at earlier s) ≡ None
unfolding HasMore
own_passes p n at earlier s before h =
    one_none at (is_own_astray p earlier s.row) (ap (λ b. cond b (not (is_switch s.row)) (is_import_astray p earlier s.row)) before.0 ∙ not_astray p n earlier s before.1 h)

own_more : (p : PartsRow) (n : ℕ) (earlier : List SlotRow) (s : SlotRow) → HasMore n earlier → IsSlot p n s → HasMore n (earlier ++ s ∷ [])
unfolding HasMore
own_more p n earlier s h k = (more_length earlier s, one_more n p earlier s h.1 k)

-- slots of one class, after those of classes up to it
own_stretch : (p : PartsRow) (n at : ℕ) (earlier xs : List SlotRow) → HasMore n earlier → AllByRecursion (IsSlot p n) xs → first (walked (own_slot_asked p) (λ s. ENTRY) at earlier xs) ≡ None
own_stretch p n at earlier xs h k = walk_holding (HasMore n) (IsSlot p n) (own_slot_asked p) (λ s. ENTRY) (own_passes p n) (own_more p n) at earlier xs h k

stretch_more : (p : PartsRow) (n m : ℕ) (earlier xs : List SlotRow) → n ≤ m → HasMore n earlier → AllByRecursion (IsSlot p n) xs → HasMore m (earlier ++ xs)
unfolding HasMore AtMost
stretch_more p n m earlier xs le h k = (
  long earlier xs h.0,
  all_joined (λ (s : SlotRow). slot_class s.row.kind ≤ m) earlier xs
      (all_so (λ (s : SlotRow). slot_class s.row.kind ≤ n) (λ (s : SlotRow). slot_class s.row.kind ≤ m) earlier (λ s c. omega (arith, c, le)) h.1)
      (all_so (IsSlot p n) (λ (s : SlotRow). slot_class s.row.kind ≤ m) xs (λ s c. let is = c.class in omega (arith, is, le)) k),
)
  where
    long : (earlier xs : List SlotRow) → nat_eq (length earlier) 0 ≡ false → nat_eq (length (earlier ++ xs)) 0 ≡ false
    long [] xs e = absurd (let no : true ≡ false = e in cc)
    long (y ∷ ys) xs e = ne_eqb (suc (length (ys ++ xs))) 0 (λ e. omega (arith, e))

-- ---- compartments

compartment_passes : (d : DescRow) (p : PartsRow) → Targets d p → (c : DescCompartment) → IsLawfulCompartment d c → (at : ℕ) → first (walked (own_slot_asked p) (λ s. ENTRY) at [] (compartment_slots d c)) ≡ None
unfolding walked HasMore AtMost
compartment_passes d p t c h at =
    let sw = slot (codes "switch") switch_row in
    let a = map (import_slot d) c.imports in
    let b = map quota_slot c.quotas in
    let k = map key_slot c.keys in
    let a_are : AllByRecursion (IsSlot p 0) a = all_mapped (IsSlot p 0) (import_slot d) c.imports (all_so (IsLawfulImport d) (λ x. IsSlot p 0 (import_slot d x)) c.imports (λ x i. import_slot_is d p t x i) h.import) in
    let b_are : AllByRecursion (IsSlot p 1) b = quotas c.quotas in
    let k_are : AllByRecursion (IsSlot p 2) k = keys c.keys in
    let one : HasMore 0 (sw ∷ []) = (refl, (omega arith, tt)) in
    let two : HasMore 1 (sw ∷ a) = stretch_more p 0 1 (sw ∷ []) a (omega arith) one a_are in
    let three : HasMore 2 (sw ∷ (a ++ b)) = stretch_more p 1 2 (sw ∷ a) b (omega arith) two b_are in
    next_none (check at false) (walked (own_slot_asked p) (λ s. ENTRY) (at + ENTRY) (sw ∷ []) (a ++ b ++ k)) refl
    (walk_joined (own_slot_asked p) (λ s. ENTRY) (at + ENTRY) (sw ∷ []) (a ++ b) k
    (walk_joined (own_slot_asked p) (λ s. ENTRY) (at + ENTRY) (sw ∷ []) a b
    (own_stretch p 0 (at + ENTRY) (sw ∷ []) a one a_are)
    (λ place. own_stretch p 1 place (sw ∷ a) b two b_are))
    (λ place. own_stretch p 2 place (sw ∷ (a ++ b)) k three k_are))
  where
    quotas : (qs : List QuotaRow) → AllByRecursion (IsSlot p 1) (map quota_slot qs)
    quotas [] = tt
    quotas (q ∷ qs) = (quota_slot_is p q, quotas qs)

    keys : (ks : List ℕ) → AllByRecursion (IsSlot p 2) (map key_slot ks)
    keys [] = tt
    keys (k ∷ ks) = (key_slot_is p k, keys ks)

-- ---- libraries

library_passes : (d : DescRow) (p : PartsRow) → Targets d p → (l : LibraryRow) → IsLawfulLibrary d l → (at : ℕ) → first (walked (slot_asked p) (λ s. ENTRY) at [] (library_slots d l)) ≡ None
unfolding AtMost
library_passes d p t l h at =
    walk_holding (AtMost 0) (IsSlot p 0) (slot_asked p) (λ s. ENTRY)
    (λ place earlier s before k. one_none place (is_import_astray p earlier s.row) (not_astray p 0 earlier s before k))
    (λ earlier s before k. one_more 0 p earlier s before k) at [] (library_slots d l) none
    (all_mapped (IsSlot p 0) (λ (x : LimportRow). slot x.alias (form_row d 0 form.Library x.library)) l.imports
    (all_so (λ (x : LimportRow). IsLent d x.library) (λ x. IsSlot p 0 (slot x.alias (form_row d 0 form.Library x.library))) l.imports (λ x i. library_slot_is d p t x i) h.import))
  where
    none : AtMost 0 []
    none = tt

-- ---- threads

threads_pass : (d : DescRow) (p : PartsRow) → Targets d p → (regions : List Region) (ts : List DescThread) → AllByRecursion (IsLawfulThread d) ts
    → AllByRecursion (λ (t : ThreadPart). enters_export p t ≡ true) (thread_parts d regions ts)
unfolding thread_parts
threads_pass d p t regions [] h = tt
threads_pass d p t regions (x ∷ xs) h = (t.called x.entry h.0.entry, threads_pass d p t (drop 1 regions) xs h.1)

-- ---- all

-- what holds of the lists of the parts
record Listed (d : DescRow) (p : PartsRow) : Type 0 where
  pub compartments : AllByRecursion (λ (c : CompartmentPart). (at : ℕ) → first (walked (own_slot_asked p) (λ s. ENTRY) at [] c.code.slots) ≡ None) p.compartments
  pub libraries : AllByRecursion (λ (c : CodePart). (at : ℕ) → first (walked (slot_asked p) (λ s. ENTRY) at [] c.slots) ≡ None) p.libraries
  pub threads : AllByRecursion (λ (t : ThreadPart). enters_export p t ≡ true) p.threads

listed : (d : DescRow) (p : PartsRow) → IsLawful d → (s : Parts d p) → (q : PartsRow) → Targets d q → p ≡ q → Listed d q
unfolding parts_of
listed d p law s q t same =
    let regions = placed d.ram.base (sizes_of d s.cs s.ls) in
    let is : q ≡ parts_of d s.cs s.ls regions (last_end d.ram.base (sizes_of d s.cs s.ls)) = sym same ∙ s.parts in
    record {
      compartments = subst (λ (z : PartsRow). AllByRecursion (λ (c : CompartmentPart). (at : ℕ) → first (walked (own_slot_asked q) (λ s. ENTRY) at [] c.code.slots) ≡ None) z.compartments) (sym is)
          (compartments_all d (GoodCompartment d) (λ (c : CompartmentPart). (at : ℕ) → first (walked (own_slot_asked q) (λ s. ENTRY) at [] c.code.slots) ≡ None) 1 regions s.cs
          (λ entry rs x g at. compartment_passes d q t x.row g.row at) (compartments_good d p law.compartment s));
      libraries = subst (λ (z : PartsRow). AllByRecursion (λ (c : CodePart). (at : ℕ) → first (walked (slot_asked q) (λ s. ENTRY) at [] c.slots) ≡ None) z.libraries) (sym is)
          (libraries_all d (GoodLibrary d) (λ (c : CodePart). (at : ℕ) → first (walked (slot_asked q) (λ s. ENTRY) at [] c.slots) ≡ None)
          (1 + sum_of built_compartment_entries s.cs) (drop (3 * length s.cs) regions) s.ls
          (λ entry rs x g at. library_passes d q t x.row g.row at) (libraries_good d p law.library s));
      threads = subst (λ (z : PartsRow). AllByRecursion (λ (t : ThreadPart). enters_export q t ≡ true) z.threads) (sym is)
          (threads_pass d q t (drop (3 * length s.cs + length s.ls + length d.shared + length d.sealed) regions) d.threads law.thread);
    }

all_pass : (d : DescRow) (p : PartsRow) → Listed d p → first (index_checks p) ≡ None
unfolding index_checks
all_pass d p h =
    let c = walked (compartment_asked p) part_size (compartments_at (raw_of p)) [] p.compartments in
    let l = walked (library_asked p) code_size (libraries_at (raw_of p)) [] p.libraries in
    let t = walked (thread_asked p) (λ t. THREAD) (threads_at (raw_of p)) [] p.threads in
    joined_none (c ++ l) t
    (joined_none c l
    (walk_all (λ (c : CompartmentPart). (at : ℕ) → first (walked (own_slot_asked p) (λ s. ENTRY) at [] c.code.slots) ≡ None) (compartment_asked p) part_size
    (λ at earlier c k. k (at + COMPARTMENT_HEAD)) (compartments_at (raw_of p)) [] p.compartments h.compartments)
    (walk_all (λ (c : CodePart). (at : ℕ) → first (walked (slot_asked p) (λ s. ENTRY) at [] c.slots) ≡ None) (library_asked p) code_size
    (λ at earlier c k. k (at + LIBRARY_HEAD)) (libraries_at (raw_of p)) [] p.libraries h.libraries))
    (walk_all (λ (t : ThreadPart). enters_export p t ≡ true) (thread_asked p) (λ t. THREAD)
    (λ at earlier t k. one_none (at + 40) (not (enters_export p t)) (ap not k)) (threads_at (raw_of p)) [] p.threads h.threads)

-- what slots and threads name is there, and slots stand in their order
pub indexes_pass : (d : DescRow) (sources : List (List ℕ)) (p : PartsRow) → RowsLinkTo d sources p → first (index_checks p) ≡ None
indexes_pass d sources p h =
    let s = parts d sources p h.linked in
    all_pass d p (listed d p h.lawful s p (targets d p s) refl)
