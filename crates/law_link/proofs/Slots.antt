-- The rows that slots of a lawful description have keep the limits of an image's rows.
use Rattle.std.proofs.Common.{ℕ, ◌≡◌, ◌+◌, ◌≤◌, not, true, List, [], ◌∷◌, ◌++◌, length, map, Option, refl, sym, ap, ap₂, ◌∙◌, subst, arith, inl, inr}
use Rattle.std.specs.Prelude.{codes, unwrap_or}
use Rattle.std.specs.List.{AllByRecursion}
use Rattle.std.specs.Fmt.{digits}
use Rattle.std.proofs.lemmas.List.{length-append, length-map, map-append}
use Rattle.std.proofs.lemmas.Option.{slice_get_within}
use Rattle.std.proofs.lemmas.Slice.Eq.{bytes_eq-Decides}
use Rattle.std.proofs.lemmas.Bool.{le-ltb}
use Rattle.std.proofs.lemmas.Simd.{map-map}
use Rattle.law_lists.proofs.Alls.{all_joined, all_mapped, all_so}
use Rattle.law_lists.proofs.Tests.{le_tells}
use Rattle.ct_entry.specs.Listed.{DeviceRow}
use Rattle.def_words.specs.Permissions.{bit, set_where, form_of, packed}
use Rattle.def_texts.specs.Names.{is_name, among}
use Rattle.def_image.specs.Parts.{SlotRow}
use Rattle.def_image.specs.Limits.{key_slot_name, switch_name}
use Rattle.def_image.specs.Sound.{IsWithin}
use Rattle.law_image.proofs.Members.{all_at}
use Rattle.def_desc.specs.declared.tables.Form.{Form}
use Rattle.def_desc.specs.declared.tables.Form.TheVariants as form
use Rattle.def_desc.specs.Names.{key_name as own_key_name}
use Rattle.def_desc.specs.Reading.{rights_of_text as rights_of_text}
use Rattle.def_desc.specs.Tables.{device_rights, shared_rights, service_of}
use Rattle.def_desc.specs.References.{rights_fit}
use Rattle.def_desc.specs.Rows.{Target, DescShared, DescSealed, ImportRow, QuotaRow, ExportRow, DescCompartment, LimportRow, LexportRow, LibraryRow, DescRow}
use Rattle.def_desc.specs.Named.{device_names, shared_names, sealed_names, slot_names, export_names, library_slot_names, library_export_names}
use Rattle.def_desc.specs.Lawful.{IsCallImport, IsLent, Resolves, IsLawful, IsLawfulImport, IsLawfulCompartment, IsLawfulLibrary}
use Rattle.def_link.specs.Slots.{Exporter, granted, claimed, slot, switch_row, target_row, form_row, import_slot, quota_slot, key_slot, compartment_slots, library_slots, compartment_exporters, library_exporters, compartment_export_named, library_export_named}
use Rattle.law_link.proofs.Granted.{one_of}
use Rattle.law_link.proofs.Found.{exporter_of, library_exporter_of, index_less, call_found, lent_found}
use Rattle.law_link.proofs.Fields.{inside, New, all_new}
use Rattle.law_link.proofs.Rows.{SlotSized, SlotGood}

-- ---- what is named has a small number

pub record Small (owner export : ℕ) : Type 0 where
  pub owner_small : owner ≤ 64
  pub export_small : export ≤ 64

pub call_small : (d : DescRow) (text : List ℕ) → IsLawful d → IsCallImport d text → Small (compartment_export_named d text).owner (compartment_export_named d text).export
unfolding exporter_of
call_small d text law h =
    let f = call_found d text h in
    let at = slice_get_within (compartment_exporters d) f.index f.owner f.at in
    let count : length (compartment_exporters d) ≡ length d.compartments = length-map d.compartments exporter_of in
    let few = law.few.compartments in
    let counted = f.counted in
    let all : AllByRecursion (λ (e : Exporter). length e.exports ≤ 64) (compartment_exporters d) = all_mapped (λ (e : Exporter). length e.exports ≤ 64) exporter_of d.compartments
    (all_so (IsLawfulCompartment d) (λ (c : DescCompartment). length (export_names c) ≤ 64) d.compartments (λ c k. let most = k.exports in let same : length (export_names c) ≡ length c.exports = length-map c.exports (λ (e : ExportRow). e.name) in omega (arith, most, same)) law.compartment) in
    let most = all_at (λ (e : Exporter). length e.exports ≤ 64) (compartment_exporters d) f.index f.owner all f.at in
    let lt = f.inside in
    record { owner_small = omega (arith, at, count, few, counted); export_small = omega (arith, lt, most) }

lent_small : (d : DescRow) (text : List ℕ) → IsLawful d → IsLent d text → Small (library_export_named d text).owner (library_export_named d text).export
unfolding library_exporter_of
lent_small d text law h =
    let f = lent_found d text h in
    let at = slice_get_within (library_exporters d) f.index f.owner f.at in
    let count : length (library_exporters d) ≡ length d.libraries = length-map d.libraries library_exporter_of in
    let few = law.few.libraries in
    let counted = f.counted in
    let all : AllByRecursion (λ (e : Exporter). length e.exports ≤ 64) (library_exporters d) = all_mapped (λ (e : Exporter). length e.exports ≤ 64) library_exporter_of d.libraries
    (all_so (IsLawfulLibrary d) (λ (l : LibraryRow). length (library_export_names l) ≤ 64) d.libraries (λ l k. let most = k.exports in let same : length (library_export_names l) ≡ length l.exports = length-map l.exports (λ (e : LexportRow). e.name) in omega (arith, most, same)) law.library) in
    let most = all_at (λ (e : Exporter). length e.exports ≤ 64) (library_exporters d) f.index f.owner all f.at in
    let lt = f.inside in
    record { owner_small = omega (arith, at, count, few, counted); export_small = omega (arith, lt, most) }

-- ---- one slot

device_rights_small : (x : ImportRow) → among (unwrap_or x.rights []) device_rights ≡ true → claimed x ≤ 63
unfolding device_rights packed set_where bit form_of
device_rights_small x e = one_of (λ t. packed (granted (rights_of_text t)) ≤ 63) (unwrap_or x.rights []) device_rights (omega arith, (omega arith, (omega arith, tt))) e

shared_rights_small : (x : ImportRow) → among (unwrap_or x.rights []) shared_rights ≡ true → claimed x ≤ 63
unfolding shared_rights packed set_where bit form_of
shared_rights_small x e = one_of (λ t. packed (granted (rights_of_text t)) ≤ 63) (unwrap_or x.rights []) shared_rights
    (omega arith, (omega arith, (omega arith, (omega arith, (omega arith, (omega arith, tt)))))) e

form_sized : (d : DescRow) → IsLawful d → (x : ImportRow) (f : Form) (text : List ℕ) → Resolves d f text → rights_fit f (unwrap_or x.rights []) ≡ true → SlotSized (slot x.alias (form_row d (claimed x) f text))
unfolding packed set_where bit form_of
form_sized d law x form.Device text h e =
    let lt = index_less text (device_names d) h in
    let count : length (device_names d) ≡ length d.devices = length-map d.devices (λ (v : DeviceRow). v.name) in
    let few = law.few.devices in
    record { rights = device_rights_small x e; first_small = omega (arith, lt, count, few); second_small = omega arith; numbered = refl; second = refl; key = refl }
form_sized d law x form.Shared text h e =
    let lt = index_less text (shared_names d) h in
    let count : length (shared_names d) ≡ length d.shared = length-map d.shared (λ (v : DescShared). v.name) in
    let few = law.few.shared in
    record { rights = shared_rights_small x e; first_small = omega (arith, lt, count, few); second_small = omega arith; numbered = refl; second = refl; key = refl }
form_sized d law x form.Sealed text h e =
    let lt = index_less text (sealed_names d) h in
    let count : length (sealed_names d) ≡ length d.sealed = length-map d.sealed (λ (v : DescSealed). v.name) in
    let few = law.few.sealed in
    record { rights = omega arith; first_small = omega (arith, lt, count, few); second_small = omega arith; numbered = refl; second = refl; key = refl }
form_sized d law x form.Call text h e =
    let s = call_small d text law h in
    let a = s.owner_small in
    let b = s.export_small in
    record { rights = omega arith; first_small = omega (arith, a); second_small = omega (arith, b); numbered = refl; second = refl; key = refl }
form_sized d law x form.Service text h e =
    let value : unwrap_or (service_of text) 0 ≡ h.0 = ap (λ o. unwrap_or o 0) h.1 in
    let le = h.2.1 in
    record {
      rights = omega arith;
      first_small = omega (arith, value, le);
      second_small = omega arith;
      numbered = le-ltb 12 (unwrap_or (service_of text) 0) (omega (arith, value, le));
      second = refl;
      key = refl;
    }
form_sized d law x form.Library text h e =
    let s = lent_small d text law h in
    let a = s.owner_small in
    let b = s.export_small in
    record { rights = omega arith; first_small = omega (arith, a); second_small = omega (arith, b); numbered = refl; second = refl; key = refl }

import_sized : (d : DescRow) → IsLawful d → (x : ImportRow) → IsLawfulImport d x → SlotSized (import_slot d x)
import_sized d law x h =
    subst (λ (o : Option Target). SlotSized (slot x.alias (target_row d (claimed x) o))) (sym h.named) (form_sized d law x h.target.form h.target.name h.resolves h.rights)

limport_sized : (d : DescRow) → IsLawful d → (x : LimportRow) → IsLent d x.library → SlotSized (slot x.alias (form_row d 0 form.Library x.library))
unfolding packed set_where bit form_of
limport_sized d law x h =
    let s = lent_small d x.library law h in
    let a = s.owner_small in
    let b = s.export_small in
    record { rights = omega arith; first_small = omega (arith, a); second_small = omega (arith, b); numbered = refl; second = refl; key = refl }

switch_sized : SlotSized (slot (codes "switch") switch_row)
unfolding packed set_where bit form_of
switch_sized = record { rights = omega arith; first_small = omega arith; second_small = omega arith; numbered = refl; second = refl; key = refl }

quota_sized : (q : QuotaRow) → q.limit ≤ 2147483647 → SlotSized (quota_slot q)
unfolding packed set_where bit form_of
quota_sized q le = record { rights = omega arith; first_small = omega (arith, le); second_small = omega arith; numbered = le-ltb 2147483647 q.limit le; second = refl; key = refl }

-- a key's name is the one that its slot must have
key_same : (n : ℕ) → IsWithin 13 15 n → own_key_name n ≡ key_slot_name n
unfolding digits
key_same n w = elim (le_tells n 13) [
  | inl h ↦ (let le = h.1 in let low = w.0 in let is : 13 ≡ n = omega (arith, le, low) in subst (λ k. own_key_name k ≡ key_slot_name k) is refl)
  | inr h ↦ elim (le_tells n 14) [
    | inl k ↦ (let le = k.1 in let low = h.1 in let is : 14 ≡ n = omega (arith, le, low) in subst (λ k. own_key_name k ≡ key_slot_name k) is refl)
    | inr k ↦ (let low = k.1 in let top = w.1 in let is : 15 ≡ n = omega (arith, low, top) in subst (λ k. own_key_name k ≡ key_slot_name k) is refl)
  ]
]

key_sized : (n : ℕ) → IsWithin 13 15 n → SlotSized (key_slot n)
unfolding packed set_where bit form_of
key_sized n w =
    let top = w.1 in
    record {
      rights = omega arith;
      first_small = omega (arith, top);
      second_small = omega arith;
      numbered = inside 13 15 n w;
      second = refl;
      key = ap not ((bytes_eq-Decides (own_key_name n) (key_slot_name n)).1 (key_same n w));
    }

-- ---- slots of an owner

rest_sized : (d : DescRow) → IsLawful d → (c : DescCompartment) → IsLawfulCompartment d c → AllByRecursion SlotSized (map (import_slot d) c.imports ++ map quota_slot c.quotas ++ map key_slot c.keys)
rest_sized d law c h =
    all_joined SlotSized (map (import_slot d) c.imports ++ map quota_slot c.quotas) (map key_slot c.keys)
    (all_joined SlotSized (map (import_slot d) c.imports) (map quota_slot c.quotas)
    (all_mapped SlotSized (import_slot d) c.imports (all_so (IsLawfulImport d) (λ x. SlotSized (import_slot d x)) c.imports (λ x k. import_sized d law x k) h.import))
    (all_mapped SlotSized quota_slot c.quotas (all_so (λ (q : QuotaRow). q.limit ≤ 2147483647) (λ q. SlotSized (quota_slot q)) c.quotas (λ q k. quota_sized q k) h.quota)))
    (all_mapped SlotSized key_slot c.keys (all_so (IsWithin 13 15) (λ n. SlotSized (key_slot n)) c.keys (λ n k. key_sized n k) h.key))

unfoldable pub title : SlotRow → List ℕ
title s = s.name

-- the names of the slots after the first
rest_names : (d : DescRow) (c : DescCompartment) → map title (map (import_slot d) c.imports ++ map quota_slot c.quotas ++ map key_slot c.keys)
    ≡ map (λ (x : ImportRow). x.alias) c.imports ++ map (λ (q : QuotaRow). q.name) c.quotas ++ map own_key_name c.keys
unfolding title
rest_names d c =
    let a = map (import_slot d) c.imports in
    let b = map quota_slot c.quotas in
    let k = map key_slot c.keys in
    map-append title (a ++ b) k
    ∙ ap₂ (λ x y. x ++ y) (map-append title a b ∙ ap₂ (λ x y. x ++ y) (map-map title (import_slot d) c.imports) (map-map title quota_slot c.quotas)) (map-map title key_slot c.keys)

good_slots : (slots : List SlotRow) → AllByRecursion SlotSized slots → AllByRecursion (λ n. is_name n ≡ true) (map title slots) → AllByRecursion SlotGood slots
unfolding title
good_slots [] h k = tt
good_slots (s ∷ ss) h k = (
  record { named = k.0; sized = h.0 },
  good_slots ss h.1 k.1,
)

-- the slots of a compartment: the switch, and others whose names are new
pub record OwnSlots (first : SlotRow) (rest : List SlotRow) : Type 0 where
  pub switch : first.name ≡ switch_name
  pub head : SlotGood first
  pub each : AllByRecursion SlotGood rest
  pub new : New (switch_name ∷ []) (map title rest)

pub own_slots : (d : DescRow) → IsLawful d → (c : DescCompartment) → IsLawfulCompartment d c
    → OwnSlots (slot (codes "switch") switch_row) (map (import_slot d) c.imports ++ map quota_slot c.quotas ++ map key_slot c.keys)
unfolding title New
own_slots d law c h =
    let rest = map (import_slot d) c.imports ++ map quota_slot c.quotas ++ map key_slot c.keys in
    let new = all_new (slot_names c) h.slots.once in
    let names = rest_names d c in
    record {
      switch = refl;
      head = (good_slots (slot (codes "switch") switch_row ∷ []) (switch_sized, tt) (refl, tt)).0;
      each = good_slots rest (rest_sized d law c h) (subst (AllByRecursion (λ n. is_name n ≡ true)) (sym names) h.slots.formed.1);
      new = subst (New (switch_name ∷ [])) (sym names) new.1;
    }

pub record LibrarySlots (slots : List SlotRow) : Type 0 where
  pub each : AllByRecursion SlotGood slots
  pub new : New [] (map title slots)

pub library_slots_good : (d : DescRow) → IsLawful d → (l : LibraryRow) → IsLawfulLibrary d l → LibrarySlots (library_slots d l)
unfolding title
library_slots_good d law l h =
    let make = λ (x : LimportRow). slot x.alias (form_row d 0 form.Library x.library) in
    let names : map title (library_slots d l) ≡ library_slot_names l = map-map title make l.imports in
    record {
      each = good_slots (library_slots d l) (all_mapped SlotSized make l.imports (all_so (λ (x : LimportRow). IsLent d x.library) (λ x. SlotSized (make x)) l.imports (λ x k. limport_sized d law x k) h.import))
          (subst (AllByRecursion (λ n. is_name n ≡ true)) (sym names) h.slots.formed);
      new = subst (New []) (sym names) (all_new (library_slot_names l) h.slots.once);
    }

-- ---- how many

pub slot_count : (d : DescRow) (c : DescCompartment) → length (compartment_slots d c) ≡ 1 + length c.imports + length c.quotas + length c.keys
slot_count d c =
    let a = map (import_slot d) c.imports in
    let b = map quota_slot c.quotas in
    let k = map key_slot c.keys in
    let n1 = length-append (a ++ b) k in
    let n2 = length-append a b in
    let c1 : length a ≡ length c.imports = length-map c.imports (import_slot d) in
    let c2 : length b ≡ length c.quotas = length-map c.quotas quota_slot in
    let c3 : length k ≡ length c.keys = length-map c.keys key_slot in
    omega (arith, n1, n2, c1, c2, c3)

pub library_slot_count : (d : DescRow) (l : LibraryRow) → length (library_slots d l) ≡ length l.imports
library_slot_count d l = length-map l.imports (λ (x : LimportRow). slot x.alias (form_row d 0 form.Library x.library))
