-- The rights of slots are those of their kinds.
use Rattle.std.proofs.Common.{ℕ, ◌≡◌, ◌+◌, ◌*◌, ◌&&◌, ◌||◌, not, Bool, true, false, List, [], ◌∷◌, ◌++◌, length, map, drop, Option, None, refl, sym, ap, subst}
use Rattle.std.specs.Prelude.{bytes_eq, unwrap_or}
use Rattle.std.specs.List.{AllByRecursion}
use Rattle.std.proofs.lemmas.Slice.Eq.{bytes_eq-Decides}
use Rattle.std.proofs.lemmas.Bool.{not_from_true}
use Rattle.law_lists.proofs.Alls.{all_joined, all_mapped, all_so}
use Rattle.def_texts.specs.Names.{among}
use Rattle.def_layout.specs.Placement.{placed, last_end}
use Rattle.def_image.specs.declared.SlotKind.TheVariants as kind
use Rattle.def_image.specs.declared.format.TheConstants.{ENTRY, COMPARTMENT_HEAD, LIBRARY_HEAD}
use Rattle.def_image.specs.Parts.{SlotRow, CompartmentRow as CompartmentPart, CodeRow as CodePart, PartsRow}
use Rattle.def_image.specs.Spelling.{raw_of}
use Rattle.def_image.specs.Sizes.{sum_of, compartments_at, libraries_at}
use Rattle.def_image.specs.Checks.{first, walked}
use Rattle.def_image.specs.Indexes.{part_size, code_size}
use Rattle.def_image.specs.Rights.{fits_kind, rights_of, is_library, right_asked, library_right_asked, compartment_rights, library_rights, right_checks}
use Rattle.def_desc.specs.declared.tables.Form.{Form}
use Rattle.def_desc.specs.declared.tables.Form.TheVariants as form
use Rattle.def_words.specs.Permissions.{bit, set_where, form_of, packed, unpacked}
use Rattle.def_desc.specs.Reading.{rights_of_text as rights_of_text}
use Rattle.def_desc.specs.Tables.{device_rights, shared_rights}
use Rattle.def_desc.specs.References.{rights_fit}
use Rattle.def_desc.specs.Rows.{Target, ImportRow, QuotaRow, DescCompartment, LimportRow, LibraryRow, DescRow}
use Rattle.def_desc.specs.Lawful.{IsLawfulImport, IsLawfulCompartment}
use Rattle.def_link.specs.Slots.{granted, claimed, slot, target_row, form_row, import_slot, quota_slot, key_slot, compartment_slots, library_slots}
use Rattle.def_link.specs.Linked.{sizes_of, compartment_parts, built_compartment_entries, library_parts, parts_of}
use Rattle.def_link.specs.Links.{RowsLinkTo}
use Rattle.law_link.proofs.Walks.{walk_all}
use Rattle.law_link.proofs.Linkeds.{parts, GoodCompartment, GoodLibrary, compartments_good, libraries_good, compartments_all, libraries_all}
use Rattle.law_image.proofs.Passing.{joined_none, one_none}

-- a slot has rights of its kind
pub Granted : SlotRow → Type 0
Granted s = fits_kind s.row.kind (rights_of s.row) ≡ true

-- ---- imports

-- one of the texts of a list
pub one_of : (P : List ℕ → Type 0) (text : List ℕ) (texts : List (List ℕ)) → AllByRecursion P texts → among text texts ≡ true → P text
one_of P text [] h e = absurd (let no : false ≡ true = e in cc)
one_of P text (t ∷ ts) h e = by (bytes_eq text t) refl e (λ k. one_of P text ts h.1 k)
  where
    by : (b : Bool) → bytes_eq text t ≡ b → (b || among text ts) ≡ true → (among text ts ≡ true → P text) → P text
    by true is k rest = subst P (sym ((bytes_eq-Decides text t).0 is)) h.0
    by false is k rest = rest k

device_fits : (d : DescRow) (x : ImportRow) (name : List ℕ) → among (unwrap_or x.rights []) device_rights ≡ true
    → fits_kind kind.Device (rights_of (form_row d (claimed x) form.Device name)) ≡ true
unfolding device_rights packed unpacked set_where bit form_of
device_fits d x name e =
    one_of (λ t. fits_kind kind.Device (unpacked (packed (granted (rights_of_text t)))) ≡ true) (unwrap_or x.rights []) device_rights (refl, (refl, (refl, tt))) e

shared_fits : (d : DescRow) (x : ImportRow) (name : List ℕ) → among (unwrap_or x.rights []) shared_rights ≡ true
    → fits_kind kind.Shared (rights_of (form_row d (claimed x) form.Shared name)) ≡ true
unfolding shared_rights packed unpacked set_where bit form_of
shared_fits d x name e =
    one_of (λ t. fits_kind kind.Shared (unpacked (packed (granted (rights_of_text t)))) ≡ true) (unwrap_or x.rights []) shared_rights
    (refl, (refl, (refl, (refl, (refl, (refl, tt)))))) e

form_fits : (d : DescRow) (x : ImportRow) (f : Form) (name : List ℕ) → rights_fit f (unwrap_or x.rights []) ≡ true
    → fits_kind (form_row d (claimed x) f name).kind (rights_of (form_row d (claimed x) f name)) ≡ true
unfolding packed unpacked set_where bit form_of
form_fits d x form.Device name e = device_fits d x name e
form_fits d x form.Shared name e = shared_fits d x name e
form_fits d x form.Sealed name e = refl
form_fits d x form.Call name e = refl
form_fits d x form.Service name e = refl
form_fits d x form.Library name e = refl

import_granted : (d : DescRow) (x : ImportRow) → IsLawfulImport d x → Granted (import_slot d x)
unfolding Granted
import_granted d x h =
    subst (λ (o : Option Target). fits_kind (target_row d (claimed x) o).kind (rights_of (target_row d (claimed x) o)) ≡ true) (sym h.named)
    (form_fits d x h.target.form h.target.name h.rights)

-- ---- owners

slots_granted : (d : DescRow) (c : DescCompartment) → IsLawfulCompartment d c → AllByRecursion Granted (compartment_slots d c)
unfolding Granted packed unpacked set_where bit form_of
slots_granted d c h = (
  refl,
  all_joined Granted (map (import_slot d) c.imports ++ map quota_slot c.quotas) (map key_slot c.keys)
      (all_joined Granted (map (import_slot d) c.imports) (map quota_slot c.quotas)
      (all_mapped Granted (import_slot d) c.imports (all_so (IsLawfulImport d) (λ x. Granted (import_slot d x)) c.imports (λ x k. import_granted d x k) h.import))
      (quotas c.quotas))
      (keys c.keys),
)
  where
    quotas : (qs : List QuotaRow) → AllByRecursion Granted (map quota_slot qs)
    quotas [] = tt
    quotas (q ∷ qs) = (refl, quotas qs)

    keys : (ks : List ℕ) → AllByRecursion Granted (map key_slot ks)
    keys [] = tt
    keys (k ∷ ks) = (refl, keys ks)

-- in a library, also of a library's kind
LibraryGranted : SlotRow → Type 0
LibraryGranted s = (fits_kind s.row.kind (rights_of s.row) && is_library s.row.kind) ≡ true

library_granted : (d : DescRow) (l : LibraryRow) → AllByRecursion LibraryGranted (library_slots d l)
unfolding LibraryGranted packed unpacked set_where bit form_of
library_granted d l = each l.imports
  where
    each : (xs : List LimportRow) → AllByRecursion LibraryGranted (map (λ (x : LimportRow). slot x.alias (form_row d 0 form.Library x.library)) xs)
    each [] = tt
    each (x ∷ xs) = (refl, each xs)

-- ---- the checks

compartment_passes : (at : ℕ) (earlier : List CompartmentPart) (c : CompartmentPart) → AllByRecursion Granted c.code.slots → first (compartment_rights at earlier c) ≡ None
unfolding Granted
compartment_passes at earlier c h =
    walk_all Granted right_asked (λ s. ENTRY)
    (λ place before s k. one_none place (not (fits_kind s.row.kind (rights_of s.row))) (not_from_true (fits_kind s.row.kind (rights_of s.row)) k))
    (at + COMPARTMENT_HEAD) [] c.code.slots h

library_passes : (at : ℕ) (earlier : List CodePart) (c : CodePart) → AllByRecursion LibraryGranted c.slots → first (library_rights at earlier c) ≡ None
unfolding LibraryGranted
library_passes at earlier c h =
    walk_all LibraryGranted library_right_asked (λ s. ENTRY)
    (λ place before s k. one_none place (not (fits_kind s.row.kind (rights_of s.row) && is_library s.row.kind)) (not_from_true (fits_kind s.row.kind (rights_of s.row) && is_library s.row.kind) k))
    (at + LIBRARY_HEAD) [] c.slots h

-- each slot has rights of its kind, and a library's slots are of libraries
pub rights_pass : (d : DescRow) (sources : List (List ℕ)) (p : PartsRow) → RowsLinkTo d sources p → first (right_checks p) ≡ None
unfolding right_checks parts_of
rights_pass d sources p h =
    let s = parts d sources p h.linked in
    let regions = placed d.ram.base (sizes_of d s.cs s.ls) in
    let all = parts_of d s.cs s.ls regions (last_end d.ram.base (sizes_of d s.cs s.ls)) in
    let cs = compartment_parts d 1 regions s.cs in
    let ls = library_parts d (1 + sum_of built_compartment_entries s.cs) (drop (3 * length s.cs) regions) s.ls in
    subst (λ q. first (right_checks q) ≡ None) (sym s.parts)
    (joined_none (walked compartment_rights part_size (compartments_at (raw_of all)) [] cs) (walked library_rights code_size (libraries_at (raw_of all)) [] ls)
    (walk_all (λ (c : CompartmentPart). AllByRecursion Granted c.code.slots) compartment_rights part_size compartment_passes (compartments_at (raw_of all)) [] cs
    (compartments_all d (GoodCompartment d) (λ (c : CompartmentPart). AllByRecursion Granted c.code.slots) 1 regions s.cs
    (λ entry rs x g. slots_granted d x.row g.row) (compartments_good d p h.lawful.compartment s)))
    (walk_all (λ (c : CodePart). AllByRecursion LibraryGranted c.slots) library_rights code_size library_passes (libraries_at (raw_of all)) [] ls
    (libraries_all d (GoodLibrary d) (λ (c : CodePart). AllByRecursion LibraryGranted c.slots) (1 + sum_of built_compartment_entries s.cs) (drop (3 * length s.cs) regions) s.ls
    (λ entry rs x g. library_granted d x.row) (libraries_good d p h.lawful.library s))))
