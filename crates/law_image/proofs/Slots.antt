-- I5 and I6: what slots and threads name, and rights, don't depend on places.
use Rattle.std.proofs.Common.{ℕ, ◌≡◌, ◌+◌, ◌==◌, ◌||◌, not, Bool, List, [], ◌∷◌, ◌++◌, length, None, refl, ap, if◌then◌else◌}
use Rattle.std.specs.List.{list_any}
use Rattle.def_image.specs.declared.ImportRow.{ImportRow}
use Rattle.def_image.specs.declared.SlotKind.{SlotKind}
use Rattle.def_image.specs.declared.SlotKind.TheVariants.{Service, Device, Shared, Sealed, Call, Library, Quota, Key}
use Rattle.def_image.specs.declared.format.TheConstants.{ENTRY, THREAD, COMPARTMENT_HEAD, LIBRARY_HEAD}
use Rattle.def_image.specs.Parts.{SlotRow, CodeRow, CompartmentRow, ThreadRow, PartsRow, upgraded}
use Rattle.def_image.specs.Sizes.{compartments_at, libraries_at, threads_at}
use Rattle.def_image.specs.Spelling.{raw_of}
use Rattle.def_image.specs.Checks.{first, walked}
use Rattle.def_image.specs.Indexes.{is_slot_named, is_import_astray, is_reserved, is_switch, comes_before, slot_asked, own_slot_asked, compartment_asked, library_asked, thread_asked, part_size, code_size, index_checks}
use Rattle.def_image.specs.Rights.{right_asked, library_right_asked, compartment_rights, library_rights, right_checks}
use Rattle.law_image.proofs.Flags.{flags, joined, none_alike, walks_alike}

-- ---- what is named

named_alike : (p : PartsRow) (r : ImportRow) (k : SlotKind) → is_slot_named p r k ≡ is_slot_named (upgraded p) r k
named_alike p r Service = refl
named_alike p r Device = refl
named_alike p r Shared = refl
named_alike p r Sealed = refl
named_alike p r Call = refl
named_alike p r Library = refl
named_alike p r Quota = refl
named_alike p r Key = refl

astray_alike : (p : PartsRow) (earlier : List SlotRow) (r : ImportRow) → is_import_astray p earlier r ≡ is_import_astray (upgraded p) earlier r
astray_alike p earlier r = ap (λ b. not b || is_reserved r || list_any (comes_before r) earlier) (named_alike p r r.kind)

slots_alike : (p : PartsRow) (at place : ℕ) (earlier : List SlotRow) (s : SlotRow) → flags (slot_asked p at earlier s) ≡ flags (slot_asked (upgraded p) place earlier s)
slots_alike p at place earlier s = ap (λ (b : Bool). b ∷ []) (astray_alike p earlier s.row)

own_slots_alike : (p : PartsRow) (at place : ℕ) (earlier : List SlotRow) (s : SlotRow) → flags (own_slot_asked p at earlier s) ≡ flags (own_slot_asked (upgraded p) place earlier s)
own_slots_alike p at place earlier s =
    ap (λ (b : Bool). (if length earlier == 0 then not (is_switch s.row) else b) ∷ []) (astray_alike p earlier s.row)

compartments_alike : (p : PartsRow) (at place : ℕ) (earlier : List CompartmentRow) (c : CompartmentRow) → flags (compartment_asked p at earlier c) ≡ flags (compartment_asked (upgraded p) place earlier c)
compartments_alike p at place earlier c =
    walks_alike (own_slot_asked p) (own_slot_asked (upgraded p)) (λ s. ENTRY) (λ s. ENTRY) (own_slots_alike p) (at + COMPARTMENT_HEAD) (place + COMPARTMENT_HEAD) [] c.code.slots

libraries_alike : (p : PartsRow) (at place : ℕ) (earlier : List CodeRow) (c : CodeRow) → flags (library_asked p at earlier c) ≡ flags (library_asked (upgraded p) place earlier c)
libraries_alike p at place earlier c =
    walks_alike (slot_asked p) (slot_asked (upgraded p)) (λ s. ENTRY) (λ s. ENTRY) (slots_alike p) (at + LIBRARY_HEAD) (place + LIBRARY_HEAD) [] c.slots

threads_alike : (p : PartsRow) (at place : ℕ) (earlier : List ThreadRow) (t : ThreadRow) → flags (thread_asked p at earlier t) ≡ flags (thread_asked (upgraded p) place earlier t)
threads_alike p at place earlier t = refl

pub indexes_stay : (p : PartsRow) → first (index_checks p) ≡ None → first (index_checks (upgraded p)) ≡ None
unfolding index_checks
indexes_stay p none =
    let q = upgraded p in
    let r = raw_of p in
    let u = raw_of q in
    let c = walked (compartment_asked p) part_size (compartments_at r) [] p.compartments in
    let l = walked (library_asked p) code_size (libraries_at r) [] p.libraries in
    let t = walked (thread_asked p) (λ t. THREAD) (threads_at r) [] p.threads in
    let d = walked (compartment_asked q) part_size (compartments_at u) [] p.compartments in
    let m = walked (library_asked q) code_size (libraries_at u) [] p.libraries in
    let s = walked (thread_asked q) (λ t. THREAD) (threads_at u) [] p.threads in
    let e1 : flags c ≡ flags d = walks_alike (compartment_asked p) (compartment_asked q) part_size part_size (compartments_alike p) (compartments_at r) (compartments_at u) [] p.compartments in
    let e2 : flags l ≡ flags m = walks_alike (library_asked p) (library_asked q) code_size code_size (libraries_alike p) (libraries_at r) (libraries_at u) [] p.libraries in
    let e3 : flags t ≡ flags s = walks_alike (thread_asked p) (thread_asked q) (λ t. THREAD) (λ t. THREAD) (threads_alike p) (threads_at r) (threads_at u) [] p.threads in
    none_alike (c ++ l ++ t) (d ++ m ++ s) (joined (c ++ l) t (d ++ m) s (joined c l d m e1 e2) e3) none

-- ---- rights

rights_alike : (at place : ℕ) (earlier : List CompartmentRow) (c : CompartmentRow) → flags (compartment_rights at earlier c) ≡ flags (compartment_rights place earlier c)
rights_alike at place earlier c =
    walks_alike right_asked right_asked (λ s. ENTRY) (λ s. ENTRY) (λ a b before s. refl) (at + COMPARTMENT_HEAD) (place + COMPARTMENT_HEAD) [] c.code.slots

library_rights_alike : (at place : ℕ) (earlier : List CodeRow) (c : CodeRow) → flags (library_rights at earlier c) ≡ flags (library_rights place earlier c)
library_rights_alike at place earlier c =
    walks_alike library_right_asked library_right_asked (λ s. ENTRY) (λ s. ENTRY) (λ a b before s. refl) (at + LIBRARY_HEAD) (place + LIBRARY_HEAD) [] c.slots

pub rights_stay : (p : PartsRow) → first (right_checks p) ≡ None → first (right_checks (upgraded p)) ≡ None
unfolding right_checks
rights_stay p none =
    let r = raw_of p in
    let u = raw_of (upgraded p) in
    let c = walked compartment_rights part_size (compartments_at r) [] p.compartments in
    let l = walked library_rights code_size (libraries_at r) [] p.libraries in
    let d = walked compartment_rights part_size (compartments_at u) [] p.compartments in
    let m = walked library_rights code_size (libraries_at u) [] p.libraries in
    let e1 : flags c ≡ flags d = walks_alike compartment_rights compartment_rights part_size part_size rights_alike (compartments_at r) (compartments_at u) [] p.compartments in
    let e2 : flags l ≡ flags m = walks_alike library_rights library_rights code_size code_size library_rights_alike (libraries_at r) (libraries_at u) [] p.libraries in
    none_alike (c ++ l) (d ++ m) (joined c l d m e1 e2) none
