-- What the report says of an image doesn't depend on the version.
use Rattle.std.proofs.Common.{ℕ, ◌≡◌, List, [], ◌∷◌, ◌++◌, length, map, codes, refl, ap, ◌∙◌}
use Rattle.std.specs.List.{flat_map}
use Rattle.ct_entry.specs.Listed.{Listed}
use Rattle.def_image.specs.declared.ImportRow.{ImportRow}
use Rattle.def_image.specs.declared.SlotKind.{SlotKind}
use Rattle.def_image.specs.declared.SlotKind.TheVariants as slot
use Rattle.def_image.specs.Parts.{SlotRow, CodeRow, CompartmentRow, ThreadRow, PartsRow, upgraded}
use Rattle.def_boot.specs.Gates.{entries_of}
use Rattle.def_report.specs.Labels.{Label, owner_label, of_name, seal_of, slot_label, export_label, slots_and_exports, compartment_labels, library_labels, labels_of}
use Rattle.def_report.specs.Lines.{num, numbered_entries}
use Rattle.def_report.specs.Report.{list, compartment_data, device_data, edges_data, heap_data, library_data, thread_data, data_over, report_data, report_line}
use Rattle.serde_json.specs.Data.{Data, string, object, no_members, member}
use Rattle.serde_json.specs.Written.{compact_text}
use Rattle.law_image.proofs.Alike.{alike}

-- ---- lists

mapped : {A B : Type 0} (f g : A → B) → ((x : A) → f x ≡ g x) → (xs : List A) → map f xs ≡ map g xs
mapped f g same [] = refl
mapped f g same (x ∷ xs) = ap (λ y. y ∷ map f xs) (same x) ∙ ap (λ ys. g x ∷ ys) (mapped f g same xs)

flattened : {A B : Type 0} (f g : A → List B) → ((x : A) → f x ≡ g x) → (xs : List A)
    → flat_map f xs ≡ flat_map g xs
flattened f g same [] = refl
flattened f g same (x ∷ xs) =
    ap (λ ys. ys ++ flat_map f xs) (same x) ∙ ap (λ ys. g x ++ ys) (flattened f g same xs)

-- ---- labels

of_alike : (p : PartsRow) (r : ImportRow) (k : SlotKind) → of_name (upgraded p) r k ≡ of_name p r k
of_alike p r slot.Service = refl
of_alike p r slot.Device = refl
of_alike p r slot.Shared = refl
of_alike p r slot.Sealed = refl
of_alike p r slot.Call = refl
of_alike p r slot.Library = refl
of_alike p r slot.Quota = refl
of_alike p r slot.Key = refl

seal_alike : (p : PartsRow) (r : ImportRow) (k : SlotKind) → seal_of (upgraded p) r k ≡ seal_of p r k
seal_alike p r slot.Service = refl
seal_alike p r slot.Device = refl
seal_alike p r slot.Shared = refl
seal_alike p r slot.Sealed = refl
seal_alike p r slot.Call = refl
seal_alike p r slot.Library = refl
seal_alike p r slot.Quota = refl
seal_alike p r slot.Key = refl

slot_alike : (p : PartsRow) (owner : List ℕ) (s : SlotRow)
    → slot_label (upgraded p) owner s ≡ slot_label p owner s
slot_alike p owner s =
    ap (λ (o : List ℕ). record (owner_label owner) { name = s.name; of = o; seal = seal_of (upgraded p) s.row s.row.kind }) (of_alike p s.row s.row.kind)
    ∙ ap (λ (k : ℕ). record (owner_label owner) { name = s.name; of = of_name p s.row s.row.kind; seal = k }) (seal_alike p s.row s.row.kind)

both_alike : (p : PartsRow) (c : CodeRow) → slots_and_exports (upgraded p) c ≡ slots_and_exports p c
both_alike p c =
    ap (λ (l : List Label). l ++ map (export_label c.name) c.exports)
    (mapped (slot_label (upgraded p) c.name) (slot_label p c.name) (slot_alike p c.name) c.slots)

compartment_alike : (p : PartsRow) (c : CompartmentRow)
    → compartment_labels (upgraded p) c ≡ compartment_labels p c
compartment_alike p c =
    ap (λ (l : List Label). owner_label c.code.name ∷ owner_label c.code.name ∷ l) (both_alike p c.code)

library_alike : (p : PartsRow) (c : CodeRow) → library_labels (upgraded p) c ≡ library_labels p c
library_alike p c = ap (λ (l : List Label). owner_label c.name ∷ l) (both_alike p c)

labels_alike : (p : PartsRow) → labels_of (upgraded p) ≡ labels_of p
unfolding labels_of
labels_alike p =
    let stacks = map (λ (t : ThreadRow). owner_label t.name) p.threads in
    ap (λ (l : List Label). l ++ flat_map (library_labels (upgraded p)) p.libraries ++ stacks)
    (flattened (compartment_labels (upgraded p)) (compartment_labels p) (compartment_alike p) p.compartments)
    ∙ ap (λ (l : List Label). flat_map (compartment_labels p) p.compartments ++ l ++ stacks)
    (flattened (library_labels (upgraded p)) (library_labels p) (library_alike p) p.libraries)

-- ---- the report

data_alike : (p : PartsRow) (e : Listed) → data_over (upgraded p) e ≡ data_over p e
unfolding data_over
data_alike p e =
    ap (λ (l : List Label). object
    (member (codes "compartments") (list (map compartment_data p.compartments))
    (member (codes "devices") (list (map device_data p.devices))
    (member (codes "edges") (edges_data e (length p.compartments))
    (member (codes "entries") (list (numbered_entries 1 e.rows l))
    (member (codes "firmware") (string p.name)
    (member (codes "heap") (heap_data p)
    (member (codes "libraries") (list (map library_data p.libraries))
    (member (codes "quantum") (num p.quantum)
    (member (codes "threads") (list (map (thread_data p) p.threads)) no_members)))))))))) (labels_alike p)

report_alike : (p : PartsRow) → report_data (upgraded p) ≡ report_data p
unfolding report_data
report_alike p = data_alike p (entries_of (upgraded p)) ∙ ap (data_over p) (alike p).entries

pub line_alike : (p : PartsRow) → report_line (upgraded p) ≡ report_line p
unfolding report_line
line_alike p = ap (λ (d : Data). compact_text d ++ 10 ∷ []) (report_alike p)
