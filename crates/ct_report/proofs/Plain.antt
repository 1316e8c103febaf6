-- The report has no number with a point, so its text is its compact text.
use Rattle.std.proofs.Common.{◌≡◌, ℕ, ◌+◌, List, [], ◌∷◌, Bool, false, ◌||◌, refl, map, length}
use Rattle.std.proofs.lemmas.Bool.{or_from}
use Rattle.ct_entry.specs.declared.rows.Entry.{Entry}
use Rattle.ct_entry.specs.declared.rows.Kind.{Kind}
use Rattle.ct_entry.specs.declared.rows.Kind.TheVariants.{Code, Globals, Stack, Device, Shared, Sealed, Call, Library, Service, Quota, Key, Export}
use Rattle.ct_entry.specs.declared.rows.Owner.{Owner}
use Rattle.ct_entry.specs.declared.rows.Owner.TheVariants as owner
use Rattle.ct_entry.specs.Listed.{DeviceRow, Listed}
use Rattle.serde_json.specs.View.{items_of}
use Rattle.serde_json.specs.Written.{has_float, items_have_float}
use Rattle.def_image.specs.Parts.{CodeRow, CompartmentRow, ThreadRow, PartsRow}
use Rattle.def_report.specs.Edges.{edges}
use Rattle.def_report.specs.Labels.{Label, labels_of}
use Rattle.def_report.specs.Lines.{Line, data_of, entry_form, line_data, numbered_entries}
use Rattle.def_report.specs.Report.{compartment_data, device_data, edge_data, library_data, thread_data, data_over}

export_plain : (o : Owner) (l : Line) → has_float (data_of (entry_form o Export) l) ≡ false
unfolding data_of
export_plain owner.Trusted l = refl
export_plain (owner.Compartment n) l = refl
export_plain (owner.Library n) l = refl
export_plain (owner.Thread n) l = refl

data_plain : (o : Owner) (k : Kind) (l : Line) → has_float (data_of (entry_form o k) l) ≡ false
unfolding data_of
data_plain o Code l = refl
data_plain o Globals l = refl
data_plain o Stack l = refl
data_plain o Device l = refl
data_plain o Shared l = refl
data_plain o Sealed l = refl
data_plain o Call l = refl
data_plain o Library l = refl
data_plain o Service l = refl
data_plain o Quota l = refl
data_plain o Key l = refl
data_plain o Export l = export_plain o l

numbered_plain : (n : ℕ) (rs : List Entry) (ls : List Label) → items_have_float (items_of (numbered_entries n rs ls)) ≡ false
numbered_plain n [] ls = refl
numbered_plain n (r ∷ rs) [] = refl
numbered_plain n (r ∷ rs) (l ∷ ls) =
    let line : Line = record { number = n; entry = r; label = l } in
    or_from (has_float (line_data line)) (items_have_float (items_of (numbered_entries (n + 1) rs ls))) (data_plain r.owner r.kind line) (numbered_plain (n + 1) rs ls)

compartments_plain : (cs : List CompartmentRow) → items_have_float (items_of (map compartment_data cs)) ≡ false
compartments_plain [] = refl
compartments_plain (c ∷ cs) = compartments_plain cs

libraries_plain : (cs : List CodeRow) → items_have_float (items_of (map library_data cs)) ≡ false
libraries_plain [] = refl
libraries_plain (c ∷ cs) = libraries_plain cs

devices_plain : (xs : List DeviceRow) → items_have_float (items_of (map device_data xs)) ≡ false
devices_plain [] = refl
devices_plain (x ∷ xs) = devices_plain xs

edges_plain : (xs : List (ℕ × ℕ)) → items_have_float (items_of (map edge_data xs)) ≡ false
edges_plain [] = refl
edges_plain (x ∷ xs) = edges_plain xs

threads_plain : (p : PartsRow) (ts : List ThreadRow) → items_have_float (items_of (map (thread_data p) ts)) ≡ false
threads_plain p [] = refl
threads_plain p (t ∷ ts) = threads_plain p ts

six_false : (a b c d e f : Bool) → a ≡ false → b ≡ false → c ≡ false → d ≡ false → e ≡ false → f ≡ false → (a || (b || (c || (d || (e || (f || false)))))) ≡ false
six_false a b c d e f ha hb hc hd he hf =
    or_from a (b || (c || (d || (e || (f || false))))) ha
    (or_from b (c || (d || (e || (f || false)))) hb
    (or_from c (d || (e || (f || false))) hc (or_from d (e || (f || false)) hd (or_from e (f || false) he (or_from f false hf refl)))))

pub report_plain : (p : PartsRow) (e : Listed) → has_float (data_over p e) ≡ false
unfolding data_over
report_plain p e = six_false
    (items_have_float (items_of (map compartment_data p.compartments)))
    (items_have_float (items_of (map device_data p.devices)))
    (items_have_float (items_of (map edge_data (edges e (length p.compartments)))))
    (items_have_float (items_of (numbered_entries 1 e.rows (labels_of p))))
    (items_have_float (items_of (map library_data p.libraries)))
    (items_have_float (items_of (map (thread_data p) p.threads)))
    (compartments_plain p.compartments) (devices_plain p.devices) (edges_plain (edges e (length p.compartments)))
    (numbered_plain 1 e.rows (labels_of p)) (libraries_plain p.libraries) (threads_plain p p.threads)
