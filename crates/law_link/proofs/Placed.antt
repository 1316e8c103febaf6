-- The regions of the parts, list by list, are those that placement gives.
use Rattle.std.proofs.Common.{ℕ, ◌≡◌, ◌+◌, ◌*◌, max, List, [], ◌∷◌, ◌++◌, length, map, drop, refl, sym, ap, ap₂, ◌∙◌, subst, arith, append_assoc}
use Rattle.std.proofs.lemmas.List.{length-append, length-map}
use Rattle.def_layout.specs.declared.Region.{Region}
use Rattle.def_layout.specs.Placement.{region_from, region_length, region_base, placed, last_end}
use Rattle.def_image.specs.Parts.{PartsRow, CompartmentRow as CompartmentPart, CodeRow as CodePart}
use Rattle.def_image.specs.Sizes.{sum_of}
use Rattle.def_image.specs.Regions.{trusted_length}
use Rattle.def_desc.specs.Rows.{DescShared, DescSealed, LimportRow, DescCompartment, LibraryRow, DescThread, DescRow}
use Rattle.def_link.specs.Slots.{slot, form_row, import_slot, quota_slot, key_slot, compartment_slots, library_slots, export_gate}
use Rattle.def_desc.specs.declared.tables.Form.TheVariants as form
use Rattle.def_link.specs.Linked.{BuiltCompartment, BuiltLibrary, compartment_slot_count, library_code_size, compartment_sizes, sizes_of, compartment_part, compartment_parts, built_compartment_entries, library_parts, built_library_entries, shared_parts, sealed_parts, thread_parts, parts_of}
use Rattle.def_link.specs.Links.{RowsLinkTo}
use Rattle.law_link.proofs.Linkeds.{parts}
use Rattle.law_link.proofs.Indexed.{numbered_length}
use Rattle.law_link.proofs.Placings.{table_is, areas}
use Rattle.law_link.proofs.Lying.{shared_sizes, sealed_sizes, stack_sizes, trusted_size, Ends, ends}
use Rattle.def_link.specs.Places.{own_places, code_place, shared_place, sealed_place, stack_place, places, code_part_size, own_sizes, sizes}

-- ---- each list

compartments_placed : (d : DescRow) (entry end : ℕ) (rest : List ℕ) (cs : List BuiltCompartment)
    → own_places (compartment_parts d entry (placed end (compartment_sizes cs ++ rest)) cs) ++ placed (last_end end (compartment_sizes cs)) rest ≡ placed end (compartment_sizes cs ++ rest)
unfolding compartment_parts placed last_end
compartments_placed d entry end rest [] = refl
compartments_placed d entry end rest (x ∷ xs) =
    let regions = placed end (compartment_sizes (x ∷ xs) ++ rest) in
    let c = compartment_part d entry regions x in
    ap₂ (λ k (l : List Region). region_from c.code.base c.code.length ∷ region_from c.table k ∷ region_from c.globals c.globals_length ∷ l)
    (table_is d entry regions x)
    (compartments_placed d (entry + built_compartment_entries x) (last_end end (compartment_sizes (x ∷ []))) rest xs)

libraries_placed : (d : DescRow) (entry end : ℕ) (rest : List ℕ) (ls : List BuiltLibrary)
    → map code_place (library_parts d entry (placed end (map library_code_size ls ++ rest)) ls) ++ placed (last_end end (map library_code_size ls)) rest ≡ placed end (map library_code_size ls ++ rest)
unfolding library_parts placed last_end
libraries_placed d entry end rest [] = refl
libraries_placed d entry end rest (x ∷ xs) =
    let n = library_code_size x in
    ap (λ (l : List Region). region_from (region_base end n) (region_length n) ∷ l) (libraries_placed d (entry + built_library_entries x) (region_base end n + region_length n) rest xs)

shared_placed : (end : ℕ) (rest : List ℕ) (ss : List DescShared)
    → map shared_place (shared_parts (placed end (map (λ (s : DescShared). s.size) ss ++ rest)) ss) ++ placed (last_end end (map (λ (s : DescShared). s.size) ss)) rest ≡ placed end (map (λ (s : DescShared). s.size) ss ++ rest)
unfolding shared_parts placed last_end
shared_placed end rest [] = refl
shared_placed end rest (s ∷ ss) =
    ap (λ (l : List Region). region_from (region_base end s.size) (region_length s.size) ∷ l) (shared_placed (region_base end s.size + region_length s.size) rest ss)

sealed_placed : (end : ℕ) (rest : List ℕ) (ss : List DescSealed)
    → map sealed_place (sealed_parts (placed end (map (λ (s : DescSealed). length s.bytes) ss ++ rest)) ss) ++ placed (last_end end (map (λ (s : DescSealed). length s.bytes) ss)) rest ≡ placed end (map (λ (s : DescSealed). length s.bytes) ss ++ rest)
unfolding sealed_parts placed last_end
sealed_placed end rest [] = refl
sealed_placed end rest (s ∷ ss) =
    let n = length s.bytes in
    ap (λ (l : List Region). region_from (region_base end n) (region_length n) ∷ l) (sealed_placed (region_base end n + region_length n) rest ss)

stacks_placed : (d : DescRow) (end : ℕ) (rest : List ℕ) (ts : List DescThread)
    → map stack_place (thread_parts d (placed end (map (λ (t : DescThread). t.stack) ts ++ rest)) ts) ++ placed (last_end end (map (λ (t : DescThread). t.stack) ts)) rest ≡ placed end (map (λ (t : DescThread). t.stack) ts ++ rest)
unfolding thread_parts placed last_end
stacks_placed d end rest [] = refl
stacks_placed d end rest (t ∷ ts) =
    ap (λ (l : List Region). region_from (region_base end t.stack) (region_length t.stack) ∷ l) (stacks_placed d (region_base end t.stack + region_length t.stack) rest ts)

-- ---- sizes

slot_count : (d : DescRow) (c : DescCompartment) → length (compartment_slots d c) ≡ compartment_slot_count c
slot_count d c =
    let a = length-map c.imports (import_slot d) in
    let b = length-map c.quotas quota_slot in
    let k = length-map c.keys key_slot in
    let ab = length-append (map (import_slot d) c.imports) (map quota_slot c.quotas) in
    let abk = length-append (map (import_slot d) c.imports ++ map quota_slot c.quotas) (map key_slot c.keys) in
    omega (arith, a, b, k, ab, abk)

own_sizes_are : (d : DescRow) (entry : ℕ) (regions : List Region) (cs : List BuiltCompartment)
    → own_sizes (map (λ (x : BuiltCompartment). x.row) cs) (compartment_parts d entry regions cs) ≡ compartment_sizes cs
unfolding compartment_parts
own_sizes_are d entry regions [] = refl
own_sizes_are d entry regions (x ∷ xs) =
    let gates = numbered_length (export_gate x.built) (entry + 2 + compartment_slot_count x.row) x.row.exports in
    let table = ap (λ n. 16 + 16 * n) gates in
    let code = ap (λ n. 8 * n + length x.built.text) (slot_count d x.row) in
    let rest = own_sizes_are d (entry + built_compartment_entries x) (drop 3 regions) xs in
    ap₂ (λ (a : ℕ) (l : List ℕ). a ∷ l) code (ap₂ (λ (a : ℕ) (l : List ℕ). a ∷ max x.row.globals (length x.built.initial) ∷ l) table rest)

library_sizes_are : (d : DescRow) (entry : ℕ) (regions : List Region) (ls : List BuiltLibrary) → map code_part_size (library_parts d entry regions ls) ≡ map library_code_size ls
unfolding library_parts
library_sizes_are d entry regions [] = refl
library_sizes_are d entry regions (x ∷ xs) =
    let count = length-map x.row.imports (λ (i : LimportRow). slot i.alias (form_row d 0 form.Library i.library)) in
    ap₂ (λ (a : ℕ) (l : List ℕ). a ∷ l) (ap (λ n. 8 * n + length x.built.text) count) (library_sizes_are d (entry + built_library_entries x) (drop 1 regions) xs)

-- ---- all of them

six : {A : Type 0} (a b c e f z : List A) → a ++ b ++ c ++ e ++ f ++ z ≡ a ++ (b ++ (c ++ (e ++ (f ++ z))))
six a b c e f z =
    append_assoc (a ++ b ++ c ++ e) f z ∙ append_assoc (a ++ b ++ c) e (f ++ z) ∙ append_assoc (a ++ b) c (e ++ (f ++ z)) ∙ append_assoc a b (c ++ (e ++ (f ++ z)))

parts_in : (d : DescRow) (cs : List BuiltCompartment) (ls : List BuiltLibrary) → PartsRow
parts_in d cs ls = parts_of d cs ls (placed d.ram.base (sizes_of d cs ls)) (last_end d.ram.base (sizes_of d cs ls))

sizes_are : (d : DescRow) (cs : List BuiltCompartment) (ls : List BuiltLibrary) → map (λ (x : BuiltCompartment). x.row) cs ≡ d.compartments
    → sizes d (parts_in d cs ls) ≡ sizes_of d cs ls
unfolding parts_in parts_of
sizes_are d cs ls rows =
    let all = placed d.ram.base (sizes_of d cs ls) in
    let s = map (λ (s : DescShared). s.size) d.shared in
    let x = map (λ (s : DescSealed). length s.bytes) d.sealed in
    let t = map (λ (t : DescThread). t.stack) d.threads in
    let own : own_sizes d.compartments (compartment_parts d 1 all cs) ≡ compartment_sizes cs =
    subst (λ (r : List DescCompartment). own_sizes r (compartment_parts d 1 all cs) ≡ compartment_sizes cs) rows (own_sizes_are d 1 all cs) in
    let libraries = library_sizes_are d (1 + sum_of built_compartment_entries cs) (drop (3 * length cs) all) ls in
    let threads = areas d (drop (3 * length cs + length ls + length d.shared + length d.sealed) all) d.threads in
    ap₂ (λ (a b : List ℕ). a ++ b) (ap₂ (λ (a b : List ℕ). a ++ b ++ s ++ x ++ t) own libraries) (ap (λ n. (16 + n) ∷ []) threads)

places_are : (d : DescRow) (cs : List BuiltCompartment) (ls : List BuiltLibrary) → Ends d cs ls → places (parts_in d cs ls) ≡ placed d.ram.base (sizes_of d cs ls)
unfolding parts_in parts_of shared_sizes sealed_sizes stack_sizes trusted_size placed
places_are d cs ls e =
    let all = placed d.ram.base (sizes_of d cs ls) in
    let p = parts_of d cs ls all (last_end d.ram.base (sizes_of d cs ls)) in
    let n = trusted_size d in
    let z = n ∷ [] in
    let l = map library_code_size ls in
    let s = shared_sizes d in
    let x = sealed_sizes d in
    let t = stack_sizes d in
    let entry = 1 + sum_of built_compartment_entries cs in
    let own = own_places p.compartments in
    let codes = map code_place p.libraries in
    let shared = map shared_place p.shared in
    let sealed = map sealed_place p.sealed in
    let stacks = map stack_place p.threads in
    let area : trusted_length p ≡ region_length n = ap (λ k. region_length (16 + k)) (areas d (drop (3 * length cs + length ls + length d.shared + length d.sealed) all) d.threads) in
    let last : region_from p.trusted (trusted_length p) ∷ [] ≡ placed e.e5 z = ap₂ (λ a b. region_from a b ∷ []) e.trusted area in
    let five : stacks ++ (region_from p.trusted (trusted_length p) ∷ []) ≡ placed e.e4 (t ++ z) =
    ap (λ r. stacks ++ r) last
    ∙ ap₂ (λ rs m. map stack_place (thread_parts d rs d.threads) ++ placed m z) e.threads (sym e.t_to)
    ∙ stacks_placed d e.e4 z d.threads in
    let four : sealed ++ (stacks ++ (region_from p.trusted (trusted_length p) ∷ [])) ≡ placed e.e3 (x ++ (t ++ z)) =
    ap (λ r. sealed ++ r) five
    ∙ ap₂ (λ rs m. map sealed_place (sealed_parts rs d.sealed) ++ placed m (t ++ z)) e.sealed (sym e.x_to)
    ∙ sealed_placed e.e3 (t ++ z) d.sealed in
    let three : shared ++ (sealed ++ (stacks ++ (region_from p.trusted (trusted_length p) ∷ []))) ≡ placed e.e2 (s ++ (x ++ (t ++ z))) =
    ap (λ r. shared ++ r) four
    ∙ ap₂ (λ rs m. map shared_place (shared_parts rs d.shared) ++ placed m (x ++ (t ++ z))) e.shared (sym e.s_to)
    ∙ shared_placed e.e2 (x ++ (t ++ z)) d.shared in
    let two : codes ++ (shared ++ (sealed ++ (stacks ++ (region_from p.trusted (trusted_length p) ∷ [])))) ≡ placed e.e1 (l ++ (s ++ (x ++ (t ++ z)))) =
    ap (λ r. codes ++ r) three
    ∙ ap₂ (λ rs m. map code_place (library_parts d entry rs ls) ++ placed m (s ++ (x ++ (t ++ z)))) e.libraries (sym e.l_to)
    ∙ libraries_placed d entry e.e1 (s ++ (x ++ (t ++ z))) ls in
    six own codes shared sealed stacks (region_from p.trusted (trusted_length p) ∷ [])
    ∙ ap (λ r. own ++ r) two
    ∙ ap₂ (λ rs m. own_places (compartment_parts d 1 rs cs) ++ placed m (l ++ (s ++ (x ++ (t ++ z))))) e.all (sym e.c_to)
    ∙ compartments_placed d 1 d.ram.base (l ++ (s ++ (x ++ (t ++ z)))) cs
    ∙ sym e.all

pub places_placed : (d : DescRow) (sources : List (List ℕ)) (p : PartsRow) → RowsLinkTo d sources p → places p ≡ placed d.ram.base (sizes d p)
unfolding parts_in
places_placed d sources p h =
    let s = parts d sources p h.linked in
    subst (λ (q : PartsRow). places q ≡ placed d.ram.base (sizes d q)) (sym s.parts)
    (places_are d s.cs s.ls (ends d s.cs s.ls) ∙ ap (placed d.ram.base) (sym (sizes_are d s.cs s.ls s.rows)))

pub heap_placed : (d : DescRow) (sources : List (List ℕ)) (p : PartsRow) → RowsLinkTo d sources p → p.heap ≡ last_end d.ram.base (sizes d p)
unfolding parts_in parts_of
heap_placed d sources p h =
    let s = parts d sources p h.linked in
    subst (λ (q : PartsRow). q.heap ≡ last_end d.ram.base (sizes d q)) (sym s.parts)
    (ap (last_end d.ram.base) (sym (sizes_are d s.cs s.ls s.rows)))

-- ---- names and slots

names_kept : (d : DescRow) (entry : ℕ) (regions : List Region) (cs : List BuiltCompartment)
    → map (λ (c : CompartmentPart). c.code.name) (compartment_parts d entry regions cs) ≡ map (λ (c : DescCompartment). c.name) (map (λ (x : BuiltCompartment). x.row) cs)
unfolding compartment_parts
names_kept d entry regions [] = refl
names_kept d entry regions (x ∷ xs) = ap (λ (l : List (List ℕ)). x.row.name ∷ l) (names_kept d (entry + built_compartment_entries x) (drop 3 regions) xs)

slots_kept : (d : DescRow) (entry : ℕ) (regions : List Region) (cs : List BuiltCompartment)
    → map (λ (c : CompartmentPart). c.code.slots) (compartment_parts d entry regions cs) ≡ map (compartment_slots d) (map (λ (x : BuiltCompartment). x.row) cs)
unfolding compartment_parts
slots_kept d entry regions [] = refl
slots_kept d entry regions (x ∷ xs) = ap (λ l. compartment_slots d x.row ∷ l) (slots_kept d (entry + built_compartment_entries x) (drop 3 regions) xs)

library_names_kept : (d : DescRow) (entry : ℕ) (regions : List Region) (ls : List BuiltLibrary)
    → map (λ (c : CodePart). c.name) (library_parts d entry regions ls) ≡ map (λ (l : LibraryRow). l.name) (map (λ (x : BuiltLibrary). x.row) ls)
unfolding library_parts
library_names_kept d entry regions [] = refl
library_names_kept d entry regions (x ∷ xs) = ap (λ (l : List (List ℕ)). x.row.name ∷ l) (library_names_kept d (entry + built_library_entries x) (drop 1 regions) xs)

library_slots_kept : (d : DescRow) (entry : ℕ) (regions : List Region) (ls : List BuiltLibrary)
    → map (λ (c : CodePart). c.slots) (library_parts d entry regions ls) ≡ map (library_slots d) (map (λ (x : BuiltLibrary). x.row) ls)
unfolding library_parts
library_slots_kept d entry regions [] = refl
library_slots_kept d entry regions (x ∷ xs) = ap (λ l. library_slots d x.row ∷ l) (library_slots_kept d (entry + built_library_entries x) (drop 1 regions) xs)

pub names_are : (d : DescRow) (sources : List (List ℕ)) (p : PartsRow) → RowsLinkTo d sources p → map (λ (c : CompartmentPart). c.code.name) p.compartments ≡ map (λ (c : DescCompartment). c.name) d.compartments
unfolding parts_of
names_are d sources p h =
    let s = parts d sources p h.linked in
    subst (λ (q : PartsRow). map (λ (c : CompartmentPart). c.code.name) q.compartments ≡ map (λ (c : DescCompartment). c.name) d.compartments) (sym s.parts)
    (names_kept d 1 (placed d.ram.base (sizes_of d s.cs s.ls)) s.cs ∙ ap (map (λ (c : DescCompartment). c.name)) s.rows)

pub slots_are : (d : DescRow) (sources : List (List ℕ)) (p : PartsRow) → RowsLinkTo d sources p → map (λ (c : CompartmentPart). c.code.slots) p.compartments ≡ map (compartment_slots d) d.compartments
unfolding parts_of
slots_are d sources p h =
    let s = parts d sources p h.linked in
    subst (λ (q : PartsRow). map (λ (c : CompartmentPart). c.code.slots) q.compartments ≡ map (compartment_slots d) d.compartments) (sym s.parts)
    (slots_kept d 1 (placed d.ram.base (sizes_of d s.cs s.ls)) s.cs ∙ ap (map (compartment_slots d)) s.rows)

pub library_names_are : (d : DescRow) (sources : List (List ℕ)) (p : PartsRow) → RowsLinkTo d sources p → map (λ (c : CodePart). c.name) p.libraries ≡ map (λ (l : LibraryRow). l.name) d.libraries
unfolding parts_of
library_names_are d sources p h =
    let s = parts d sources p h.linked in
    let regions = placed d.ram.base (sizes_of d s.cs s.ls) in
    subst (λ (q : PartsRow). map (λ (c : CodePart). c.name) q.libraries ≡ map (λ (l : LibraryRow). l.name) d.libraries) (sym s.parts)
    (library_names_kept d (1 + sum_of built_compartment_entries s.cs) (drop (3 * length s.cs) regions) s.ls ∙ ap (map (λ (l : LibraryRow). l.name)) s.library_rows)

pub library_slots_are : (d : DescRow) (sources : List (List ℕ)) (p : PartsRow) → RowsLinkTo d sources p → map (λ (c : CodePart). c.slots) p.libraries ≡ map (library_slots d) d.libraries
unfolding parts_of
library_slots_are d sources p h =
    let s = parts d sources p h.linked in
    let regions = placed d.ram.base (sizes_of d s.cs s.ls) in
    subst (λ (q : PartsRow). map (λ (c : CodePart). c.slots) q.libraries ≡ map (library_slots d) d.libraries) (sym s.parts)
    (library_slots_kept d (1 + sum_of built_compartment_entries s.cs) (drop (3 * length s.cs) regions) s.ls ∙ ap (map (library_slots d)) s.library_rows)
