-- What is written of an image's parts, one after the other, is its spelling.
use Rattle.std.proofs.Common.{ℕ, ◌≡◌, List, [], ◌∷◌, ◌++◌, length, map, refl, sym, ap, ◌∙◌, append_assoc}
use Rattle.std.specs.List.{flat_map}
use Rattle.std.proofs.lemmas.List.{length-map}
use Rattle.def_image.specs.Parts.{CodeRow, CompartmentRow, PartsRow}
use Rattle.def_image.specs.Spelling.{number, count, zeros, padding_after, name_field, entry_spelled, device_spelled, shared_spelled, sealed_spelled, compartment_spelled, library_spelled, thread_spelled, raw_slot, raw_gate, raw_device, raw_shared, raw_sealed, raw_code, raw_compartment, raw_thread, raw_of, spelled, image_bytes}
use Rattle.ct_image_parts.specs.Written as told
use Rattle.ct_image_parts.specs.Written.{slot, gate}

-- ---- lists

mapped : {A B : Type 0} (f : A → B) (spell : B → List ℕ) (xs : List A) → flat_map spell (map f xs) ≡ flat_map (λ x. spell (f x)) xs
mapped f spell [] = refl
mapped f spell (x ∷ xs) = ap (λ (l : List ℕ). spell (f x) ++ l) (mapped f spell xs)

alike : {A : Type 0} (f g : A → List ℕ) → ((x : A) → f x ≡ g x) → (xs : List A) → flat_map f xs ≡ flat_map g xs
alike f g same [] = refl
alike f g same (x ∷ xs) = ap (λ (l : List ℕ). l ++ flat_map f xs) (same x) ∙ ap (λ (l : List ℕ). g x ++ l) (alike f g same xs)

counted : {A B : Type 0} (f : A → B) (xs : List A) → count (map f xs) ≡ count xs
counted f xs = ap number (length-map xs f)

-- ---- owners

library_grouped : (h n m s x t : List ℕ) → h ++ (n ++ m ++ s ++ x ++ t) ≡ h ++ n ++ m ++ (s ++ x ++ t)
library_grouped h n m s x t = simp append_assoc

library_is : (c : CodeRow) → told.library c ≡ library_spelled (raw_code c)
unfolding slot gate
library_is c =
    let n = sym (counted raw_slot c.slots) in
    let m = sym (counted raw_gate c.exports) in
    let s = sym (mapped raw_slot entry_spelled c.slots) in
    let x = sym (mapped raw_gate entry_spelled c.exports) in
    library_grouped (told.head c) (count c.slots) (count c.exports) (flat_map told.slot c.slots) (flat_map told.gate c.exports) c.text
    ∙ ap (λ (l : List ℕ). told.head c ++ l ++ count c.exports ++ (flat_map told.slot c.slots ++ flat_map told.gate c.exports ++ c.text)) n
    ∙ ap (λ (l : List ℕ). told.head c ++ count (map raw_slot c.slots) ++ l ++ (flat_map told.slot c.slots ++ flat_map told.gate c.exports ++ c.text)) m
    ∙ ap (λ (l : List ℕ). told.head c ++ count (map raw_slot c.slots) ++ count (map raw_gate c.exports) ++ (l ++ flat_map told.gate c.exports ++ c.text)) s
    ∙ ap (λ (l : List ℕ). told.head c ++ count (map raw_slot c.slots) ++ count (map raw_gate c.exports) ++ (flat_map entry_spelled (map raw_slot c.slots) ++ l ++ c.text)) x

compartment_grouped : (h a b c d n m s x t i z : List ℕ) → h ++ a ++ b ++ c ++ d ++ (n ++ m ++ s ++ x ++ t) ++ i ++ z ≡ h ++ a ++ b ++ c ++ d ++ n ++ m ++ (s ++ x ++ t) ++ i ++ z
compartment_grouped h a b c d n m s x t i z = simp append_assoc

compartment_is : (c : CompartmentRow) → told.compartment c ≡ compartment_spelled (raw_compartment c)
unfolding slot gate
compartment_is c =
    let k = c.code in
    let front = told.head k ++ number c.table ++ number c.globals ++ number c.globals_length ++ count c.initial in
    let back = zeros (padding_after (length c.initial)) in
    let whole = λ (n m s x : List ℕ). front ++ n ++ m ++ (s ++ x ++ k.text) ++ c.initial ++ back in
    let ss = flat_map told.slot k.slots in
    let xs = flat_map told.gate k.exports in
    compartment_grouped (told.head k) (number c.table) (number c.globals) (number c.globals_length) (count c.initial) (count k.slots) (count k.exports) ss xs k.text c.initial back
    ∙ ap (λ (l : List ℕ). whole l (count k.exports) ss xs) (sym (counted raw_slot k.slots))
    ∙ ap (λ (l : List ℕ). whole (count (map raw_slot k.slots)) l ss xs) (sym (counted raw_gate k.exports))
    ∙ ap (λ (l : List ℕ). whole (count (map raw_slot k.slots)) (count (map raw_gate k.exports)) l xs) (sym (mapped raw_slot entry_spelled k.slots))
    ∙ ap (λ (l : List ℕ). whole (count (map raw_slot k.slots)) (count (map raw_gate k.exports)) (flat_map entry_spelled (map raw_slot k.slots)) l) (sym (mapped raw_gate entry_spelled k.exports))

-- ---- all

abbrev lists_of : PartsRow → List ℕ
lists_of p =
    flat_map device_spelled (map raw_device p.devices) ++ flat_map shared_spelled (map raw_shared p.shared) ++ flat_map sealed_spelled (map raw_sealed p.sealed)
    ++ flat_map compartment_spelled (map raw_compartment p.compartments) ++ flat_map library_spelled (map raw_code p.libraries) ++ flat_map thread_spelled (map raw_thread p.threads)

lists_are : (p : PartsRow) → told.lists p ≡ lists_of p
lists_are p =
    let whole = λ (d s x c l t : List ℕ). d ++ s ++ x ++ c ++ l ++ t in
    let d = flat_map told.device p.devices in
    let s = flat_map told.shared p.shared in
    let x = flat_map told.sealed p.sealed in
    let c = flat_map told.compartment p.compartments in
    let l = flat_map told.library p.libraries in
    let t = flat_map told.thread p.threads in
    let d1 = flat_map device_spelled (map raw_device p.devices) in
    let s1 = flat_map shared_spelled (map raw_shared p.shared) in
    let x1 = flat_map sealed_spelled (map raw_sealed p.sealed) in
    let c1 = flat_map compartment_spelled (map raw_compartment p.compartments) in
    let l1 = flat_map library_spelled (map raw_code p.libraries) in
    let ec : c ≡ c1 = alike told.compartment (λ y. compartment_spelled (raw_compartment y)) compartment_is p.compartments ∙ sym (mapped raw_compartment compartment_spelled p.compartments) in
    let el : l ≡ l1 = alike told.library (λ y. library_spelled (raw_code y)) library_is p.libraries ∙ sym (mapped raw_code library_spelled p.libraries) in
    ap (λ (y : List ℕ). whole y s x c l t) (sym (mapped raw_device device_spelled p.devices))
    ∙ ap (λ (y : List ℕ). whole d1 y x c l t) (sym (mapped raw_shared shared_spelled p.shared))
    ∙ ap (λ (y : List ℕ). whole d1 s1 y c l t) (sym (mapped raw_sealed sealed_spelled p.sealed))
    ∙ ap (λ (y : List ℕ). whole d1 s1 x1 y l t) ec
    ∙ ap (λ (y : List ℕ). whole d1 s1 x1 c1 y t) el
    ∙ ap (λ (y : List ℕ). whole d1 s1 x1 c1 l1 y) (sym (mapped raw_thread thread_spelled p.threads))

abbrev raw_counts : PartsRow → List ℕ
raw_counts p =
    count (map raw_device p.devices) ++ count (map raw_shared p.shared) ++ count (map raw_sealed p.sealed)
    ++ count (map raw_compartment p.compartments) ++ count (map raw_code p.libraries) ++ count (map raw_thread p.threads)

counts_are : (p : PartsRow) → told.counts p ≡ raw_counts p
counts_are p =
    let whole = λ (d s x c l t : ℕ). number d ++ number s ++ number x ++ number c ++ number l ++ number t in
    let nd = length p.devices in
    let ns = length p.shared in
    let nx = length p.sealed in
    let nc = length p.compartments in
    let nl = length p.libraries in
    let nt = length p.threads in
    let md = length (map raw_device p.devices) in
    let ms = length (map raw_shared p.shared) in
    let mx = length (map raw_sealed p.sealed) in
    let mc = length (map raw_compartment p.compartments) in
    let ml = length (map raw_code p.libraries) in
    ap (λ (n : ℕ). whole n ns nx nc nl nt) (sym (length-map p.devices raw_device))
    ∙ ap (λ (n : ℕ). whole md n nx nc nl nt) (sym (length-map p.shared raw_shared))
    ∙ ap (λ (n : ℕ). whole md ms n nc nl nt) (sym (length-map p.sealed raw_sealed))
    ∙ ap (λ (n : ℕ). whole md ms mx n nl nt) (sym (length-map p.compartments raw_compartment))
    ∙ ap (λ (n : ℕ). whole md ms mx mc n nt) (sym (length-map p.libraries raw_code))
    ∙ ap (λ (n : ℕ). whole md ms mx mc ml n) (sym (length-map p.threads raw_thread))

-- the whole, part by part
all_grouped : (b k n r y d e x c l w : List ℕ) → b ++ k ++ n ++ r ++ y ++ (d ++ e ++ x ++ c ++ l ++ w) ≡ b ++ k ++ n ++ r ++ y ++ d ++ e ++ x ++ c ++ l ++ w
all_grouped b k n r y d e x c l w = simp append_assoc

abbrev pub told_all : PartsRow → List ℕ
told_all p = told.begin p.version ++ told.counts p ++ told.bases p ++ told.rate p.version p.sweep ++ name_field p.name ++ told.lists p

pub told_is : (p : PartsRow) → told_all p ≡ image_bytes p
unfolding image_bytes spelled raw_of
told_is p =
    ap (λ (l : List ℕ). told.begin p.version ++ l ++ told.bases p ++ told.rate p.version p.sweep ++ name_field p.name ++ told.lists p) (counts_are p)
    ∙ ap (λ (l : List ℕ). told.begin p.version ++ raw_counts p ++ told.bases p ++ told.rate p.version p.sweep ++ name_field p.name ++ l) (lists_are p)
    ∙ all_grouped (told.begin p.version) (raw_counts p) (told.bases p) (told.rate p.version p.sweep) (name_field p.name)
    (flat_map device_spelled (map raw_device p.devices)) (flat_map shared_spelled (map raw_shared p.shared)) (flat_map sealed_spelled (map raw_sealed p.sealed))
    (flat_map compartment_spelled (map raw_compartment p.compartments)) (flat_map library_spelled (map raw_code p.libraries)) (flat_map thread_spelled (map raw_thread p.threads))

-- what is written in seven steps
pub written_is : (p : PartsRow) (v s : ℕ) (name n0 n1 n2 n3 n4 n5 n6 : List ℕ) → n0 ≡ [] → n1 ≡ n0 ++ told.begin v → n2 ≡ n1 ++ told.counts p → n3 ≡ n2 ++ told.bases p → n4 ≡ n3 ++ told.rate v s
    → n5 ≡ n4 ++ name_field name → n6 ≡ n5 ++ told.lists p → v ≡ p.version → s ≡ p.sweep → name ≡ p.name → n6 ≡ image_bytes p
written_is p v s name n0 n1 n2 n3 n4 n5 n6 e0 e1 e2 e3 e4 e5 e6 ev es en =
    let a1 : n1 ≡ told.begin p.version = e1 ∙ ap (λ (l : List ℕ). l ++ told.begin v) e0 ∙ ap told.begin ev in
    let a2 = e2 ∙ ap (λ (l : List ℕ). l ++ told.counts p) a1 in
    let a3 = e3 ∙ ap (λ (l : List ℕ). l ++ told.bases p) a2 in
    let a4 = e4 ∙ ap (λ (l : List ℕ). l ++ told.rate v s) a3 ∙ ap (λ (k : ℕ). told.begin p.version ++ told.counts p ++ told.bases p ++ told.rate k s) ev
    ∙ ap (λ (k : ℕ). told.begin p.version ++ told.counts p ++ told.bases p ++ told.rate p.version k) es in
    let a5 = e5 ∙ ap (λ (l : List ℕ). l ++ name_field name) a4
    ∙ ap (λ (l : List ℕ). told.begin p.version ++ told.counts p ++ told.bases p ++ told.rate p.version p.sweep ++ name_field l) en in
    e6 ∙ ap (λ (l : List ℕ). l ++ told.lists p) a5 ∙ told_is p
