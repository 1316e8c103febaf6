-- Entries, what boot makes of them, what stands in RAM and the state at boot don't depend on the version.
use Rattle.std.proofs.Common.{ℕ, zero, suc, ◌≡◌, ◌+◌, ◌-◌, ◌*◌, ◌/◌, ◌==◌, ◌%◌, Bool, true, false, nat_lt, List, [], ◌∷◌, ◌++◌, length, map, Option, Some, None, refl, sym, ap, ◌∙◌, if◌then◌else◌}
use Rattle.std.specs.Prelude.{slice_index_or, slice_get, option_map}
use Rattle.ct_entry.specs.Listed.{Listed}
use Rattle.ct_entry.specs.declared.rows.Entry.{Entry}
use Rattle.ct_entry.specs.declared.rows.Owner.{Owner}
use Rattle.ct_entry.specs.declared.rows.Owner.TheVariants.{Trusted, Compartment, Library, Thread}
use Rattle.ct_entry.specs.declared.rows.Kind.{Kind}
use Rattle.ct_entry.specs.declared.rows.Kind.TheVariants as kind
use Rattle.def_profile.specs.declared.layout.TheConstants.{GRANULE, SLOT_SIZE, TABLE_HEAD, TABLE_ROW}
use Rattle.def_words.specs.declared.Cap.{Cap}
use Rattle.def_words.specs.Capability.{with_address}
use Rattle.def_memory.specs.declared.Granule.{Granule}
use Rattle.def_memory.specs.Granules.{plain}
use Rattle.def_machine.specs.Image.{Image, Region}
use Rattle.def_machine.specs.State as st
use Rattle.def_sched.specs.declared.Status.TheVariants.{Ready}
use Rattle.def_image.specs.declared.ImportRow.{ImportRow}
use Rattle.def_image.specs.declared.SlotKind.{SlotKind}
use Rattle.def_image.specs.declared.SlotKind.TheVariants as slot
use Rattle.def_image.specs.Parts.{SlotRow, CodeRow, CompartmentRow, ThreadRow, PartsRow, upgraded}
use Rattle.def_image.specs.Regions.{Holder, CodeOf, TableOf, GlobalsOf, SharedOf, SealedOf, StackOf, TrustedPart, RegionRow, trusted_region, regions_of}
use Rattle.def_image.specs.Members.{compartment, library, code_number, globals_number, library_number, stack_number}
use Rattle.def_boot.specs.Entries.{slot_entry, slot_rows, export_rows, code_row, globals_row, compartment_rows, library_rows, stack_row, rows_from, entry_rows, library_export_row}
use Rattle.def_boot.specs.Gates.{gates_of, entries_of}
use Rattle.def_boot.specs.Made.{entry_cap, entry_caps, caps_at_boot, boot_cap_of, return_sentry}
use Rattle.def_boot.specs.Contents.{word_from_bytes, gate_word, covers, owned_content, content, region_in, region_at, content_at, boot_cap, granules_from, granules_in, boot_granules, part_at, part, parts_from}
use Rattle.def_boot.specs.Boot.{image_of, platform_of, bases_of, first_thread, first_threads, first_frame, first_posture, thread_entry_address, boot_state}
use Rattle.def_boot.specs.Upgrade.{BootsAlike}
use Rattle.law_image.proofs.Regions.{unplaced, Alike, later_alike}

-- ---- entries

slot_alike : (p : PartsRow) (o : Owner) (at : ℕ) (r : ImportRow) (k : SlotKind) → slot_entry (upgraded p) o at r k ≡ slot_entry p o at r k
slot_alike p o at r slot.Service = refl
slot_alike p o at r slot.Device = refl
slot_alike p o at r slot.Shared = refl
slot_alike p o at r slot.Sealed = refl
slot_alike p o at r slot.Call = refl
slot_alike p o at r slot.Library = refl
slot_alike p o at r slot.Quota = refl
slot_alike p o at r slot.Key = refl

slots_alike : (p : PartsRow) (o : Owner) (at : ℕ) (ss : List SlotRow) → slot_rows (upgraded p) o at ss ≡ slot_rows p o at ss
slots_alike p o at [] = refl
slots_alike p o at (s ∷ ss) =
    ap (λ (e : Entry). e ∷ slot_rows (upgraded p) o (at + SLOT_SIZE) ss) (slot_alike p o at s.row s.row.kind)
    ∙ ap (λ (l : List Entry). slot_entry p o at s.row s.row.kind ∷ l) (slots_alike p o (at + SLOT_SIZE) ss)

rows_same : {A : Type 0} (f g : ℕ → A → List Entry) → ((i : ℕ) (x : A) → f i x ≡ g i x) → (i : ℕ) (xs : List A) → rows_from f i xs ≡ rows_from g i xs
rows_same f g same i [] = refl
rows_same f g same i (x ∷ xs) = ap (λ (l : List Entry). l ++ rows_from f (i + 1) xs) (same i x) ∙ ap (λ (l : List Entry). g i x ++ l) (rows_same f g same (i + 1) xs)

compartment_alike : (p : PartsRow) (b : ℕ) (c : CompartmentRow) → compartment_rows (upgraded p) b c ≡ compartment_rows p b c
compartment_alike p b c =
    ap (λ (l : List Entry). (code_row (Compartment b) c.code ∷ globals_row b c ∷ l) ++ export_rows b (c.table + 16) c.code.exports) (slots_alike p (Compartment b) c.code.base c.code.slots)

library_alike : (p : PartsRow) (l : ℕ) (c : CodeRow) → library_rows (upgraded p) l c ≡ library_rows p l c
library_alike p l c =
    ap (λ (s : List Entry). (code_row (Library l) c ∷ s) ++ map (λ x. library_export_row l c) c.exports) (slots_alike p (Library l) c.base c.slots)

rows_alike : (p : PartsRow) → entry_rows (upgraded p) ≡ entry_rows p
unfolding entry_rows
rows_alike p =
    let stacks = rows_from (λ t x. stack_row t x ∷ []) 0 p.threads in
    ap (λ (l : List Entry). l ++ rows_from (library_rows (upgraded p)) 0 p.libraries ++ stacks) (rows_same (compartment_rows (upgraded p)) (compartment_rows p) (compartment_alike p) 0 p.compartments)
    ∙ ap (λ (l : List Entry). rows_from (compartment_rows p) 0 p.compartments ++ l ++ stacks) (rows_same (library_rows (upgraded p)) (library_rows p) (library_alike p) 0 p.libraries)

gates_alike : (p : PartsRow) → gates_of (upgraded p) ≡ gates_of p
unfolding gates_of
gates_alike p = refl

entries_alike : (p : PartsRow) → entries_of (upgraded p) ≡ entries_of p
unfolding entries_of
entries_alike p =
    let listed = λ (r : List Entry). record (entries_of p) { rows = r } in
    ap (λ g. record (entries_of (upgraded p)) { gates = g }) (gates_alike p) ∙ ap listed (rows_alike p)

-- ---- what boot makes

made_alike : (p : PartsRow) (n : ℕ) (r : Entry) (k : Kind) → entry_cap (upgraded p) n r k ≡ entry_cap p n r k
unfolding gates_of
made_alike p n r kind.Code = refl
made_alike p n r kind.Globals = refl
made_alike p n r kind.Stack = refl
made_alike p n r kind.Service = refl
made_alike p n r kind.Device = refl
made_alike p n r kind.Shared = refl
made_alike p n r kind.Sealed = refl
made_alike p n r kind.Call = refl
made_alike p n r kind.Library = refl
made_alike p n r kind.Quota = refl
made_alike p n r kind.Key = refl
made_alike p n r kind.Export = refl

list_alike : (p : PartsRow) (n : ℕ) (rs : List Entry) → entry_caps (upgraded p) n rs ≡ entry_caps p n rs
list_alike p n [] = refl
list_alike p n (r ∷ rs) =
    ap (λ (c : Cap). c ∷ entry_caps (upgraded p) (n + 1) rs) (made_alike p n r r.kind) ∙ ap (λ (l : List Cap). entry_cap p n r r.kind ∷ l) (list_alike p (n + 1) rs)

caps_alike : (p : PartsRow) → caps_at_boot (upgraded p) ≡ caps_at_boot p
unfolding caps_at_boot
caps_alike p = ap (λ (l : List Cap). return_sentry ∷ l) (list_alike p 1 (entry_rows (upgraded p)) ∙ ap (entry_caps p 1) (rows_alike p))

for_alike : (p : PartsRow) (n : ℕ) → boot_cap_of (upgraded p) n ≡ boot_cap_of p n
for_alike p n = ap (λ (l : List Cap). slice_index_or l n (plain 0)) (caps_alike p)

-- ---- what stands in RAM

owned_alike : (p : PartsRow) (o : Owner) (k : ℕ) → owned_content (upgraded p) o k ≡ owned_content p o k
owned_alike p (Compartment b) k =
    let c = (compartment p b).code in
    ap (λ (x : Cap). if nat_lt k (SLOT_SIZE * length c.slots) then x else plain (word_from_bytes c.text (k - SLOT_SIZE * length c.slots))) (for_alike p (code_number p b + 2 + k / SLOT_SIZE))
owned_alike p (Library l) k =
    let c = library p l in
    ap (λ (x : Cap). if nat_lt k (SLOT_SIZE * length c.slots) then x else plain (word_from_bytes c.text (k - SLOT_SIZE * length c.slots))) (for_alike p (library_number p l + 1 + k / SLOT_SIZE))
owned_alike p Trusted k = refl
owned_alike p (Thread t) k = refl

table_alike : (p : PartsRow) (b k : ℕ) → content (upgraded p) (TableOf b) k ≡ content p (TableOf b) k
table_alike p b k =
    let gates = (compartment p b).code.exports in
    let later = λ (x y : Cap). if k == 0 then x else if k == GRANULE then y else plain (gate_word (slice_get gates ((k - TABLE_HEAD) / TABLE_ROW)) ((k - TABLE_HEAD) % TABLE_ROW)) in
    ap (λ (x : Cap). later x (boot_cap_of (upgraded p) (globals_number p b))) (for_alike p (code_number p b)) ∙ ap (later (boot_cap_of p (code_number p b))) (for_alike p (globals_number p b))

content_alike : (p : PartsRow) (h : Holder) (k : ℕ) → content (upgraded p) h k ≡ content p h k
content_alike p (CodeOf o) k = owned_alike p o k
content_alike p (TableOf b) k = table_alike p b k
content_alike p (GlobalsOf b) k = refl
content_alike p (SharedOf n) k = refl
content_alike p (SealedOf n) k = refl
content_alike p (StackOf t) k = refl
content_alike p TrustedPart k = refl

regions_alike : (p : PartsRow) → Alike (regions_of (upgraded p)) (regions_of p)
unfolding regions_of
regions_alike p = ap (λ (l : List RegionRow). unplaced (trusted_region p) ∷ l) (sym (later_alike p))

abbrev found : Option RegionRow → Option RegionRow
found o = option_map unplaced o

found_if : (b : Bool) (r : RegionRow) (o : Option RegionRow) → found (if b then Some r else o) ≡ (if b then Some (unplaced r) else found o)
found_if true r o = refl
found_if false r o = refl

in_alike : (rs : List RegionRow) (x : ℕ) → region_in (map unplaced rs) x ≡ found (region_in rs x)
in_alike [] x = refl
in_alike (r ∷ rs) x = ap (λ (o : Option RegionRow). if covers x r then Some (unplaced r) else o) (in_alike rs x) ∙ sym (found_if (covers x r) r (region_in rs x))

at_alike : (p : PartsRow) (x : ℕ) → found (region_at (upgraded p) x) ≡ found (region_at p x)
unfolding region_at
at_alike p x =
    sym (in_alike (regions_of (upgraded p)) x) ∙ ap (λ (l : List RegionRow). region_in l x) (regions_alike p) ∙ in_alike (regions_of p) x

-- content and part of a region don't depend on its place
content_found : (p : PartsRow) (o : Option RegionRow) (x : ℕ) → content_at p (found o) x ≡ content_at p o x
content_found p None x = refl
content_found p (Some r) x = refl

part_found : (p : PartsRow) (o : Option RegionRow) (x : ℕ) → part_at p (found o) x ≡ part_at p o x
part_found p None x = refl
part_found p (Some r) x = refl

content_upgraded : (p : PartsRow) (o : Option RegionRow) (x : ℕ) → content_at (upgraded p) o x ≡ content_at p o x
content_upgraded p None x = refl
content_upgraded p (Some r) x = content_alike p r.holder (x - r.base)

part_upgraded : (p : PartsRow) (o : Option RegionRow) (x : ℕ) → part_at (upgraded p) o x ≡ part_at p o x
part_upgraded p None x = refl
part_upgraded p (Some r) x = refl

cap_alike : (p : PartsRow) (x : ℕ) → boot_cap (upgraded p) x ≡ boot_cap p x
unfolding boot_cap
cap_alike p x =
    content_upgraded p (region_at (upgraded p) x) x ∙ sym (content_found p (region_at (upgraded p) x) x)
    ∙ ap (λ (o : Option RegionRow). content_at p o x) (at_alike p x) ∙ content_found p (region_at p x) x

region_alike : (p : PartsRow) (x : ℕ) → part (upgraded p) x ≡ part p x
unfolding part
region_alike p x =
    part_upgraded p (region_at (upgraded p) x) x ∙ sym (part_found p (region_at (upgraded p) x) x)
    ∙ ap (λ (o : Option RegionRow). part_at p o x) (at_alike p x) ∙ part_found p (region_at p x) x

abbrev granule_of : Cap → Granule
granule_of c = record { cap = c; mark = false }

granules_alike : (p : PartsRow) (x n : ℕ) → granules_from (upgraded p) x n ≡ granules_from p x n
granules_alike p x zero = refl
granules_alike p x (suc n) =
    ap (λ (c : Cap). granule_of c ∷ granules_from (upgraded p) (x + GRANULE) n) (cap_alike p x) ∙ ap (λ (l : List Granule). granule_of (boot_cap p x) ∷ l) (granules_alike p (x + GRANULE) n)

parts_alike : (p : PartsRow) (x n : ℕ) → parts_from (upgraded p) x n ≡ parts_from p x n
parts_alike p x zero = refl
parts_alike p x (suc n) =
    ap (λ (r : Region). r ∷ parts_from (upgraded p) (x + GRANULE) n) (region_alike p x) ∙ ap (λ (l : List Region). part p x ∷ l) (parts_alike p (x + GRANULE) n)

memory_alike : (p : PartsRow) → boot_granules (upgraded p) ≡ boot_granules p
unfolding boot_granules
memory_alike p = granules_alike p p.ram (granules_in p)

-- ---- the board

image_alike : (p : PartsRow) → image_of (upgraded p) ≡ image_of p
unfolding image_of
image_alike p =
    let i = image_of (upgraded p) in
    ap (λ (e : Listed). record i { entries = e }) (entries_alike p)
    ∙ ap (λ (m : List Cap). record i { entries = entries_of p; made = m }) (caps_alike p)
    ∙ ap (λ (r : List Region). record i { entries = entries_of p; made = caps_at_boot p; regions = r }) (parts_alike p p.ram (granules_in p))
    ∙ ap (λ (g : List Granule). record (image_of p) { boot = g }) (memory_alike p)

board_alike : (p : PartsRow) → platform_of (upgraded p) ≡ platform_of p
board_alike p = ap (λ (i : Image). record { image = i; bases = bases_of p }) (image_alike p)

-- ---- the state

abbrev thread_with : List Cap → PartsRow → ℕ → ThreadRow → st.Thread
thread_with made p n t =
    let cap = λ (k : ℕ). slice_index_or made k (plain 0) in
    record {
      pcc = with_address (cap (code_number p t.compartment)) (thread_entry_address p t);
      registers =
          plain 0 ∷ return_sentry ∷ cap (stack_number p n) ∷ cap (globals_number p t.compartment)
          ∷ plain 0 ∷ plain 0 ∷ plain 0 ∷ plain 0 ∷ plain 0 ∷ plain 0
          ∷ plain 0 ∷ plain 0 ∷ plain 0 ∷ plain 0 ∷ plain 0 ∷ plain 0 ∷ [];
      frames = first_frame p t ∷ [];
      status = Ready;
      posture = first_posture p t;
    }

thread_alike : (p : PartsRow) (n : ℕ) (t : ThreadRow) → first_thread (upgraded p) n t ≡ first_thread p n t
thread_alike p n t = ap (λ (m : List Cap). thread_with m p n t) (caps_alike p)

threads_alike : (p : PartsRow) (n : ℕ) (ts : List ThreadRow) → first_threads (upgraded p) n ts ≡ first_threads p n ts
threads_alike p n [] = refl
threads_alike p n (t ∷ ts) =
    ap (λ (x : st.Thread). x ∷ first_threads (upgraded p) (n + 1) ts) (thread_alike p n t) ∙ ap (λ (l : List st.Thread). first_thread p n t ∷ l) (threads_alike p (n + 1) ts)

state_alike : (p : PartsRow) → boot_state (upgraded p) ≡ boot_state p
unfolding boot_state
state_alike p =
    ap (λ (g : List Granule). record (boot_state (upgraded p)) { granules = g }) (memory_alike p)
    ∙ ap (λ (l : List st.Thread). record (boot_state p) { threads = l }) (threads_alike p 0 p.threads)

pub alike : (p : PartsRow) → BootsAlike p
alike p = record { entries = entries_alike p; board = board_alike p; state = state_alike p }
