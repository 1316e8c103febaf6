-- What boot puts at each place of the regions of a sound image.
use Rattle.std.proofs.Common.{ℕ, ◌≡◌, ◌+◌, ◌-◌, ◌*◌, ◌/◌, ◌%◌, ◌<◌, ◌≤◌, true, false, cond, nat_lt, nat_eq, length, Some, unwrap_or, slice_get, refl, ap, ◌∙◌, subst, arith}
use Rattle.std.proofs.lemmas.Option.{slice_get_within}
use Rattle.std.proofs.lemmas.Bool.{lt-ltb, le-ltb, ne_eqb}
use Rattle.ct_entry.specs.declared.rows.Owner.TheVariants.{Compartment, Library}
use Rattle.def_words.specs.declared.Cap.{Cap}
use Rattle.def_memory.specs.Granules.{plain}
use Rattle.def_image.specs.Parts.{SlotRow, GateRow, SealedRow, CodeRow, CompartmentRow, PartsRow}
use Rattle.def_image.specs.Members.{no_sealed, compartment, library, sealed, text_base, gate_address, code_number, globals_number, library_number}
use Rattle.def_image.specs.Regions.{CodeOf, TableOf, GlobalsOf, SealedOf, TrustedPart, table_size, table_length, trusted_size, trusted_length}
use Rattle.def_image.specs.Spelling.{export_field}
use Rattle.def_image.specs.Sound.{Sound, CodeFits}
use Rattle.def_boot.specs.Contents.{code_content, table_content, gate_word, word_from_bytes}
use Rattle.def_boot.specs.Made.{boot_cap_of, return_sentry}
use Rattle.def_boot.specs.Rows.{slot_number, library_slot_number}
use Rattle.law_boot.proofs.Regions.{code_there, table_there, globals_there, library_there, sealed_there}
use Rattle.def_boot.specs.Booting.{BootPuts, PutsBytes}
use Rattle.law_boot.proofs.BootWordsRegions.{trusted_there, at_offset}
use Rattle.law_layout.proofs.Placing.{size_fits}
use Rattle.law_image.proofs.Sounds.{compartment_is, library_is}

-- ---- the same at another name of the address and of what is put there

puts_as : (p : PartsRow) (x y : ℕ) (c d : Cap) → x ≡ y → c ≡ d → BootPuts p x c → BootPuts p y d
puts_as p x y c d place what h = subst (λ z. BootPuts p z d) place (subst (λ z. BootPuts p x z) what h)

pub sealed_is : (p : PartsRow) (n : ℕ) (s : SealedRow) → slice_get p.sealed n ≡ Some s → sealed p n ≡ s
sealed_is p n s there = ap (λ o. unwrap_or o no_sealed) there

-- ---- code

slot_content : (p : PartsRow) (first : ℕ) (c : CodeRow) (j : ℕ) → j < length c.slots → code_content p first c (8 * j) ≡ boot_cap_of p (first + j)
slot_content p first c j lt =
    let within : nat_lt (8 * j) (8 * length c.slots) ≡ true = lt-ltb (8 * j) (8 * length c.slots) (omega (arith, lt)) in
    let index : 8 * j / 8 ≡ j = omega arith in
    ap (λ t. cond t (boot_cap_of p (first + 8 * j / 8)) (plain (word_from_bytes c.text (8 * j - 8 * length c.slots)))) within
    ∙ ap (λ n. boot_cap_of p (first + n)) index

text_content : (p : PartsRow) (first : ℕ) (c : CodeRow) (k : ℕ) → code_content p first c (8 * length c.slots + k) ≡ plain (word_from_bytes c.text k)
text_content p first c k =
    let past : nat_lt (8 * length c.slots + k) (8 * length c.slots) ≡ false = le-ltb (8 * length c.slots + k) (8 * length c.slots) (omega arith) in
    let offset : 8 * length c.slots + k - 8 * length c.slots ≡ k = omega arith in
    ap (λ t. cond t (boot_cap_of p (first + (8 * length c.slots + k) / 8)) (plain (word_from_bytes c.text (8 * length c.slots + k - 8 * length c.slots)))) past
    ∙ ap (λ n. plain (word_from_bytes c.text n)) offset

slot_inside : (c : CodeRow) (j : ℕ) → CodeFits c → j < length c.slots → 8 * j < c.length
slot_inside c j h lt = let fits = h.fits in omega (arith, fits, lt)

text_inside : (c : CodeRow) (w : ℕ) → CodeFits c → 8 * w < length c.text → 8 * length c.slots + 8 * w < c.length
text_inside c w h lt = let fits = h.fits in omega (arith, fits, lt)

pub puts_slot : (p : PartsRow) → Sound p → (b j : ℕ) (c : CompartmentRow) (s : SlotRow) → slice_get p.compartments b ≡ Some c → slice_get c.code.slots j ≡ Some s
    → BootPuts p (c.code.base + 8 * j) (boot_cap_of p (slot_number p b j))
puts_slot p sound b j c s there slot =
    let lt = slice_get_within c.code.slots j s slot in
    let fits = (sound.compartment b c there).code in
    puts_as p _ _ _ _ refl
    (ap (λ (d : CompartmentRow). code_content p (code_number p b + 2) d.code (8 * j)) (compartment_is p b c there) ∙ slot_content p (code_number p b + 2) c.code j lt)
    (at_offset p sound (CodeOf (Compartment b)) c.code.base c.code.length (8 * j) (code_there p b c there) (slot_inside c.code j fits lt) (omega arith))

pub puts_text : (p : PartsRow) → Sound p → (b : ℕ) (c : CompartmentRow) → slice_get p.compartments b ≡ Some c → PutsBytes p (text_base c.code) c.code.text
puts_text p sound b c there w lt =
    let fits = (sound.compartment b c there).code in
    puts_as p _ _ _ _ (omega arith)
    (ap (λ (d : CompartmentRow). code_content p (code_number p b + 2) d.code (8 * length c.code.slots + 8 * w)) (compartment_is p b c there) ∙ text_content p (code_number p b + 2) c.code (8 * w))
    (at_offset p sound (CodeOf (Compartment b)) c.code.base c.code.length (8 * length c.code.slots + 8 * w) (code_there p b c there) (text_inside c.code w fits lt) (omega arith))

pub puts_library_slot : (p : PartsRow) → Sound p → (l j : ℕ) (c : CodeRow) (s : SlotRow) → slice_get p.libraries l ≡ Some c → slice_get c.slots j ≡ Some s
    → BootPuts p (c.base + 8 * j) (boot_cap_of p (library_slot_number p l j))
puts_library_slot p sound l j c s there slot =
    let lt = slice_get_within c.slots j s slot in
    let fits = (sound.library l c there).code in
    puts_as p _ _ _ _ refl
    (ap (λ (d : CodeRow). code_content p (library_number p l + 1) d (8 * j)) (library_is p l c there) ∙ slot_content p (library_number p l + 1) c j lt)
    (at_offset p sound (CodeOf (Library l)) c.base c.length (8 * j) (library_there p l c there) (slot_inside c j fits lt) (omega arith))

pub puts_library_text : (p : PartsRow) → Sound p → (l : ℕ) (c : CodeRow) → slice_get p.libraries l ≡ Some c → PutsBytes p (text_base c) c.text
puts_library_text p sound l c there w lt =
    let fits = (sound.library l c there).code in
    puts_as p _ _ _ _ (omega arith)
    (ap (λ (d : CodeRow). code_content p (library_number p l + 1) d (8 * length c.slots + 8 * w)) (library_is p l c there) ∙ text_content p (library_number p l + 1) c (8 * w))
    (at_offset p sound (CodeOf (Library l)) c.base c.length (8 * length c.slots + 8 * w) (library_there p l c there) (text_inside c w fits lt) (omega arith))

-- ---- export tables

row_content : (p : PartsRow) (b : ℕ) (c : CompartmentRow) (j : ℕ) (x : GateRow) (m : ℕ) → slice_get p.compartments b ≡ Some c → slice_get c.code.exports j ≡ Some x → m < 16
    → table_content p b (16 + 16 * j + m) ≡ plain (word_from_bytes (export_field x.row) m)
row_content p b c j x m there export lt =
    let first : nat_eq (16 + 16 * j + m) 0 ≡ false = ne_eqb (16 + 16 * j + m) 0 (λ e. omega (arith, e)) in
    let second : nat_eq (16 + 16 * j + m) 8 ≡ false = ne_eqb (16 + 16 * j + m) 8 (λ e. omega (arith, e)) in
    let index : (16 + 16 * j + m - 16) / 16 ≡ j = omega (arith, lt) in
    let offset : (16 + 16 * j + m - 16) % 16 ≡ m = omega (arith, lt) in
    let found : slice_get (compartment p b).code.exports ((16 + 16 * j + m - 16) / 16) ≡ Some x =
    ap (λ n. slice_get (compartment p b).code.exports n) index ∙ ap (λ (d : CompartmentRow). slice_get d.code.exports j) (compartment_is p b c there) ∙ export in
    let rows = plain (gate_word (slice_get (compartment p b).code.exports ((16 + 16 * j + m - 16) / 16)) ((16 + 16 * j + m - 16) % 16)) in
    ap (λ t. cond t (boot_cap_of p (code_number p b)) (cond (nat_eq (16 + 16 * j + m) 8) (boot_cap_of p (globals_number p b)) rows)) first
    ∙ ap (λ t. cond t (boot_cap_of p (globals_number p b)) rows) second
    ∙ ap (λ o. plain (gate_word o ((16 + 16 * j + m - 16) % 16))) found
    ∙ ap (λ n. plain (word_from_bytes (export_field x.row) n)) offset

table_long : (c : CompartmentRow) → 16 + 16 * length c.code.exports ≤ table_length c
table_long c = size_fits (table_size c.code)

pub puts_code : (p : PartsRow) → Sound p → (b : ℕ) (c : CompartmentRow) → slice_get p.compartments b ≡ Some c → BootPuts p c.table (boot_cap_of p (code_number p b))
puts_code p sound b c there =
    let long = table_long c in
    puts_as p _ _ _ _ (omega arith) refl (at_offset p sound (TableOf b) c.table (table_length c) 0 (table_there p b c there) (omega (arith, long)) refl)

pub puts_globals : (p : PartsRow) → Sound p → (b : ℕ) (c : CompartmentRow) → slice_get p.compartments b ≡ Some c → BootPuts p (c.table + 8) (boot_cap_of p (globals_number p b))
puts_globals p sound b c there =
    let long = table_long c in
    at_offset p sound (TableOf b) c.table (table_length c) 8 (table_there p b c there) (omega (arith, long)) refl

field_long : (x : GateRow) → length (export_field x.row) ≡ 16
field_long x = refl

pub puts_export : (p : PartsRow) → Sound p → (b j : ℕ) (c : CompartmentRow) (x : GateRow) → slice_get p.compartments b ≡ Some c → slice_get c.code.exports j ≡ Some x
    → PutsBytes p (gate_address c j) (export_field x.row)
puts_export p sound b j c x there export w lt =
    let long = table_long c in
    let size = field_long x in
    let less : 8 * w < 16 = omega (arith, lt, size) in
    let index = slice_get_within c.code.exports j x export in
    puts_as p _ _ _ _ (omega arith) (row_content p b c j x (8 * w) there export less)
    (at_offset p sound (TableOf b) c.table (table_length c) (16 + 16 * j + 8 * w) (table_there p b c there) (omega (arith, long, less, index)) (omega arith))

-- ---- bytes, and the return sentry

pub puts_initial : (p : PartsRow) → Sound p → (b : ℕ) (c : CompartmentRow) → slice_get p.compartments b ≡ Some c → PutsBytes p c.globals c.initial
puts_initial p sound b c there w lt =
    let fits = (sound.compartment b c there).initial in
    puts_as p _ _ _ _ refl (ap (λ (d : CompartmentRow). plain (word_from_bytes d.initial (8 * w))) (compartment_is p b c there))
    (at_offset p sound (GlobalsOf b) c.globals c.globals_length (8 * w) (globals_there p b c there) (omega (arith, fits, lt)) (omega arith))

pub puts_sealed : (p : PartsRow) → Sound p → (n : ℕ) (s : SealedRow) → slice_get p.sealed n ≡ Some s → PutsBytes p s.base s.bytes
puts_sealed p sound n s there w lt =
    let fits = (sound.sealed n s there).bytes.1 in
    puts_as p _ _ _ _ refl (ap (λ (d : SealedRow). plain (word_from_bytes d.bytes (8 * w))) (sealed_is p n s there))
    (at_offset p sound (SealedOf n) s.base s.length (8 * w) (sealed_there p n s there) (omega (arith, fits, lt)) (omega arith))

pub puts_sentry : (p : PartsRow) → Sound p → BootPuts p p.trusted return_sentry
puts_sentry p sound =
    let long : 16 ≤ trusted_length p = (let above = size_fits (trusted_size p.threads) in omega (arith, above)) in
    puts_as p _ _ _ _ (omega arith) refl (at_offset p sound TrustedPart p.trusted (trusted_length p) 0 (trusted_there p) (omega (arith, long)) refl)
