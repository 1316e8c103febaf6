-- Each lawful statement without a fault says what its words decode to.
use Rattle.std.proofs.Common.{◌≡◌, ℕ, ◌+◌, ◌*◌, ◌<◌, ◌^◌, Bool, true, false, ◌&&◌, cond, List, [], ◌∷◌, length, refl, arith, Option, Some, None}
use Rattle.std.proofs.lemmas.Bool.{and_parts}
use Rattle.def_instr.specs.declared.Instr.{Instr}
use Rattle.def_instr.specs.declared.Instr.TheVariants as instr
use Rattle.def_instr.specs.declared.shapes.Shape.TheVariants as shape
use Rattle.def_instr.specs.Table.{InRange, encoded, IsSigned}
use Rattle.ct_isa.proofs.Complete.{complete}
use Rattle.def_source.specs.Source.{Name, Statements, IsLawful, lawful_from, is_lawful_statement, in_section, numbers_fit, registers_exist, section_after, exists, or_else}
use Rattle.def_source.specs.declared.parts.Section.{Section}
use Rattle.def_source.specs.declared.parts.Section.TheVariants as section
use Rattle.def_source.specs.declared.parts.Part.{Part}
use Rattle.def_source.specs.declared.parts.Part.TheVariants as part
use Rattle.def_object.specs.declared.Place.{Place}
use Rattle.def_object.specs.declared.Fault.{Fault}
use Rattle.def_object.specs.Object.{Labels, instructions_at, number_instructions, instruction_bytes, bytes_at, offset, place_after, fault_in, fault_from, label_in, start, lesser, on_line, statement_fault, reference_fault, size_fault, is_short, number_word, upper_part, rest_part, label_offset, slot_or_zero, slot_of}
use Rattle.def_assembly.specs.Decoding.{Decodes, Says, AllSay, is_instruction}
use Rattle.law_assembly.proofs.Ranges.{shaped_range, immediate_range, bares_range, high_range, low_range, upper_range, rest_range, word_small, short_range, cut_range, branch_range, jump_range}
use Rattle.ct_asm.proofs.Reach.{signed_word}

-- each of the instructions holds what its fields may hold
abbrev AllInRange : List Instr → Type 0
AllInRange [] = Unit {0}
AllInRange (i ∷ is) = InRange i × AllInRange is

-- what is in range decodes to itself
decodes : (is : List Instr) → AllInRange is → Decodes is (instruction_bytes is)
decodes [] h = refl
decodes (i ∷ is) h = (encoded i, (instruction_bytes is, (refl, complete i (encoded i) (record { ranged = h.0; row = refl }), decodes is h.1)))

zero_signed : IsSigned 12 0
zero_signed = (omega arith, omega arith)

exists_below : (r : ℕ) → exists r ≡ true → r < 16
exists_below r e = grind (arith, e)

two : (a b : ℕ) → (exists a && exists b) ≡ true → (a < 16) × (b < 16)
two a b e = let h = and_parts (exists a) (exists b) e in (exists_below a h.0, exists_below b h.1)

three : (a b c : ℕ) → (exists a && exists b && exists c) ≡ true → (a < 16) × (b < 16) × (c < 16)
three a b c e =
    let h = and_parts (exists a && exists b) (exists c) e in
    let k = two a b h.0 in
    (k.0, k.1, exists_below c h.1)

number_in_range : (rd word : ℕ) → rd < 16 → word < 2 ^ 32 → AllInRange (number_instructions rd word)
number_in_range rd word hd small = by_test (is_short word) refl
  where
    by_test : (b : Bool) → is_short word ≡ b → AllInRange (cond b (instr.Addi rd 0 word ∷ []) (instr.Lui rd (upper_part word) ∷ instr.Addi rd rd (rest_part word) ∷ []))
    by_test true e = ((hd, omega arith, short_range word small e), tt)
    by_test false e = ((hd, upper_range word), ((hd, hd, rest_range word), tt))

ranged : (labels : Labels) (slots : List Name) (k at : ℕ) (q : Part Name) → numbers_fit q ≡ true → registers_exist q ≡ true → reference_fault labels k at q ≡ None → AllInRange (instructions_at labels slots at q)
ranged labels slots k at (part.Registers operation rd rs1 rs2) fit there found = let h = three rd rs1 rs2 there in (shaped_range (shape.Registers operation rd rs1 rs2) h, tt)
ranged labels slots k at (part.Immediate operation rd rs1 number) fit there found = let h = two rd rs1 there in (shaped_range (shape.Immediate operation rd rs1 _) (h.0, h.1, immediate_range operation number fit), tt)
ranged labels slots k at (part.Upper operation rd number) fit there found = (shaped_range (shape.Upper operation rd _) (exists_below rd there, cut_range (number_word number)), tt)
ranged labels slots k at (part.Load operation rd number rs1) fit there found = let h = two rd rs1 there in (shaped_range (shape.Load operation rd rs1 _) (h.0, h.1, signed_word number fit), tt)
ranged labels slots k at (part.RegisterJump rd number rs1) fit there found = let h = two rd rs1 there in ((h.0, h.1, signed_word number fit), tt)
ranged labels slots k at (part.JumpCapability rd rs1) fit there found = let h = two rd rs1 there in ((h.0, h.1, zero_signed), tt)
ranged labels slots k at (part.Store operation rs2 number rs1) fit there found = let h = two rs2 rs1 there in (shaped_range (shape.Store operation rs1 rs2 _) (h.1, h.0, signed_word number fit), tt)
ranged labels slots k at (part.Branch operation rs1 rs2 target) fit there found = let h = two rs1 rs2 there in (shaped_range (shape.Branch operation rs1 rs2 _) (h.0, h.1, branch_range labels at target fit found), tt)
ranged labels slots k at (part.Jal rd target) fit there found = ((exists_below rd there, jump_range labels at target fit found), tt)
ranged labels slots k at (part.Source operation rd rs1) fit there found = let h = two rd rs1 there in (shaped_range (shape.OneSource operation rd rs1) h, tt)
ranged labels slots k at (part.Bare operation) fit there found = (bares_range operation, tt)
ranged labels slots k at part.Nop fit there found = ((omega arith, omega arith, zero_signed), tt)
ranged labels slots k at (part.Move rd rs) fit there found = let h = two rd rs there in ((h.0, h.1, zero_signed), tt)
ranged labels slots k at (part.Jump target) fit there found = ((omega arith, jump_range labels at target fit found), tt)
ranged labels slots k at (part.JumpAndLink rd target) fit there found = ((exists_below rd there, jump_range labels at target fit found), tt)
ranged labels slots k at part.Return fit there found = ((omega arith, omega arith, zero_signed), tt)
ranged labels slots k at (part.JumpRegister rs) fit there found = ((omega arith, exists_below rs there, zero_signed), tt)
ranged labels slots k at (part.IfZero rs target) fit there found = ((exists_below rs there, omega arith, branch_range labels at target fit found), tt)
ranged labels slots k at (part.IfNotZero rs target) fit there found = ((exists_below rs there, omega arith, branch_range labels at target fit found), tt)
ranged labels slots k at (part.LoadImmediate rd number) fit there found = number_in_range rd (number_word number) (exists_below rd there) (word_small number)
ranged labels slots k at (part.Import rd name) fit there found =
    let hd = exists_below rd there in
    let from : ℕ = 8 * length slots + at in
    let to : ℕ = 8 * slot_or_zero (slot_of slots name) in
    ((hd, high_range from to), ((hd, hd, low_range from to), tt))
ranged labels slots k at (part.TextAddress rd label) fit there found =
    let hd = exists_below rd there in
    let to : ℕ = label_offset (labels label) in
    ((hd, high_range at to), ((hd, hd, low_range at to), tt))
ranged labels slots k at (part.GlobalAddress rd label) fit there found =
    let hd = exists_below rd there in
    let to : ℕ = label_offset (labels label) in
    ((hd, high_range 0 to), ((hd, hd, low_range 0 to), tt))
ranged labels slots k at q fit there found = tt

-- an instruction's bytes are those of its instructions
bytes_are : (labels : Labels) (slots : List Name) (at : ℕ) (q : Part Name) → is_instruction q ≡ true → bytes_at labels slots at q ≡ instruction_bytes (instructions_at labels slots at q)
bytes_are labels slots at (part.Label name) e = cc e
bytes_are labels slots at part.Text e = cc e
bytes_are labels slots at part.Data e = cc e
bytes_are labels slots at (part.Word number) e = cc e
bytes_are labels slots at (part.Byte number) e = cc e
bytes_are labels slots at (part.Zero number) e = cc e
bytes_are labels slots at (part.Align number) e = cc e
bytes_are labels slots at q e = refl

-- ---- along the statements

none_left : (line : ℕ) (o : Option ℕ) (rest : Option Fault) → lesser (on_line line o) rest ≡ None → (o ≡ None) × (rest ≡ None)
none_left line None rest e = (refl, e)
none_left line (Some n) None e = cc e
none_left line (Some n) (Some f) e = by_test _ e
  where
    by_test : (b : Bool) → cond {A = Option Fault} b (Some (record { number = n; line = line })) (Some f) ≡ None → (Some n ≡ None) × (Some f ≡ None)
    by_test true e = cc e
    by_test false e = cc e

first_none : (a b : Option ℕ) → or_else a b ≡ None → a ≡ None
first_none None b e = refl
first_none (Some n) b e = cc e

says : (labels : Labels) (slots : List Name) (k at : ℕ) (s : Section) (q : Part Name) → is_lawful_statement s q ≡ true → reference_fault labels k at q ≡ None → Says labels slots at q
says labels slots k at s q lawful found e =
    let one = and_parts (in_section s q && numbers_fit q) (registers_exist q) lawful in
    let more = and_parts (in_section s q) (numbers_fit q) one.0 in
    rw (bytes_are labels slots at q e) (decodes (instructions_at labels slots at q) (ranged labels slots k at q more.1 one.1 found))

all_say : (labels : Labels) (slots : List Name) (k : ℕ) (p : Place) (s : Section) (ss : Statements) → lawful_from s ss ≡ true → fault_from labels p k ss ≡ None → AllSay labels slots p ss
all_say labels slots k p s [] lawful found = tt
all_say labels slots k p s (x ∷ xs) lawful found =
    let l = and_parts (is_lawful_statement s x.part) (lawful_from (section_after s (Some x.part)) xs) lawful in
    let f = none_left x.line (statement_fault labels p k x.part) (fault_from labels (place_after p x.part) (k + 1) xs) found in (
      says labels slots k (offset p) s x.part l.0 (first_none (reference_fault labels k (offset p) x.part) (size_fault (offset p) x.part) f.0),
      all_say labels slots (k + 1) (place_after p x.part) (section_after s (Some x.part)) xs l.1 f.1,
    )

pub words_say : (all : Statements) (slots : List Name) → IsLawful all → fault_in all ≡ None → AllSay (label_in all) slots start all
unfolding fault_in
words_say all slots lawful found = all_say (label_in all) slots 0 start section.Text all lawful found
