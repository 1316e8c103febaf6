-- What is built of an owner's code: a text of words, and initial bytes, both within their limits.
use Rattle.std.proofs.Common.{ℕ, zero, suc, ◌≡◌, ◌+◌, ◌*◌, ◌%◌, ◌<◌, ◌≤◌, ◌&&◌, Bool, true, false, cond, List, [], ◌∷◌, length, Option, Some, None, refl, sym, ap, ◌∙◌, subst, arith, inl, inr, add-zero}
use Rattle.std.proofs.lemmas.List.{length-append, length-replicate}
use Rattle.std.specs.Prelude.{Ok, replicate}
use Rattle.std.specs.List.{AllByRecursion, flat_map}
use Rattle.def_profile.specs.declared.limits.TheConstants.{MOST_BYTES}
use Rattle.law_lists.proofs.Alls.{all_joined}
use Rattle.law_lists.proofs.Tests.{lt_tells, both_left, both_right}
use Rattle.def_instr.specs.declared.Instr.{Instr}
use Rattle.def_instr.specs.declared.Instr.TheVariants as instr
use Rattle.def_instr.specs.Table.{encoded}
use Rattle.ct_source.proofs.ProgramsOf.{program_lawful}
use Rattle.def_source.specs.declared.parts.Section.{Section}
use Rattle.def_source.specs.declared.parts.Section.TheVariants as section
use Rattle.def_source.specs.declared.parts.Part.{Part}
use Rattle.def_source.specs.declared.parts.Part.TheVariants as part
use Rattle.def_source.specs.Source.{Name, Statements, in_section, numbers_fit, registers_exist, is_lawful_statement, lines_of, section_after, program_of, lawful_from}
use Rattle.def_object.specs.declared.Place.{Place}
use Rattle.def_object.specs.declared.Fault.{Fault}
use Rattle.def_object.specs.Object.{Labels, size_at, offset, place_after, start, label_in, size_fault, reference_fault, statement_fault, on_line, fault_from, fault_in, number_word, is_short, padding, same_section, instructions_at, word_bytes, instruction_bytes, bytes_at, section_bytes, bytes_from, text_of, initial_of}
use Rattle.ct_asm.proofs.Walks.{neither, no_number, either_none}
use Rattle.law_assembly.proofs.Lengths.{at_place, after_section, filled, statement_length}

Bytes : List ℕ → Type 0
Bytes bs = AllByRecursion (λ b. b < 256) bs

pub source_lawful : (text : List ℕ) (ss : Statements) → program_of text ≡ Ok ss → lawful_from section.Text ss ≡ true
unfolding program_of
source_lawful text ss e = program_lawful section.Text 1 (lines_of text) ss e

-- ---- bytes of a statement

zero_bytes : (n : ℕ) → Bytes (replicate n 0)
unfolding Bytes
zero_bytes zero = tt
zero_bytes (suc n) = (omega arith, zero_bytes n)

pub word_is_bytes : (w : ℕ) → AllByRecursion (λ b. b < 256) (word_bytes w)
word_is_bytes w = (omega arith, (omega arith, (omega arith, (omega arith, tt))))

instructions_bytes : (is : List Instr) → Bytes (instruction_bytes is)
unfolding Bytes
instructions_bytes [] = tt
instructions_bytes (i ∷ is) = all_joined (λ b. b < 256) (word_bytes (encoded i)) (instruction_bytes is) (word_is_bytes (encoded i)) (instructions_bytes is)

statement_bytes : (labels : Labels) (slots : List Name) (at : ℕ) (q : Part Name) → Bytes (bytes_at labels slots at q)
unfolding Bytes
statement_bytes labels slots at (part.Word number) = word_is_bytes (number_word number)
statement_bytes labels slots at (part.Byte number) = (omega arith, tt)
statement_bytes labels slots at (part.Zero number) = zero_bytes number.magnitude
statement_bytes labels slots at (part.Align number) = zero_bytes (padding number.magnitude at)
statement_bytes labels slots at q = instructions_bytes (instructions_at labels slots at q)

-- ---- bytes of a section

section_is_bytes : (w : Section) (labels : Labels) (slots : List Name) (p : Place) (q : Part Name) → Bytes (section_bytes w labels slots p q)
unfolding Bytes
section_is_bytes w labels slots p q = by (same_section p.section w)
  where
    by : (b : Bool) → AllByRecursion (λ b. b < 256) (cond b (bytes_at labels slots (offset p) q) [])
    by true = statement_bytes labels slots (offset p) q
    by false = tt

pub section_all_bytes : (w : Section) (labels : Labels) (slots : List Name) (p : Place) (ss : Statements) → AllByRecursion (λ b. b < 256) (bytes_from w labels slots p ss)
unfolding Bytes
section_all_bytes w labels slots p [] = tt
section_all_bytes w labels slots p (s ∷ ss) =
    all_joined (λ b. b < 256) (section_bytes w labels slots p s.part) (bytes_from w labels slots (place_after p s.part) ss)
    (section_is_bytes w labels slots p s.part) (section_all_bytes w labels slots (place_after p s.part) ss)

filled_on : (w s : Section) (t i : ℕ) (labels : Labels) (slots : List Name) (q : Part Name)
    → filled w (at_place s t i) + length (section_bytes w labels slots (at_place s t i) q) ≡ filled w (place_after (at_place s t i) q)
unfolding filled at_place
filled_on section.Text section.Text t i labels slots part.Text = add-zero t
filled_on section.Text section.Text t i labels slots part.Data = add-zero t
filled_on section.Text section.Text t i labels slots q = ap (λ n. t + n) (statement_length labels slots t q)
filled_on section.Text section.Data t i labels slots part.Text = add-zero t
filled_on section.Text section.Data t i labels slots part.Data = add-zero t
filled_on section.Text section.Data t i labels slots q = add-zero t
filled_on section.Data section.Text t i labels slots part.Text = add-zero i
filled_on section.Data section.Text t i labels slots part.Data = add-zero i
filled_on section.Data section.Text t i labels slots q = add-zero i
filled_on section.Data section.Data t i labels slots part.Text = add-zero i
filled_on section.Data section.Data t i labels slots part.Data = add-zero i
filled_on section.Data section.Data t i labels slots q = ap (λ n. i + n) (statement_length labels slots i q)

-- ---- limits

size_kept : (at : ℕ) (q : Part Name) → size_fault at q ≡ None → at + size_at q at ≤ MOST_BYTES
size_kept at q e = elim (lt_tells MOST_BYTES (at + size_at q at)) [
  | inl h ↦ absurd (let is : size_fault at q ≡ Some 8 = ap (λ b. cond b (Some 8) None) h.0 in let no : Some 8 ≡ None = sym is ∙ e in cc)
  | inr h ↦ h.1
]

-- after a statement that keeps the limit
filled_kept : (w s : Section) (t i : ℕ) (q : Part Name) → filled w (at_place s t i) ≤ MOST_BYTES → size_fault (offset (at_place s t i)) q ≡ None → filled w (place_after (at_place s t i) q) ≤ MOST_BYTES
unfolding filled at_place
filled_kept section.Text section.Text t i part.Text h e = h
filled_kept section.Text section.Text t i part.Data h e = h
filled_kept section.Text section.Text t i q h e = size_kept t q e
filled_kept section.Text section.Data t i part.Text h e = h
filled_kept section.Text section.Data t i part.Data h e = h
filled_kept section.Text section.Data t i q h e = h
filled_kept section.Data section.Text t i part.Text h e = h
filled_kept section.Data section.Text t i part.Data h e = h
filled_kept section.Data section.Text t i q h e = h
filled_kept section.Data section.Data t i part.Text h e = h
filled_kept section.Data section.Data t i part.Data h e = h
filled_kept section.Data section.Data t i q h e = size_kept i q e

section_few : (w : Section) (labels : Labels) (slots : List Name) (p : Place) (k : ℕ) (ss : Statements) → filled w p ≤ MOST_BYTES → fault_from labels p k ss ≡ None
    → filled w p + length (bytes_from w labels slots p ss) ≤ MOST_BYTES
unfolding at_place
section_few w labels slots p k [] h e = rw (add-zero (filled w p)) h
section_few w labels slots p k (s ∷ ss) h e =
    let f = neither (on_line s.line (statement_fault labels p k s.part)) (fault_from labels (place_after p s.part) (k + 1) ss) e in
    let size = (either_none (reference_fault labels k (offset p) s.part) (size_fault (offset p) s.part) (no_number s.line (statement_fault labels p k s.part) f.0)).1 in
    let here = section_bytes w labels slots p s.part in
    let later = bytes_from w labels slots (place_after p s.part) ss in
    let on = filled_on w p.section p.text p.initial labels slots s.part in
    let rest = section_few w labels slots (place_after p s.part) (k + 1) ss (filled_kept w p.section p.text p.initial s.part h size) f.1 in
    let sum = length-append here later in
    omega (arith, on, rest, sum)

-- ---- words

-- a statement of the text has whole words
words_of : (labels : Labels) (slots : List Name) (at : ℕ) (q : Part Name) → in_section section.Text q ≡ true → length (bytes_at labels slots at q) % 4 ≡ 0
words_of labels slots at (part.Byte number) e = absurd (let no : false ≡ true = e in cc)
words_of labels slots at (part.Zero number) e = absurd (let no : false ≡ true = e in cc)
words_of labels slots at (part.Align number) e = absurd (let no : false ≡ true = e in cc)
words_of labels slots at (part.LoadImmediate rd number) e = ap (λ n. n % 4) (statement_length labels slots at (part.LoadImmediate rd number)) ∙ by (is_short (number_word number))
  where
    by : (b : Bool) → cond b 4 8 % 4 ≡ 0
    by true = refl
    by false = refl
words_of labels slots at q e = refl

section_words : (s : Section) (t i : ℕ) (labels : Labels) (slots : List Name) (q : Part Name) → is_lawful_statement s q ≡ true → length (section_bytes section.Text labels slots (at_place s t i) q) % 4 ≡ 0
unfolding at_place
section_words section.Text t i labels slots q e =
    words_of labels slots t q (both_left (in_section section.Text q) (numbers_fit q) (both_left (in_section section.Text q && numbers_fit q) (registers_exist q) e))
section_words section.Data t i labels slots q e = refl

text_words : (labels : Labels) (slots : List Name) (p : Place) (ss : Statements) → lawful_from p.section ss ≡ true → length (bytes_from section.Text labels slots p ss) % 4 ≡ 0
unfolding at_place
text_words labels slots p [] e = refl
text_words labels slots p (s ∷ ss) e =
    let here = section_bytes section.Text labels slots p s.part in
    let later = bytes_from section.Text labels slots (place_after p s.part) ss in
    let a = both_left (is_lawful_statement p.section s.part) (lawful_from (section_after p.section (Some s.part)) ss) e in
    let b = both_right (is_lawful_statement p.section s.part) (lawful_from (section_after p.section (Some s.part)) ss) e in
    let first = section_words p.section p.text p.initial labels slots s.part a in
    let rest = text_words labels slots (place_after p s.part) ss (subst (λ z. lawful_from z ss ≡ true) (sym (after_section p.section p.text p.initial s.part)) b) in
    let sum = length-append here later in
    omega (arith, first, rest, sum)

-- ---- objects

pub record IsText (text initial : List ℕ) : Type 0 where
  pub words : length text % 4 ≡ 0
  pub few : length text ≤ MOST_BYTES
  pub bytes : AllByRecursion (λ b. b < 256) text
  pub initial_few : length initial ≤ MOST_BYTES
  pub initial_bytes : AllByRecursion (λ b. b < 256) initial

pub object_text : (ss : Statements) (slots : List Name) → lawful_from section.Text ss ≡ true → fault_in ss ≡ None → IsText (text_of ss slots) (initial_of ss slots)
unfolding text_of initial_of fault_in filled
object_text ss slots l f = record {
  words = text_words (label_in ss) slots start ss l;
  few = (let h = section_few section.Text (label_in ss) slots start 0 ss (omega arith) f in omega (arith, h));
  bytes = section_all_bytes section.Text (label_in ss) slots start ss;
  initial_few = (let h = section_few section.Data (label_in ss) slots start 0 ss (omega arith) f in omega (arith, h));
  initial_bytes = section_all_bytes section.Data (label_in ss) slots start ss;
}

words_all : (ws : List ℕ) → AllByRecursion (λ b. b < 256) (flat_map word_bytes ws)
unfolding Bytes
words_all [] = tt
words_all (w ∷ ws) = all_joined (λ b. b < 256) (word_bytes w) (flat_map word_bytes ws) (word_is_bytes w) (words_all ws)

words_length : (ws : List ℕ) → length (flat_map word_bytes ws) ≡ 4 * length ws
words_length [] = refl
words_length (w ∷ ws) =
    let rest = words_length ws in
    let sum = length-append (word_bytes w) (flat_map word_bytes ws) in
    let four : length (word_bytes w) ≡ 4 = refl in
    omega (arith, rest, sum, four)

pub words_text : (ws : List ℕ) → length ws ≤ 262144 → IsText (flat_map word_bytes ws) []
words_text ws few =
    let count = words_length ws in
    record {
      words = omega (arith, count);
      few = omega (arith, count, few);
      bytes = words_all ws;
      initial_few = omega arith;
      initial_bytes = tt;
    }
