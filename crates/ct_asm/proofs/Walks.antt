-- One statement further along a source.
use Rattle.std.proofs.Common.{◌≡◌, ℕ, ◌+◌, ◌<◌, List, ◌∷◌, ◌++◌, length, drop, get_or, Option, Some, None, Bool, true, false, ◌&&◌, cond, refl, sym, ap, ◌∙◌, drop-cons, add-one, arith, append_assoc}
use Rattle.std.proofs.lemmas.Bool.{and_parts}
use Rattle.def_source.specs.declared.parts.Statement.{Statement}
use Rattle.def_source.specs.declared.parts.Part.{Part}
use Rattle.def_source.specs.declared.parts.Part.TheVariants as part
use Rattle.def_source.specs.declared.parts.Section.{Section}
use Rattle.def_source.specs.Source.{Name, Statements, lawful_from, is_lawful_statement, in_section, numbers_fit, registers_exist, section_after, is_text, or_else}
use Rattle.def_object.specs.declared.Place.{Place}
use Rattle.def_object.specs.declared.Fault.{Fault}
use Rattle.def_object.specs.Object.{Labels, place_after, grown, size_at, offset, is_least, lesser, on_line, statement_fault, reference_fault, size_fault, fault_from, section_bytes, bytes_from}
use Rattle.ct_source.specs.declared.compact.CompactStatement.{CompactStatement}
use Rattle.ct_source.specs.Compact.{compact_part}
use Rattle.ct_source.specs.Views.{statement_view, statements_view}
use Rattle.ct_asm.specs.Emitting.{IsFound}

-- the statements from number k on begin with number k
pub from_here : (ss : List CompactStatement) (k : ℕ) (d : CompactStatement) → k < length ss → statements_view (drop k ss) ≡ statement_view (get_or ss k d) ∷ statements_view (drop (k + 1) ss)
from_here ss k d h = rw (add-one, drop-cons ss k d) refl

parts_of : (s : Section) (p : Part Name) → is_lawful_statement s p ≡ true → (in_section s p ≡ true) × (numbers_fit p ≡ true) × (registers_exist p ≡ true)
parts_of s p e =
    let one = and_parts (in_section s p && numbers_fit p) (registers_exist p) e in
    let two = and_parts (in_section s p) (numbers_fit p) one.0 in
    (two.0, two.1, one.1)

-- a lawful statement at the front
pub first_lawful : (s : Section) (x : Statement Name) (xs all : Statements) → all ≡ x ∷ xs → lawful_from s all ≡ true → (in_section s x.part ≡ true) × (numbers_fit x.part ≡ true) × (registers_exist x.part ≡ true)
first_lawful s x xs all cut e = parts_of s x.part (and_parts (is_lawful_statement s x.part) (lawful_from (section_after s (Some x.part)) xs) (sym (ap (lawful_from s) cut) ∙ e)).0

-- of lawful statements that are left, the numbers of the next one fit
pub next_fits : (ss : List CompactStatement) (k : ℕ) (d : CompactStatement) (s : Section) → k < length ss → lawful_from s (statements_view (drop k ss)) ≡ true → numbers_fit (compact_part (get_or ss k d).part) ≡ true
next_fits ss k d s inside lawful = (first_lawful s _ _ _ (from_here ss k d inside) lawful).1

grown_section : (p : Place) (n : ℕ) → (grown p n).section ≡ p.section
grown_section p n = by_test (is_text p.section)
  where
    by_test : (b : Bool) → (cond b (record p { text = p.text + n }) (record p { initial = p.initial + n })).section ≡ p.section
    by_test true = refl
    by_test false = refl

pub advanced_section : (p : Place) (q : Part Name) → (place_after p q).section ≡ section_after p.section (Some q)
advanced_section p part.Text = refl
advanced_section p part.Data = refl
advanced_section p q = grown_section p (size_at q (offset p))

-- the statements after a lawful one are lawful in the section after it
pub rest_lawful : (p p' : Place) (x : Statement Name) (xs all : Statements) → all ≡ x ∷ xs → p' ≡ place_after p x.part → lawful_from p.section all ≡ true → lawful_from p'.section xs ≡ true
rest_lawful p p' x xs all cut next e =
    let later = (and_parts (is_lawful_statement p.section x.part) (lawful_from (section_after p.section (Some x.part)) xs) (sym (ap (lawful_from p.section) cut) ∙ e)).1 in
    ap (λ q. lawful_from q.section xs) next ∙ ap (λ s. lawful_from s xs) (advanced_section p x.part) ∙ later

least_first : (a b c : Fault) → is_least a b ≡ true → is_least b c ≡ true → is_least a c ≡ true
least_first a b c e f = grind (arith, e, f)

least_last : (a b c : Fault) → is_least a b ≡ false → is_least b c ≡ false → is_least a c ≡ false
least_last a b c e f = grind (arith, e, f)

lesser_assoc : (a b c : Option Fault) → lesser (lesser a b) c ≡ lesser a (lesser b c)
lesser_assoc None b c = refl
lesser_assoc (Some a) None c = refl
lesser_assoc (Some a) (Some b) None = by_test (is_least a b)
  where
    by_test : (t : Bool) → lesser (cond t (Some a) (Some b)) None ≡ cond t (Some a) (Some b)
    by_test true = refl
    by_test false = refl
lesser_assoc (Some a) (Some b) (Some c) = by_tests (is_least a b) (is_least b c) refl refl
  where
    by_tests : (t u : Bool) → is_least a b ≡ t → is_least b c ≡ u → lesser (cond t (Some a) (Some b)) (Some c) ≡ lesser (Some a) (cond u (Some b) (Some c))
    by_tests true true e f = ap (λ x. cond x (Some a) (Some c)) (least_first a b c e f) ∙ sym (ap (λ x. cond x (Some a) (Some b)) e)
    by_tests true false e f = refl
    by_tests false true e f = ap (λ x. cond x (Some b) (Some c)) f ∙ sym (ap (λ x. cond x (Some a) (Some b)) e)
    by_tests false false e f = ap (λ x. cond x (Some b) (Some c)) f ∙ sym (ap (λ x. cond x (Some a) (Some c)) (least_last a b c e f))

-- the least fault so far, one statement further
pub fault_step : (labels : Labels) (least least' fault : Option Fault) (number : Option ℕ) (p p' : Place) (k : ℕ) (x : Statement Name) (xs all : Statements) (whole : Option Fault) → all ≡ x ∷ xs → fault ≡ on_line x.line number → number ≡ statement_fault labels p k x.part → least' ≡ lesser least fault → p' ≡ place_after p x.part → lesser least (fault_from labels p k all) ≡ whole → lesser least' (fault_from labels p' (k + 1) xs) ≡ whole
fault_step labels least least' fault number p p' k x xs all whole cut found numbered less next so_far =
    ap (λ l. lesser l (fault_from labels p' (k + 1) xs)) (less ∙ ap (lesser least) (found ∙ ap (on_line x.line) numbered))
    ∙ ap (λ q. lesser (lesser least (on_line x.line (statement_fault labels p k x.part))) (fault_from labels q (k + 1) xs)) next
    ∙ lesser_assoc least (on_line x.line (statement_fault labels p k x.part)) (fault_from labels (place_after p x.part) (k + 1) xs)
    ∙ sym (ap (λ ss. lesser least (fault_from labels p k ss)) cut) ∙ so_far

-- the bytes so far, one statement further
pub bytes_step : (wanted : Section) (labels : Labels) (slots : List Name) (front front' : List ℕ) (p p' : Place) (x : Statement Name) (xs all : Statements) (whole : List ℕ) → all ≡ x ∷ xs → front' ≡ front ++ section_bytes wanted labels slots p x.part → p' ≡ place_after p x.part → front ++ bytes_from wanted labels slots p all ≡ whole → front' ++ bytes_from wanted labels slots p' xs ≡ whole
bytes_step wanted labels slots front front' p p' x xs all whole cut grown next so_far =
    ap (λ f. f ++ bytes_from wanted labels slots p' xs) grown
    ∙ ap (λ q. (front ++ section_bytes wanted labels slots p x.part) ++ bytes_from wanted labels slots q xs) next
    ∙ append_assoc front (section_bytes wanted labels slots p x.part) (bytes_from wanted labels slots (place_after p x.part) xs)
    ∙ sym (ap (λ ss. front ++ bytes_from wanted labels slots p ss) cut) ∙ so_far

pub neither : (a b : Option Fault) → lesser a b ≡ None → (a ≡ None) × (b ≡ None)
neither None b e = (refl, e)
neither (Some a) None e = cc e
neither (Some a) (Some b) e = by_test (is_least a b) e
  where
    by_test : (t : Bool) → cond t (Some a) (Some b) ≡ None → (Some a ≡ None) × (Some b ≡ None)
    by_test true e = cc e
    by_test false e = cc e

pub no_number : (line : ℕ) (o : Option ℕ) → on_line line o ≡ None → o ≡ None
no_number line None e = refl
no_number line (Some n) e = cc e

pub either_none : (a b : Option ℕ) → or_else a b ≡ None → (a ≡ None) × (b ≡ None)
either_none None b e = (refl, e)
either_none (Some a) b e = cc e

-- statements without a fault: the first has none, and neither have the others
pub first_faultless : (labels : Labels) (p : Place) (k : ℕ) (x : Statement Name) (xs all : Statements) → all ≡ x ∷ xs → fault_from labels p k all ≡ None → (reference_fault labels k (offset p) x.part ≡ None) × (size_fault (offset p) x.part ≡ None)
first_faultless labels p k x xs all cut e =
    let two = neither (on_line x.line (statement_fault labels p k x.part)) (fault_from labels (place_after p x.part) (k + 1) xs) (sym (ap (fault_from labels p k) cut) ∙ e) in
    either_none (reference_fault labels k (offset p) x.part) (size_fault (offset p) x.part) (no_number x.line (statement_fault labels p k x.part) two.0)

pub rest_faultless : (labels : Labels) (p p' : Place) (k : ℕ) (x : Statement Name) (xs all : Statements) → all ≡ x ∷ xs → p' ≡ place_after p x.part → fault_from labels p k all ≡ None → fault_from labels p' (k + 1) xs ≡ None
rest_faultless labels p p' k x xs all cut next e =
    ap (λ q. fault_from labels q (k + 1) xs) next ∙ (neither (on_line x.line (statement_fault labels p k x.part)) (fault_from labels (place_after p x.part) (k + 1) xs) (sym (ap (fault_from labels p k) cut) ∙ e)).1

-- what a statement without a fault refers to is found, whatever its number
pub found_here : (labels : Labels) (k at : ℕ) (q : Part Name) → reference_fault labels k at q ≡ None → IsFound labels at q
found_here labels k at (part.Label name) e = tt
found_here labels k at q e = e
