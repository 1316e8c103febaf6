-- What stands for each compartment's source.
use Rattle.std.proofs.Common.{ℕ, zero, suc, ◌≡◌, ◌+◌, ◌*◌, ◌%◌, ◌^◌, ◌<◌, ◌≤◌, Bool, true, false, cond, List, [], ◌∷◌, length, Option, None, Ok, refl, ap, sym, ◌∙◌, subst, arith, lit≤}
use Rattle.std.specs.Prelude.{nat_lt}
use Rattle.std.specs.List.{AllByRecursion}
use Rattle.std.proofs.lemmas.Bool.{lt-ltb}
use Rattle.std.proofs.lemmas.List.{length-append}
use Rattle.def_instr.specs.declared.Instr.TheVariants as instr
use Rattle.def_source.specs.declared.parts.Number.{Number}
use Rattle.def_source.specs.declared.parts.Section.TheVariants as section
use Rattle.def_source.specs.declared.parts.Part.{Part}
use Rattle.def_source.specs.declared.parts.Part.TheVariants as part
use Rattle.def_source.specs.declared.parts.Statement.{Statement}
use Rattle.def_source.specs.Source.{Name, Statements, positive, program_of}
use Rattle.def_object.specs.declared.Place.{Place}
use Rattle.def_object.specs.declared.Fault.{Fault}
use Rattle.def_object.specs.Object.{Labels, number_word, is_short, upper_part, rest_part, place_after, fault_from, fault_in, label_in, slot_of, undeclared_in, instruction_bytes, section_bytes, bytes_from, text_of, initial_of}
use Rattle.def_desc.specs.Reading.{compartment_of_object}
use Rattle.def_link.specs.Owners.{Unit as OwnerUnit, Built, compartment_unit, assembled_or, read_or, unit_checked, first_lost, placed_or, unit_built}
use Rattle.def_gen.specs.Description.{compartment_with}
use Rattle.def_gen.specs.Sources.{source_with}
use Rattle.law_gen.proofs.Twice.{slots_of}
use Rattle.law_gen.proofs.Read.{statements_with, program_is}

-- ---- imports

no_undeclared : (last : Bool) (size i : ℕ) → undeclared_in (slots_of last) (statements_with last size i) ≡ None
unfolding slot_of
no_undeclared true size i = refl
no_undeclared false size i = refl

-- ---- the assembly's faults: a short number may stand for another one

abbrev li : ℕ → ℕ → Number → Statement Name
li line rd n = record { line = line; part = part.LoadImmediate rd n }

swapped : (labels : Labels) (p : Place) (k line rd : ℕ) (a b : Number) (ss : Statements) → is_short (number_word a) ≡ true → is_short (number_word b) ≡ true
    → fault_from labels p k (li line rd a ∷ ss) ≡ fault_from labels p k (li line rd b ∷ ss)
swapped labels p k line rd a b ss ha hb = rw (ha, hb) refl

abbrev at_text : ℕ → Place
at_text t = record { section = section.Text; text = t; initial = 0 }

small : (n : ℕ) → n < 2048 → is_short (number_word (positive n)) ≡ true
small n lt =
    let first : n % 2 ^ 32 ≡ n = omega arith in
    let second : (n % 2 ^ 32 + 2 ^ 11) % 2 ^ 32 ≡ n + 2 ^ 11 = omega (arith, first) in
    lt-ltb ((n % 2 ^ 32 + 2 ^ 11) % 2 ^ 32) (2 ^ 12) (omega (arith, second))

-- the statements after the first number, and after the second
abbrev dropped : ℕ → Statements → Statements
dropped zero ss = ss
dropped (suc n) [] = []
dropped (suc n) (s ∷ ss) = dropped n ss

abbrev after_size : Bool → ℕ → Statements
after_size last i = dropped 5 (statements_with last 0 i)

no_fault : (last : Bool) (size i : ℕ) → size < 2048 → i < 2048 → fault_in (statements_with last size i) ≡ None
unfolding fault_in label_in
no_fault true size i hs hi =
    swapped (label_in (statements_with true size i)) (at_text 16) 4 4 11 (positive size) (positive 0) (after_size true i) (small size hs) refl
    ∙ swapped (label_in (statements_with true size i)) (at_text 68) 13 13 10 (positive i) (positive 0) (dropped 14 (statements_with true 0 i)) (small i hi) refl
no_fault false size i hs hi =
    swapped (label_in (statements_with false size i)) (at_text 16) 4 4 11 (positive size) (positive 0) (after_size false i) (small size hs) refl
    ∙ swapped (label_in (statements_with false size i)) (at_text 88) 16 16 10 (positive i) (positive 0) (dropped 17 (statements_with false 0 i)) (small i hi) refl

-- ---- the text

abbrev pub text_with : Bool → ℕ → ℕ → List ℕ
text_with last size i = text_of (statements_with last size i) (slots_of last)

abbrev pub initial_with : Bool → ℕ → ℕ → List ℕ
initial_with last size i = initial_of (statements_with last size i) (slots_of last)

some_text : (last : Bool) (size i : ℕ) → nat_lt 0 (length (text_with last size i)) ≡ true
unfolding text_of
some_text true size i = lt-ltb 0 (length (text_with true size i)) (omega arith)
some_text false size i = lt-ltb 0 (length (text_with false size i)) (omega arith)

pub no_initial : (last : Bool) (size i : ℕ) → initial_with last size i ≡ []
unfolding initial_of
no_initial true size i = refl
no_initial false size i = refl

-- a statement has at most eight bytes, and the next one stands in the text too
abbrev Grows : Part Name → Type 0
Grows q =
    (labels : Labels) (slots : List Name) (t : ℕ)
    → (length (section_bytes section.Text labels slots (at_text t) q) ≤ 8)
    × ((u : ℕ) × (place_after (at_text t) q ≡ at_text u))

abbrev AllGrow : Statements → Type 0
AllGrow ss = AllByRecursion (λ (s : Statement Name). Grows s.part) ss

grown : (labels : Labels) (slots : List Name) (t : ℕ) (ss : Statements) → AllGrow ss → length (bytes_from section.Text labels slots (at_text t) ss) ≤ 8 * length ss
grown labels slots t [] h = omega arith
grown labels slots t (s ∷ ss) h =
    let step = h.0 labels slots t in
    let here : length (section_bytes section.Text labels slots (at_text t) s.part) ≤ 8 = step.0 in
    let rest : length (bytes_from section.Text labels slots (at_text step.1.0) ss) ≤ 8 * length ss = grown labels slots step.1.0 ss h.1 in
    let next : length (bytes_from section.Text labels slots (place_after (at_text t) s.part) ss) ≤ 8 * length ss =
    subst (λ p. length (bytes_from section.Text labels slots p ss) ≤ 8 * length ss) (sym step.1.1) rest in
    let sum = length-append (section_bytes section.Text labels slots (at_text t) s.part) (bytes_from section.Text labels slots (place_after (at_text t) s.part) ss) in
    omega (arith, sum, here, next)

number_grows : (rd : ℕ) (n : Number) → Grows (part.LoadImmediate rd n)
number_grows rd n labels slots t = (by (is_short (number_word n)), (t + cond (is_short (number_word n)) 4 8, refl))
  where
    by : (b : Bool) → length (instruction_bytes (cond b (instr.Addi rd 0 (number_word n) ∷ []) (instr.Lui rd (upper_part (number_word n)) ∷ instr.Addi rd rd (rest_part (number_word n)) ∷ []))) ≤ 8
    by true = lit≤ tt
    by false = lit≤ tt

all_grow : (last : Bool) (size i : ℕ) → AllGrow (statements_with last size i)
all_grow true size i = (λ labels slots t. (lit≤ tt, (t + 0, refl)), (λ labels slots t. (lit≤ tt, (t + 4, refl)), (λ labels slots t. (lit≤ tt, (t + 4, refl)), (λ labels slots t. (lit≤ tt, (t + 8, refl)), (number_grows 11 (positive size), (λ labels slots t. (lit≤ tt, (t + 8, refl)), (λ labels slots t. (lit≤ tt, (t + 4, refl)), (λ labels slots t. (lit≤ tt, (t + 4, refl)), (λ labels slots t. (lit≤ tt, (t + 4, refl)), (λ labels slots t. (lit≤ tt, (t + 8, refl)), (λ labels slots t. (lit≤ tt, (t + 8, refl)), (λ labels slots t. (lit≤ tt, (t + 4, refl)), (λ labels slots t. (lit≤ tt, (t + 8, refl)), (number_grows 10 (positive i), (λ labels slots t. (lit≤ tt, (t + 4, refl)), (λ labels slots t. (lit≤ tt, (t + 4, refl)), (λ labels slots t. (lit≤ tt, (t + 4, refl)), (λ labels slots t. (lit≤ tt, (t + 4, refl)), tt))))))))))))))))))
all_grow false size i = (λ labels slots t. (lit≤ tt, (t + 0, refl)), (λ labels slots t. (lit≤ tt, (t + 4, refl)), (λ labels slots t. (lit≤ tt, (t + 4, refl)), (λ labels slots t. (lit≤ tt, (t + 8, refl)), (number_grows 11 (positive size), (λ labels slots t. (lit≤ tt, (t + 8, refl)), (λ labels slots t. (lit≤ tt, (t + 4, refl)), (λ labels slots t. (lit≤ tt, (t + 4, refl)), (λ labels slots t. (lit≤ tt, (t + 8, refl)), (λ labels slots t. (lit≤ tt, (t + 8, refl)), (λ labels slots t. (lit≤ tt, (t + 4, refl)), (λ labels slots t. (lit≤ tt, (t + 4, refl)), (λ labels slots t. (lit≤ tt, (t + 8, refl)), (λ labels slots t. (lit≤ tt, (t + 8, refl)), (λ labels slots t. (lit≤ tt, (t + 4, refl)), (λ labels slots t. (lit≤ tt, (t + 8, refl)), (number_grows 10 (positive i), (λ labels slots t. (lit≤ tt, (t + 4, refl)), (λ labels slots t. (lit≤ tt, (t + 4, refl)), (λ labels slots t. (lit≤ tt, (t + 4, refl)), (λ labels slots t. (lit≤ tt, (t + 4, refl)), tt)))))))))))))))))))))

pub few_text : (last : Bool) (size i : ℕ) → length (text_with last size i) ≤ 168
unfolding text_of
few_text true size i =
    let most = grown (label_in (statements_with true size i)) (slots_of true) 0 (statements_with true size i) (all_grow true size i) in
    omega (arith, most)
few_text false size i =
    let most = grown (label_in (statements_with false size i)) (slots_of false) 0 (statements_with false size i) (all_grow false size i) in
    omega (arith, most)

-- ---- the whole

abbrev pub built_with : Bool → ℕ → ℕ → Built
built_with last size i = record {
  text = text_with last size i;
  initial = initial_with last size i;
  labels = label_in (statements_with last size i);
}

abbrev unit_with : Bool → Bool → ℕ → ℕ → OwnerUnit
unit_with last passes globals i = compartment_unit i (compartment_of_object (compartment_with last passes globals i))

none_lost : (last passes : Bool) (globals size i : ℕ) → first_lost (built_with last size i) 0 (unit_with last passes globals i).exports ≡ None
unfolding label_in
none_lost true true globals size i = rw (some_text true size i) refl
none_lost true false globals size i = rw (some_text true size i) refl
none_lost false true globals size i = rw (some_text false size i) refl
none_lost false false globals size i = rw (some_text false size i) refl

read_as : (last passes : Bool) (globals size i : ℕ) (source : List ℕ) → program_of source ≡ Ok (statements_with last size i)
    → unit_built (unit_with last passes globals i) source
    ≡ unit_checked (unit_with last passes globals i) (assembled_or (unit_with last passes globals i).owner (slots_of last) (statements_with last size i) (undeclared_in (slots_of last) (statements_with last size i)) (fault_in (statements_with last size i)))
read_as true passes globals size i source e = ap (λ r. unit_checked (unit_with true passes globals i) (read_or (unit_with true passes globals i).owner (slots_of true) r)) e
read_as false passes globals size i source e = ap (λ r. unit_checked (unit_with false passes globals i) (read_or (unit_with false passes globals i).owner (slots_of false) r)) e

pub unit_is : (last passes : Bool) (globals m i : ℕ) → m < 32 → i < 64
    → unit_built (unit_with last passes globals i) (source_with last (8 * (1 + m)) i) ≡ Ok (built_with last (8 * (1 + m)) i)
unit_is last passes globals m i hm hi =
    let size = 8 * (1 + m) in
    let u : OwnerUnit = unit_with last passes globals i in
    let ss : Statements = statements_with last size i in
    read_as last passes globals size i (source_with last size i) (program_is last m i hm hi)
    ∙ ap (λ (o : Option ℕ). unit_checked u (assembled_or u.owner (slots_of last) ss o (fault_in ss))) (no_undeclared last size i)
    ∙ ap (λ (f : Option Fault). unit_checked u (assembled_or u.owner (slots_of last) ss None f)) (no_fault last size i (omega arith) (omega arith))
    ∙ ap (placed_or u.owner (built_with last size i)) (none_lost last passes globals size i)
