-- What is built of a lawful owner: a text within its limits, and a place in it for each export.
use Rattle.std.proofs.Common.{ℕ, ◌≡◌, ◌+◌, ◌%◌, ◌<◌, Bool, true, false, cond, nat_lt, nat_eq, List, [], ◌∷◌, length, Option, Some, None, refl, sym, ap, ◌∙◌, subst, inl, inr}
use Rattle.std.specs.Prelude.{Result, Ok, Err, is_none, option_and_then}
use Rattle.std.specs.List.{AllByRecursion}
use Rattle.law_lists.proofs.Tests.{lt_tells, eq_tells, both_left, both_right}
use Rattle.ct_entry.specs.declared.rows.Owner.{Owner}
use Rattle.def_source.specs.declared.AsmFault.{AsmFault}
use Rattle.def_source.specs.declared.AsmFault.TheVariants as asm
use Rattle.def_source.specs.Source.{Statements, program_of}
use Rattle.def_object.specs.declared.Fault.{Fault}
use Rattle.def_object.specs.Object.{label_in, undeclared_in, fault_in, text_of, initial_of}
use Rattle.def_desc.specs.Rows.{DescCode, AtRow}
use Rattle.def_desc.specs.Lawful.{IsLawfulCode}
use Rattle.def_link.specs.declared.LinkFault.{LinkFault}
use Rattle.def_link.specs.declared.LinkFault.TheVariants as fault
use Rattle.def_link.specs.Owners.{Unit as OwnerUnit, Built, words_built, assembled_or, read_or, built_by, built, label_or, is_begin, begin_of, first_lost, has_stray_bytes, placed_or, unit_checked, unit_built}
use Rattle.law_link.proofs.Texts.{IsText, source_lawful, object_text, words_text}

-- ---- the text

IsSound : Built → Type 0
IsSound b = IsText b.text b.initial

assembled_sound : (owner : Owner) (slots : List (List ℕ)) (source : List ℕ) (ss : Statements) (b : Built) → program_of source ≡ Ok ss
    → (lost : Option ℕ) (faulty : Option Fault) → fault_in ss ≡ faulty → assembled_or owner slots ss lost faulty ≡ Ok b → IsSound b
unfolding IsSound
assembled_sound owner slots source ss b is (Some line) faulty f e = absurd (let no : Err (fault.Import owner line) ≡ Ok b = e in cc)
assembled_sound owner slots source ss b is None (Some k) f e = absurd (let no : Err (fault.Asm owner k.number k.line) ≡ Ok b = e in cc)
assembled_sound owner slots source ss b is None None f e =
    let here : Built = record { text = text_of ss slots; initial = initial_of ss slots; labels = label_in ss } in
    let same : here ≡ b = cc in
    subst (λ (z : Built). IsText z.text z.initial) same (object_text ss slots (source_lawful source ss is) f)

read_sound : (owner : Owner) (slots : List (List ℕ)) (source : List ℕ) (b : Built) (r : Result Statements AsmFault) → program_of source ≡ r → read_or owner slots r ≡ Ok b → IsSound b
read_sound owner slots source b (Ok ss) is e = assembled_sound owner slots source ss b is (undeclared_in slots ss) (fault_in ss) refl e
read_sound owner slots source b (Err (asm.At number line)) is e = absurd (let no : Err (fault.Asm owner number line) ≡ Ok b = e in cc)
read_sound owner slots source b (Err asm.NoMemory) is e = absurd (let no : Err fault.NoMemory ≡ Ok b = e in cc)

built_sound : (owner : Owner) (slots : List (List ℕ)) (code : DescCode) (source : List ℕ) (b : Built) → IsLawfulCode code
    → (file : Option (List ℕ)) → built_by owner slots code.words source file ≡ Ok b → IsSound b
unfolding IsSound
built_sound owner slots code source b h None e =
    let same : words_built code.words ≡ b = cc in
    subst (λ (z : Built). IsText z.text z.initial) same (words_text code.words h.few)
built_sound owner slots code source b h (Some name) e = read_sound owner slots source b (program_of source) refl e

-- ---- exports

-- an export's place is a word of the text
pub record Begins (b : Built) (at : AtRow) : Type 0 where
  pub offset : ℕ
  pub is : begin_of b at ≡ Some offset
  pub even : offset % 4 ≡ 0
  pub inside : offset < length b.text

-- the number, where it begins a word of the text
unfoldable pub begin_at : Built → ℕ → Option ℕ
begin_at b offset = cond (is_begin b offset) (Some offset) None

begins_at : (b : Built) (at : AtRow) (n : ℕ) → label_or b at.label at.offset ≡ Some n → is_none (begin_at b n) ≡ false → Begins b at
unfolding begin_at
begins_at b at n is e = by (is_begin b n) refl e
  where
    by : (c : Bool) → is_begin b n ≡ c → is_none (cond c (Some n) None) ≡ false → Begins b at
    by false t h = absurd (let no : true ≡ false = h in cc)
    by true t h = record {
      offset = n;
      is = ap (λ o. option_and_then (begin_at b) o) is ∙ ap (λ c. cond c (Some n) None) t;
      even = elim (eq_tells (n % 4) 0) [ inl k ↦ k.1 | inr k ↦ absurd (let no : true ≡ false = sym (both_left (nat_eq (n % 4) 0) (nat_lt n (length b.text)) t) ∙ k.0 in cc) ];
      inside = elim (lt_tells n (length b.text)) [ inl k ↦ k.1 | inr k ↦ absurd (let no : true ≡ false = sym (both_right (nat_eq (n % 4) 0) (nat_lt n (length b.text)) t) ∙ k.0 in cc) ];
    }

begins : (b : Built) (at : AtRow) → is_none (begin_of b at) ≡ false → Begins b at
unfolding begin_at
begins b at e = by (label_or b at.label at.offset) refl e
  where
    by : (o : Option ℕ) → label_or b at.label at.offset ≡ o → is_none (option_and_then (begin_at b) o) ≡ false → Begins b at
    by None is h = absurd (let no : true ≡ false = h in cc)
    by (Some n) is h = begins_at b at n is h

all_begin : (b : Built) (n : ℕ) (ats : List AtRow) → first_lost b n ats ≡ None → AllByRecursion (Begins b) ats
all_begin b n [] e = tt
all_begin b n (at ∷ ats) e = by (is_none (begin_of b at)) refl e (λ h. all_begin b (n + 1) ats h)
  where
    by : (c : Bool) → is_none (begin_of b at) ≡ c → cond c (Some n) (first_lost b (n + 1) ats) ≡ None → (first_lost b (n + 1) ats ≡ None → AllByRecursion (Begins b) ats)
        → Begins b at × AllByRecursion (Begins b) ats
    by true is h rest = absurd (let no : Some n ≡ None = h in cc)
    by false is h rest = (begins b at is, rest h)

-- ---- an owner

pub record UnitSound (u : OwnerUnit) (b : Built) : Type 0 where
  pub text : IsText b.text b.initial
  pub begins : AllByRecursion (Begins b) u.exports

placed_same : (u : OwnerUnit) (b c : Built) (lost : Option ℕ) → placed_or u.owner b lost ≡ Ok c → (b ≡ c) × (lost ≡ None)
placed_same u b c (Some n) e = absurd (let no : Err (fault.Export u.owner n) ≡ Ok c = e in cc)
placed_same u b c None e = (by (has_stray_bytes u.owner b) e, refl)
  where
    by : (t : Bool) → cond t (Err (fault.Initial u.owner)) (Ok b) ≡ Ok c → b ≡ c
    by true h = absurd (let no : Err (fault.Initial u.owner) ≡ Ok c = h in cc)
    by false h = let same : b ≡ c = cc in same

pub unit_sound : (u : OwnerUnit) (source : List ℕ) (c : Built) → IsLawfulCode u.code → unit_built u source ≡ Ok c → UnitSound u c
unfolding IsSound
unit_sound u source c h e = by (built u.owner u.slots u.code source) refl e
  where
    by : (r : Result Built LinkFault) → built u.owner u.slots u.code source ≡ r → unit_checked u r ≡ Ok c → UnitSound u c
    by (Err f) is k = absurd (let no : Err f ≡ Ok c = k in cc)
    by (Ok b) is k =
        let same = placed_same u b c (first_lost b 0 u.exports) k in
        subst (UnitSound u) same.0 (record { text = built_sound u.owner u.slots u.code source b h u.code.file is; begins = all_begin b 0 u.exports same.1 })
