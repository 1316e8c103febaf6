-- Any text is a policy, or has a fault.
use Rattle.std.proofs.Common.{◌≡◌, ℕ, zero, suc, ◌+◌, ◌<◌, ◌≤◌, ◌⊎◌, ◌++◌, List, [], ◌∷◌, Bool, true, false, Option, Some, None, inl, inr, refl, ap, arith, length, length-append}
use Rattle.std.proofs.Math.ListN.{get_or}
use Rattle.law_lists.proofs.Tests.{eq_tells, lt_tells}
use Rattle.def_image.specs.Parts.{PartsRow}
use Rattle.def_policy.specs.declared.PolicyFault.TheVariants.{At}
use Rattle.def_policy.specs.Rules.{Rule}
use Rattle.def_policy.specs.Rulings.{Ruling, meant}
use Rattle.def_policy.specs.Texts.{IsPolicyFault}
use Rattle.ct_policy.specs.Forms.{form_of}
use Rattle.ct_policy.specs.Going.{Going}
use Rattle.ct_policy.specs.Words.{IsFirst, IsLine, NoFirst, NoWords, end_byte}
use Rattle.ct_policy.proofs.Accounts.{ended_long, fault_is, goes_on, no_words_there, reads, refuse_form, refuse_name, starts, takes}
use Rattle.ct_policy.proofs.Firsts.{endless, first_is, no_front, other_end, place_of}
use Rattle.ct_policy.proofs.Lines as lined
use Rattle.ct_policy.proofs.Lines.{Within, line_is, no_end_left, no_word}
use Rattle.def_policy.specs.Denied.{ReadsOrHasFault}

-- ---- the first word

record Front (text : List ℕ) : Type 0 where
  word : List ℕ
  last : Bool
  rest : List ℕ
  is : IsFirst text word last rest

front : (text word rest : List ℕ) (last : Bool) → IsFirst text word last rest → Front text ⊎ NoFirst text
front text word rest last is = inl (record { word = word; last = last; rest = rest; is = is })

first_there : (text : List ℕ) → Front text ⊎ NoFirst text
first_there text = elim (eq_tells (place_of text) 0) [
  | inl none ↦ inr (no_front text none.1)
  | inr some ↦ elim (lt_tells (place_of text) (length text)) [
    | inr long ↦ inr (endless text long.1)
    | inl inside ↦ elim (eq_tells (get_or text (place_of text) 0) 10) [
      | inl feed ↦ front text _ _ _ (first_is text (place_of text) refl (above some.1) inside.1 (λ a b. b feed.1))
      | inr nofeed ↦ elim (eq_tells (get_or text (place_of text) 0) 32) [
        | inl space ↦ front text _ _ _ (first_is text (place_of text) refl (above some.1) inside.1 (λ a b. a space.1))
        | inr nospace ↦ inr (other_end text inside.1 nospace.1 nofeed.1)
      ]
    ]
  ]
]
  where
    above : (place_of text ≡ 0 → ⊥) → 0 < place_of text
    above differs = elim (lt_tells 0 (place_of text)) [ inl h ↦ h.1 | inr h ↦ absurd (differs (omega (arith, h.1))) ]

-- ---- the first line

record Line (text : List ℕ) : Type 0 where
  words : List (List ℕ)
  rest : List ℕ
  is : IsLine text words rest

shorter : (left word rest : List ℕ) (last : Bool) → IsFirst left word last rest → length rest < length left
shorter left word rest last first = omega (arith, ap length first.text_is, length-append word (end_byte last ∷ rest))

line_there : (n : ℕ) (text left : List ℕ) (words : List (List ℕ)) → length left ≤ n → Within text words left → Line text ⊎ NoWords text
line_there zero text left words small w = inr (no_end_left text left words w small)
line_there (suc n) text left words small w = elim (first_there left) [
  | inr none ↦ inr (no_word text left words w none)
  | inl f ↦ by_end f.word f.rest f.last f.is
      (line_there n text f.rest (words ++ f.word ∷ []) (omega (arith, small, shorter left f.word f.rest f.last f.is)))
]
  where
    by_end : (word rest : List ℕ) (last : Bool) → IsFirst left word last rest
        → (Within text (words ++ word ∷ []) rest → Line text ⊎ NoWords text) → Line text ⊎ NoWords text
    by_end word rest true is next = inl (record { words = words ++ word ∷ []; rest = rest; is = line_is text left word rest words w is })
    by_end word rest false is next = next (lined.goes_on text left word rest words w is)

-- ---- all lines

module _ (p : PartsRow) (text : List ℕ) where
  refused : (left : List ℕ) (rulings : List Ruling) (number : ℕ) → IsPolicyFault p text number (length rulings + 1) → ReadsOrHasFault p text
  refused left rulings number is = inr (record { number = number; line = length rulings + 1; fault = is })

  module _ (left : List ℕ) (rulings : List Ruling) (some : 0 < length left) (g : Going p text rulings left)
      (next : (rest : List ℕ) (new : List Ruling) → length rest < length left → Going p text new rest → ReadsOrHasFault p text) where
    by_meant : (words : List (List ℕ)) (rest : List ℕ) (r : Rule) → IsLine left words rest → form_of words ≡ Some r → (x : Option Ruling) → meant p r ≡ x → ReadsOrHasFault p text
    by_meant words rest r l found None none =
        refused left rulings 2 (fault_is p text left rulings (At 2 (length rulings + 1)) g
        (refuse_name p (length rulings) left words rest r (At 2 (length rulings + 1)) l found none refl))
    by_meant words rest r l found (Some x) means =
        next rest (rulings ++ x ∷ []) (omega (arith, ap length l.text_is, ended_long words rest))
        (goes_on p text left rest rulings (rulings ++ x ∷ []) g (takes p rulings (rulings ++ x ∷ []) left words rest r x l found means refl))

    by_form : (words : List (List ℕ)) (rest : List ℕ) → IsLine left words rest → (r : Option Rule) → form_of words ≡ r → ReadsOrHasFault p text
    by_form words rest l None none =
        refused left rulings 1 (fault_is p text left rulings (At 1 (length rulings + 1)) g
        (refuse_form p (length rulings) left words rest (At 1 (length rulings + 1)) some l none refl))
    by_form words rest l (Some r) found = by_meant words rest r l found (meant p r) refl

    by_line : Line left ⊎ NoWords left → ReadsOrHasFault p text
    by_line (inl l) = by_form l.words l.rest l.is (form_of l.words) refl
    by_line (inr none) =
        refused left rulings 1 (fault_is p text left rulings (At 1 (length rulings + 1)) g (refl, inl (refl, no_words_there left some none)))

  all_there : (n : ℕ) (left : List ℕ) (rulings : List Ruling) → length left ≤ n → Going p text rulings left → ReadsOrHasFault p text
  all_there n [] rulings small g = inl (record { rulings = rulings; reads = reads p text [] rulings g (omega arith) })
  all_there zero (c ∷ cs) rulings small g = absurd (omega (arith, small))
  all_there (suc n) (c ∷ cs) rulings small g =
      by_line (c ∷ cs) rulings (omega arith) g (λ rest new less going. all_there n rest new (omega (arith, small, less)) going)
      (line_there (length (c ∷ cs)) (c ∷ cs) (c ∷ cs) [] (omega arith) (lined.begins (c ∷ cs)))

pub policy_or_fault : (p : PartsRow) (text : List ℕ) → ReadsOrHasFault p text
policy_or_fault p text = all_there p text (length text) text [] (omega arith) (starts p text)
