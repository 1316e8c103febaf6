-- A name is its own text, and a field is its name with the zeros that pad it.
use Rattle.std.proofs.Common.{ℕ, zero, suc, ◌≡◌, ◌+◌, ◌-◌, ◌<◌, ◌≤◌, ◌==◌, ◌&&◌, ◌||◌, not, Bool, true, false, cond, nat_le, nat_lt, nat_eq, List, [], ◌∷◌, ◌++◌, length, drop, flat_map, refl, sym, ap, ◌∙◌, subst, arith, inl, inr}
use Rattle.std.specs.List.{list_all, AllByRecursion}
use Rattle.std.specs.Char.{encode_utf8}
use Rattle.std.proofs.lemmas.List.{length-append}
use Rattle.std.proofs.lemmas.Bool.{not-false, lt-ltb, le-leb, or_parts}
use Rattle.law_lists.proofs.Tests.{lt_tells, le_tells, eq_tells, both_left, both_right}
use Rattle.def_texts.specs.Names.{is_name, is_name_byte, is_lower, among}
use Rattle.def_image.specs.declared.Check.{Check}
use Rattle.def_image.specs.Spelling.{zeros, name_field}
use Rattle.def_image.specs.Shapes.{IsField, Clean}
use Rattle.def_image.specs.Limits.{name_in_field, are_zeros, name_checks}
use Rattle.ct_image_parts.specs.Converted.{text_of}

-- ---- a name's bytes are characters

le_not : (a b : ℕ) → b < a → nat_le a b ≡ false
le_not a b lt = elim (le_tells a b) [ inl h ↦ absurd (let more = h.1 in omega (arith, lt, more)) | inr h ↦ h.0 ]

eq_not : (a b : ℕ) → b < a → nat_eq a b ≡ false
eq_not a b lt = elim (eq_tells a b) [ inl h ↦ absurd (let same = h.1 in omega (arith, lt, same)) | inr h ↦ h.0 ]

beyond : (b : ℕ) → 128 ≤ b → is_name_byte b ≡ false
beyond b le =
    rw (le-leb 97 b (omega (arith, le)), le_not b 122 (omega (arith, le)), le-leb 48 b (omega (arith, le)), le_not b 57 (omega (arith, le)), eq_not b 95 (omega (arith, le))) refl

character : (b : ℕ) → is_name_byte b ≡ true → b < 128
character b is = elim (lt_tells b 128) [
  | inl h ↦ h.1
  | inr h ↦ absurd (let clash : true ≡ false = sym is ∙ beyond b h.1 in cc)
]

one_byte : (b : ℕ) → b < 128 → encode_utf8 b ≡ b ∷ []
unfolding encode_utf8
one_byte b lt = rw (lt-ltb b 128 lt) refl

own_text : (bs : List ℕ) → list_all is_name_byte bs ≡ true → flat_map encode_utf8 bs ≡ bs
own_text [] h = refl
own_text (b ∷ bs) h =
    let here = both_left (is_name_byte b) (list_all is_name_byte bs) h in
    let later = both_right (is_name_byte b) (list_all is_name_byte bs) h in
    ap (λ (l : List ℕ). l ++ flat_map encode_utf8 bs) (one_byte b (character b here)) ∙ ap (λ (l : List ℕ). b ∷ l) (own_text bs later)

name_bytes : (bs : List ℕ) → is_name bs ≡ true → list_all is_name_byte bs ≡ true
name_bytes [] h = absurd (let clash : false ≡ true = h in cc)
name_bytes (b ∷ bs) h =
    let front = both_left (is_lower b && list_all is_name_byte bs) (nat_lt (length bs) 32) h in
    let lower = both_left (is_lower b) (list_all is_name_byte bs) front in
    let rest = both_right (is_lower b) (list_all is_name_byte bs) front in
    rw (lower, rest) refl

text_is : (field : List ℕ) → is_name (name_in_field field) ≡ true → text_of field ≡ name_in_field field
text_is field h = own_text (name_in_field field) (name_bytes (name_in_field field) h)

-- ---- a field is its name and zeros

split : (field : List ℕ) → name_in_field field ++ drop (length (name_in_field field)) field ≡ field
split [] = refl
split (b ∷ bs) = by (b == 0) (split bs)
  where
    by : (c : Bool) → name_in_field bs ++ drop (length (name_in_field bs)) bs ≡ bs → cond c [] (b ∷ name_in_field bs) ++ drop (length (cond c [] (b ∷ name_in_field bs))) (b ∷ bs) ≡ b ∷ bs
    by true rest = refl
    by false rest = ap (λ (l : List ℕ). b ∷ l) rest

pub all_zeros : (bs : List ℕ) → are_zeros bs ≡ true → zeros (length bs) ≡ bs
all_zeros [] h = refl
all_zeros (b ∷ bs) h =
    let here = both_left (b == 0) (are_zeros bs) h in
    let later = both_right (b == 0) (are_zeros bs) h in
    elim (eq_tells b 0) [
      | inl e ↦ (let is = e.1 in rw is (ap (λ (l : List ℕ). 0 ∷ l) (all_zeros bs later)))
      | inr e ↦ absurd (let clash : true ≡ false = sym here ∙ e.0 in cc)
    ]

-- what the limits say of a name's field
pub record NameFits (field : List ℕ) : Type 0 where
  pub form : is_name (name_in_field field) ≡ true
  pub padding : are_zeros (drop (length (name_in_field field)) field) ≡ true

pub name_fits : (at : ℕ) (unwanted : Bool) (seen : List (List ℕ)) (field : List ℕ) → AllByRecursion (λ (c : Check). c.fails ≡ false) (name_checks at unwanted seen field) → NameFits field
unfolding name_checks
name_fits at unwanted seen field h =
    let bad = not (is_name (name_in_field field)) in
    let twice = among (name_in_field field) seen in
    record {
      form = not-false (is_name (name_in_field field)) (or_parts bad twice (or_parts (bad || twice) unwanted h.0).0).0;
      padding = not-false (are_zeros (drop (length (name_in_field field)) field)) h.1.0;
    }

pub field_back : (field : List ℕ) → IsField 32 field → NameFits field → name_field (text_of field) ≡ field
field_back field is fits =
    let name = name_in_field field in
    let rest = drop (length name) field in
    let whole = split field in
    let sizes = length-append name rest in
    let total : length (name ++ rest) ≡ length field = ap (λ (l : List ℕ). length l) whole in
    let size = is.size in
    let left : 32 - length name ≡ length rest = omega (arith, sizes, total, size) in
    ap name_field (text_is field fits.form) ∙ ap (λ (n : ℕ). name ++ zeros n) left ∙ ap (λ (l : List ℕ). name ++ l) (all_zeros rest fits.padding) ∙ whole

-- ---- a name holds no zero

no_zero : (field : List ℕ) → Clean (name_in_field field)
no_zero [] = tt
no_zero (b ∷ bs) = elim (eq_tells b 0) as (λ x. Clean (name_in_field (b ∷ bs))) [
  | inl e ↦ rw e.0 tt
  | inr e ↦ rw e.0 (some b e.1, no_zero bs)
]
  where
    some : (b : ℕ) → (b ≡ 0 → ⊥) → 0 < b
    some zero differ = absurd (differ refl)
    some (suc n) differ = omega arith

pub text_clean : (field : List ℕ) → NameFits field → Clean (text_of field)
text_clean field fits = subst Clean (sym (text_is field fits.form)) (no_zero field)
