-- What F2 and F6 say of one member of a part: a number within its limits, a list of a few, a text.
use Rattle.std.proofs.Common.{ℕ, ◌≡◌, ◌-◌, ◌/◌, ◌%◌, ◌^◌, ◌<◌, ◌≤◌, ◌==◌, ◌&&◌, Bool, true, false, cond, nat_le, nat_eq, List, [], ◌∷◌, length, map, Option, Some, None, refl, sym, ap, ◌∙◌, subst, arith, inl, inr}
use Rattle.std.specs.Prelude.{option_and_then, unwrap_or, is_some}
use Rattle.std.specs.List.{AllByRecursion}
use Rattle.std.proofs.lemmas.List.{length-map}
use Rattle.std.proofs.lemmas.Bool.{leb-true, eqb-true}
use Rattle.std.specs.Int.{is_in_range}
use Rattle.serde_json.specs.Data.{Data}
use Rattle.serde_json.specs.Find.{as_array}
use Rattle.law_lists.proofs.Tests.{le_tells, lt_tells, both_left, both_right}
use Rattle.def_image.specs.Sound.{IsWithin}
use Rattle.def_desc.specs.declared.tables.Shape.TheVariants as shape
use Rattle.def_desc.specs.Members.{natural_of, list_in}
use Rattle.def_desc.specs.Tables.{row}
use Rattle.def_desc.specs.Kinds.{is_kind_there}
use Rattle.def_desc.specs.Limits.{keeps_there}
use Rattle.def_desc.specs.Reading.{cut, digit_of, hexadecimal_word, bytes_of}

-- ---- tests

pub within_is : (low high n : ℕ) → is_in_range low high n ≡ true → IsWithin low high n
within_is low high n e = (leb-true low n (both_left (nat_le low n) (nat_le n high) e), leb-true n high (both_right (nat_le low n) (nat_le n high) e))

-- ---- numbers

pub cut_small : (n : ℕ) → n < 2 ^ 32 → cut n ≡ n
cut_small n small = elim (lt_tells n (2 ^ 32)) [
  | inl h ↦ ap (λ b. cond b n 0) h.0
  | inr h ↦ absurd (let le = h.1 in omega (arith, le, small))
]

pub cut_below : (n : ℕ) → cut n < 2 ^ 32
cut_below n = elim (lt_tells n (2 ^ 32)) [
  | inl h ↦ (let is : cut n ≡ n = ap (λ b. cond b n 0) h.0 in let lt = h.1 in rw is lt)
  | inr h ↦ (let is : cut n ≡ 0 = ap (λ b. cond b n 0) h.0 in rw is (omega arith))
]

-- what is read of an optional number, with a default
abbrev pub read_or : ℕ → Option Data → ℕ
read_or default o = cut (unwrap_or (option_and_then natural_of o) default)

number_kept : (low high default : ℕ) (n : Option ℕ) → high < 2 ^ 32 → is_some n ≡ true → is_in_range low high (unwrap_or n 0) ≡ true → IsWithin low high (cut (unwrap_or n default))
number_kept low high default None small there kept = absurd (let no : false ≡ true = there in cc)
number_kept low high default (Some k) small there kept =
    let w = within_is low high k kept in
    let top = w.1 in
    let same : cut k ≡ k = cut_small k (omega (arith, top, small)) in
    rw same w

pub needed : (name : List ℕ) (low high : ℕ) (o : Option Data) → high < 2 ^ 32
    → is_kind_there (row name (shape.Number low high) true) o ≡ true → keeps_there (row name (shape.Number low high) true) o ≡ true
    → IsWithin low high (read_or 0 o)
needed name low high None small there kept = absurd (let no : false ≡ true = there in cc)
needed name low high (Some v) small there kept = number_kept low high 0 (natural_of v) small there kept

pub given_or : (name : List ℕ) (low high default : ℕ) (o : Option Data) → high < 2 ^ 32 → IsWithin low high default
    → is_kind_there (row name (shape.Number low high) false) o ≡ true → keeps_there (row name (shape.Number low high) false) o ≡ true
    → IsWithin low high (read_or default o)
given_or name low high default None small within there kept =
    let top = within.1 in
    let same : cut default ≡ default = cut_small default (omega (arith, top, small)) in
    rw same within
given_or name low high default (Some v) small within there kept = number_kept low high default (natural_of v) small there kept

-- a multiple of 16 within limits
multiple_kept : (low high : ℕ) (n : Option ℕ) → high < 2 ^ 32 → is_some n ≡ true
    → (is_in_range low high (unwrap_or n 0) && (unwrap_or n 0 % 16 == 0)) ≡ true
    → IsWithin low high (cut (unwrap_or n 0)) × (cut (unwrap_or n 0) % 16 ≡ 0)
multiple_kept low high None small there kept = absurd (let no : false ≡ true = there in cc)
multiple_kept low high (Some k) small there kept =
    let w = within_is low high k (both_left (is_in_range low high k) (nat_eq (k % 16) 0) kept) in
    let even = eqb-true (k % 16) 0 (both_right (is_in_range low high k) (nat_eq (k % 16) 0) kept) in
    let top = w.1 in
    let same : cut k ≡ k = cut_small k (omega (arith, top, small)) in
    rw same (w, even)

pub needed_multiple : (name : List ℕ) (low high : ℕ) (o : Option Data) → high < 2 ^ 32
    → is_kind_there (row name (shape.Multiple low high) true) o ≡ true → keeps_there (row name (shape.Multiple low high) true) o ≡ true
    → IsWithin low high (read_or 0 o) × (read_or 0 o % 16 ≡ 0)
needed_multiple name low high None small there kept = absurd (let no : false ≡ true = there in cc)
needed_multiple name low high (Some v) small there kept = multiple_kept low high (natural_of v) small there kept

-- ---- lists

pub few : (name : List ℕ) (most : ℕ) (needed : Bool) (o : Option Data) → keeps_there (row name (shape.List most) needed) o ≡ true → length (list_in (option_and_then as_array o)) ≤ most
few name most needed None kept = omega arith
few name most needed (Some v) kept = leb-true (length (list_in (as_array v))) most kept

pub few_rows : {A : Type 0} (f : Data → A) (name : List ℕ) (most : ℕ) (needed : Bool) (o : Option Data)
    → keeps_there (row name (shape.List most) needed) o ≡ true → length (map f (list_in (option_and_then as_array o))) ≤ most
few_rows f name most needed o kept =
    subst (λ n. n ≤ most) (sym (length-map (list_in (option_and_then as_array o)) f)) (few name most needed o kept)

-- ---- hexadecimal digits

pub digit_small : (b : ℕ) → digit_of b < 16
digit_small b = elim (le_tells 97 b) [
  | inl low ↦ elim (le_tells b 102) [
    | inl high ↦ (let lt = high.1 in let is : digit_of b ≡ b - 87 = letter_is low.0 high.0 in rw is (omega (arith, lt)))
    | inr high ↦ other (ap (λ c. nat_le 97 b && c) high.0 ∙ and_false (nat_le 97 b))
  ]
  | inr low ↦ other (ap (λ c. c && nat_le b 102) low.0)
]
  where
    and_false : (c : Bool) → (c && false) ≡ false
    and_false true = refl
    and_false false = refl

    letter_is : nat_le 97 b ≡ true → nat_le b 102 ≡ true → digit_of b ≡ b - 87
    letter_is p q = rw (p, q) refl

    decimal_small : (c d : Bool) → nat_le 48 b ≡ c → nat_le b 57 ≡ d → cond (c && d) (b - 48) 0 < 16
    decimal_small true true p q = let lt = leb-true b 57 q in omega (arith, lt)
    decimal_small true false p q = omega arith
    decimal_small false true p q = omega arith
    decimal_small false false p q = omega arith

    other : (nat_le 97 b && nat_le b 102) ≡ false → digit_of b < 16
    other e = let is : digit_of b ≡ cond (nat_le 48 b && nat_le b 57) (b - 48) 0 = ap (λ c. cond c (b - 87) (cond (nat_le 48 b && nat_le b 57) (b - 48) 0)) e in
        subst (λ n. n < 16) (sym is) (decimal_small (nat_le 48 b) (nat_le b 57) refl refl)

pub word_small : (t : List ℕ) → hexadecimal_word t < 2 ^ 32
word_small (a ∷ b ∷ c ∷ d ∷ e ∷ f ∷ g ∷ h ∷ []) =
    let da = digit_small a in
    let db = digit_small b in
    let dc = digit_small c in
    let dd = digit_small d in
    let de = digit_small e in
    let df = digit_small f in
    let dg = digit_small g in
    let dh = digit_small h in
    omega (arith, da, db, dc, dd, de, df, dg, dh)
word_small _ = omega arith

pub bytes_small : (t : List ℕ) → AllByRecursion (λ b. b < 256) (bytes_of t)
bytes_small [] = tt
bytes_small (a ∷ []) = tt
bytes_small (a ∷ b ∷ rest) = (let da = digit_small a in let db = digit_small b in omega (arith, da, db), bytes_small rest)

pub bytes_half : (t : List ℕ) → length (bytes_of t) ≡ length t / 2
bytes_half [] = refl
bytes_half (a ∷ []) = refl
bytes_half (a ∷ b ∷ rest) = let h = bytes_half rest in omega (arith, h)
