-- Rows of 16 bytes are those of the rows that are made of them, where their limits and forms hold.
use Rattle.std.proofs.Common.{ℕ, zero, suc, ◌≡◌, ◌+◌, ◌<◌, ◌≤◌, ◌^◌, ◌==◌, ◌&&◌, ◌||◌, not, Bool, true, false, List, [], ◌∷◌, ◌++◌, length, take, drop, get_or, refl, sym, ap, ◌∙◌, append_assoc, arith}
use Rattle.std.specs.List.{AllByRecursion}
use Rattle.std.proofs.lemmas.List.{take-append-drop, length-take, length-drop, drop-drop, get_or-drop}
use Rattle.std.proofs.lemmas.Nat.{le_bytes_4}
use Rattle.std.proofs.lemmas.Bool.{not-false, eqb-true}
use Rattle.law_lists.proofs.Tests.{both_left, both_right}
use Rattle.def_image.specs.declared.Check.{Check}
use Rattle.def_image.specs.Sound.{IsWithin}
use Rattle.ct_entry.specs.DeviceKinds.{device_kind_of, device_number}
use Rattle.def_image.specs.Spelling.{number, kind_byte, posture_byte, passes_byte, import_field, export_field}
use Rattle.def_image.specs.Shapes.{IsField, IsNumber}
use Rattle.def_image.specs.Limits.{byte_in, number_field, are_zeros, row_limits, gate_limits, Bounds}
use Rattle.law_image.proofs.Tells.{within_is}
use Rattle.ct_image_parts.specs.Converted.{kind_of, posture_of, import_of, export_of}

-- ---- four bytes and four bytes

abbrev pub IsBytes : List ℕ → Type 0
IsBytes bytes = (i : ℕ) → get_or bytes i 0 < 256

bytes_at : (bs : List ℕ) → AllByRecursion (λ b. b < 256) bs → IsBytes bs
bytes_at [] h i = omega arith
bytes_at (b ∷ bs) h zero = h.0
bytes_at (b ∷ bs) h (suc i) = bytes_at bs h.1 i

drop_all : (n : ℕ) (bs : List ℕ) → AllByRecursion (λ b. b < 256) bs → AllByRecursion (λ b. b < 256) (drop n bs)
drop_all zero bs h = h
drop_all (suc n) [] h = tt
drop_all (suc n) (b ∷ bs) h = drop_all n bs h.1

take_all : (n : ℕ) (bs : List ℕ) → AllByRecursion (λ b. b < 256) bs → AllByRecursion (λ b. b < 256) (take n bs)
take_all zero bs h = tt
take_all (suc n) [] h = tt
take_all (suc n) (b ∷ bs) h = (h.0, take_all n bs h.1)

-- a number of a row is what is spelled there
number_there : (row : List ℕ) (k : ℕ) → AllByRecursion (λ b. b < 256) row → k + 4 ≤ length row → number (number_field row k) ≡ take 4 (drop k row)
number_there row k each long =
    let front = take 4 (drop k row) in
    let size : length front ≡ 4 = omega (arith, length-take 4 (drop k row), length-drop k row, long) in
    le_bytes_4 front (number_field row k) size (bytes_at front (take_all 4 (drop k row) (drop_all k row each))) refl

pub small_there : (row : List ℕ) (k : ℕ) → AllByRecursion (λ b. b < 256) row → IsNumber (number_field row k)
small_there row k each =
    let fits = bytes_at (take 4 (drop k row)) (take_all 4 (drop k row) (drop_all k row each)) in
    omega (arith, fits 0, fits 1, fits 2, fits 3)

-- four bytes, one by one
four : (bs : List ℕ) → 4 ≤ length bs → take 4 bs ≡ get_or bs 0 0 ∷ get_or bs 1 0 ∷ get_or bs 2 0 ∷ get_or bs 3 0 ∷ []
four [] long = absurd (omega (arith, long))
four (a ∷ []) long = absurd (omega (arith, long))
four (a ∷ b ∷ []) long = absurd (omega (arith, long))
four (a ∷ b ∷ c ∷ []) long = absurd (omega (arith, long))
four (a ∷ b ∷ c ∷ d ∷ bs) long = refl

-- a row in four parts
quarters : (row : List ℕ) → length row ≡ 16 → take 4 row ++ (take 4 (drop 4 row) ++ (take 4 (drop 8 row) ++ take 4 (drop 12 row))) ≡ row
quarters row size =
    let last : take 4 (drop 12 row) ≡ drop 12 row = all_taken 4 (drop 12 row) (omega (arith, length-drop 12 row, size)) in
    let c : take 4 (drop 8 row) ++ drop 12 row ≡ drop 8 row = joined 8 row in
    let b : take 4 (drop 4 row) ++ drop 8 row ≡ drop 4 row = joined 4 row in
    ap (λ (l : List ℕ). take 4 row ++ (take 4 (drop 4 row) ++ (take 4 (drop 8 row) ++ l))) last
    ∙ ap (λ (l : List ℕ). take 4 row ++ (take 4 (drop 4 row) ++ l)) c
    ∙ ap (λ (l : List ℕ). take 4 row ++ l) b ∙ take-append-drop 4 row
  where
    all_taken : (n : ℕ) (bs : List ℕ) → length bs ≡ n → take n bs ≡ bs
    all_taken zero [] e = refl
    all_taken zero (x ∷ xs) e = cc
    all_taken (suc n) [] e = refl
    all_taken (suc n) (x ∷ xs) e = let same : length xs ≡ n = cc in ap (λ (l : List ℕ). x ∷ l) (all_taken n xs same)

    passed : (k n : ℕ) (bs : List ℕ) → drop n (drop k bs) ≡ drop (k + n) bs
    passed k n bs = drop-drop n k bs

    joined : (k : ℕ) (bs : List ℕ) → take 4 (drop k bs) ++ drop (k + 4) bs ≡ drop k bs
    joined k bs = ap (λ (l : List ℕ). take 4 (drop k bs) ++ l) (sym (passed k 4 bs)) ∙ take-append-drop 4 (drop k bs)

-- ---- choices

pub kind_back : (n : ℕ) → IsWithin 1 8 n → kind_byte (kind_of n) ≡ n
kind_back zero h = absurd (let low = h.0 in omega (arith, low))
kind_back (suc zero) h = refl
kind_back (suc (suc zero)) h = refl
kind_back (suc (suc (suc zero))) h = refl
kind_back (suc (suc (suc (suc zero)))) h = refl
kind_back (suc (suc (suc (suc (suc zero))))) h = refl
kind_back (suc (suc (suc (suc (suc (suc zero)))))) h = refl
kind_back (suc (suc (suc (suc (suc (suc (suc zero))))))) h = refl
kind_back (suc (suc (suc (suc (suc (suc (suc (suc zero)))))))) h = refl
kind_back (suc (suc (suc (suc (suc (suc (suc (suc (suc n))))))))) h = absurd (let high = h.1 in omega (arith, high))

posture_back : (n : ℕ) → 1 ≤ n → n ≤ 3 → posture_byte (posture_of n) ≡ n
posture_back zero low high = absurd (omega (arith, low))
posture_back (suc zero) low high = refl
posture_back (suc (suc zero)) low high = refl
posture_back (suc (suc (suc zero))) low high = refl
posture_back (suc (suc (suc (suc n)))) low high = absurd (omega (arith, high))

passes_back : (n : ℕ) → 1 ≤ n → n ≤ 2 → passes_byte (n == 1) ≡ n
passes_back zero low high = absurd (omega (arith, low))
passes_back (suc zero) low high = refl
passes_back (suc (suc zero)) low high = refl
passes_back (suc (suc (suc n))) low high = absurd (omega (arith, high))

pub device_back : (n : ℕ) → IsWithin 1 3 n → device_number (device_kind_of n) ≡ n
device_back zero h = absurd (let low = h.0 in omega (arith, low))
device_back (suc zero) h = refl
device_back (suc (suc zero)) h = refl
device_back (suc (suc (suc zero))) h = refl
device_back (suc (suc (suc (suc n)))) h = absurd (let high = h.1 in omega (arith, high))

-- four parts that are those of a row
whole : (a b c d row : List ℕ) → a ≡ take 4 row → b ≡ take 4 (drop 4 row) → c ≡ take 4 (drop 8 row) → d ≡ take 4 (drop 12 row) → length row ≡ 16 → a ++ b ++ c ++ d ≡ row
whole a b c d row e f g h size =
    simp append_assoc (ap (λ (l : List ℕ). l ++ (b ++ (c ++ d))) e ∙ ap (λ (l : List ℕ). take 4 row ++ (l ++ (c ++ d))) f ∙ ap (λ (l : List ℕ). take 4 row ++ (take 4 (drop 4 row) ++ (l ++ d))) g
    ∙ ap (λ (l : List ℕ). take 4 row ++ (take 4 (drop 4 row) ++ (take 4 (drop 8 row) ++ l))) h ∙ quarters row size)

-- ---- import rows

same_four : (a b c d w x y z : ℕ) → a ≡ w → b ≡ x → c ≡ y → d ≡ z → (a ∷ b ∷ c ∷ d ∷ []) ≡ (w ∷ x ∷ y ∷ z ∷ [])
same_four a b c d w x y z e f g h = rw (e, f, g, h) refl

-- two bytes that are zero
zero_pair : (row : List ℕ) → 4 ≤ length row → are_zeros (take 2 (drop 2 row)) ≡ true → (get_or row 2 0 ≡ 0) × (get_or row 3 0 ≡ 0)
zero_pair [] long h = absurd (omega (arith, long))
zero_pair (a ∷ []) long h = absurd (omega (arith, long))
zero_pair (a ∷ b ∷ []) long h = absurd (omega (arith, long))
zero_pair (a ∷ b ∷ c ∷ []) long h = absurd (omega (arith, long))
zero_pair (a ∷ b ∷ c ∷ d ∷ bs) long h =
    (eqb-true c 0 (both_left (c == 0) ((d == 0) && true) h), eqb-true d 0 (both_left (d == 0) true (both_right (c == 0) ((d == 0) && true) h)))

pub import_back : (at : ℕ) (row : List ℕ) → IsField 16 row → AllByRecursion (λ (c : Check). c.fails ≡ false) (row_limits at row) → import_field (import_of row) ≡ row
unfolding row_limits
import_back at row is h =
    let size = is.size in
    let kind = kind_back (byte_in row 0) (within_is 1 8 (byte_in row 0) h.0) in
    let pair = zero_pair row (omega (arith, size)) (not-false (are_zeros (take 2 (drop 2 row))) h.1.1.0) in
    let third = eqb-true (number_field row 12) 0 (not-false (number_field row 12 == 0) h.1.1.1.1.1.0) in
    let q0 = sym (four row (omega (arith, size))) in
    let e0 : (kind_byte (kind_of (byte_in row 0)) ∷ byte_in row 1 ∷ 0 ∷ 0 ∷ []) ≡ take 4 row =
    same_four (kind_byte (kind_of (byte_in row 0))) (byte_in row 1) 0 0 (byte_in row 0) (byte_in row 1) (byte_in row 2) (byte_in row 3) kind refl (sym pair.0) (sym pair.1) ∙ q0 in
    let e1 = number_there row 4 is.each (omega (arith, size)) in
    let e2 = number_there row 8 is.each (omega (arith, size)) in
    let e3 : number 0 ≡ take 4 (drop 12 row) = ap number (sym third) ∙ number_there row 12 is.each (omega (arith, size)) in
    whole (kind_byte (kind_of (byte_in row 0)) ∷ byte_in row 1 ∷ 0 ∷ 0 ∷ []) (number (number_field row 4)) (number (number_field row 8)) (number 0) row e0 e1 e2 e3 size

-- ---- export rows

-- what an export may ask for, as its bytes can say it
pub record AreNarrow (b : Bounds) : Type 0 where
  pub posture : 1 ≤ b.posture
  pub passes : b.passes ≤ 2

last_four : (row : List ℕ) → 12 ≤ length row → take 4 (drop 8 row) ≡ byte_in row 8 ∷ byte_in row 9 ∷ byte_in row 10 ∷ byte_in row 11 ∷ []
last_four row long =
    four (drop 8 row) (omega (arith, length-drop 8 row, long))
    ∙ same_four (get_or (drop 8 row) 0 0) (get_or (drop 8 row) 1 0) (get_or (drop 8 row) 2 0) (get_or (drop 8 row) 3 0) (byte_in row 8) (byte_in row 9) (byte_in row 10) (byte_in row 11)
    (get_or-drop 8 row 0 0) (get_or-drop 8 row 1 0) (get_or-drop 8 row 2 0) (get_or-drop 8 row 3 0)

export_grouped : (a b d : List ℕ) (w x y z : ℕ) → a ++ b ++ w ∷ x ∷ y ∷ z ∷ d ≡ a ++ b ++ (w ∷ x ∷ y ∷ z ∷ []) ++ d
export_grouped a b d w x y z = simp append_assoc

pub export_back : (b : Bounds) (text entry at : ℕ) (row : List ℕ) → AreNarrow b → IsField 16 row → AllByRecursion (λ (c : Check). c.fails ≡ false) (gate_limits b text entry at row)
    → export_field (export_of row) ≡ row
unfolding gate_limits
export_back b text entry at row narrow is h =
    let size = is.size in
    let posture = within_is b.posture 3 (byte_in row 9) h.1.1.1.0 in
    let passes = within_is 1 b.passes (byte_in row 10) h.1.1.1.1.0 in
    let p0 = posture.0 in
    let p1 = posture.1 in
    let s0 = passes.0 in
    let s1 = passes.1 in
    let n0 = narrow.posture in
    let n1 = narrow.passes in
    let zeroth = eqb-true (byte_in row 11) 0 (not-false (byte_in row 11 == 0) h.1.1.1.1.1.0) in
    let e0 = number_there row 0 is.each (omega (arith, size)) in
    let e1 = number_there row 4 is.each (omega (arith, size)) in
    let e2 : (byte_in row 8 ∷ posture_byte (posture_of (byte_in row 9)) ∷ passes_byte (byte_in row 10 == 1) ∷ 0 ∷ []) ≡ take 4 (drop 8 row) =
    same_four (byte_in row 8) (posture_byte (posture_of (byte_in row 9))) (passes_byte (byte_in row 10 == 1)) 0 (byte_in row 8) (byte_in row 9) (byte_in row 10) (byte_in row 11)
    refl (posture_back (byte_in row 9) (omega (arith, p0, n0)) p1) (passes_back (byte_in row 10) s0 (omega (arith, s1, n1))) (sym zeroth)
    ∙ sym (last_four row (omega (arith, size))) in
    let e3 = number_there row 12 is.each (omega (arith, size)) in
    export_grouped (number (number_field row 0)) (number (number_field row 4)) (number (number_field row 12)) (byte_in row 8) (posture_byte (posture_of (byte_in row 9))) (passes_byte (byte_in row 10 == 1)) 0
    ∙ whole (number (number_field row 0)) (number (number_field row 4)) (byte_in row 8 ∷ posture_byte (posture_of (byte_in row 9)) ∷ passes_byte (byte_in row 10 == 1) ∷ 0 ∷ []) (number (number_field row 12)) row e0 e1 e2 e3 size
