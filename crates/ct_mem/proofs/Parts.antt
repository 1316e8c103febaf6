use Rattle.std.proofs.Common.{ℕ, ◌≡◌, ◌+◌, ◌-◌, ◌*◌, ◌/◌, ◌%◌, ◌^◌, ◌<◌, ◌≤◌, sym, ap, ◌∙◌, arith, lit<, subst}
use Rattle.std.proofs.Math.Nat.{div-div-eq-div-mul, mul_assoc, mul_comm, div-add-mod', pow-le-pow_right, add-mul, div-lt_iff_lt-mul, mul-le-mul_right, mod-eq_of_lt}
use Rattle.std.proofs.lemmas.Nat.{pow-add, mod_below, pow_pos}

-- a word is the part above, the part between and the part below
pub split : (w a b : ℕ) → w ≡ w / (a * b) * (a * b) + w / a % b * a + w % a
split w a b =
    let low : w / a * a + w % a ≡ w = div-add-mod' w a in
    let middle : w / a / b * b + w / a % b ≡ w / a = div-add-mod' (w / a) b in
    let high : w / a / b ≡ w / (a * b) = div-div-eq-div-mul w a b in
    let apart : (w / a / b * b + w / a % b) * a ≡ w / a / b * b * a + w / a % b * a = add-mul (w / a / b * b) (w / a % b) a in
    let regroup : w / a / b * b * a ≡ w / a / b * (a * b) = mul_assoc (w / a / b) b a ∙ ap (λ n. w / a / b * n) (mul_comm b a) in
    let both : w / a * a ≡ w / (a * b) * (a * b) + w / a % b * a = ap (λ n. n * a) (sym middle) ∙ apart ∙ ap (λ n. n + w / a % b * a) (regroup ∙ ap (λ n. n * (a * b)) high) in
    sym low ∙ ap (λ n. n + w % a) both

pub span_fits : (width : ℕ) → width ≤ 4 → 2 ^ (8 * width) ≤ 2 ^ 32
span_fits width small = let h : 8 * width ≤ 32 = omega arith in pow-le-pow_right {n = 2} (lit< tt) h

-- part of a word of at most four bytes fits four bytes
pub part_small : (n width : ℕ) → width ≤ 4 → n % 2 ^ (8 * width) < 2 ^ 32
part_small n width small = omega (arith, mod_below n (2 ^ (8 * width)) (pow_pos (8 * width)), span_fits width small)

pub unit_fits : (from : ℕ) → from < 8 → 2 ^ (8 * from) < 2 ^ 64
unit_fits from small =
    let k : 8 * from ≤ 56 = omega arith in
    let h : 2 ^ (8 * from) ≤ 2 ^ 56 = pow-le-pow_right {n = 2} (lit< tt) k in
    omega arith

-- with another part the word still fits
pub fits : (w a b c new : ℕ) → 0 < a → 0 < b → w < c * (a * b) → new < b → w / (a * b) * (a * b) + new * a + w % a < c * (a * b)
fits w a b c new pa pb small below =
    let high : w / (a * b) < c = (div-lt_iff_lt-mul {k = a * b} {x = w} {y = c} (omega (arith, mul-le-mul_right {m = 1} {n = b} a pb, mul_comm b a))).1 small in
    let next_high : w / (a * b) + 1 ≤ c = omega arith in
    let more : (w / (a * b) + 1) * (a * b) ≤ c * (a * b) = mul-le-mul_right (a * b) next_high in
    let opened : (w / (a * b) + 1) * (a * b) ≡ w / (a * b) * (a * b) + 1 * (a * b) = add-mul (w / (a * b)) 1 (a * b) in
    let next_new : new + 1 ≤ b = omega arith in
    let next : (new + 1) * a ≤ b * a = mul-le-mul_right a next_new in
    let turned : b * a ≡ a * b = mul_comm b a in
    let step : (new + 1) * a ≡ new * a + 1 * a = add-mul new 1 a in
    let low : w % a < a = mod_below w a pa in
    omega arith

eights : (from width : ℕ) → 2 ^ (8 * (from + width)) ≡ 2 ^ (8 * from) * 2 ^ (8 * width)
eights from width =
    let e : 8 * (from + width) ≡ 8 * from + 8 * width = omega arith in
    ap (λ n. 2 ^ n) e ∙ pow-add 2 (8 * from) (8 * width)

-- the part taken out and another put in
pub replaced_is : (w from width new : ℕ) → w - w / 2 ^ (8 * from) % 2 ^ (8 * width) * 2 ^ (8 * from) + new * 2 ^ (8 * from) ≡ w / 2 ^ (8 * (from + width)) * 2 ^ (8 * (from + width)) + new * 2 ^ (8 * from) + w % 2 ^ (8 * from)
replaced_is w from width new =
    let e = eights from width in
    let whole : w ≡ w / (2 ^ (8 * from) * 2 ^ (8 * width)) * (2 ^ (8 * from) * 2 ^ (8 * width)) + w / 2 ^ (8 * from) % 2 ^ (8 * width) * 2 ^ (8 * from) + w % 2 ^ (8 * from) = split w (2 ^ (8 * from)) (2 ^ (8 * width)) in
    let here : w ≡ w / 2 ^ (8 * (from + width)) * 2 ^ (8 * (from + width)) + w / 2 ^ (8 * from) % 2 ^ (8 * width) * 2 ^ (8 * from) + w % 2 ^ (8 * from) =
    let P : ℕ → Type 0 = λ n. w ≡ w / n * n + w / 2 ^ (8 * from) % 2 ^ (8 * width) * 2 ^ (8 * from) + w % 2 ^ (8 * from) in subst P (sym e) whole in
    omega arith

pub part_within : (w from width : ℕ) → w / 2 ^ (8 * from) % 2 ^ (8 * width) * 2 ^ (8 * from) ≤ w
part_within w from width = omega (arith, split w (2 ^ (8 * from)) (2 ^ (8 * width)))

pub replaced_fits : (w from width new : ℕ) → w < 2 ^ 64 → from + width ≤ 8 → new < 2 ^ (8 * width) → w - w / 2 ^ (8 * from) % 2 ^ (8 * width) * 2 ^ (8 * from) + new * 2 ^ (8 * from) < 2 ^ 64
replaced_fits w from width new small inside below =
    let e = eights from width in
    let total : 2 ^ (64 - 8 * (from + width)) * 2 ^ (8 * (from + width)) ≡ 2 ^ 64 =
    let sum : (64 - 8 * (from + width)) + 8 * (from + width) ≡ 64 = omega arith in
    sym (pow-add 2 (64 - 8 * (from + width)) (8 * (from + width))) ∙ ap (λ n. 2 ^ n) sum in
    let P : ℕ → Type 0 = λ n. n ≡ 2 ^ 64 → w / 2 ^ (8 * (from + width)) * 2 ^ (8 * (from + width)) + new * 2 ^ (8 * from) + w % 2 ^ (8 * from) < n in
    let Q : ℕ → Type 0 = λ n. 2 ^ (64 - 8 * (from + width)) * n ≡ 2 ^ 64 → w / n * n + new * 2 ^ (8 * from) + w % 2 ^ (8 * from) < 2 ^ (64 - 8 * (from + width)) * n in
    let split_up : Q (2 ^ (8 * from) * 2 ^ (8 * width)) = λ t. fits w (2 ^ (8 * from)) (2 ^ (8 * width)) (2 ^ (64 - 8 * (from + width))) new (pow_pos (8 * from)) (pow_pos (8 * width)) (omega arith) below in
    let here : Q (2 ^ (8 * (from + width))) = subst Q (sym e) split_up in
    omega (arith, here total, replaced_is w from width new)

pub unit_is : (from : ℕ) → from < 8 → 1 * 2 ^ (8 * from) % 18446744073709551616 ≡ 2 ^ (8 * from)
unit_is from small =
    let one : 1 * 2 ^ (8 * from) ≡ 2 ^ (8 * from) = omega arith in
    let fits : 2 ^ (8 * from) < 18446744073709551616 = unit_fits from small in
    ap (λ n. n % 18446744073709551616) one ∙ mod-eq_of_lt fits

pub span_is : (width : ℕ) → width ≤ 4 → 1 * 2 ^ (8 * width) % 18446744073709551616 ≡ 2 ^ (8 * width)
span_is width small = unit_is width (omega arith)
