-- Some bytes of a word, read and written.
use Rattle.std.proofs.Common.{ℕ, ◌≡◌, ◌+◌, ◌-◌, ◌*◌, ◌/◌, ◌%◌, ◌^◌, ◌<◌, ◌≤◌, sym, ap, ◌∙◌, arith, lit<}
use Rattle.std.proofs.lemmas.Nat.{pow-add, mod_below, pow_pos}
use Rattle.std.proofs.Math.Nat.{div-div-eq-div-mul}
use Rattle.std.proofs.Math.Arith.{mod-mul}
use Rattle.def_memory.specs.Accesses.{part_of, with_part, byte_of}
use Rattle.law_granules.proofs.Numbers.{put, put_comm, part_same, part_below, part_above}

unit : ℕ → ℕ
unit n = 2 ^ (8 * n)

eights : (p n : ℕ) → 2 ^ (8 * (p + n)) ≡ 2 ^ (8 * p) * 2 ^ (8 * n)
eights p n =
    let e : 8 * (p + n) ≡ 8 * p + 8 * n = omega arith in
    ap (λ k. 2 ^ k) e ∙ pow-add 2 (8 * p) (8 * n)

further : (p n q : ℕ) → p + n ≤ q → 2 ^ (8 * q) ≡ 2 ^ (8 * p) * 2 ^ (8 * n) * 2 ^ (8 * (q - (p + n)))
further p n q le =
    let e : 8 * q ≡ 8 * (p + n) + 8 * (q - (p + n)) = omega arith in
    ap (λ k. 2 ^ k) e ∙ pow-add 2 (8 * (p + n)) (8 * (q - (p + n))) ∙ ap (λ k. k * 2 ^ (8 * (q - (p + n)))) (eights p n)

pub as_put : (w p n v : ℕ) → with_part w p n v ≡ put w (2 ^ (8 * p)) (2 ^ (8 * n)) (v % 2 ^ (8 * n))
as_put w p n v = ap (λ k. w / k * k + v % 2 ^ (8 * n) * 2 ^ (8 * p) + w % 2 ^ (8 * p)) (eights p n)

below : (v n : ℕ) → v % 2 ^ (8 * n) < 2 ^ (8 * n)
below v n = mod_below v (2 ^ (8 * n)) (pow_pos (8 * n))

pub words_comm : (w p n v q m u : ℕ) → p + n ≤ q → with_part (with_part w p n v) q m u ≡ with_part (with_part w q m u) p n v
words_comm w p n v q m u le =
    let A = 2 ^ (8 * p) in
    let B = 2 ^ (8 * n) in
    let C = 2 ^ (8 * (q - (p + n))) in
    let D = 2 ^ (8 * m) in
    let x = v % 2 ^ (8 * n) in
    let y = u % 2 ^ (8 * m) in
    let e : 2 ^ (8 * q) ≡ A * B * C = further p n q le in
    let left : with_part (with_part w p n v) q m u ≡ put (put w A B x) (A * B * C) D y =
    as_put (with_part w p n v) q m u ∙ ap (λ k. put (with_part w p n v) k D y) e ∙ ap (λ k. put k (A * B * C) D y) (as_put w p n v) in
    let right : with_part (with_part w q m u) p n v ≡ put (put w (A * B * C) D y) A B x =
    as_put (with_part w q m u) p n v ∙ ap (λ k. put k A B x) (as_put w q m u ∙ ap (λ k. put w k D y) e) in
    left ∙ put_comm w A B C D x y (pow_pos (8 * p)) (pow_pos (8 * (q - (p + n)))) (below v n) ∙ sym right

pub words_same : (w p n v : ℕ) → part_of (with_part w p n v) p n ≡ v % 2 ^ (8 * n)
words_same w p n v = ap (λ k. k / 2 ^ (8 * p) % 2 ^ (8 * n)) (as_put w p n v) ∙ part_same w (2 ^ (8 * p)) (2 ^ (8 * n)) (v % 2 ^ (8 * n)) (pow_pos (8 * p)) (below v n)

-- what was written above leaves what is read below
pub words_below : (w p n q m u : ℕ) → p + n ≤ q → part_of (with_part w q m u) p n ≡ part_of w p n
words_below w p n q m u le =
    ap (λ k. k / 2 ^ (8 * p) % 2 ^ (8 * n)) (as_put w q m u ∙ ap (λ k. put w k (2 ^ (8 * m)) (u % 2 ^ (8 * m))) (further p n q le))
    ∙ part_below w (2 ^ (8 * p)) (2 ^ (8 * n)) (2 ^ (8 * (q - (p + n)))) (2 ^ (8 * m)) (u % 2 ^ (8 * m)) (pow_pos (8 * p)) (pow_pos (8 * n)) (pow_pos (8 * (q - (p + n))))

-- what was written below leaves what is read above
pub words_above : (w p n v q m : ℕ) → p + n ≤ q → part_of (with_part w p n v) q m ≡ part_of w q m
words_above w p n v q m le =
    ap (λ k. with_part w p n v / k % 2 ^ (8 * m)) (further p n q le)
    ∙ ap (λ k. k / (2 ^ (8 * p) * 2 ^ (8 * n) * 2 ^ (8 * (q - (p + n)))) % 2 ^ (8 * m)) (as_put w p n v)
    ∙ part_above w (2 ^ (8 * p)) (2 ^ (8 * n)) (2 ^ (8 * (q - (p + n)))) (2 ^ (8 * m)) (v % 2 ^ (8 * n)) (pow_pos (8 * p)) (below v n)
    ∙ ap (λ k. w / k % 2 ^ (8 * m)) (sym (further p n q le))

byte_next : (w p : ℕ) → w / 2 ^ (8 * (p + 1)) ≡ w / 2 ^ (8 * p) / 256
byte_next w p = ap (λ k. w / k) (eights p 1) ∙ sym (div-div-eq-div-mul w (2 ^ (8 * p)) 256)

split_two : (n : ℕ) → n % 65536 ≡ n % 256 + 256 * (n / 256 % 256)
split_two n = let e : n % (256 * 256) ≡ n / 256 % 256 * 256 + n % 256 = mod-mul n {m = 256} {c = 256} (lit< tt) (lit< tt) in omega (arith, e)

pub pair_of : (w p : ℕ) → part_of w p 2 ≡ byte_of w p + 256 * byte_of w (p + 1)
pair_of w p = rw (byte_next w p) (split_two (w / 2 ^ (8 * p)))

pub four_of : (w p : ℕ) → part_of w p 4 ≡ byte_of w p + 256 * byte_of w (p + 1) + 65536 * byte_of w (p + 2) + 16777216 * byte_of w (p + 3)
four_of w p =
    let n = w / 2 ^ (8 * p) in
    let low : n % 65536 ≡ n % 256 + 256 * (n / 256 % 256) = split_two n in
    let high : n / 65536 % 65536 ≡ n / 65536 % 256 + 256 * (n / 65536 / 256 % 256) = split_two (n / 65536) in
    let whole : n % (65536 * 65536) ≡ n / 65536 % 65536 * 65536 + n % 65536 = mod-mul n {m = 65536} {c = 65536} (lit< tt) (lit< tt) in
    let two : w / 2 ^ (8 * (p + 2)) ≡ n / 65536 = ap (λ k. w / k) (eights p 2) ∙ sym (div-div-eq-div-mul w (2 ^ (8 * p)) 65536) in
    let three : w / 2 ^ (8 * (p + 3)) ≡ n / 65536 / 256 = ap (λ k. w / k) (eights p 3) ∙ sym (div-div-eq-div-mul w (2 ^ (8 * p)) 16777216) ∙ sym (div-div-eq-div-mul n 65536 256) in
    rw (byte_next w p, two, three) (omega (arith, low, high, whole))
