-- The bytes of a word, one by one.
use Rattle.std.proofs.Common.{ℕ, zero, suc, ◌≡◌, ◌+◌, ◌-◌, ◌*◌, ◌/◌, ◌%◌, ◌^◌, ◌<◌, ◌≤◌, sym, ap, ◌∙◌, arith, lit<}
use Rattle.std.proofs.Math.Nat.{div-div-eq-div-mul, mul_comm}
use Rattle.std.proofs.Math.Arith.{mod-mul}
use Rattle.std.proofs.lemmas.Nat.{pow-add, mod_below, pow_pos, div-mul-add, mod-mul-add}
use Rattle.def_memory.specs.Accesses.{part_of, with_part, byte_of}
use Rattle.law_granules.proofs.Numbers.{positive}
use Rattle.law_granules.proofs.Words.{words_same, words_below, words_above}

pub byte_small : (w i : ℕ) → byte_of w i < 256
byte_small w i = mod_below (w / 2 ^ (8 * i)) 256 (lit< tt)

pub byte_next : (w i : ℕ) → byte_of w (suc i) ≡ byte_of (w / 256) i
byte_next w i =
    let e : 8 * suc i ≡ 8 + 8 * i = omega arith in
    ap (λ n. w / n % 256) (ap (λ k. 2 ^ k) e ∙ pow-add 2 8 (8 * i)) ∙ ap (λ n. n % 256) (sym (div-div-eq-div-mul w 256 (2 ^ (8 * i))))

-- two numbers of n bytes with the same bytes are equal
pub same_from_bytes : (n a b : ℕ) → a < 256 ^ n → b < 256 ^ n → ((i : ℕ) → i < n → byte_of a i ≡ byte_of b i) → a ≡ b
same_from_bytes zero a b p q same = omega (arith, p, q)
same_from_bytes (suc n) a b p q same =
    let first : a / 1 % 256 ≡ b / 1 % 256 = same zero (omega arith) in
    let low : a % 256 ≡ b % 256 = omega (arith, first) in
    let more : 256 ^ suc n ≡ 256 * 256 ^ n = omega arith in
    let high : a / 256 ≡ b / 256 = same_from_bytes n (a / 256) (b / 256) (omega (arith, p, more)) (omega (arith, q, more)) (λ i lt. sym (byte_next a i) ∙ same (suc i) (omega arith) ∙ byte_next b i) in
    omega (arith, low, high)

-- of a number below a product, the digits from a on
digits_from : (m a b : ℕ) → 0 < a → 0 < b → m % (a * b) / a ≡ m / a % b
digits_from m a b pa pb = ap (λ n. m % n / a) (mul_comm a b) ∙ ap (λ n. n / a) (mod-mul m {m = b} {c = a} pb pa) ∙ div-mul-add (m / a % b) a (m % a) (mod_below m a pa)

-- the lowest digit of what is left of a number
lowest_of : (m b c : ℕ) → 0 < b → 0 < c → m % (b * c) % b ≡ m % b
lowest_of m b c pb pc = ap (λ n. m % n % b) (mul_comm b c) ∙ ap (λ n. n % b) (mod-mul m {m = c} {c = b} pc pb) ∙ mod-mul-add (m / b % c) b (m % b) (mod_below m b pb)

-- a byte of the low bytes of a number
pub byte_of_low : (m n j : ℕ) → j < n → byte_of (m % 2 ^ (8 * n)) j ≡ byte_of m j
byte_of_low m n j lt =
    let a = 2 ^ (8 * j) in
    let c = 2 ^ (8 * (n - (j + 1))) in
    let e : 8 * n ≡ 8 * j + (8 + 8 * (n - (j + 1))) = omega arith in
    let split : 2 ^ (8 * n) ≡ a * (256 * c) = ap (λ k. 2 ^ k) e ∙ pow-add 2 (8 * j) (8 + 8 * (n - (j + 1))) ∙ ap (λ k. a * k) (pow-add 2 8 (8 * (n - (j + 1)))) in
    ap (λ k. m % k / a % 256) split
    ∙ ap (λ k. k % 256) (digits_from m a (256 * c) (pow_pos (8 * j)) (positive 256 c (lit< tt) (pow_pos (8 * (n - (j + 1))))))
    ∙ lowest_of (m / a) 256 c (lit< tt) (pow_pos (8 * (n - (j + 1))))

-- a byte of a part
pub byte_of_part : (w p n j : ℕ) → j < n → byte_of (part_of w p n) j ≡ byte_of w (p + j)
byte_of_part w p n j lt =
    let e : 8 * (p + j) ≡ 8 * p + 8 * j = omega arith in
    byte_of_low (w / 2 ^ (8 * p)) n j lt ∙ ap (λ k. k % 256) (div-div-eq-div-mul w (2 ^ (8 * p)) (2 ^ (8 * j)) ∙ ap (λ k. w / k) (sym (ap (λ k. 2 ^ k) e ∙ pow-add 2 (8 * p) (8 * j))))

-- a part that is written shows the value's bytes, and leaves the others
pub put_byte_below : (w p n v i : ℕ) → i < p → byte_of (with_part w p n v) i ≡ byte_of w i
put_byte_below w p n v i lt = words_below w i 1 p n v (omega arith)

pub put_byte_above : (w p n v i : ℕ) → p + n ≤ i → byte_of (with_part w p n v) i ≡ byte_of w i
put_byte_above w p n v i le = words_above w p n v i 1 le

pub put_byte_inside : (w p n v j : ℕ) → j < n → byte_of (with_part w p n v) (p + j) ≡ byte_of v j
put_byte_inside w p n v j lt = sym (byte_of_part (with_part w p n v) p n j lt) ∙ ap (λ x. byte_of x j) (words_same w p n v) ∙ byte_of_low v n j lt
