-- A number with one digit replaced: a is the weight of the digit, b the base that it is below.
use Rattle.std.proofs.Common.{ℕ, ◌≡◌, ◌+◌, ◌*◌, ◌/◌, ◌%◌, ◌<◌, ◌≤◌, sym, ap, ◌∙◌, arith}
use Rattle.std.proofs.Math.Nat.{div-div-eq-div-mul, mul_assoc, mul_comm, add-mul, mul-le-mul_right}
use Rattle.std.proofs.Math.Arith.{mod-mul}
use Rattle.std.proofs.lemmas.Nat.{mod_below, div-mul-add, mod-mul-add}

abbrev pub put : ℕ → ℕ → ℕ → ℕ → ℕ
put w a b v = w / (a * b) * (a * b) + v * a + w % a

pub positive : (a b : ℕ) → 0 < a → 0 < b → 0 < a * b
positive a b pa pb = omega (arith, mul-le-mul_right {m = 1} {n = a} b pa)

-- as digits: the lower ones, and all from the replaced one up
pub put_low : (w a b v : ℕ) → put w a b v ≡ (w / (a * b) * b + v) * a + w % a
put_low w a b v =
    let group : w / (a * b) * (a * b) ≡ w / (a * b) * b * a = ap (λ n. w / (a * b) * n) (mul_comm a b) ∙ sym (mul_assoc (w / (a * b)) b a) in
    let parts : (w / (a * b) * b + v) * a ≡ w / (a * b) * b * a + v * a = add-mul (w / (a * b) * b) v a in
    omega arith

pub low_same : (w a b v : ℕ) → 0 < a → put w a b v % a ≡ w % a
low_same w a b v pa = rw (put_low w a b v) (mod-mul-add (w / (a * b) * b + v) a (w % a) (mod_below w a pa))

shifted : (w a b v : ℕ) → 0 < a → put w a b v / a ≡ w / (a * b) * b + v
shifted w a b v pa = rw (put_low w a b v) (div-mul-add (w / (a * b) * b + v) a (w % a) (mod_below w a pa))

pub part_same : (w a b v : ℕ) → 0 < a → v < b → put w a b v / a % b ≡ v
part_same w a b v pa small = rw (shifted w a b v pa) (mod-mul-add (w / (a * b)) b v small)

pub high_same : (w a b v : ℕ) → 0 < a → v < b → put w a b v / (a * b) ≡ w / (a * b)
high_same w a b v pa small =
    sym (div-div-eq-div-mul (put w a b v) a b) ∙ ap (λ n. n / b) (shifted w a b v pa) ∙ div-mul-add (w / (a * b)) b v small

-- a digit above k is replaced above k
pub put_above : (w k c d v : ℕ) → 0 < k → 0 < c → put w (k * c) d v ≡ put (w / k) c d v * k + w % k
put_above w k c d v pk pc =
    let rest : w % (k * c) ≡ w / k % c * k + w % k = ap (λ n. w % n) (mul_comm k c) ∙ mod-mul w pc pk in
    let group : k * c * d ≡ c * d * k = mul_assoc k c d ∙ mul_comm k (c * d) in
    let high : w / (k * c * d) ≡ w / k / (c * d) = ap (λ n. w / n) (mul_assoc k c d) ∙ sym (div-div-eq-div-mul w k (c * d)) in
    let first : w / (k * c * d) * (k * c * d) ≡ w / k / (c * d) * (c * d) * k =
    ap (λ n. n * (k * c * d)) high ∙ ap (λ n. w / k / (c * d) * n) group ∙ sym (mul_assoc (w / k / (c * d)) (c * d) k) in
    let second : v * (k * c) ≡ v * c * k = ap (λ n. v * n) (mul_comm k c) ∙ sym (mul_assoc v c k) in
    let spread : put (w / k) c d v * k ≡ (w / k / (c * d) * (c * d) + v * c) * k + w / k % c * k = add-mul (w / k / (c * d) * (c * d) + v * c) (w / k % c) k in
    let spread_more : (w / k / (c * d) * (c * d) + v * c) * k ≡ w / k / (c * d) * (c * d) * k + v * c * k = add-mul (w / k / (c * d) * (c * d)) (v * c) k in
    omega arith

pub below_same : (w k c d v : ℕ) → 0 < k → 0 < c → put w (k * c) d v % k ≡ w % k
below_same w k c d v pk pc = rw (put_above w k c d v pk pc) (mod-mul-add (put (w / k) c d v) k (w % k) (mod_below w k pk))

above_same : (w k c d v : ℕ) → 0 < k → 0 < c → put w (k * c) d v / k ≡ put (w / k) c d v
above_same w k c d v pk pc = rw (put_above w k c d v pk pc) (div-mul-add (put (w / k) c d v) k (w % k) (mod_below w k pk))

-- a digit below is read as it was
pub part_below : (w a b c d v : ℕ) → 0 < a → 0 < b → 0 < c → put w (a * b * c) d v / a % b ≡ w / a % b
part_below w a b c d v pa pb pc =
    let k = a * b in
    let pk : 0 < a * b = positive a b pa pb in
    let same : put w (a * b * c) d v % (a * b) ≡ w % (a * b) = below_same w (a * b) c d v pk pc in
    let of_new : put w (a * b * c) d v % (a * b) ≡ put w (a * b * c) d v / a % b * a + put w (a * b * c) d v % a = ap (λ n. put w (a * b * c) d v % n) (mul_comm a b) ∙ mod-mul (put w (a * b * c) d v) pb pa in
    let of_old : w % (a * b) ≡ w / a % b * a + w % a = ap (λ n. w % n) (mul_comm a b) ∙ mod-mul w pb pa in
    let joined : put w (a * b * c) d v / a % b * a + put w (a * b * c) d v % a ≡ w / a % b * a + w % a = sym of_new ∙ same ∙ of_old in
    sym (div-mul-add (put w (a * b * c) d v / a % b) a (put w (a * b * c) d v % a) (mod_below (put w (a * b * c) d v) a pa))
    ∙ ap (λ n. n / a) joined ∙ div-mul-add (w / a % b) a (w % a) (mod_below w a pa)

-- a digit above is read as it was
pub part_above : (w a b c d v : ℕ) → 0 < a → v < b → put w a b v / (a * b * c) % d ≡ w / (a * b * c) % d
part_above w a b c d v pa small =
    ap (λ n. n % d) (sym (div-div-eq-div-mul (put w a b v) (a * b) c) ∙ ap (λ n. n / c) (high_same w a b v pa small) ∙ div-div-eq-div-mul w (a * b) c)

-- two digits, replaced in either order
pub put_comm : (w a b c d v u : ℕ) → 0 < a → 0 < c → v < b → put (put w a b v) (a * b * c) d u ≡ put (put w (a * b * c) d u) a b v
put_comm w a b c d v u pa pc small =
    let pb : 0 < b = omega arith in
    let pk : 0 < a * b = positive a b pa pb in
    let first : put (put w a b v) (a * b * c) d u ≡ put (put w a b v / (a * b)) c d u * (a * b) + put w a b v % (a * b) = put_above (put w a b v) (a * b) c d u pk pc in
    let high : put w a b v / (a * b) ≡ w / (a * b) = high_same w a b v pa small in
    let low_fits : v * a + w % a < a * b =
    let next : v + 1 ≤ b = omega arith in
    let wide : (v + 1) * a ≤ b * a = mul-le-mul_right a next in
    let turned : b * a ≡ a * b = mul_comm b a in
    let opened : (v + 1) * a ≡ v * a + 1 * a = add-mul v 1 a in
    omega (arith, mod_below w a pa) in
    let low : put w a b v % (a * b) ≡ v * a + w % a =
    let group : put w a b v ≡ w / (a * b) * (a * b) + (v * a + w % a) = omega arith in
    rw group (mod-mul-add (w / (a * b)) (a * b) (v * a + w % a) low_fits) in
    let up : put w (a * b * c) d u / (a * b) ≡ put (w / (a * b)) c d u = above_same w (a * b) c d u pk pc in
    let down : put w (a * b * c) d u % a ≡ w % a =
    let as_two : put w (a * b * c) d u ≡ put w (a * (b * c)) d u = ap (λ n. put w n d u) (mul_assoc a b c) in
    rw as_two (below_same w a (b * c) d u pa (positive b c pb pc)) in
    let left : put (put w a b v) (a * b * c) d u ≡ put (w / (a * b)) c d u * (a * b) + (v * a + w % a) =
    first ∙ ap (λ n. put n c d u * (a * b) + put w a b v % (a * b)) high ∙ ap (λ n. put (w / (a * b)) c d u * (a * b) + n) low in
    let right : put (put w (a * b * c) d u) a b v ≡ put (w / (a * b)) c d u * (a * b) + v * a + w % a =
    ap (λ n. n * (a * b) + v * a + put w (a * b * c) d u % a) up ∙ ap (λ n. put (w / (a * b)) c d u * (a * b) + v * a + n) down in
    omega arith
