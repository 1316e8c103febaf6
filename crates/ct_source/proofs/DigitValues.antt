-- The value of digits, one more digit at a time.
use Rattle.std.proofs.Common.{◌≡◌, ℕ, ◌+◌, ◌*◌, ◌-◌, ◌<◌, ◌≤◌, ◌^◌, List, [], ◌∷◌, length, drop, get_or, nat_le, Some, None, refl, drop-cons, add-one, arith, sym, ◌∙◌, if◌then◌else◌, nat_lt}
use Rattle.std.proofs.Math.Nat.{le-mul_of_pos_right}
use Rattle.std.proofs.lemmas.List.{drop_all}
use Rattle.def_source.specs.Source.{value_from, digit}

pub value_at : (base n : ℕ) (ds : List ℕ) (i : ℕ) → i < length ds → value_from base n (drop i ds) ≡ value_from base (n * base + digit (get_or ds i 0)) (drop (i + 1) ds)
value_at base n ds i h = rw (add-one, drop-cons ds i 0) refl

-- digits never make a number less
pub value_grows : (base n : ℕ) (ds : List ℕ) → 1 ≤ base → n ≤ value_from base n ds
value_grows base n [] h = omega arith
value_grows base n (c ∷ cs) h =
    let more : n * base + digit c ≤ value_from base (n * base + digit c) cs = value_grows base (n * base + digit c) cs h in
    let times : n ≤ n * base = le-mul_of_pos_right n h in
    omega (arith, more, times)

pub too_great : (base n v : ℕ) (ds : List ℕ) (i : ℕ) → 1 ≤ base → i < length ds → value_from base n (drop i ds) ≡ v → 2 ^ 128 ≤ n * base + digit (get_or ds i 0) → (if nat_le v (2 ^ 128 - 1) then Some v else None) ≡ None
too_great base n v ds i hb hi e big =
    let grown : n * base + digit (get_or ds i 0) ≤ value_from base (n * base + digit (get_or ds i 0)) (drop (i + 1) ds) = value_grows base (n * base + digit (get_or ds i 0)) (drop (i + 1) ds) hb in
    let whole : value_from base (n * base + digit (get_or ds i 0)) (drop (i + 1) ds) ≡ v = sym (value_at base n ds i hi) ∙ e in
    let large : 2 ^ 128 ≤ v = omega (arith, grown, whole, big) in
    grind (arith, large)

-- a value that was reached by numbers that fit, fits
pub all_read : (base n v : ℕ) (ds : List ℕ) (i : ℕ) → length ds ≤ i → value_from base n (drop i ds) ≡ v → n < 2 ^ 128 → Some n ≡ (if nat_le v (2 ^ 128 - 1) then Some v else None)
all_read base n v ds i hi e small =
    let empty : drop i ds ≡ [] = drop_all i ds hi in
    let same : n ≡ v = rw empty at e in
    let fits : v ≤ 2 ^ 128 - 1 = omega (arith, same, small) in
    grind (arith, fits, same)

pub not_small : (n : ℕ) → None ≡ (if nat_lt n (2 ^ 128) then Some n else None) → 2 ^ 128 ≤ n
not_small n e = grind (arith, e)

pub small : (n m : ℕ) → Some m ≡ (if nat_lt n (2 ^ 128) then Some n else None) → (m ≡ n) × (m < 2 ^ 128)
small n m e = (grind (arith, e), grind (arith, e))
