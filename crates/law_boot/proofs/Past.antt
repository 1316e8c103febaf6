-- What is read past the end of a list.
use Rattle.std.proofs.Common.{ℕ, zero, suc, ◌≡◌, ◌+◌, ◌≤◌, List, [], ◌∷◌, length, refl, arith}
use Rattle.std.proofs.Math.ListN.{get_or}
use Rattle.def_boot.specs.Contents.{word_from_bytes}

pub byte_past : (bytes : List ℕ) (k : ℕ) → length bytes ≤ k → get_or bytes k 0 ≡ 0
byte_past [] k past = refl
byte_past (b ∷ bs) zero past = absurd (omega (arith, past))
byte_past (b ∷ bs) (suc k) past = byte_past bs k (omega (arith, past))

pub word_past : (bytes : List ℕ) (k : ℕ) → length bytes ≤ k → word_from_bytes bytes k ≡ 0
word_past bytes k past =
    let b0 = byte_past bytes k past in
    let b1 = byte_past bytes (k + 1) (omega (arith, past)) in
    let b2 = byte_past bytes (k + 2) (omega (arith, past)) in
    let b3 = byte_past bytes (k + 3) (omega (arith, past)) in
    let b4 = byte_past bytes (k + 4) (omega (arith, past)) in
    let b5 = byte_past bytes (k + 5) (omega (arith, past)) in
    let b6 = byte_past bytes (k + 6) (omega (arith, past)) in
    let b7 = byte_past bytes (k + 7) (omega (arith, past)) in
    omega (arith, b0, b1, b2, b3, b4, b5, b6, b7)
