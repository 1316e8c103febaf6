-- From tests to facts.
use Rattle.std.proofs.Common.{ℕ, zero, suc, ◌≡◌, ◌<◌, true, false, nat_le, List, [], ◌∷◌, take, Some, slice_get, arith}
use Rattle.std.specs.Int.{is_in_range}
use Rattle.std.proofs.lemmas.Bool.{not-false, leb-true}
use Rattle.law_lists.proofs.Tests.{both_left, both_right}
use Rattle.def_image.specs.Profile.{outside}
use Rattle.def_image.specs.Sound.{IsWithin}

pub within_is : (low high n : ℕ) → outside low high n ≡ false → IsWithin low high n
within_is low high n e =
    let both : is_in_range low high n ≡ true = not-false (is_in_range low high n) e in
    (leb-true low n (both_left (nat_le low n) (nat_le n high) both), leb-true n high (both_right (nat_le low n) (nat_le n high) both))

pub among_taken : {A : Type 0} (xs : List A) (i j : ℕ) (x : A) → i < j → slice_get xs i ≡ Some x → slice_get (take j xs) i ≡ Some x
among_taken [] i j x lt is = cc
among_taken (y ∷ ys) zero zero x lt is = absurd (omega (arith, lt))
among_taken (y ∷ ys) zero (suc j) x lt is = is
among_taken (y ∷ ys) (suc i) zero x lt is = absurd (omega (arith, lt))
among_taken (y ∷ ys) (suc i) (suc j) x lt is = among_taken ys i j x (omega (arith, lt)) is
