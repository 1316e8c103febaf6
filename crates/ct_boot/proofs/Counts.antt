-- The numbers of an image's entries are sums over the members before.
use Rattle.std.proofs.Common.{ℕ, zero, suc, ◌≡◌, ◌+◌, ◌<◌, ◌≤◌, List, [], ◌∷◌, length, take, refl, arith}
use Rattle.def_image.specs.Parts.{ThreadRow, PartsRow}
use Rattle.def_image.specs.Members.{number_in, compartment_entries, library_entries, first_stack, stack_number}
use Rattle.def_image.specs.Sizes.{sum_of}

-- ---- sums

pub number_at : {A : Type 0} (entries : A → ℕ) (n : ℕ) (xs : List A) (i : ℕ) → i < length xs → number_in entries n xs i ≡ n + sum_of entries (take i xs)
number_at entries n [] i lt = absurd (omega (arith, lt))
number_at entries n (x ∷ xs) zero lt = omega arith
number_at entries n (x ∷ xs) (suc i) lt = let more = number_at entries (n + entries x) xs i (omega (arith, lt)) in omega (arith, more)

ones : {A : Type 0} (xs : List A) (i : ℕ) → i ≤ length xs → sum_of (λ x. 1) (take i xs) ≡ i
ones xs zero le = refl
ones [] (suc i) le = absurd (omega (arith, le))
ones (x ∷ xs) (suc i) le = let more = ones xs i (omega (arith, le)) in omega (arith, more)

pub stack_at : (p : PartsRow) (t : ℕ) → t < length p.threads → stack_number p t ≡ 1 + sum_of compartment_entries p.compartments + sum_of library_entries p.libraries + t
stack_at p t lt =
    let at = number_at (λ (x : ThreadRow). 1) (first_stack p) p.threads t lt in
    let one = ones p.threads t (omega (arith, lt)) in
    omega (arith, at, one)
