-- What *Clean calls* stand on: what holds of each register, by its number, and that a stack is zeroed.
use Rattle.std.proofs.Common.{ℕ, zero, suc, ◌≡◌, ◌≤◌, ◌<◌, inl, inr, List, [], ◌∷◌, Option, refl, arith}
use Rattle.std.proofs.Math.ListN.{get_or}
use Rattle.law_granules.proofs.Lists.{zeroed_at}
use Rattle.def_words.specs.declared.Cap.{Cap}
use Rattle.def_memory.specs.Granules.{blank}
use Rattle.def_machine.specs.Image.{Image, address_of, stack_base}
use Rattle.def_machine.specs.State.{State, Thread, granule}
use Rattle.def_machine.specs.Frames.{switched}

abbrev pub EachAt : (ℕ → Cap → Type 0) → List Cap → Type 0
EachAt P [] = Unit {0}
EachAt P (x ∷ xs) = P zero x × EachAt (λ n. P (suc n)) xs

-- what holds of each place of a list, by its number
pub all_at : (P : ℕ → Cap → Type 0) (xs : List Cap) (z : Cap) → ((n : ℕ) → P n z) → EachAt P xs → (n : ℕ) → P n (get_or xs n z)
all_at P [] z none h n = none n
all_at P (x ∷ xs) z none h zero = h.0
all_at P (x ∷ xs) z none h (suc n) = all_at (λ m. P (suc m)) xs z (λ m. none (suc m)) h.1 n

-- a stack that is zeroed
pub stack_zero : (i : Image) (s : State) (t high : ℕ) (new : Thread) (run : Option ℕ) (k : ℕ) → stack_base i t ≤ address_of i k → address_of i k < high → granule (switched i s t high new run) k ≡ blank (granule s k)
stack_zero i s t high new run k low below = zeroed_at (stack_base i t) high i.ram s.granules k (λ g. g ≡ blank (granule s k)) (λ a b. refl)
    (λ o. absurd (elim o [ inl a ↦ omega (arith, a, low) | inr b ↦ omega (arith, b, below) ]))
