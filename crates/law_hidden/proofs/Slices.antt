-- A slice of memory with hidden granules is the slice of memory, with them hidden.
use Rattle.std.proofs.Common.{ℕ, suc, ◌≡◌, ◌+◌, inl, inr, ◌&&◌, Bool, true, false, cond, nat_le, nat_lt, List, [], ◌∷◌, length, refl, sym, ap, ◌∙◌}
use Rattle.law_lists.proofs.Tests.{bool_tells}
use Rattle.def_words.specs.declared.Cap.{Cap}
use Rattle.def_memory.specs.declared.Granule.{Granule}
use Rattle.def_memory.specs.Granules.{plain}
use Rattle.def_hidden.specs.Hiding.{hide, with_hidden, with_hidden_from}
use Rattle.law_hidden.proofs.Steps.{filtered_same}
use Rattle.def_machine.specs.Slices.{filtered_between, kept_granules}

-- the same is kept where the same stands
pub kept_same : (f k : ℕ → Cap → Cap) → ((n : ℕ) (c : Cap) → f n c ≡ k n c) → (n : ℕ) (gs : List Granule) → kept_granules f n gs ≡ kept_granules k n gs
kept_same f k same n [] = refl
kept_same f k same n (g ∷ gs) = rw (same n g.cap, kept_same f k same (n + 8) gs) refl

pub kept_length : (f : ℕ → Cap → Cap) (n : ℕ) (gs : List Granule) → length (kept_granules f n gs) ≡ length gs
kept_length f n [] = refl
kept_length f n (g ∷ gs) = ap (λ m. suc m) (kept_length f (n + 8) gs)

-- the filter sees marks alone, which are seen
pub passed_same : (v : ℕ → Bool) (ram : ℕ) (gs : List Granule) (low high n : ℕ) (c : Cap) → filtered_between ram (with_hidden v gs) low high n c ≡ filtered_between ram gs low high n c
passed_same v ram gs low high n c = ap (λ x. cond (nat_le low n && nat_lt n high) x c) (filtered_same v ram gs c)

-- zero passes
pub zero_passes : (ram : ℕ) (gs : List Granule) (low high n : ℕ) → filtered_between ram gs low high n (plain 0) ≡ plain 0
zero_passes ram gs low high n = elim (bool_tells (nat_le low n && nat_lt n high)) [ inl e ↦ rw e refl | inr e ↦ rw e refl ]

swaps : (f : Cap → Cap) → f (plain 0) ≡ plain 0 → (b : Bool) (g : Granule) → (let x : Granule = record (hide b g) { cap = f (hide b g).cap } in x) ≡ hide b (record g { cap = f g.cap })
swaps f zero_ true g = ap (λ c. let x : Granule = record { cap = c; mark = g.mark } in x) zero_
swaps f zero_ false g = refl

kept_with_hidden_from : (f : ℕ → Cap → Cap) → ((n : ℕ) → f n (plain 0) ≡ plain 0) → (v : ℕ → Bool) (n k : ℕ) (gs : List Granule)
    → kept_granules f n (with_hidden_from v k gs) ≡ with_hidden_from v k (kept_granules f n gs)
kept_with_hidden_from f zero_ v n k [] = refl
kept_with_hidden_from f zero_ v n k (g ∷ gs) =
    ap (λ x. x ∷ kept_granules f (n + 8) (with_hidden_from v (k + 1) gs)) (swaps (λ c. f n c) (zero_ n) (v k) g)
    ∙ ap (λ xs. hide (v k) (record g { cap = f n g.cap }) ∷ xs) (kept_with_hidden_from f zero_ v (n + 8) (k + 1) gs)

pub slice_with_hidden : (v : ℕ → Bool) (ram : ℕ) (gs : List Granule) (low high : ℕ)
    → kept_granules (λ n c. filtered_between ram (with_hidden v gs) low high n c) 0 (with_hidden v gs) ≡ with_hidden v (kept_granules (λ n c. filtered_between ram gs low high n c) 0 gs)
unfolding with_hidden
slice_with_hidden v ram gs low high =
    kept_same (λ n c. filtered_between ram (with_hidden v gs) low high n c) (λ n c. filtered_between ram gs low high n c) (λ n c. passed_same v ram gs low high n c) 0 (with_hidden_from v 0 gs)
    ∙ kept_with_hidden_from (λ n c. filtered_between ram gs low high n c) (λ n. zero_passes ram gs low high n) v 0 0 gs
