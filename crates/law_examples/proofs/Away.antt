-- The small firmware's roots are away from its heap.
use Rattle.std.proofs.Common.{ℕ, ◌≡◌, ◌||◌, inl, nat_le, true, not, refl}
use Rattle.std.proofs.lemmas.Bool.{leb-true}
use Rattle.def_reach.specs.Roots.{root_of, gate_for, is_root}
use Rattle.def_machine.specs.Image.{root}
use Rattle.law_examples.specs.Small.{small}
use Rattle.law_lists.proofs.Tests.{by_test, implied}
use Rattle.def_confined.specs.Facts.{RootsAway}

pub roots_away : RootsAway small
unfolding root_of gate_for
roots_away n is = inl (leb-true (root small n).top small.heap_base (implied (is_root (root small n).origin) (nat_le (root small n).top small.heap_base) (told n) is))
  where
    told : (k : ℕ) → (not (is_root (root small k).origin) || nat_le (root small k).top small.heap_base) ≡ true
    told = by_test (λ k. not (is_root (root small k).origin) || nat_le (root small k).top small.heap_base) 19 refl (λ j. refl)
