-- What an allocation and a free make of the heap's rows, in plain facts.
use Rattle.std.specs.Prelude.{ℕ, ◌≡◌, ◌≤◌, ◌<◌, ◌++◌, false, List, ◌∷◌, Some, length, slice_get}
use Rattle.def_machine.specs.Objects.{Each}
use Rattle.def_machine.specs.State.{Object}

-- An object stands among those before, which keep their order: behind all that begin no later, up to the first that
-- begins later.
pub record IsPutAmong (r : Object) (old new : List Object) : Type 0 where
  pub low : List Object
  pub high : List Object
  pub old_is : old ≡ low ++ high
  pub new_is : new ≡ low ++ r ∷ high
  pub earlier : Each (λ q. q.base ≤ r.base) low
  pub later : (q : Object) (qs : List Object) → high ≡ q ∷ qs → r.base < q.base

-- the rows of this number aren't live any more, and all else of each row is as it was
pub record IsTakenBack (number : ℕ) (old new : List Object) : Type 0 where
  pub size : length new ≡ length old
  pub taken : (k : ℕ) (r : Object) → slice_get old k ≡ Some r → r.number ≡ number
      → slice_get new k ≡ Some (record r { live = false })
  pub others : (k : ℕ) (r : Object) → slice_get old k ≡ Some r → (r.number ≡ number → ⊥)
      → slice_get new k ≡ Some r
