-- Which frames of a thread are handling, innermost first, and how an event changes that.
use Rattle.std.specs.Prelude.{ℕ, ◌≡◌, ◌⊎◌, Bool, true, false, List, ◌∷◌, map}
use Rattle.def_machine.specs.State.{State, Frame, thread}

abbrev pub handling_of : List Frame → List Bool
handling_of fs = map (λ (f : Frame). f.handling) fs

abbrev pub handling : State → ℕ → List Bool
handling s t = handling_of (thread s t).frames

-- the innermost frame has gone
pub record OneLess (old new : List Bool) : Type 0 where
  pub gone : Bool
  pub is : old ≡ gone ∷ new

-- the innermost frame, which wasn't handling, is
pub record OneHandles (old new : List Bool) : Type 0 where
  pub below : List Bool
  pub was : old ≡ false ∷ below
  pub is : new ≡ true ∷ below

abbrev pub HandlingGoes : List Bool → List Bool → Type 0
HandlingGoes old new =
    (new ≡ old) ⊎ ((new ≡ false ∷ old) ⊎ (OneLess old new ⊎ OneHandles old new))
