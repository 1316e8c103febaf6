-- That bytes have one answer: an image, or one fault at one place; where an image's bytes end; and where its parts stand.
use Rattle.std.specs.Prelude.{ℕ, ◌≡◌, ◌+◌, ◌*◌, List, [], ◌++◌, length}
use Rattle.def_image.specs.declared.format.TheConstants.{THREAD}
use Rattle.def_image.specs.Raw.{RawImage}
use Rattle.def_image.specs.Parts.{PartsRow}
use Rattle.def_image.specs.Spelling.{spelled}
use Rattle.def_image.specs.Shapes.{IsShaped}
use Rattle.def_image.specs.Sizes.{threads_at}
use Rattle.def_image.specs.Accepted.{IsImage, FaultAt}

-- an image's bytes have no fault
abbrev pub ImagesHaveNoFault : Type 0
ImagesHaveNoFault =
    (bytes : List ℕ) (p : PartsRow) (number place : ℕ) → IsImage bytes p
    → FaultAt bytes number place → ⊥

-- other bytes have one
abbrev pub OneFault : Type 0
OneFault =
    (bytes : List ℕ) (n m k j : ℕ) → FaultAt bytes n k → FaultAt bytes m j → (n ≡ m) × (k ≡ j)

-- no fields' spelling goes on as another one does
abbrev pub EndsWhole : Type 0
EndsWhole =
    (r q : RawImage) (more : List ℕ) → IsShaped r → IsShaped q → spelled r ++ more ≡ spelled q
    → more ≡ []

-- the place after the last thread is the number of bytes
abbrev pub PlacesAreOffsets : Type 0
PlacesAreOffsets =
    (r : RawImage) → IsShaped r → length (spelled r) ≡ threads_at r + THREAD * length r.threads
