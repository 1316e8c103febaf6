-- An image has one spelling, and a spelling one image.
use Rattle.std.specs.Prelude.{ℕ, ◌≡◌, List}
use Rattle.def_image.specs.Raw.{RawImage}
use Rattle.def_image.specs.Parts.{PartsRow}
use Rattle.def_image.specs.Spelling.{image_bytes}
use Rattle.def_image.specs.Shapes.{IsSpellable}
use Rattle.def_image.specs.Accepted.{Spells}

-- bytes are cut into fields in one way
abbrev pub OneCut : Type 0
OneCut = (bytes : List ℕ) (r q : RawImage) → Spells r bytes → Spells q bytes → r ≡ q

-- and are the image of one list of parts
abbrev pub OneReading : Type 0
OneReading =
    (p q : PartsRow) → IsSpellable p → IsSpellable q → image_bytes p ≡ image_bytes q → p ≡ q
