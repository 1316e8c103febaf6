-- What is asked of an image, as checks in the order of their places. The four lists of them stand in Limits, of its
-- fields, and in Lying, Indexes and Rights, of the parts that these fields stand for.
use Rattle.std.specs.Prelude.{ℕ, ◌+◌, ◌++◌, Bool, List, [], ◌∷◌, Option, Some, None, if◌then◌else◌}
use Rattle.def_image.specs.declared.Check.{Check}

abbrev pub check : ℕ → Bool → Check
check place fails = record { place = place; fails = fails }

-- What is asked of a list: of each member, at its place, which follows those of the members before it, and with these
-- known.
unfoldable pub walked : {A : Type 0} → (ℕ → List A → A → List Check) → (A → ℕ) → ℕ → List A → List A
    → List Check
walked asked size at earlier [] = []
walked asked size at earlier (x ∷ xs) =
    asked at earlier x ++ walked asked size (at + size x) (earlier ++ x ∷ []) xs

-- the place of the first that fails
unfoldable pub first : List Check → Option ℕ
first [] = None
first (c ∷ cs) = if c.fails then Some c.place else first cs
