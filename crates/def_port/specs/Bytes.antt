-- What a sink's bytes are after a write, where it tells them, and when a count of faults has risen.
use Rattle.std.specs.Prelude.{◌≡◌, ℕ, ◌+◌, ◌-◌, ◌^◌, ◌≤◌, min, List, ◌++◌, Option, Some, None}

-- The count rose in a call. It never falls, stands still at 2^64 - 1, and counts as risen there.
abbrev pub FaultsRose : ℕ → ℕ → Type 0
FaultsRose before now = (before ≤ now) × (min (before + 1) (2 ^ 64 - 1) ≤ now)

-- what is seen of a sink: its bytes, where it tells them, and its count of faults
pub record SinkView : Type 0 where
  pub bytes : Option (List ℕ)
  pub faults : ℕ

-- the whole text was added; of a sink that doesn't tell its bytes this says nothing
abbrev pub Appends : Option (List ℕ) → Option (List ℕ) → List ℕ → Type 0
Appends None new text = Unit {0}
Appends (Some before) new text = new ≡ Some (before ++ text)

-- the beginning of a text was added
pub record AppendsPart (old new : Option (List ℕ)) (text : List ℕ) : Type 0 where
  pub part : List ℕ
  pub rest : List ℕ
  pub whole : part ++ rest ≡ text
  pub added : Appends old new part

-- the beginning of a text was added, and this is left of it
pub record AppendsBefore (old new : Option (List ℕ)) (left text : List ℕ) : Type 0 where
  pub part : List ℕ
  pub whole : part ++ left ≡ text
  pub added : Appends old new part
