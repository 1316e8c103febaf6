-- The labels that a table holds, and the first of a name.
use Rattle.std.specs.Prelude.{◌≡◌, ◌≤◌, ◌+◌, ℕ, List, [], ◌∷◌, Option, Some, None, Bool, true, is_some, is_none, ◌++◌, if◌then◌else◌}
use Rattle.std.specs.Str.{bytes_eq}
use Rattle.def_source.specs.Source.{Name, Statements}
use Rattle.def_object.specs.declared.Label.{Label}
use Rattle.def_object.specs.declared.Place.{Place}
use Rattle.def_object.specs.Object.{Labels, offset, limit, second_fault, fault_in, label_in, text_of, initial_of}
use Rattle.def_source.specs.declared.AsmFault.{AsmFault}
use Rattle.def_source.specs.declared.AsmFault.TheVariants.{At, NoMemory}
use Rattle.def_source.specs.declared.parts.Part.{Part}
use Rattle.def_source.specs.declared.parts.Part.TheVariants as part

abbrev pub label_named : Name → List (Name × Label) → Option Label
label_named name [] = None
label_named name (row ∷ rows) = if bytes_eq name row.0 then Some row.1 else label_named name rows

-- the rows with a label, which goes last, unless its name is there
abbrev pub with_label : List (Name × Label) → Name → Label → List (Name × Label)
with_label rows name label = if is_some (label_named name rows) then rows else rows ++ (name, label) ∷ []

-- the rows after a statement at a place, which is number k
abbrev pub noted : List (Name × Label) → Place → ℕ → Part Name → List (Name × Label)
noted rows p k (part.Label name) =
    with_label rows name (record { section = p.section; offset = offset p; index = k })
noted rows p k _ = rows

-- whether a statement is no label whose name is there
abbrev pub is_new : List (Name × Label) → Part Name → Bool
is_new rows (part.Label name) = is_none (label_named name rows)
is_new rows _ = true

-- a statement, number k, that is no label but the first of its name
abbrev pub IsFirst : Labels → ℕ → Part Name → Type 0
IsFirst labels k (part.Label name) = second_fault k (labels name) ≡ None
IsFirst labels k _ = Unit {0}

-- statements, of which the first is number k
abbrev pub AreFirst : Labels → ℕ → Statements → Type 0
AreFirst labels k [] = Unit {0}
AreFirst labels k (s ∷ ss) = IsFirst labels k s.part × AreFirst labels (k + 1) ss

-- a label's name, and a line feed; of another part nothing
abbrev pub label_line : Part Name → List ℕ
label_line (part.Label name) = name ++ 10 ∷ []
label_line _ = []

-- the names of the labels in order, each on a line of its own
abbrev pub label_lines : Statements → List ℕ
label_lines [] = []
label_lines (s ∷ ss) = label_line s.part ++ label_lines ss

-- an object: its bytes, and the labels that it keeps
pub record Assembled : Type 0 where
  pub text : List ℕ
  pub init : List ℕ
  pub labels : List (Name × Label)

abbrev pub WithinLimit : Option Label → Type 0
WithinLimit None = Unit {0}
WithinLimit (Some l) = l.offset ≤ limit

-- no label of a section stands past the section's limit
abbrev pub AreWithin : List (Name × Label) → Type 0
AreWithin rows = (name : Name) → WithinLimit (label_named name rows)

-- what an object is to its statements: they have no fault, its bytes are theirs, and each label is the first of its
-- name
pub record IsAssembled (all : Statements) (slots : List Name) (o : Assembled) : Type 0 where
  pub faultless : fault_in all ≡ None
  pub text : o.text ≡ text_of all slots
  pub init : o.init ≡ initial_of all slots
  pub labels : (name : Name) → label_named name o.labels ≡ label_in all name

-- a fault that was answered is the least one
abbrev pub RefusesStatements : AsmFault → Statements → Type 0
RefusesStatements NoMemory all = Unit {0}
RefusesStatements (At number line) all = fault_in all ≡ Some (record { number = number; line = line })
