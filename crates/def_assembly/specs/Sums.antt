-- The lengths of statements and their sums, said of a whole list by the numbers of its statements, from 0.
use Rattle.std.specs.Prelude.{ℕ, zero, suc, ◌≡◌, ◌+◌, ◌<◌, true, false, if◌then◌else◌, [], ◌∷◌, take, Some, slice_get}
use Rattle.def_source.specs.declared.parts.Section.{Section}
use Rattle.def_source.specs.declared.parts.Section.TheVariants as section
use Rattle.def_source.specs.declared.parts.Statement.{Statement}
use Rattle.def_source.specs.Source.{Name, Statements, section_after}
use Rattle.def_object.specs.declared.Label.{Label}
use Rattle.def_object.specs.Object.{size_at, is_label, same_section}

-- the section after statements that begin in one: what the last directive says, else the same
abbrev pub section_past : Section → Statements → Section
section_past s [] = s
section_past s (x ∷ xs) = section_past (section_after s (Some x.part)) xs

-- the section in which statement k stands
abbrev pub section_at : Statements → ℕ → Section
section_at all k = section_past section.Text (take k all)

-- of the first k statements, the lengths of those that stand in a section, added up
abbrev pub total_before : (ℕ → Section) → (ℕ → ℕ) → Section → ℕ → ℕ
total_before stands sizes s zero = 0
total_before stands sizes s (suc k) =
    total_before stands sizes s k + (if same_section (stands k) s then sizes k else 0)

-- the lengths of statements: a statement's length goes by what it is and, where it aligns, by how
-- many bytes of its section stand before it
pub record AreSizes (all : Statements) (sizes : ℕ → ℕ) : Type 0 where
  pub each : (k : ℕ) (x : Statement Name) → slice_get all k ≡ Some x
      → sizes k ≡ size_at x.part (total_before (section_at all) sizes (section_at all k) k)

-- statement k is a label of that name, and none before it is
pub record IsFirst (all : Statements) (name : Name) (k : ℕ) : Type 0 where
  pub statement : Statement Name
  pub there : slice_get all k ≡ Some statement
  pub names : is_label name statement.part ≡ true
  pub first : (i : ℕ) (x : Statement Name) → i < k → slice_get all i ≡ Some x
      → is_label name x.part ≡ false

-- a label of that name: the first, in the section where it stands, at the sum of the lengths before it
pub record IsPlaced (all : Statements) (sizes : ℕ → ℕ) (name : Name) (l : Label) : Type 0 where
  pub first : IsFirst all name l.index
  pub stands : l.section ≡ section_at all l.index
  pub value : l.offset ≡ total_before (section_at all) sizes l.section l.index
