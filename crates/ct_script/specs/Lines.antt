-- The lines of a script as they are kept: steps and what is given, place by place.
use Rattle.std.specs.Prelude.{ℕ, ◌≡◌, ◌+◌, ◌-◌, ◌<◌, ◌≤◌, ◌++◌, ◌⊎◌, IsSome, None, List, [], ◌∷◌, AllPairs, Contains, map, flat_map, length, slice_index_or}
use Rattle.ct_entry.specs.Listed.{DeviceRow}
use Rattle.def_script.specs.declared.Given.{Given}
use Rattle.def_script.specs.declared.ScriptFault.{ScriptFault}
use Rattle.def_script.specs.declared.ScriptFault.TheVariants.{At, NoMemory}
use Rattle.def_script.specs.Script.{Row, IsScript, Due, BeginsWithRow, NoScriptLine, due, input_device_named, spelled_row}

pub record LinesRow : Type 0 where
  pub steps : List ℕ
  pub givens : List Given

-- place by place, as far as both go
abbrev pub dues_of : List ℕ → List Given → List Due
dues_of [] givens = []
dues_of (s ∷ steps) [] = []
dues_of (s ∷ steps) (g ∷ givens) = record { step = s; given = g } ∷ dues_of steps givens

abbrev pub NeverFalls : List ℕ → Type 0
NeverFalls steps = AllPairs (λ a b. a ≤ b) steps

pub record AreLines (l : LinesRow) : Type 0 where
  pub even : length l.steps ≡ length l.givens
  pub order : NeverFalls l.steps

-- steps before this place are less, steps from it on aren't
pub record IsFirstFrom (steps : List ℕ) (step place : ℕ) : Type 0 where
  pub inside : place ≤ length steps
  pub less : (k : ℕ) → k < place → slice_index_or steps k 0 < step
  pub rest : (k : ℕ) → place ≤ k → k < length steps → step ≤ slice_index_or steps k 0

-- Of so many numbers from this one on none is a step of these; where they are fewer than may be, the next one is.
pub record IsGap (steps : List ℕ) (from most count : ℕ) : Type 0 where
  pub fits : count ≤ most
  pub none : (k : ℕ) → k < length steps
      → (slice_index_or steps k 0 < from) ⊎ (from + count ≤ slice_index_or steps k 0)
  pub next : count < most → Contains steps (from + count)

abbrev pub step_of : Row → ℕ
step_of r = r.step

abbrev pub given_of : List DeviceRow → Row → Given
given_of devices r = (due devices r).given

-- the last step, 0 where there is none
abbrev pub last_of : List ℕ → ℕ
last_of steps = slice_index_or steps (length steps - 1) 0

abbrev pub with_line : LinesRow → ℕ → Given → LinesRow
with_line l step given = record { steps = l.steps ++ step ∷ []; givens = l.givens ++ given ∷ [] }

-- a line begins what is left, breaks no rule after these, and is kept
pub record Takes (devices : List DeviceRow) (old new : LinesRow) (left rest : List ℕ) : Type 0 where
  pub row : Row
  pub begins : BeginsWithRow left row rest
  pub order : last_of old.steps ≤ row.step
  pub named : IsSome (input_device_named devices row.name)
  pub kept : new ≡ with_line old row.step (given_of devices row)

-- a line begins what is left, whose step is less than the last
pub record Late (steps left : List ℕ) : Type 0 where
  pub next : Row
  pub rest : List ℕ
  pub begins : BeginsWithRow left next rest
  pub falls : next.step < last_of steps

-- a line begins what is left, whose step isn't, but whose name is no device's that takes bytes
pub record Lost (devices : List DeviceRow) (steps left : List ℕ) : Type 0 where
  pub next : Row
  pub rest : List ℕ
  pub begins : BeginsWithRow left next rest
  pub order : last_of steps ≤ next.step
  pub unknown : input_device_named devices next.name ≡ None

abbrev pub IsRefusal : List DeviceRow → LinesRow → List ℕ → ScriptFault → Type 0
IsRefusal devices old left (At number line) =
    (line ≡ length old.steps + 1)
    × (((number ≡ 1) × NoScriptLine left) ⊎ ((number ≡ 2) × Late old.steps left)
    ⊎ ((number ≡ 3) × Lost devices old.steps left))
IsRefusal devices old left NoMemory = Unit {0}

-- the lines kept are those of a script that the text before what is left spells
pub record Going (devices : List DeviceRow) (text : List ℕ) (l : LinesRow) (left : List ℕ) : Type 0
  where
    pub rows : List Row
    pub script : IsScript devices rows
    pub text_is : text ≡ flat_map spelled_row rows ++ left
    pub steps : l.steps ≡ map step_of rows
    pub givens : l.givens ≡ map (given_of devices) rows
    pub short : length rows + length left ≤ length text
