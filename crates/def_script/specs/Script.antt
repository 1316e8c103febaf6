-- Which lines a script's text stands for, and what is wrong with a text that stands for none. A script is
-- spelled: each line is put together from what it says, so no text is taken apart here.
use Rattle.std.specs.Prelude.{ℕ, ◌≡◌, ◌+◌, ◌-◌, ◌==◌, ◌<◌, ◌≤◌, ◌&&◌, ◌⊎◌, ◌++◌, ◌∷◌, [], Bool, true, false, not, List, All, AllPairs, Option, None, IsSome, unwrap_or, map, filter, flat_map, length, position, slice_index_or, bytes_eq, decimal}
use Rattle.std.specs.List.{list_all}
use Rattle.ct_entry.specs.DeviceKinds.{takes_bytes}
use Rattle.ct_entry.specs.Listed.{DeviceRow}
use Rattle.def_profile.specs.declared.limits.TheConstants.{MOST_STEPS}
use Rattle.def_script.specs.declared.Given.{Given}
use Rattle.def_script.specs.declared.ScriptFault.{ScriptFault}
use Rattle.def_script.specs.declared.ScriptFault.TheVariants.{At, NoMemory}

-- ---- lines

-- what a line says: before which step which byte comes to the device of which name
pub record Row : Type 0 where
  pub step : ℕ
  pub name : List ℕ
  pub byte : ℕ

-- neither a space nor a line feed
abbrev pub is_field_byte : ℕ → Bool
is_field_byte c = not (c == 32) && not (c == 10)

-- steps count from 1, and a name is a run of bytes other than spaces and line feeds
pub record IsScriptRow (r : Row) : Type 0 where
  pub counted : 1 ≤ r.step
  pub within : r.step ≤ MOST_STEPS
  pub some : 0 < length r.name
  pub inner : list_all is_field_byte r.name ≡ true
  pub small : r.byte ≤ 255

-- step, name and byte with one space between, ended by a line feed; numbers are decimal without leading zeros
abbrev pub spelled_row : Row → List ℕ
spelled_row r = decimal r.step ++ 32 ∷ (r.name ++ 32 ∷ (decimal r.byte ++ 10 ∷ []))

-- ---- devices

abbrev pub is_named : List ℕ → DeviceRow → Bool
is_named name d = takes_bytes d.kind && bytes_eq d.name name

-- the index of the device that a name stands for
abbrev pub input_device_named : List DeviceRow → List ℕ → Option ℕ
input_device_named devices name = position (is_named name) devices

-- ---- a script

-- each line has its form, no step is less than one before, and each name is a device's
pub record IsScript (devices : List DeviceRow) (rows : List Row) : Type 0 where
  pub lines : All IsScriptRow rows
  pub order : AllPairs (λ a b. a.step ≤ b.step) rows
  pub named : All (λ r. IsSome (input_device_named devices r.name)) rows

-- a byte, and the step before which it comes
pub record Due : Type 0 where
  pub step : ℕ
  pub given : Given

abbrev pub due : List DeviceRow → Row → Due
due devices r = record {
  step = r.step;
  given = record { device = unwrap_or (input_device_named devices r.name) 0; byte = r.byte };
}

-- the text spells a script, and this comes of it
pub record ReadsAsScript (devices : List DeviceRow) (text : List ℕ) (dues : List Due) : Type 0 where
  pub rows : List Row
  pub script : IsScript devices rows
  pub text_is : text ≡ flat_map spelled_row rows
  pub dues_are : dues ≡ map (due devices) rows

-- the bytes that come before a step, in the script's order
abbrev pub given_at : List Due → ℕ → List Given
given_at dues step = map (λ d. d.given) (filter (λ d. d.step == step) dues)

-- ---- faults

-- a text begins with a line, and this follows
pub record BeginsWithRow (text : List ℕ) (r : Row) (rest : List ℕ) : Type 0 where
  pub row : IsScriptRow r
  pub text_is : text ≡ spelled_row r ++ rest

-- there is a text, but no line at its front
pub record NoScriptLine (text : List ℕ) : Type 0 where
  pub some : 0 < length text
  pub none : (r : Row) (rest : List ℕ) → BeginsWithRow text r rest → ⊥

-- the step of the last line, 0 before the first
abbrev pub last_step : List Row → ℕ
last_step rows =
    (slice_index_or rows (length rows - 1) (record { step = 0; name = []; byte = 0 })).step

-- a line follows these whose step is less than the last one's
pub record Falls (rows : List Row) (text : List ℕ) : Type 0 where
  pub next : Row
  pub rest : List ℕ
  pub begins : BeginsWithRow text next rest
  pub falls : next.step < last_step rows

-- a line follows these whose step isn't, but whose name is no serial port's and no gpio's
pub record NamesNoDevice (devices : List DeviceRow) (rows : List Row) (text : List ℕ) : Type 0 where
  pub next : Row
  pub rest : List ℕ
  pub begins : BeginsWithRow text next rest
  pub order : last_step rows ≤ next.step
  pub unknown : input_device_named devices next.name ≡ None

-- what is wrong with the line at a text's front, after these lines
abbrev pub BreaksScript : List DeviceRow → List Row → List ℕ → ℕ → Type 0
BreaksScript devices rows text number =
    ((number ≡ 1) × NoScriptLine text) ⊎ ((number ≡ 2) × Falls rows text)
    ⊎ ((number ≡ 3) × NamesNoDevice devices rows text)

-- the lines before this one are a script, and this one breaks a rule: the least line, on it the least number
pub record IsScriptFault (devices : List DeviceRow) (text : List ℕ) (number line : ℕ) : Type 0 where
  pub rows : List Row
  pub left : List ℕ
  pub script : IsScript devices rows
  pub text_is : text ≡ flat_map spelled_row rows ++ left
  pub line_is : line ≡ length rows + 1
  pub breaks : BreaksScript devices rows left number

-- want of memory has no cause in the text
abbrev pub IsScriptCause : List DeviceRow → List ℕ → ScriptFault → Type 0
IsScriptCause devices text (At number line) = IsScriptFault devices text number line
IsScriptCause devices text NoMemory = Unit {0}
