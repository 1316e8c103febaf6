-- The words of the command line.
use Rattle.std.specs.Prelude.{ℕ, ◌==◌, List, [], ◌∷◌, Bool, true, false, Option, Some, None, option_map, bytes_eq, codes, if◌then◌else◌}
use Rattle.def_texts.specs.Digits.{number_within}
use Rattle.def_profile.specs.declared.limits.TheConstants.{MOST_STEPS}
use Rattle.def_program.specs.declared.TheConstants.{MOST_NUMBER}

-- the names of files and owners, the limit of a run in steps, and its script where it has one; the
-- number of a generated firmware
pub data Command : Type 0 where
  Audit : List ℕ → Command
  Image : List ℕ → Command
  Run : List ℕ → ℕ → Option (List ℕ) → Command
  RunImage : List ℕ → ℕ → Option (List ℕ) → Command
  Why : List ℕ → List ℕ → List ℕ → Command
  Upgrade : List ℕ → Command
  Check : List ℕ → List ℕ → Command
  Demo : ℕ → Command

-- ---- numbers: decimal digits without sign or leading zero

-- a number of 0 to 4,294,967,295
abbrev pub argument_number : List ℕ → Option ℕ
argument_number digits = number_within MOST_NUMBER digits

-- none where it is 0
abbrev pub unless_zero : Option ℕ → Option ℕ
unless_zero None = None
unless_zero (Some n) = if n == 0 then None else Some n

-- a limit of 1 to 4,000,000,000
abbrev pub limit_of : List ℕ → Option ℕ
limit_of digits = unless_zero (number_within MOST_STEPS digits)

-- ---- forms

-- `audit DESC`, `image DESC`, `upgrade IMAGE`, `demo NUMBER`
abbrev pub of_one : List ℕ → List ℕ → Option Command
of_one word name =
    if bytes_eq word (codes "audit") then Some (Audit name)
    else if bytes_eq word (codes "image") then Some (Image name)
    else if bytes_eq word (codes "upgrade") then Some (Upgrade name)
    else if bytes_eq word (codes "demo") then option_map Demo (argument_number name) else None

-- a run where its limit is one
abbrev pub run_of : List ℕ → List ℕ → Option (List ℕ) → Option Command
run_of name limit script = option_map (λ n. Run name n script) (limit_of limit)

abbrev pub run_image_of : List ℕ → List ℕ → Option (List ℕ) → Option Command
run_image_of name limit script = option_map (λ n. RunImage name n script) (limit_of limit)

-- `run DESC LIMIT`, `runimage IMAGE LIMIT`, `check DESC POLICY`
abbrev pub of_two : List ℕ → List ℕ → List ℕ → Option Command
of_two word name last =
    if bytes_eq word (codes "run") then run_of name last None
    else if bytes_eq word (codes "runimage") then run_image_of name last None
    else if bytes_eq word (codes "check") then Some (Check name last) else None

-- `run DESC LIMIT SCRIPT`, `runimage IMAGE LIMIT SCRIPT`, `why DESC OWNER COMPARTMENT`
abbrev pub of_three : List ℕ → List ℕ → List ℕ → List ℕ → Option Command
of_three word name second last =
    if bytes_eq word (codes "run") then run_of name second (Some last)
    else if bytes_eq word (codes "runimage") then run_image_of name second (Some last)
    else if bytes_eq word (codes "why") then Some (Why name second last) else None

abbrev pub command_form : List (List ℕ) → Option Command
command_form [] = None
command_form (word ∷ []) = None
command_form (word ∷ a ∷ []) = of_one word a
command_form (word ∷ a ∷ b ∷ []) = of_two word a b
command_form (word ∷ a ∷ b ∷ c ∷ []) = of_three word a b c
command_form (word ∷ a ∷ b ∷ c ∷ d ∷ rest) = None

-- the number from which a command's firmware is generated; such a command has no file
abbrev pub generated_by : Command → Option ℕ
generated_by (Demo number) = Some number
generated_by _ = None

-- the first file of a command that has one
abbrev pub file_of : Command → List ℕ
file_of (Audit name) = name
file_of (Image name) = name
file_of (Run name limit script) = name
file_of (RunImage name limit script) = name
file_of (Why name owner compartment) = name
file_of (Upgrade name) = name
file_of (Check name policy) = name
file_of (Demo number) = []

-- whether that file is an image; else it is a description
abbrev pub reads_image : Command → Bool
reads_image (RunImage name limit script) = true
reads_image (Upgrade name) = true
reads_image _ = false
