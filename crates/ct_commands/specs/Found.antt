-- What is found for two names.
use Rattle.std.specs.Prelude.{ℕ, ◌≡◌, List, Option, Some, None}
use Rattle.ct_entry.specs.declared.rows.Owner.{Owner}
use Rattle.def_image.specs.Parts.{PartsRow}
use Rattle.def_program.specs.Paths.{IsWhyLine}

-- the line of how the owner reaches the compartment; none where one of both isn't there
abbrev pub IsFound : PartsRow → Option Owner → Option ℕ → Option (List ℕ) → Type 0
IsFound p (Some owner) (Some c) found =
    (text : List ℕ) × (found ≡ Some text) × IsWhyLine p owner c text
IsFound p (Some owner) None found = found ≡ None
IsFound p None c found = found ≡ None
