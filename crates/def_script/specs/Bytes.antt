-- A script of three bytes, two of them before the second step.
use Rattle.std.specs.Prelude.{List, [], ◌∷◌}
use Rattle.def_script.specs.Script.{Due}

abbrev pub two_bytes : List Due
two_bytes =
    record { step = 2; given = record { device = 1; byte = 65 } }
    ∷ record { step = 2; given = record { device = 0; byte = 7 } }
    ∷ record { step = 3; given = record { device = 0; byte = 8 } }
    ∷ []
