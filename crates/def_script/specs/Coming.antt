-- How many bytes of a script come from a step on.
use Rattle.std.specs.Prelude.{ℕ, List, length, filter, nat_le}
use Rattle.def_script.specs.Script.{Due}

abbrev pub left_from : List Due → ℕ → ℕ
left_from script step = length (filter (λ (d : Due). nat_le step d.step) script)
