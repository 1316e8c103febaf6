-- The first of two places, where there is one.
use Rattle.std.specs.Prelude.{ℕ, Option, Some, None}

abbrev pub first_some : Option ℕ → Option ℕ → Option ℕ
first_some None b = b
first_some (Some a) b = Some a
