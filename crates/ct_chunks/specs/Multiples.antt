-- Multiples of a unit.
use Rattle.std.specs.Prelude.{ℕ, ◌+◌, ◌-◌, ◌*◌, ◌/◌}

-- the least multiple of a unit at or above a number
abbrev pub up : ℕ → ℕ → ℕ
up unit n = (n + unit - 1) / unit * unit
