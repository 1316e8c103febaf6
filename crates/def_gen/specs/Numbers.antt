-- The numbers of the generated firmware. Sizes are in bytes.
use Rattle.std.specs.Prelude.{ℕ, zero, suc, ◌+◌, ◌*◌, ◌/◌, ◌%◌, ◌^◌, ◌==◌, Bool, nat_le}
use Rattle.def_gen.specs.declared.TheConstants.{FEWEST, COUNTS, MULTIPLIER, INCREMENT, GLOBALS_UNIT, MOST_GLOBALS_UNITS, LEAST_DATA, OBJECT_UNIT, MOST_OBJECT_UNITS, OBJECT_SHIFT}

-- how many compartments there are
abbrev pub count_of : ℕ → ℕ
count_of seed = FEWEST + seed % COUNTS

-- ---- the row of numbers: x(0) is the number that the firmware is generated from

abbrev pub following : ℕ → ℕ
following x = (x * MULTIPLIER + INCREMENT) % 2 ^ 32

-- x(i)
unfoldable pub x_at : ℕ → ℕ → ℕ
x_at seed zero = seed
x_at seed (suc i) = following (x_at seed i)

-- the number by which compartment i goes, x(i + 1)
abbrev pub chosen : ℕ → ℕ → ℕ
chosen seed i = x_at seed (i + 1)

-- ---- what a compartment has by its number y

abbrev pub globals_of : ℕ → ℕ
globals_of y = GLOBALS_UNIT * (1 + y % MOST_GLOBALS_UNITS)

-- whether calls of it pass data alone
abbrev pub passes_data : ℕ → Bool
passes_data y = nat_le LEAST_DATA y

-- how much it allocates
abbrev pub object_size : ℕ → ℕ
object_size y = OBJECT_UNIT * (1 + y / OBJECT_SHIFT % MOST_OBJECT_UNITS)

-- ---- the last one

abbrev pub is_last : ℕ → ℕ → Bool
is_last count i = i + 1 == count
