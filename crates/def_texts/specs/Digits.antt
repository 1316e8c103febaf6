-- The number that decimal digits spell.
use Rattle.std.specs.Prelude.{ℕ, ◌&&◌, nat_le, List, Option, Some, None, bytes_eq, decimal, if◌then◌else◌}
use Rattle.std.specs.Str.Parse.{digits_value}

-- the number whose decimal digits these are, without sign or leading zero, where it is at most this
abbrev pub number_within : ℕ → List ℕ → Option ℕ
number_within most digits =
    if nat_le (digits_value 10 digits) most && bytes_eq (decimal (digits_value 10 digits)) digits
    then Some (digits_value 10 digits) else None
