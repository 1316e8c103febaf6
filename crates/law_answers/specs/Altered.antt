-- The smallest image's bytes, altered.
use Rattle.std.specs.Prelude.{ℕ, List, ◌+◌, ◌++◌, length, take, drop}
use Rattle.def_image.specs.Spelling.{number, image_bytes}
use Rattle.def_image.specs.Parts.{upgraded}
use Rattle.law_image_samples.specs.Tiny.{tiny}

abbrev pub bytes_of_tiny : List ℕ
bytes_of_tiny = image_bytes tiny

-- other bytes from a place on
abbrev pub altered : ℕ → List ℕ → List ℕ
altered at bytes = take at bytes_of_tiny ++ bytes ++ drop (at + length bytes) bytes_of_tiny

-- a number at a place
abbrev pub numbered : ℕ → ℕ → List ℕ
numbered at n = altered at (number n)

-- the same in version 2
abbrev pub bytes_of_later : List ℕ
bytes_of_later = image_bytes (upgraded tiny)

abbrev pub numbered_later : ℕ → ℕ → List ℕ
numbered_later at n = take at bytes_of_later ++ number n ++ drop (at + 4) bytes_of_later
