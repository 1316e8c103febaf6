-- The table of keys and tokens, as its calls speak of it.
use Rattle.std.specs.Prelude.{ℕ, ◌==◌, Bool, List, Option}
use Rattle.std.specs.List.{list_any}
use Rattle.def_machine.specs.State.{Token}

-- its rows, which stand by their numbers, and how many there may be
pub record Table : Type 0 where
  pub rows : List Token
  pub room : ℕ

-- a key's row where no key is named, else a token's
abbrev pub row_for : ℕ → Option ℕ → Token
row_for n key = record { number = n; key = key }

abbrev pub is_number : ℕ → Token → Bool
is_number n k = k.number == n

-- whether a number has a row
abbrev pub has_row : ℕ → List Token → Bool
has_row n ks = list_any (is_number n) ks
