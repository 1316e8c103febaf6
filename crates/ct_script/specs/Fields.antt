-- The parts of a line at the front of a text.
use Rattle.std.specs.Prelude.{ℕ, ◌≡◌, ◌<◌, ◌^◌, ◌++◌, ◌∷◌, true, List, length, decimal}
use Rattle.std.specs.List.{list_all}
use Rattle.def_script.specs.Script.{Row, is_field_byte}

-- a number before this end
pub record IsNumber (text : List ℕ) (end number : ℕ) (rest : List ℕ) : Type 0 where
  pub small : number < 2 ^ 32
  pub text_is : text ≡ decimal number ++ end ∷ rest

abbrev pub NoNumber : List ℕ → ℕ → Type 0
NoNumber text end = (n : ℕ) (rest : List ℕ) → IsNumber text end n rest → ⊥

-- a name before a space
pub record IsName (text name rest : List ℕ) : Type 0 where
  pub some : 0 < length name
  pub inner : list_all is_field_byte name ≡ true
  pub text_is : text ≡ name ++ 32 ∷ rest

abbrev pub NoName : List ℕ → Type 0
NoName text = (name rest : List ℕ) → IsName text name rest → ⊥

abbrev pub row_of : ℕ → List ℕ → ℕ → Row
row_of step name byte = record { step = step; name = name; byte = byte }
