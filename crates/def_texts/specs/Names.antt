-- Names, as lists of bytes, and what it is for one to stand twice.
use Rattle.std.specs.Prelude.{ℕ, List, [], ◌∷◌, ◌++◌, length, Bool, false, ◌&&◌, ◌||◌, ◌==◌, nat_le, nat_lt, bytes_eq, if◌then◌else◌}
use Rattle.std.specs.Char.{is_ascii_digit}
use Rattle.std.specs.List.{list_all, list_any}
use Rattle.def_profile.specs.declared.limits.TheConstants.{MOST_NAME}

-- ---- the form of a name

abbrev pub is_lower : ℕ → Bool
is_lower b = nat_le 97 b && nat_le b 122

-- a lower-case letter, a digit or a low line
abbrev pub is_name_byte : ℕ → Bool
is_name_byte b = is_lower b || is_ascii_digit b || b == 95

-- a lower-case letter, then such bytes, no more in all than a name may have
abbrev pub is_name : List ℕ → Bool
is_name [] = false
is_name (b ∷ bs) = is_lower b && list_all is_name_byte bs && nat_lt (length bs) MOST_NAME

-- ---- twice

abbrev pub among : List ℕ → List (List ℕ) → Bool
among text texts = list_any (bytes_eq text) texts

-- the names so far, each once
abbrev pub with_name : List (List ℕ) → List ℕ → List (List ℕ)
with_name seen name = if among name seen then seen else seen ++ name ∷ []

abbrev pub with_names : List (List ℕ) → List (List ℕ) → List (List ℕ)
with_names seen [] = seen
with_names seen (name ∷ names) = with_names (with_name seen name) names

-- of each name whether it stands among those seen before and those before it in the list
abbrev pub repeated : List (List ℕ) → List (List ℕ) → List Bool
repeated seen [] = []
repeated seen (name ∷ names) = among name seen ∷ repeated (with_name seen name) names
