-- The names of the permissions in a set.
use Rattle.std.specs.Prelude.{ℕ, ◌/◌, ◌%◌, ◌==◌, List, [], ◌∷◌, ◌++◌, if◌then◌else◌, codes}

-- the twelve in bit order
abbrev pub permission_names : List (List ℕ)
permission_names =
    codes "GL" ∷ codes "LG" ∷ codes "SD" ∷ codes "LM" ∷ codes "SL" ∷ codes "LD" ∷ codes "MC"
    ∷ codes "SR"
    ∷ codes "EX" ∷ codes "US" ∷ codes "SE" ∷ codes "U0" ∷ []

-- a text goes on with a word, after a space if it isn't empty
abbrev pub with_word : List ℕ → List ℕ → List ℕ
with_word [] word = word
with_word (b ∷ bs) word = (b ∷ bs) ++ 32 ∷ word

-- a text goes on with the names of those bits of a set, from bit 0 up, that are set
abbrev pub with_right_names : List ℕ → ℕ → List (List ℕ) → List ℕ
with_right_names text set [] = text
with_right_names text set (name ∷ names) =
    with_right_names (if set % 2 == 1 then with_word text name else text) (set / 2) names

-- the names of a set's permissions in bit order, joined by a space
unfoldable pub rights_text : ℕ → List ℕ
rights_text set = with_right_names [] set permission_names
