-- What the reader of tokens keeps in mind of the bytes ahead.
use Rattle.std.specs.Prelude.{ℕ, suc, Bool, false, List, [], ◌∷◌, if◌then◌else◌, Option, option_map, ◌++◌, ◌==◌, take}
use Rattle.def_source.specs.Source.{is_blank, is_inner, Row}

-- how many bytes that are neither blanks nor marks stand at the front
abbrev pub run : List ℕ → ℕ
run [] = 0
run (c ∷ cs) = if is_inner c then suc (run cs) else 0

abbrev pub begins_blank : List ℕ → Bool
begins_blank [] = false
begins_blank (c ∷ cs) = is_blank c

-- a row of tokens, if there is one, behind others
abbrev pub behind : Row → Option Row → Option Row
behind front o = option_map (λ ts. front ++ ts) o

-- how many bytes stand before the first one of that value
abbrev pub len_before : ℕ → List ℕ → ℕ
len_before stop [] = 0
len_before stop (c ∷ cs) = if c == stop then 0 else suc (len_before stop cs)

-- the first ten tokens of a row, one more than the longest line has
abbrev pub shortened : Option Row → Option Row
shortened o = option_map (λ ts. take 10 ts) o
