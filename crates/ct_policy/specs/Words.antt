-- The words at the front of a text.
use Rattle.std.specs.Prelude.{ℕ, ◌≡◌, ◌<◌, ◌++◌, ◌∷◌, Bool, List, length, map, if◌then◌else◌}
use Rattle.std.specs.List.{AllByRecursion}
use denote.Bor.{Bor}
use Rattle.def_policy.specs.Rules.{IsWord, words_line}

abbrev pub texts : List (Bor (List ℕ)) → List (List ℕ)
texts ws = map (λ w. w.now) ws

-- what stands after a word: a line feed after the last of a line, else a space
abbrev pub end_byte : Bool → ℕ
end_byte last = if last then 10 else 32

-- a text begins with a word, and this follows the byte after it
pub record IsFirst (text word : List ℕ) (last : Bool) (rest : List ℕ) : Type 0 where
  pub is : IsWord word
  pub text_is : text ≡ word ++ end_byte last ∷ rest

abbrev pub NoFirst : List ℕ → Type 0
NoFirst text = (word : List ℕ) (last : Bool) (rest : List ℕ) → IsFirst text word last rest → ⊥

-- a text begins with a line of these words, and this follows
pub record IsLine (text : List ℕ) (words : List (List ℕ)) (rest : List ℕ) : Type 0 where
  pub some : 0 < length words
  pub are : AllByRecursion IsWord words
  pub text_is : text ≡ words_line words ++ rest

abbrev pub NoWords : List ℕ → Type 0
NoWords text = (words : List (List ℕ)) (rest : List ℕ) → IsLine text words rest → ⊥
