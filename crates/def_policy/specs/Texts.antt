-- Which texts are policies, and what is wrong with a text that is none.
use Rattle.std.specs.Prelude.{ℕ, ◌≡◌, ◌+◌, ◌<◌, ◌⊎◌, List, ◌++◌, All, Option, Some, None, IsSome, map, flat_map, length}
use Rattle.def_image.specs.Parts.{PartsRow}
use Rattle.def_policy.specs.declared.PolicyFault.{PolicyFault}
use Rattle.def_policy.specs.declared.PolicyFault.TheVariants.{At, NoMemory}
use Rattle.def_policy.specs.Rules.{Rule, IsRule, spelled_rule}
use Rattle.def_policy.specs.Rulings.{Ruling, meant}

-- the text spells rules line by line, each of whose names stands for something, and they mean this
pub record ReadsAsPolicy (p : PartsRow) (text : List ℕ) (rulings : List Ruling) : Type 0 where
  pub rules : List Rule
  pub lines : All IsRule rules
  pub text_is : text ≡ flat_map spelled_rule rules
  pub meant_are : map (meant p) rules ≡ map (λ r. Some r) rulings

-- ---- faults

-- a text begins with the line of a rule, and this follows
pub record BeginsWithRule (text : List ℕ) (r : Rule) (rest : List ℕ) : Type 0 where
  pub rule : IsRule r
  pub text_is : text ≡ spelled_rule r ++ rest

-- there is a text, but no line of a rule at its front
pub record NoRuleLine (text : List ℕ) : Type 0 where
  pub some : 0 < length text
  pub none : (r : Rule) (rest : List ℕ) → BeginsWithRule text r rest → ⊥

-- the line of a rule stands at its front, in which a name stands for nothing
pub record NamesUnknown (p : PartsRow) (text : List ℕ) : Type 0 where
  pub next : Rule
  pub rest : List ℕ
  pub begins : BeginsWithRule text next rest
  pub unknown : meant p next ≡ None

abbrev pub BreaksPolicy : PartsRow → List ℕ → ℕ → Type 0
BreaksPolicy p text number = ((number ≡ 1) × NoRuleLine text) ⊎ ((number ≡ 2) × NamesUnknown p text)

abbrev pub IsKnown : PartsRow → Rule → Type 0
IsKnown p r = IsSome (meant p r)

-- the lines before this one are a policy, and this one is at fault: the least line, on it the least number
pub record IsPolicyFault (p : PartsRow) (text : List ℕ) (number line : ℕ) : Type 0 where
  pub rules : List Rule
  pub left : List ℕ
  pub lines : All IsRule rules
  pub known : All (IsKnown p) rules
  pub text_is : text ≡ flat_map spelled_rule rules ++ left
  pub line_is : line ≡ length rules + 1
  pub breaks : BreaksPolicy p left number

-- want of memory has no cause in the text
abbrev pub IsPolicyCause : PartsRow → List ℕ → PolicyFault → Type 0
IsPolicyCause p text (At number line) = IsPolicyFault p text number line
IsPolicyCause p text NoMemory = Unit {0}
