-- The lines of a policy that were read so far, and the next one.
use Rattle.std.specs.Prelude.{ℕ, ◌≡◌, ◌+◌, ◌≤◌, ◌++◌, ◌∷◌, [], List, All, Some, map, flat_map, length}
use Rattle.def_image.specs.Parts.{PartsRow}
use Rattle.def_policy.specs.declared.PolicyFault.{PolicyFault}
use Rattle.def_policy.specs.declared.PolicyFault.TheVariants.{At, NoMemory}
use Rattle.def_policy.specs.Rules.{Rule, IsRule, spelled_rule}
use Rattle.def_policy.specs.Rulings.{Ruling, meant}
use Rattle.def_policy.specs.Texts.{BeginsWithRule, BreaksPolicy}

-- the line of a rule begins what is left, and what it means is kept
pub record Takes (p : PartsRow) (old new : List Ruling) (left rest : List ℕ) : Type 0 where
  pub rule : Rule
  pub begins : BeginsWithRule left rule rest
  pub ruling : Ruling
  pub means : meant p rule ≡ Some ruling
  pub kept : new ≡ old ++ ruling ∷ []

-- the line after so many is at fault
abbrev pub IsRefusal : PartsRow → ℕ → List ℕ → PolicyFault → Type 0
IsRefusal p lines left (At number line) = (line ≡ lines + 1) × BreaksPolicy p left number
IsRefusal p lines left NoMemory = Unit {0}

-- what is kept is what the rules mean that the text before what is left spells
pub record Going (p : PartsRow) (text : List ℕ) (rulings : List Ruling) (left : List ℕ) : Type 0
  where
    pub rules : List Rule
    pub lines : All IsRule rules
    pub text_is : text ≡ flat_map spelled_rule rules ++ left
    pub meant_are : map (meant p) rules ≡ map (λ r. Some r) rulings
    pub short : length rulings + length left ≤ length text
