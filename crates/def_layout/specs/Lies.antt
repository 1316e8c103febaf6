-- What the laws of placement say of a region.
use Rattle.std.specs.Prelude.{ℕ, ◌+◌, ◌%◌, ◌≡◌, ◌≤◌, List, true}
use Rattle.std.specs.List.{AllByRecursion}
use Rattle.def_profile.specs.declared.layout.TheConstants.{REGION_UNIT}
use Rattle.def_layout.specs.declared.TheConstants.{MOST_REGION}
use Rattle.def_words.specs.LeastBounds.{rounded_of}
use Rattle.def_layout.specs.declared.Region.{Region}

-- each size is one that a region may have
abbrev pub AreSmall : List ℕ → Type 0
AreSmall sizes = AllByRecursion (λ n. n ≤ MOST_REGION) sizes

-- whole units, with bounds that a word can spell
pub record IsSpelled (r : Region) : Type 0 where
  pub even : r.base % REGION_UNIT ≡ 0
  pub whole : r.length % REGION_UNIT ≡ 0
  pub exact : (rounded_of r.base (r.base + r.length)).exact ≡ true
