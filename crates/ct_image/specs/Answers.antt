-- Why an image is refused. Want of memory has no cause.
use Rattle.std.specs.Prelude.{ℕ, ◌≡◌, ◌<◌, ◌^◌, ◌⊎◌, List, length, Some, None, true}
use Rattle.std.specs.Int.{is_in_range}
use Rattle.def_image.specs.Parts.{PartsRow}
use Rattle.def_image.specs.Profile.{last_version}
use Rattle.def_image.specs.Spelling.{raw_of, image_bytes}
use Rattle.def_image.specs.Shapes.{IsSpellable}
use Rattle.def_image.specs.Checks.{first}
use Rattle.def_image.specs.Limits.{limit_checks}
use Rattle.def_image.specs.Lying.{region_checks}
use Rattle.def_image.specs.Indexes.{index_checks}
use Rattle.def_image.specs.Rights.{right_checks}
use Rattle.def_image.specs.Accepted.{FaultAt}
use Rattle.ct_image.specs.declared.fault.ImageFault.{ImageFault}
use Rattle.ct_image.specs.declared.fault.ImageFault.TheVariants.{At, NoMemory}

abbrev pub RefusesBytes : List ℕ → ImageFault → Type 0
RefusesBytes bytes (At number place) = FaultAt bytes number place
RefusesBytes bytes NoMemory = Unit {0}

-- parts whose limits and forms hold, of a known version, with places of 32 bits
pub record Stand (p : PartsRow) : Type 0 where
  pub spellable : IsSpellable p
  pub version : is_in_range 1 last_version p.version ≡ true
  pub limits : first (limit_checks (raw_of p)) ≡ None
  pub small : length (image_bytes p) < 2 ^ 32

-- what is wrong with such parts
abbrev pub Wrong : PartsRow → ℕ → ℕ → Type 0
Wrong p number place =
    ((number ≡ 4) × (first (region_checks p) ≡ Some place))
    ⊎ ((number ≡ 5) × (first (region_checks p) ≡ None) × (first (index_checks p) ≡ Some place))
    ⊎ ((number ≡ 6) × (first (region_checks p) ≡ None) × (first (index_checks p) ≡ None)
    × (first (right_checks p) ≡ Some place))

abbrev pub Breaks : PartsRow → ImageFault → Type 0
Breaks p (At number place) = Wrong p number place
Breaks p NoMemory = Unit {0}
