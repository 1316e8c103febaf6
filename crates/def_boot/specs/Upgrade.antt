-- What an image keeps where it is upgraded to the last version of the format.
use Rattle.std.specs.Prelude.{◌≡◌}
use Rattle.def_image.specs.Parts.{PartsRow, upgraded}
use Rattle.def_image.specs.Accepted.{IsFaultless}
use Rattle.def_boot.specs.Gates.{entries_of}
use Rattle.def_boot.specs.Boot.{platform_of, boot_state}

-- nothing is wrong with it
abbrev pub StaysFaultless : Type 0
StaysFaultless = (p : PartsRow) → IsFaultless p → IsFaultless (upgraded p)

-- its entries, its board and its state at boot are those of the old one
pub record BootsAlike (p : PartsRow) : Type 0 where
  pub entries : entries_of (upgraded p) ≡ entries_of p
  pub board : platform_of (upgraded p) ≡ platform_of p
  pub state : boot_state (upgraded p) ≡ boot_state p
