-- The same of the machine of a sound image, from its boot.
use Rattle.std.proofs.Common.{List}
use Rattle.def_boot.specs.Boot.{platform_of, boot_state}
use Rattle.def_image.specs.Parts.{PartsRow}
use Rattle.def_image.specs.Sound.{Sound}
use Rattle.def_integrity.specs.Homes.{HomesKept, HomesStay}
use Rattle.def_integrity.specs.Integrity.{Integrity}
use Rattle.def_safety.specs.Each.{EachEvent}
use Rattle.def_step.specs.declared.Event.{Event}
use Rattle.law_boot.proofs.Holding.{holds}
use Rattle.law_boot.proofs.Whole.{partitioned}
use Rattle.law_boot.proofs.Wiring.{wired}
use Rattle.law_started.proofs.Whole.{keeps}
use Rattle.law_integrity.proofs.Whole.{events_kept, each_homes_kept, homes_stay}

pub image_integrity : (p : PartsRow) (es : List Event) → Sound p → EachEvent (Integrity (platform_of p)) (platform_of p) (boot_state p) es
image_integrity p es s = events_kept (platform_of p) (boot_state p) es (partitioned p s) (holds p s) (wired p s) (keeps p s)

pub image_homes : (p : PartsRow) (es : List Event) → Sound p → EachEvent (HomesKept (platform_of p)) (platform_of p) (boot_state p) es
image_homes p es s = each_homes_kept (platform_of p) (boot_state p) es (partitioned p s) (holds p s) (wired p s) (keeps p s)

pub image_stays : (p : PartsRow) (es : List Event) → Sound p → HomesStay (platform_of p) (boot_state p) es
image_stays p es s = homes_stay (platform_of p) (boot_state p) es (partitioned p s) (holds p s) (wired p s) (keeps p s)
