-- What a faultless image's machine keeps.
use Rattle.std.proofs.Common.{ℕ, ◌≡◌, ◌≤◌, List, Some}
use Rattle.def_boot.specs.Boot.{platform_of, boot_state, image_of}
use Rattle.def_confined.specs.Confined.{Confined}
use Rattle.def_confined.specs.Keeps.{Keeps}
use Rattle.def_confined.specs.Partitioned.{Partitioned}
use Rattle.def_confined.specs.Telling.{AllLicensed}
use Rattle.def_image.specs.Accepted.{IsFaultless}
use Rattle.def_image.specs.Parts.{PartsRow}
use Rattle.def_image.specs.Sound.{Sound}
use Rattle.def_step.specs.Events.{happens, run, happenings_of}
use Rattle.def_step.specs.declared.Event.{Event}
use Rattle.ct_entry.specs.declared.acts.Act.TheVariants as acts
use Rattle.ct_entry.specs.declared.acts.Deed.{Deed}
use Rattle.def_machine.specs.Image.{root}
use Rattle.def_machine.specs.Objects.{charges}
use Rattle.def_step.specs.declared.Event.TheVariants.{Step}
use Rattle.law_boot.proofs.Wiring.{wired}
use Rattle.law_boot.proofs.Ranges.{inside}
use Rattle.law_boot.proofs.Holding.{holds}
use Rattle.law_image.proofs.Sounds.{sound}
use Rattle.law_boot.proofs.Whole as booted
use Rattle.law_events.proofs.Running.{run_keeps, told_licensed}
use Rattle.law_started.proofs.Whole.{keeps}
use Rattle.law_started.proofs.Shutting.{shut}
use Rattle.law_started.proofs.Blanking.{blank}
use Rattle.law_started.proofs.Tokening.{boot_tokened}
use Rattle.def_safety.specs.Reuse.{SweepsWhole}
use Rattle.def_safety.specs.Each.{EachEvent}
use Rattle.def_events.specs.Upheld.{Upholds}
use Rattle.def_safety.specs.Chunks.{ChunksMeet, UnusedAfterFree}
use Rattle.law_history.proofs.Running.{run_upholds, run_unused, run_charges, run_reuses}
use Rattle.law_started.proofs.Starting.{no_rows}
use Rattle.def_integrity.specs.Homes.{HomesKept, HomesStay}
use Rattle.def_integrity.specs.Integrity.{Integrity}
use Rattle.def_safety.specs.Attenuates.{LocalsInStacks}
use Rattle.def_truly.specs.Exactly.{TellsExactly}
use Rattle.law_history.proofs.Locals.{image_local}
use Rattle.law_integrity.proofs.Whole.{events_kept, each_homes_kept, homes_stay}
use Rattle.law_truly.proofs.Whole.{images_exact}

pub partitioned : (p : PartsRow) → IsFaultless p → Partitioned (image_of p)
partitioned p f = booted.partitioned p (sound p f)

-- ---- of sound parts

pub kept : (p : PartsRow) (es : List Event) → Sound p → Keeps (image_of p) (run (platform_of p) (boot_state p) es)
kept p es s = run_keeps (platform_of p) (boot_state p) es (booted.partitioned p s) (holds p s) (wired p s) (keeps p s)

pub all_licensed : (p : PartsRow) (es : List Event) → Sound p → AllLicensed (image_of p).entries (happenings_of (platform_of p) (boot_state p) es)
all_licensed p es s = told_licensed (platform_of p) (boot_state p) es (booted.partitioned p s) (holds p s) (wired p s) (keeps p s)

-- ---- of faultless parts

pub confined : (p : PartsRow) (es : List Event) → IsFaultless p → Confined (image_of p) (run (platform_of p) (boot_state p) es)
confined p es f = (kept p es (sound p f)).confined

pub licensed : (p : PartsRow) (es : List Event) → IsFaultless p → AllLicensed (image_of p).entries (happenings_of (platform_of p) (boot_state p) es)
licensed p es f = all_licensed p es (sound p f)

-- ---- what runs of sound parts do

pub upheld : (p : PartsRow) (es : List Event) → Sound p → EachEvent (Upholds (platform_of p)) (platform_of p) (boot_state p) es
upheld p es s = run_upholds (platform_of p) (booted.partitioned p s) (holds p s) (wired p s) (boot_state p) es (inside p s) (shut p s) (keeps p s) (blank p s) (no_rows p) (boot_tokened p s)

pub exact : (p : PartsRow) (es : List Event) → Sound p → EachEvent (TellsExactly (platform_of p)) (platform_of p) (boot_state p) es
exact p es s = images_exact p es s

pub integrity : (p : PartsRow) (es : List Event) → Sound p → EachEvent (Integrity (platform_of p)) (platform_of p) (boot_state p) es
integrity p es s = events_kept (platform_of p) (boot_state p) es (booted.partitioned p s) (holds p s) (wired p s) (keeps p s)

pub homes : (p : PartsRow) (es : List Event) → Sound p → EachEvent (HomesKept (platform_of p)) (platform_of p) (boot_state p) es
homes p es s = each_homes_kept (platform_of p) (boot_state p) es (booted.partitioned p s) (holds p s) (wired p s) (keeps p s)

pub stay : (p : PartsRow) (es : List Event) → Sound p → HomesStay (platform_of p) (boot_state p) es
stay p es s = homes_stay (platform_of p) (boot_state p) es (booted.partitioned p s) (holds p s) (wired p s) (keeps p s)

pub locals : (p : PartsRow) (es : List Event) → Sound p → LocalsInStacks (image_of p) (run (platform_of p) (boot_state p) es)
locals p es s = image_local p es s

pub unused : (p : PartsRow) → Sound p → UnusedAfterFree (platform_of p) (boot_state p)
unused p s = run_unused (platform_of p) (booted.partitioned p s) (holds p s) (wired p s) (boot_state p) (keeps p s)

pub swept : (p : PartsRow) (es fs : List Event) (d : Deed) (n base long live : ℕ) (c : Deed) (number from size left : ℕ) → Sound p → (happens (platform_of p) (run (platform_of p) (boot_state p) es) Step).1.deed ≡ Some d → d.act ≡ acts.Free n base long live
    → (happens (platform_of p) (run (platform_of p) (happens (platform_of p) (run (platform_of p) (boot_state p) es) Step).0 fs) Step).1.deed ≡ Some c → c.act ≡ acts.Allocate number from size left → ChunksMeet from size base long
    → SweepsWhole (platform_of p) (happens (platform_of p) (run (platform_of p) (boot_state p) es) Step).0 fs
swept p es fs d n base long live c number from size left s =
    run_reuses (platform_of p) (booted.partitioned p s) (holds p s) (wired p s) (boot_state p) es fs d n base long live c number from size left (shut p s) (keeps p s) (blank p s)

pub quotas : (p : PartsRow) (es : List Event) (q : ℕ) → Sound p → charges q (run (platform_of p) (boot_state p) es).objects ≤ (root (image_of p) q).limit
quotas p es q s = run_charges (platform_of p) (booted.partitioned p s) (holds p s) (wired p s) (boot_state p) es q (keeps p s)
