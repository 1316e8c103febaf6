-- What threads of a sound image's machine hold lies within.
use Rattle.std.proofs.Common.{List}
use Rattle.def_step.specs.declared.Event.{Event}
use Rattle.def_image.specs.Parts.{PartsRow}
use Rattle.def_image.specs.Sound.{Sound}
use Rattle.def_boot.specs.Boot.{platform_of, boot_state}
use Rattle.def_program.specs.Within.{state_after}
use Rattle.def_safety.specs.Within.{ThreadsWithin}
use Rattle.law_boot.proofs.Whole.{partitioned}
use Rattle.law_boot.proofs.Holding.{holds}
use Rattle.law_boot.proofs.Ranges.{inside}
use Rattle.law_boot.proofs.Wiring.{wired}
use Rattle.law_events.proofs.Running.{run_keeps}
use Rattle.law_history.proofs.Within.{state_within}
use Rattle.law_started.proofs.Whole.{keeps}

pub stays_within : (p : PartsRow) (es : List Event) → Sound p → ThreadsWithin (platform_of p) (state_after p es)
stays_within p es s =
    let held = run_keeps (platform_of p) (boot_state p) es (partitioned p s) (holds p s) (wired p s) (keeps p s) in
    state_within (platform_of p) (state_after p es) (inside p s) (partitioned p s) held.confined
