-- The same of the machine of a sound image, from its boot.
use Rattle.std.proofs.Common.{ℕ, List}
use Rattle.def_boot.specs.Boot.{platform_of, boot_state, image_of}
use Rattle.def_confined.specs.Keeps.{Keeps}
use Rattle.def_hidden.specs.Hidden.{Blank}
use Rattle.def_image.specs.Parts.{PartsRow}
use Rattle.def_image.specs.Sound.{Sound}
use Rattle.def_machine.specs.Memory.{bytes_stored}
use Rattle.def_step.specs.declared.Event.{Event}
use Rattle.def_secrecy.specs.Agreeing.{Agree}
use Rattle.def_secrecy.specs.Runs.{Moment, AlikeForOne, AlikeInAll, OthersStayAway, after_boot}
use Rattle.def_secrecy.specs.Secrecy.{EventSecret, NoOtherRuns}
use Rattle.def_secrecy.specs.View.{UnseenBytes}
use Rattle.law_boot.proofs.Holding.{holds}
use Rattle.law_boot.proofs.Whole.{partitioned}
use Rattle.law_boot.proofs.Wiring.{wired}
use Rattle.law_events.proofs.BlankEvents.{run_blank}
use Rattle.law_events.proofs.Running.{run_keeps}
use Rattle.law_started.proofs.Blanking.{blank}
use Rattle.law_started.proofs.Shutting.{shut}
use Rattle.law_started.proofs.Whole.{keeps}
use Rattle.law_secrecy.proofs.Events.{event_secret}
use Rattle.law_secrecy.proofs.Runs.{runs_alike, runs_away}
use Rattle.law_secrecy.proofs.Unseen.{bytes_agree, bytes_blank, bytes_keep}

module _ (p : PartsRow) (s : Sound p) where
  keeps_after : (es : List Event) → Keeps (image_of p) (after_boot p es)
  keeps_after es = run_keeps (platform_of p) (boot_state p) es (partitioned p s) (holds p s) (wired p s) (keeps p s)

  zeros_after : (es : List Event) → Blank (image_of p) (after_boot p es)
  zeros_after es = run_blank (platform_of p) (boot_state p) es (partitioned p s) (holds p s) (wired p s) (shut p s) (keeps p s) (blank p s)

  module _ (es fs : List Event) (t : ℕ) (agree : Agree (platform_of p) t (after_boot p es) (after_boot p fs)) where
    pub image_event : (e : Event) → NoOtherRuns (platform_of p) (after_boot p es) t e → EventSecret (platform_of p) (after_boot p es) (after_boot p fs) t e
    image_event e only = event_secret (platform_of p) (after_boot p es) (after_boot p fs) t (partitioned p s) (wired p s) (keeps_after es).confined (keeps_after fs).confined (zeros_after es) (zeros_after fs) agree e only

    pub image_alike : (ms : List Moment) → AlikeForOne (platform_of p) t (after_boot p es) (after_boot p fs) ms → AlikeInAll (platform_of p) t (after_boot p es) (after_boot p fs) ms
    image_alike ms alike = runs_alike (platform_of p) t (partitioned p s) (holds p s) (wired p s) (shut p s) ms (after_boot p es) (after_boot p fs) (keeps_after es) (keeps_after fs) (zeros_after es) (zeros_after fs) agree alike

    pub image_away : (ms : List Moment) → OthersStayAway (platform_of p) t (after_boot p es) (after_boot p fs) ms → AlikeInAll (platform_of p) t (after_boot p es) (after_boot p fs) ms
    image_away ms away = runs_away (platform_of p) t (partitioned p s) (holds p s) (wired p s) (shut p s) ms (after_boot p es) (after_boot p fs) (keeps_after es) (keeps_after fs) (zeros_after es) (zeros_after fs) agree away

  -- booted with other bytes where thread t sees none
  pub other_boot : (t x width value : ℕ) (ms : List Moment) → UnseenBytes (image_of p) (boot_state p) t x width → OthersStayAway (platform_of p) t (boot_state p) (bytes_stored (image_of p) (boot_state p) x width value) ms
      → AlikeInAll (platform_of p) t (boot_state p) (bytes_stored (image_of p) (boot_state p) x width value) ms
  other_boot t x width value ms unseen away = runs_away (platform_of p) t (partitioned p s) (holds p s) (wired p s) (shut p s) ms (boot_state p) (bytes_stored (image_of p) (boot_state p) x width value)
      (keeps p s) (bytes_keep (image_of p) (boot_state p) t x width value unseen (keeps p s)) (blank p s) (bytes_blank (image_of p) (boot_state p) t x width value unseen (blank p s)) (bytes_agree (platform_of p) (boot_state p) t x width value unseen) away
