-- Events one after another.
use Rattle.std.proofs.Common.{List, [], ◌∷◌}
use Rattle.def_machine.specs.State.{State}
use Rattle.def_step.specs.declared.Event.{Event}
use Rattle.def_machine.specs.Platform.{Platform}
use Rattle.def_step.specs.Events.{happens, run, happenings_of}
use Rattle.def_confined.specs.Facts.{Facts}
use Rattle.def_safety.specs.Wired.{Wired}
use Rattle.def_confined.specs.Keeps.{Keeps}
use Rattle.def_confined.specs.Partitioned.{Partitioned}
use Rattle.def_confined.specs.Telling.{AllLicensed}
use Rattle.law_events.proofs.Events.{event_keeps, deed_licensed, span_licensed}

pub run_keeps : (b : Platform) (s : State) (es : List Event) → Partitioned b.image → Facts b.image → Wired b → Keeps b.image s → Keeps b.image (run b s es)
unfolding run
run_keeps b s [] parts facts wired k = k
run_keeps b s (e ∷ es) parts facts wired k = run_keeps b (happens b s e).0 es parts facts wired (event_keeps b s e parts facts wired k)

pub told_licensed : (b : Platform) (s : State) (es : List Event) → Partitioned b.image → Facts b.image → Wired b → Keeps b.image s → AllLicensed b.image.entries (happenings_of b s es)
unfolding happenings_of
told_licensed b s [] parts facts wired k = tt
told_licensed b s (e ∷ es) parts facts wired k = (
  record { deed = λ d is. deed_licensed b s e d parts facts wired k is; off = λ o is. span_licensed b s e o parts facts wired k is },
  told_licensed b (happens b s e).0 es parts facts wired (event_keeps b s e parts facts wired k),
)
