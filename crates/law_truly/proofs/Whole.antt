-- The laws of one event, of each event of a list, and of the machine of a sound image from its boot.
use Rattle.std.proofs.Common.{◌≡◌, List, [], ◌∷◌, Some, None}
use Rattle.def_boot.specs.Boot.{platform_of, boot_state}
use Rattle.def_confined.specs.Facts.{Facts}
use Rattle.def_confined.specs.Keeps.{Keeps}
use Rattle.def_confined.specs.Partitioned.{Partitioned}
use Rattle.def_image.specs.Parts.{PartsRow}
use Rattle.def_image.specs.Sound.{Sound}
use Rattle.def_machine.specs.Platform.{Platform}
use Rattle.def_machine.specs.State.{State}
use Rattle.def_step.specs.declared.Event.{Event}
use Rattle.def_step.specs.Events.{happens}
use Rattle.def_safety.specs.Each.{EachEvent}
use Rattle.def_safety.specs.Wired.{Wired}
use Rattle.def_events.specs.Running.{RunsFramed}
use Rattle.def_truly.specs.Exactly.{TellsExactly}
use Rattle.law_boot.proofs.Wiring.{wired}
use Rattle.law_boot.proofs.Holding.{holds}
use Rattle.law_boot.proofs.Whole.{partitioned}
use Rattle.law_events.proofs.Events.{event_keeps}
use Rattle.law_started.proofs.Whole.{keeps}
use Rattle.law_truly.proofs.Instructions.{instructions_keep}
use Rattle.law_truly.proofs.ThreadEnds.{ends_thread}
use Rattle.law_truly.proofs.FailedChecks.{fails_trap}
use Rattle.law_truly.proofs.Running.{event_framed}
use Rattle.law_truly.proofs.DeviceAccesses.{accesses_told}
use Rattle.law_truly.proofs.Deeds.{tells_truly}
use Rattle.law_truly.proofs.Turns.{takes_turn, ticks_stop, turns_stay}
use Rattle.law_truly.proofs.Changes.{tells_all, nothing_untold}

pub event_exact : (b : Platform) (s : State) (e : Event) → Partitioned b.image → Keeps b.image s → RunsFramed s → TellsExactly b s e
event_exact b s e parts k framed = record {
  truly = tells_truly b s e parts k framed;
  all = tells_all b s e k;
  silence = nothing_untold b s e k;
  accesses = accesses_told b s;
  fails = fails_trap b s;
  instructions = instructions_keep b s;
  ends = ends_thread b s;
  turns = takes_turn b s;
  ticks = ticks_stop b s;
  stays = turns_stay b s;
}

pub events_exact : (b : Platform) (s : State) (es : List Event) → Partitioned b.image → Facts b.image → Wired b → Keeps b.image s → RunsFramed s → EachEvent (TellsExactly b) b s es
events_exact b s [] parts facts wires k framed = tt
events_exact b s (e ∷ es) parts facts wires k framed = (event_exact b s e parts k framed, events_exact b (happens b s e).0 es parts facts wires (event_keeps b s e parts facts wires k) (event_framed b s e k framed))

-- at boot none runs
pub boots_framed : (p : PartsRow) → RunsFramed (boot_state p)
unfolding boot_state
boots_framed p t runs e = (let clash : None ≡ Some t = runs in cc)

pub images_exact : (p : PartsRow) (es : List Event) → Sound p → EachEvent (TellsExactly (platform_of p)) (platform_of p) (boot_state p) es
images_exact p es s = events_exact (platform_of p) (boot_state p) es (partitioned p s) (holds p s) (wired p s) (keeps p s) (boots_framed p)
