use Rattle.std.proofs.Common.{refl}
use Rattle.ct_commands.proofs.Endings.{at_once}
use Rattle.ct_top.proofs.Booted.{none_playable}
use Rattle.ct_top.proofs.Turning.{played}
use Rattle.ct_top.proofs.runs.run_booted.Goals as goal

pub play-requires-clause-script : goal.play-requires-clause-script
play-requires-clause-script g c = rw c.empty.ensures (none_playable _)

pub returns-in-Some : goal.returns-in-Some
returns-in-Some g c = rw c.in-Some.is c.play_file.ensures

pub returns-in-None : goal.returns-in-None
returns-in-None g c = rw c.in-None.is (at_once _ _ _ _ _ _ refl refl (played _ _ _ _ _ (rw c.empty.ensures at c.play-in-None.ensures)))
