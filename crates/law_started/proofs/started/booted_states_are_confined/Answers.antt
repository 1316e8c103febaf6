use Rattle.law_started.proofs.Blanking.{blank}
use Rattle.law_started.proofs.Globality.{boots_local}
use Rattle.law_started.proofs.Settling.{boot_settles}
use Rattle.law_started.proofs.Tokening.{boot_tokened}
use Rattle.law_started.proofs.Whole.{confined, keeps}
use Rattle.law_started.proofs.started.booted_states_are_confined.Goals as goal

pub returns : goal.returns
returns c = record {
  confined = confined;
  keeps = keeps;
  blank = blank;
  tokened = boot_tokened;
  local = boots_local;
  settled = boot_settles;
}
