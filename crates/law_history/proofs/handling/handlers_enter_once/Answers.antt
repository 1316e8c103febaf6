use Rattle.law_history.proofs.HandlesOnce.{enters_fresh}
use Rattle.law_history.proofs.handling.handlers_enter_once.Goals as goal

pub returns : goal.returns
returns c = enters_fresh
