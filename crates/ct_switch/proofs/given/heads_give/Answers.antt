use Rattle.ct_switch.proofs.Heads.{heads_given}
use Rattle.ct_switch.proofs.given.heads_give.Goals as goal

pub returns : goal.returns
returns c = heads_given
