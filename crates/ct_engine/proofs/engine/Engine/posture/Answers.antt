use Rattle.std.proofs.Common.{refl}
use Rattle.ct_engine.proofs.Goes.{runner, running_is}
use Rattle.ct_engine.proofs.engine.Engine.posture.Goals as goal

pub returns : goal.returns
returns g c = rw (← c.self.view_is, running_is (runner c.self.invariant c.self.view_is c.requires c.index.ensures)) refl
