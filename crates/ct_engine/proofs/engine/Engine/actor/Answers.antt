use Rattle.std.proofs.Common.{refl}
use Rattle.ct_engine.proofs.Goes.{runner, running_frames, running_some}
use Rattle.ct_engine.proofs.engine.Engine.actor.Goals as goal

pub returns-clause-is : goal.returns-clause-is
returns-clause-is g c = rw (← c.self.view_is, running_frames (runner c.self.invariant c.self.view_is c.requires c.index.ensures)) refl

pub returns-clause-some : goal.returns-clause-some
returns-clause-some g c = rw (← c.self.view_is) (running_some (runner c.self.invariant c.self.view_is c.requires c.index.ensures))
