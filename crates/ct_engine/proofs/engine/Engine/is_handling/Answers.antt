use Rattle.std.proofs.Common.{refl}
use Rattle.ct_engine.proofs.Goes.{runner, running_frames}
use Rattle.ct_engine.proofs.engine.Engine.is_handling.Goals as goal

pub returns : goal.returns
returns g c = rw (← c.self.view_is, running_frames (runner c.self.invariant c.self.view_is c.requires c.index.ensures)) refl
