use Rattle.ct_engine.proofs.Goes.{runner, register_is}
use Rattle.ct_engine.proofs.engine.Engine.register.Goals as goal

pub returns : goal.returns
returns g c =
    let h = runner c.self.invariant c.self.view_is c.requires.runs c.index.ensures in
    rw (← c.self.view_is, register_is h c.args.number) c.read.ensures
