use Rattle.ct_engine.proofs.Reaching.{register_seen}
use Rattle.ct_execute.proofs.classes.execute_access.Goals as goal

pub loadstore-requires-clause-seen : goal.loadstore-requires-clause-seen
loadstore-requires-clause-seen g c =
    register_seen c.args.engine.now c.args.t c.args.operands.first c.args.instruction c.register-x.result c.register-y.result c.requires.may.opened c.register-x.ensures
