use Rattle.ct_engine.proofs.Entering.{given_made}
use Rattle.ct_engine.proofs.calls.callee_given.Goals as goal

pub returns : goal.returns
returns c = given_made
