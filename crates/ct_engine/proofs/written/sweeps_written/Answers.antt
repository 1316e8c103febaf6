use Rattle.ct_engine.proofs.Shown.{swept_shown}
use Rattle.ct_engine.proofs.written.sweeps_written.Goals as goal

pub returns : goal.returns
returns c = swept_shown
