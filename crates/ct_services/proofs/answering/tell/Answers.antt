use Rattle.ct_services.proofs.Serving.{serves_tell}
use Rattle.ct_services.proofs.answering.tell.Goals as goal

pub returns : goal.returns
returns g c = serves_tell c.args.engine.now c.answer.new.engine c.args.t c.args.value c.answer.ensures
