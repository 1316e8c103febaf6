use Rattle.std.proofs.Common.{refl}
use Rattle.ct_services.proofs.Switching.{served}
use Rattle.ct_services.proofs.calling.switch.Goals as goal

pub returns-in-Entered : goal.returns-in-Entered
returns-in-Entered g c ss =
    served c.args.engine.now ss c.args.t c.args.e.now _ refl c.in-Entered.ensures.result c.in-Entered.ensures.is (refl, refl)

pub returns-in-TooDeep : goal.returns-in-TooDeep
returns-in-TooDeep g c ss =
    served c.args.engine.now ss c.args.t c.args.e.now _ refl c.in-TooDeep.ensures.result c.in-TooDeep.ensures.is c.refuse.ensures

pub returns-in-NoStack : goal.returns-in-NoStack
returns-in-NoStack g c ss =
    served c.args.engine.now ss c.args.t c.args.e.now _ refl c.in-NoStack.ensures.result c.in-NoStack.ensures.is c.refuse-in-NoStack.ensures

pub returns-in-Trapped : goal.returns-in-Trapped
returns-in-Trapped g c ss =
    served c.args.engine.now ss c.args.t c.args.e.now _ refl c.in-Trapped.ensures.result c.in-Trapped.ensures.is (refl, refl)
