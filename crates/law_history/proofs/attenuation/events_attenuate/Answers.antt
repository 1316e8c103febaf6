use Rattle.law_history.proofs.Attenuating.{loads_attenuate, stores_local}
use Rattle.law_history.proofs.Locals.{event_local, image_local, run_local}
use Rattle.law_history.proofs.attenuation.events_attenuate.Goals as goal

pub returns : goal.returns
returns c = record { loads = loads_attenuate; stores = stores_local; event = event_local; events = run_local; images = image_local }
