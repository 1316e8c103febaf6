use Rattle.law_truly.proofs.Whole as laws
use Rattle.law_truly.proofs.runs_tell_exactly.Goals as goal

pub returns : goal.returns
returns c = record { events = laws.events_exact; images = laws.images_exact }
