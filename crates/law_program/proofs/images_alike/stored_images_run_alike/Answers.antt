use Rattle.law_program.proofs.Alike.{stored_alike}
use Rattle.law_program.proofs.Then.{runs_alike}
use Rattle.law_program.proofs.images_alike.stored_images_run_alike.Goals as goal

pub returns : goal.returns
returns c = record { calls = stored_alike; turns = runs_alike }
