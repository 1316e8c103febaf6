use Rattle.law_program.proofs.Alike.{upgraded_alike}
use Rattle.law_program.proofs.Upgraded.{happenings_alike, runs_on}
use Rattle.law_program.proofs.ReportsAlike.{line_alike}
use Rattle.law_program.proofs.images_alike.upgraded_images_run_alike.Goals as goal

pub returns : goal.returns
returns c = record { calls = upgraded_alike; turns = runs_on; happenings = happenings_alike; report = line_alike }
