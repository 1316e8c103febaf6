use Rattle.law_boot.proofs.Holding.{holds}
use Rattle.law_boot.proofs.Ranges.{inside}
use Rattle.law_boot.proofs.Whole.{partitioned}
use Rattle.law_boot.proofs.Wiring.{wired}
use Rattle.law_boot.proofs.premises.premises_hold.Goals as goal

pub returns : goal.returns
returns c = record { partitioned = partitioned; facts = holds; wired = wired; inside = inside }
