use Rattle.law_examples.proofs.Away.{roots_away}
use Rattle.law_examples.proofs.Whole.{small_partitioned}
use Rattle.law_examples.proofs.Gates.{small_gates}
use Rattle.law_examples.proofs.Booting.{starting_confined}
use Rattle.law_examples.proofs.example.small_firmware.Goals as goal

pub returns : goal.returns
returns c = record { partitioned = small_partitioned; gates = small_gates; confined = starting_confined; roots_away = roots_away }
