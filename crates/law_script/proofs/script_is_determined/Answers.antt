use Rattle.law_script.proofs.Scripts.{one_reading, no_reading, one_fault}
use Rattle.law_script.proofs.script_is_determined.Goals as goal

pub returns : goal.returns
returns c = record { one_reading = one_reading; no_reading = no_reading; one_fault = one_fault }
