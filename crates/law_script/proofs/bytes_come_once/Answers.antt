use Rattle.std.proofs.Common.{◌<◌}
use Rattle.def_script.specs.declared.Given.{Given}
use Rattle.law_script.proofs.Coming.{come_once, no_more, all_given}
use Rattle.law_script.proofs.bytes_come_once.Goals as goal

pub returns : goal.returns
returns c = record { once = come_once; within = no_more; each = λ script step devices h. all_given (λ (g : Given). g.device < devices) script step h }
