use Rattle.law_truly.proofs.Answers.{answers_no_more}
use Rattle.law_truly.proofs.FailedChecks.{first_failed_is}
use Rattle.law_truly.proofs.Passing.{fails_first, hold_passes, passes_hold}
use Rattle.law_truly.proofs.Postures.{postures_through}
use Rattle.law_truly.proofs.Rows.{put_among, taken_back}
use Rattle.law_truly.proofs.shared_rules_are_plain.Goals as goal

pub returns : goal.returns
returns g = record {
  passes = λ cs. (passes_hold cs, hold_passes cs);
  fails = λ cs why. (fails_first cs why, first_failed_is cs why);
  postures = postures_through;
  answers = answers_no_more;
  placed = put_among;
  quarantined = taken_back;
}
