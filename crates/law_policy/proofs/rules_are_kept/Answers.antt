use Rattle.law_policy.proofs.Kept.{data_held, disabled_held, only_held, quota_held, total_held}
use Rattle.law_policy.proofs.rules_are_kept.Goals as goal

pub returns : goal.returns
returns c = record {
  resources = only_held;
  disabled = disabled_held;
  passing = data_held;
  total = total_held;
  quota = λ e r n o is keeps. quota_held e r n o is keeps;
}
