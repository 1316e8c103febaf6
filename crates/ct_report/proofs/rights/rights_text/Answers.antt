use Rattle.std.proofs.Common.{ap, ◌∙◌}
use Rattle.def_report.specs.Rights.{with_right_names, permission_names, rights_text}
use Rattle.ct_report.proofs.rights.rights_text.Goals as goal

pub returns : goal.returns
unfolding rights_text
returns c = c.in_ok-add_names.ensures ∙ ap (λ t. with_right_names t c.args.rights permission_names) c.new-text.ensures.bytes
