use Rattle.std.proofs.Common.{◌∙◌}
use Rattle.ct_flow.proofs.Links.{disabling_link, enabling_link}
use Rattle.ct_flow.proofs.standing.become_link.Goals as goal

pub returns-then-before : goal.returns-then-before
returns-then-before c = c.seal_in_place.ensures ∙ disabling_link c.args.pcc.now c.raise.new.l c.args.before c.raise.ensures c.if-before.true

pub returns-else-before : goal.returns-else-before
returns-else-before c = c.seal_in_place-else-before.ensures ∙ enabling_link c.args.pcc.now c.raise.new.l c.args.before c.raise.ensures c.if-before.false
