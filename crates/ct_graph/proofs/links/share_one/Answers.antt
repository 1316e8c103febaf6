use Rattle.std.proofs.Common.{◌∙◌}
use Rattle.ct_graph.proofs.Steps.{shared_both_ways}
use Rattle.ct_graph.proofs.links.share_one.Goals as goal

pub returns : goal.returns
returns c = c.shares_any.ensures ∙ shared_both_ways c.args.to.now c.args.from.now
