use Rattle.law_report.proofs.Joined.{tested}
use Rattle.ct_report.proofs.edges.joined.Goals as goal

pub returns : goal.returns
returns c = tested c.joins.result c.args.graph.now c.args.a c.args.b c.joins.ensures
