use Rattle.std.proofs.Common.{map}
use Rattle.serde_json.specs.View.{view}
use Rattle.def_report.specs.Edges.{edges, edges_from}
use Rattle.def_report.specs.Report.{edge_data}
use Rattle.ct_report.proofs.Ranges.{range_next}
use Rattle.ct_report.proofs.edges.edge_values.Goals as goal

pub loop-a-preserved : goal.loop-a-preserved
loop-a-preserved c = range_next
    (edges_from c.args.graph.now c.args.count) edge_data
    (map view c.loop-a.values.items) (map view c.add_edges.new.values.items)
    (map edge_data (edges c.args.graph.now c.args.count))
    c.loop-a.a c.args.count c.loop-a-test.true c.loop-a.invariant c.in_ok-add_edges.ensures
