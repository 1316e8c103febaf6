use Rattle.std.proofs.Common.{◌++◌, map}
use Rattle.serde_json.specs.View.{view}
use Rattle.def_report.specs.Edges.{edge_of, edges_from}
use Rattle.def_report.specs.Report.{edge_data}
use Rattle.ct_report.proofs.Ranges.{range_next}
use Rattle.ct_report.proofs.edges.add_edges.Goals as goal

pub loop-b-preserved : goal.loop-b-preserved
loop-b-preserved c = range_next
    (edge_of c.args.graph.now c.args.a) edge_data
    (map view c.loop-b.values.items) (map view c.add_edge.new.values.items)
    (map view c.args.values.now.items ++ map edge_data (edges_from c.args.graph.now c.args.count c.args.a))
    c.loop-b.b c.args.count c.loop-b-test.true c.loop-b.invariant c.in_ok-add_edge.ensures
