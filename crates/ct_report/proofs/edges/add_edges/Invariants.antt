use Rattle.std.proofs.Common.{◌≡◌, ◌-◌, ◌++◌, map}
use Rattle.std.specs.List.{flat_map, range_with_len}
use Rattle.serde_json.specs.View.{view}
use Rattle.def_report.specs.Edges.{edge_of, edges_from}
use Rattle.def_report.specs.Report.{edge_data}
use Rattle.ct_report.proofs.edges.add_edges.Given as goal

abbrev pub invariant-loop-b : goal.invariant-loop-b
invariant-loop-b l = map view l.values.items ++ map edge_data (flat_map (edge_of l.graph l.a) (range_with_len l.b (l.count - l.b))) ≡ map view l.fn.values.items ++ map edge_data (edges_from l.graph l.count l.a)
