use Rattle.std.proofs.Common.{◌≡◌, ◌-◌, ◌++◌, map}
use Rattle.std.specs.List.{flat_map, range_with_len}
use Rattle.serde_json.specs.View.{view}
use Rattle.def_report.specs.Edges.{edges, edges_from}
use Rattle.def_report.specs.Report.{edge_data}
use Rattle.ct_report.proofs.edges.edge_values.Given as goal

abbrev pub invariant-loop-a : goal.invariant-loop-a
invariant-loop-a l = map view l.values.items ++ map edge_data (flat_map (edges_from l.graph l.count) (range_with_len l.a (l.count - l.a))) ≡ map edge_data (edges l.graph l.count)
