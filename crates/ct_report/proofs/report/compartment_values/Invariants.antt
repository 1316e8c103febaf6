use Rattle.std.proofs.Common.{◌≡◌, map, take}
use Rattle.serde_json.specs.View.{view}
use Rattle.def_report.specs.Report.{compartment_data}
use Rattle.ct_report.proofs.report.compartment_values.Given as goal

abbrev pub invariant-loop-compartment : goal.invariant-loop-compartment
invariant-loop-compartment l = map view l.values.items ≡ map compartment_data (take l.compartment-index l.compartments)
