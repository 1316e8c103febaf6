use Rattle.std.proofs.Common.{◌≡◌, map, take}
use Rattle.serde_json.specs.View.{view}
use Rattle.def_report.specs.Report.{library_data}
use Rattle.ct_report.proofs.report.library_values.Given as goal

abbrev pub invariant-loop-library : goal.invariant-loop-library
invariant-loop-library l = map view l.values.items ≡ map library_data (take l.library-index l.libraries)
