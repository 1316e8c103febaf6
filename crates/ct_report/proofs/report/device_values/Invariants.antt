use Rattle.std.proofs.Common.{◌≡◌, map, take}
use Rattle.serde_json.specs.View.{view}
use Rattle.def_report.specs.Report.{device_data}
use Rattle.ct_report.proofs.report.device_values.Given as goal

abbrev pub invariant-loop-device : goal.invariant-loop-device
invariant-loop-device l = map view l.values.items ≡ map device_data (take l.device-index l.devices)
