use Rattle.std.proofs.Common.{◌≡◌, ◌++◌, drop}
use Rattle.std.specs.List.{flat_map}
use Rattle.def_report.specs.Labels.{compartment_labels}
use Rattle.ct_report.specs.Shown.{shown}
use Rattle.ct_report.proofs.labels.add_compartments.Given as goal

abbrev pub invariant-loop-compartment : goal.invariant-loop-compartment
invariant-loop-compartment l = shown l.labels.items ++ flat_map (compartment_labels l.parts) (drop l.compartment-index l.compartments) ≡ shown l.fn.labels.items ++ flat_map (compartment_labels l.parts) l.compartments
