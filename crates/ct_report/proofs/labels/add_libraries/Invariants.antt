use Rattle.std.proofs.Common.{◌≡◌, ◌++◌, drop}
use Rattle.std.specs.List.{flat_map}
use Rattle.def_report.specs.Labels.{library_labels}
use Rattle.ct_report.specs.Shown.{shown}
use Rattle.ct_report.proofs.labels.add_libraries.Given as goal

abbrev pub invariant-loop-library : goal.invariant-loop-library
invariant-loop-library l = shown l.labels.items ++ flat_map (library_labels l.parts) (drop l.library-index l.libraries) ≡ shown l.fn.labels.items ++ flat_map (library_labels l.parts) l.libraries
