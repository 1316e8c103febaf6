use Rattle.std.proofs.Common.{◌≡◌, ◌++◌, drop, map}
use Rattle.def_report.specs.Labels.{export_label as export_label_of}
use Rattle.ct_report.specs.Shown.{shown}
use Rattle.ct_report.proofs.labels.add_exports.Given as goal

abbrev pub invariant-loop-export : goal.invariant-loop-export
invariant-loop-export l = shown l.labels.items ++ map (export_label_of l.owner) (drop l.export-index l.exports) ≡ shown l.fn.labels.items ++ map (export_label_of l.owner) l.exports
