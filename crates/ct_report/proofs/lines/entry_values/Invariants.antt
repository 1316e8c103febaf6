use Rattle.std.proofs.Common.{◌≡◌, ◌+◌, ◌++◌, drop, map}
use Rattle.serde_json.specs.View.{view}
use Rattle.def_report.specs.Lines.{numbered_entries}
use Rattle.ct_report.specs.Shown.{shown}
use Rattle.ct_report.proofs.lines.entry_values.Given as goal

abbrev pub invariant-loop-index : goal.invariant-loop-index
invariant-loop-index l = map view l.values.items ++ numbered_entries (l.index + 1) (drop l.index l.rows) (shown (drop l.index l.labels)) ≡ numbered_entries 1 l.rows (shown l.labels)
