use Rattle.std.proofs.Common.{◌+◌, length, map, drop, sym}
use Rattle.std.proofs.lemmas.Bool.{ltb-false}
use Rattle.serde_json.specs.View.{view}
use Rattle.def_report.specs.Lines.{numbered_entries}
use Rattle.ct_report.specs.Shown.{shown}
use Rattle.ct_report.proofs.Numbered.{numbered_short, done_all}
use Rattle.ct_report.proofs.lines.entry_values.Goals as goal

pub returns-in-None : goal.returns-in-None
returns-in-None c =
    let i = c.loop-index.index in
    let rows = c.args.rows.now in
    let labels = c.args.labels.now in
    let short = ltb-false i (length labels) (sym c.in-None.ensures.lookup.0) in
    done_all (map view c.loop-index.values.items) (numbered_entries (i + 1) (drop i rows) (shown (drop i labels))) (numbered_entries 1 rows (shown labels))
    c.loop-index.invariant (numbered_short (i + 1) (drop i rows) labels i short)
