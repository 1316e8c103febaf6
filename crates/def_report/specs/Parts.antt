-- Parts of a report, each as a text of its own.
use Rattle.std.specs.Prelude.{ℕ, List, [], unwrap_or, option_map, slice_get}
use Rattle.serde_json.specs.Written.{compact_text}
use Rattle.def_image.specs.Parts.{PartsRow}
use Rattle.def_boot.specs.Entries.{entry_rows}
use Rattle.def_report.specs.Labels.{labels_of}
use Rattle.def_report.specs.Lines.{numbered_entries}
use Rattle.def_report.specs.Report.{data_over}

-- entry number k + 1
unfoldable pub entry_text : PartsRow → ℕ → List ℕ
entry_text p k =
    unwrap_or (option_map compact_text (slice_get (numbered_entries 1 (entry_rows p) (labels_of p)) k)) []

-- the report as if there were no entries, and so no edges
unfoldable pub frame_text : PartsRow → List ℕ
frame_text p = compact_text (data_over p (record { rows = []; gates = [] }))
