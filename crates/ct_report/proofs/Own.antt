-- The report over an image's own entries is its report.
use Rattle.std.proofs.Common.{◌≡◌, [], ◌∷◌, ◌++◌, ap, ◌∙◌}
use Rattle.serde_json.specs.Written.{compact_text}
use Rattle.ct_entry.specs.Listed.{Listed}
use Rattle.def_image.specs.Parts.{PartsRow}
use Rattle.def_boot.specs.Gates.{entries_of}
use Rattle.def_report.specs.Report.{data_over, report_data, report_line}

pub own_line : (p q : PartsRow) (e : Listed) → q ≡ p → e ≡ entries_of p → compact_text (data_over q e) ++ 10 ∷ [] ≡ report_line p
unfolding report_line report_data
own_line p q e same is =
    ap (λ r. compact_text (data_over r e) ++ 10 ∷ []) same ∙ ap (λ l. compact_text (data_over p l) ++ 10 ∷ []) is
