use Rattle.std.proofs.Common.{◌≡◌, drop}
use Rattle.std.specs.List.{list_any}
use Rattle.def_image.specs.Lying.{meets_region}
use Rattle.ct_image.specs.Spans.{row_of, rows_of}
use Rattle.ct_image.proofs.lying.meets_any.Given as goal

abbrev pub invariant-loop-other : goal.invariant-loop-other
invariant-loop-other l = list_any (meets_region (row_of l.span)) (rows_of (drop l.other-index l.earlier)) ≡ list_any (meets_region (row_of l.span)) (rows_of l.earlier)
