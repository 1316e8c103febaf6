use Rattle.std.proofs.Common.{◌≡◌, drop}
use Rattle.std.specs.List.{list_any}
use Rattle.def_image.specs.Indexes.{comes_before}
use Rattle.ct_image.proofs.indexes.is_late.Given as goal

abbrev pub invariant-loop-slot : goal.invariant-loop-slot
invariant-loop-slot l = list_any (comes_before l.row) (drop l.slot-index l.earlier) ≡ list_any (comes_before l.row) l.earlier
