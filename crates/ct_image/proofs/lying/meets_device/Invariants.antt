use Rattle.std.proofs.Common.{◌≡◌, drop}
use Rattle.std.specs.List.{list_any}
use Rattle.def_image.specs.Lying as spec
use Rattle.ct_image.proofs.lying.meets_device.Given as goal

abbrev pub invariant-loop-other : goal.invariant-loop-other
invariant-loop-other l = list_any (spec.overlaps_device l.base) (drop l.other-index l.earlier) ≡ list_any (spec.overlaps_device l.base) l.earlier
