use Rattle.std.proofs.Common.{◌≡◌, take}
use Rattle.ct_image_parts.proofs.copying.all_copied.Given as goal

abbrev pub invariant-loop-one : goal.invariant-loop-one
invariant-loop-one g l = l.copies.items ≡ take l.one-index l.all
