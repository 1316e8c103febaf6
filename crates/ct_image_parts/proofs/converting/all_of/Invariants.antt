use Rattle.std.proofs.Common.{◌≡◌, map, take}
use Rattle.ct_image_parts.proofs.converting.all_of.Given as goal

abbrev pub invariant-loop-fields : goal.invariant-loop-fields
invariant-loop-fields g l = l.parts.items ≡ map g.P.Made.meaning (take l.fields-index l.all)
