use Rattle.std.proofs.Common.{◌≡◌, ◌++◌, flat_map, take}
use Rattle.ct_image_parts.proofs.writing.put_all.Given as goal

abbrev pub invariant-loop-one : goal.invariant-loop-one
invariant-loop-one g l = l.out.items ≡ l.fn.out.items ++ flat_map g.T.Put.told (take l.one-index l.all)
