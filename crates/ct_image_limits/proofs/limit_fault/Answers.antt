use Rattle.std.proofs.Common.{arith}
use Rattle.law_image.proofs.Places.{places_are}
use Rattle.ct_image_limits.proofs.limit_fault.Goals as goal

pub parts_fault-requires : goal.parts_fault-requires
parts_fault-requires c = let whole = places_are c.args.raw.now c.requires.shaped in omega (arith, whole, c.requires.small)
