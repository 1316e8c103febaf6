use Rattle.std.proofs.Common.{arith}
use Rattle.law_layout.proofs.Placing.{grows}
use Rattle.ct_layout.proofs.place.Goals as goal

pub overflow_sub-end : goal.overflow_sub-end
overflow_sub-end c = let up = grows c.sizes.inside.base c.deref.result.now in let is = c.last_end-end.ensures in omega (arith, up, is)
