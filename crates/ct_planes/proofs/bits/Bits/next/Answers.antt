use Rattle.std.proofs.Common.{arith}
use Rattle.ct_planes.proofs.Spelling.{length_flags}
use Rattle.ct_planes.proofs.bits.Bits.next.Goals as goal

pub next_in-requires : goal.next_in-requires
next_in-requires c = omega (arith, c.deref.ensures.len, c.self.inside.words.ok, c.self.invariant.0, c.self.invariant.1.size, length_flags c.self.inside.count c.self.inside.words.items)
