use Rattle.std.proofs.Common.{arith}
use Rattle.ct_policy.proofs.Linked.{link_step}
use Rattle.ct_policy.proofs.links.links_of.Goals as goal

pub loop-left-preserved : goal.loop-left-preserved
loop-left-preserved c = record {
  inside = omega (arith, c.loop-left.invariant.inside);
  are = link_step c.args.keys.now c.args.size c.loop-left.left c.index.result.now c.loop-left.firsts.items c.loop-left.nexts.items
      (omega (arith, c.loop-left-test.true)) c.loop-left.invariant.inside c.requires.some c.index.ensures c.loop-left.invariant.are;
}
