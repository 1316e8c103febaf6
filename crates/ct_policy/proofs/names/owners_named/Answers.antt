use Rattle.ct_policy.proofs.Owned.{none_there, one_more}
use Rattle.ct_policy.proofs.names.owners_named.Goals as goal

pub returns-in-None : goal.returns-in-None
returns-in-None c =
    none_there c.args.parts.now c.args.names.now c.loop-name.name-index _ c.loop-name.owners.items c.loop-name-test.true c.in-None.ensures.named c.loop-name.invariant

pub loop-name-preserved : goal.loop-name-preserved
loop-name-preserved c =
    one_more c.args.parts.now c.args.names.now c.loop-name.name-index _ c.loop-name.owners.items c.push.new.self.items c.in-Some.owner c.loop-name-test.true
    c.in-Some.ensures.named c.in_ok-push-in-Some.ensures.items c.loop-name.invariant
