use Rattle.std.proofs.lemmas.Result.{err_from_is_err_and}
use Rattle.ct_image_fields.specs.Reading.{many_at as many}
use Rattle.ct_image_fields.proofs.Loop.{goes_on, ends, is_done}
use Rattle.ct_image_fields.proofs.lists.many_at.Goals as goal

pub returns-in_err-one : goal.returns-in_err-one
returns-in_err-one g c =
    let reads = g.T.Member.reads in
    let p = err_from_is_err_and c.from_residual.result c.from_residual.ensures.1 in
    rw (p.1, p.2) (ends reads c.in_err-one.field-0.0 c.loop.found.items c.args.count c.loop.counter c.loop.rest.now (many reads c.args.count c.args.bytes.now) c.loop-test.true c.in_err-one.ensures c.loop.invariant)

pub loop-preserved : goal.loop-preserved
loop-preserved g c =
    let reads = g.T.Member.reads in
    rw c.in_ok-push.ensures.items (goes_on reads c.loop.found.items c.args.count c.loop.counter c.loop.rest.now c.in_ok-one.one c.in_ok-one.after.now (many reads c.args.count c.args.bytes.now) c.loop-test.true c.in_ok-one.ensures c.loop.invariant)

pub returns : goal.returns
returns g c =
    let reads = g.T.Member.reads in
    is_done reads c.loop.found.items c.args.count c.loop.counter c.loop.rest.now (many reads c.args.count c.args.bytes.now) c.loop-test.false c.loop.invariant
