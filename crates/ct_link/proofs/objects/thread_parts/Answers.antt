use Rattle.std.proofs.Common.{◌≡◌, ◌≤◌, length, ◌∙◌, arith}
use Rattle.ct_link.proofs.Parts.{thread_in, thread_all}
use Rattle.ct_link.proofs.Stretches.{numbered_pushed, all_numbered}
use Rattle.ct_link.proofs.objects.thread_parts.Goals as goal

pub loop-thread-preserved : goal.loop-thread-preserved
loop-thread-preserved c =
    let l = c.loop-thread in
    numbered_pushed (thread_in c.args.desc.now c.args.regions.now) c.args.first c.args.threads.now l.thread-index l.at _ c.thread-item.result l.parts.items c.push.new.self.items c.in_ok-thread_part.field-0
    l.invariant c.loop-thread-test.true c.thread-item.is c.in_ok-thread_part.ensures c.in_ok-push.ensures.items

pub returns : goal.returns
returns c =
    let l = c.loop-thread in
    let past = c.loop-thread-test.false in
    let end : length c.args.threads.now ≤ l.thread-index = omega (arith, past) in
    all_numbered (thread_in c.args.desc.now c.args.regions.now) c.args.first c.args.threads.now l.thread-index l.parts.items l.invariant.1 end ∙ thread_all c.args.desc.now c.args.regions.now c.args.first c.args.threads.now
