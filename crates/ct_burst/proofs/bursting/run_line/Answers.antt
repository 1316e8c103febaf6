use Rattle.std.proofs.Common.{◌+◌, ◌-◌, ◌≡◌, List, arith, ap, subst}
use Rattle.def_machine.specs.State.{Frame}
use Rattle.ct_burst.specs.Carrying.{went}
use Rattle.ct_burst.specs.Going.{running_thread, GoesFor}
use Rattle.ct_burst.proofs.Onward.{further, stays_both}
use Rattle.ct_burst.proofs.Windows.{window_kept}
use Rattle.ct_burst.proofs.bursting.run_line.Goals as goal

pub returns-in-Led-clause-goes : goal.returns-in-Led-clause-goes
returns-in-Led-clause-goes g c fs =
    let few = c.loop-to_come.invariant.0 in
    let some = c.loop-to_come-test in
    let next : (c.args.most - c.loop-to_come.to_come) + 1 ≡ c.args.most - (c.loop-to_come.to_come - 1) = omega (arith, few, some) in
    subst (λ k. GoesFor c.args.ram k (running_thread c.args.row.now fs) (g.M.Memory.granules c.args.mem.now) (running_thread c.step.new.row fs) (g.M.Memory.granules c.step.new.mem)) next
    (further c.args.ram (c.args.most - c.loop-to_come.to_come) (running_thread c.args.row.now fs) (running_thread c.loop-to_come.row fs) (running_thread c.step.new.row fs) (g.M.Memory.granules c.args.mem.now)
    (g.M.Memory.granules c.loop-to_come.mem) (g.M.Memory.granules c.step.new.mem) (c.loop-to_come.invariant.1 fs) (c.step.ensures.goes (ap went c.in-Led.is) fs))

pub returns-in-Turned-clause-goes : goal.returns-in-Turned-clause-goes
returns-in-Turned-clause-goes g c fs =
    let few = c.loop-to_come.invariant.0 in
    let some = c.loop-to_come-test in
    let next : (c.args.most - c.loop-to_come.to_come) + 1 ≡ c.args.most - (c.loop-to_come.to_come - 1) = omega (arith, few, some) in
    subst (λ k. GoesFor c.args.ram k (running_thread c.args.row.now fs) (g.M.Memory.granules c.args.mem.now) (running_thread c.step.new.row fs) (g.M.Memory.granules c.step.new.mem)) next
    (further c.args.ram (c.args.most - c.loop-to_come.to_come) (running_thread c.args.row.now fs) (running_thread c.loop-to_come.row fs) (running_thread c.step.new.row fs) (g.M.Memory.granules c.args.mem.now)
    (g.M.Memory.granules c.loop-to_come.mem) (g.M.Memory.granules c.step.new.mem) (c.loop-to_come.invariant.1 fs) (c.step.ensures.goes (ap went c.in-Turned.is) fs))

pub loop-to_come-preserved : goal.loop-to_come-preserved
loop-to_come-preserved g c =
    let gs = g.M.Memory.granules c.args.mem.now in
    let between = g.M.Memory.granules c.loop-to_come.mem in
    let after = g.M.Memory.granules c.step.new.mem in
    let r = c.args.row.now in
    let new = c.step.new.row in
    let kept = c.loop-to_come.invariant in
    let few = kept.0 in
    let some = c.loop-to_come-test in
    let past = c.step.ensures.past c.in-Went.is in
    let next : (c.args.most - c.loop-to_come.to_come) + 1 ≡ c.args.most - (c.loop-to_come.to_come - 1) = omega (arith, few, some) in
    let here = kept.5 in
    let there = past.next in (
      omega (arith, few),
      λ (fs : List Frame). subst (λ k. GoesFor c.args.ram k (running_thread r fs) gs (running_thread new fs) after) next
          (further c.args.ram (c.args.most - c.loop-to_come.to_come) (running_thread r fs) (running_thread c.loop-to_come.row fs) (running_thread new fs) gs between after (kept.1 fs) (c.step.ensures.goes (ap went c.in-Went.is) fs)),
      stays_both r c.loop-to_come.row new gs between after kept.2 c.step.ensures.stays,
      past.on,
      window_kept c.args.ram c.loop-to_come.row new between after c.args.window kept.4 c.step.ensures.stays.size past.on.suits,
      omega (arith, few, some, here, there),
    )
