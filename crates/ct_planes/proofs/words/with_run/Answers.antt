use Rattle.std.proofs.Common.{◌≤◌, ◌-◌, ◌^◌, ◌<◌, arith, lit<}
use Rattle.std.proofs.Math.Nat.{pow-le-pow_right}
use Rattle.ct_planes.proofs.Runs.{run_set, run_clear, run_is}
use Rattle.ct_planes.proofs.words.with_run.Goals as goal

pub overflow_sub-run : goal.overflow_sub-run
overflow_sub-run c = let le : 2 ^ c.args.from ≤ 2 ^ c.args.to = pow-le-pow_right {n = 2} (lit< tt) c.requires.order in omega (arith, c.ones.ensures, c.ones-2.ensures)

pub returns-then-on : goal.returns-then-on
returns-then-on c i small =
    let run = run_is c.args.from c.args.to c.ones.result c.ones-2.result c.requires.order c.ones.ensures c.ones-2.ensures in
    rw (c.if-on.true, run) (run_set c.args.word c.args.from c.args.to i)

pub returns-else-on : goal.returns-else-on
returns-else-on c i small =
    let run = run_is c.args.from c.args.to c.ones.result c.ones-2.result c.requires.order c.ones.ensures c.ones-2.ensures in
    let fits : 2 ^ c.args.to - 2 ^ c.args.from < 2 ^ 64 = omega (arith, run, c.ones.type_inv) in
    rw (c.if-on.false, run) (run_clear c.args.word c.args.from c.args.to i fits small)
