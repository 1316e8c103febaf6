use Rattle.std.proofs.Common.{◌≤◌, arith}
use Rattle.tests_machine.proofs.Searches.{rise_more, sorted_so}
use Rattle.tests_machine.proofs.asked.are_sorted.Goals as goal

pub loop-i-preserved : goal.loop-i-preserved
loop-i-preserved c = rise_more c.args.gates.now c.loop-i.i c.loop-i.invariant c.if-gates-i.false

pub returns : goal.returns
returns c = λ so. sorted_so c.args.gates.now c.loop-i.i (omega arith) c.loop-i.invariant
