use Rattle.std.proofs.Common.{rules}
use Rattle.ct_policy.proofs.Accounts.{goes_on, fault_is, reads_kept}
use Rattle.ct_policy.proofs.reading.read_lines.Goals as goal

pub loop-left-preserved : goal.loop-left-preserved
loop-left-preserved c = goes_on c.args.parts.now c.args.bytes.now c.loop-left.left.now c.in-Ok.rest.now c.loop-left.rulings.items c.take_line.new.rulings.items c.loop-left.invariant c.in-Ok.ensures

pub returns-in-Err : goal.returns-in-Err
returns-in-Err c = fault_is c.args.parts.now c.args.bytes.now c.loop-left.left.now c.loop-left.rulings.items c.in-Err.fault c.loop-left.invariant c.in-Err.ensures

pub returns : goal.returns
returns c = reads_kept c.args.parts.now c.args.bytes.now c.loop-left.left.now c.loop-left.rulings.items c.requires.short c.loop-left.invariant (search rules)
