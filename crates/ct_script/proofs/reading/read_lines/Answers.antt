use Rattle.ct_script.proofs.Accounts.{goes_on, fault_is}
use Rattle.ct_script.proofs.reading.read_lines.Goals as goal

pub loop-left-preserved : goal.loop-left-preserved
loop-left-preserved c = goes_on c.args.devices.now c.args.bytes.now c.loop-left.left.now c.in-Ok.rest.now c.loop-left.lines c.take_line.new.lines c.loop-left.invariant c.in-Ok.ensures

pub returns-in-Err : goal.returns-in-Err
returns-in-Err c = fault_is c.args.devices.now c.args.bytes.now c.loop-left.left.now c.loop-left.lines c.in-Err.fault c.loop-left.invariant c.in-Err.ensures
