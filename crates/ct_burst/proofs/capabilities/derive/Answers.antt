use Rattle.ct_burst.proofs.Loads.{held_with}
use Rattle.ct_burst.proofs.capabilities.derive.Goals as goal

pub put-requires-clause-held : goal.put-requires-clause-held
put-requires-clause-held c = held_with c.args.row.now c.args.window c.give.new.registers c.requires.held
