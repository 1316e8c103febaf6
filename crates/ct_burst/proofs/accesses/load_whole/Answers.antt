use Rattle.ct_burst.proofs.Loads.{held_with}
use Rattle.ct_burst.proofs.accesses.load_whole.Goals as goal

pub put-requires-clause-held : goal.put-requires-clause-held
put-requires-clause-held g c = held_with c.args.row.now c.args.window c.load_register.new.registers c.requires.held
