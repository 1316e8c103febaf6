use Rattle.std.proofs.Common.{rules}
use Rattle.def_words.specs.Capability.{integer}
use Rattle.ct_burst.proofs.Moves.{put_past}
use Rattle.ct_burst.proofs.going.put.Goals as goal

pub returns-then-to-ne0-clause-past : goal.returns-then-to-ne0-clause-past
returns-then-to-ne0-clause-past c = put_past c.args.row.now _ c.args.window c.args.to c.args.value.now (search rules) c.requires.held

pub returns-else-to-ne0-clause-past : goal.returns-else-to-ne0-clause-past
returns-else-to-ne0-clause-past c = put_past c.args.row.now _ c.args.window 0 (integer 0) (search rules) c.requires.held
