use Rattle.std.proofs.Common.{refl, sym}
use Rattle.ct_commands.proofs.Endings.{misused}
use Rattle.ct_top.proofs.command.Goals as goal

pub returns-in-None : goal.returns-in-None
returns-in-None g c = misused _ c.refuse_usage.result (sym c.in-None.ensures.command) refl refl c.refuse_usage.ensures
