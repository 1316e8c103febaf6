use Rattle.std.proofs.Common.{◌∙◌, arith}
use Rattle.ct_switch.proofs.Rows.{table_found}
use Rattle.ct_switch.proofs.looking.table_at.Goals as goal

pub returns : goal.returns
returns c = c.saturating_sub.ensures
    ∙ table_found c.args.rows.now c.args.home c.first_of.result c.requires.together (omega arith) c.first_of.ensures.export c.first_of.ensures.start
