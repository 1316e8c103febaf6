use Rattle.ct_burst.proofs.Carrying.{through_quiet}
use Rattle.ct_burst.proofs.jumping.jump_through.Goals as goal

pub returns-clause-carries : goal.returns-clause-carries
returns-clause-carries c told =
    through_quiet c.args.row.now c.go_by_register.new.row c.args.to c.args.at c.args.immediate c.read_ref-x.result.now c.read_ref-x.ensures
    (c.jumps_on.ensures c.if-not-jumps_on.false) c.go_by_register.ensures
