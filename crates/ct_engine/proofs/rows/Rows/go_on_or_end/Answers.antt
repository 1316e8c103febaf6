use Rattle.std.proofs.Common.{ap}
use Rattle.std.specs.Vec.{with_item}
use Rattle.ct_engine.specs.declared.rows.Rows.{Rows}
use Rattle.ct_engine.proofs.rows.Rows.go_on_or_end.Goals as goal

pub returns-clause-is : goal.returns-clause-is
returns-clause-is c =
    let rows = c.args.self.now in
    ap (λ o. let r : Rows = record rows { running = o; standing = with_item rows.standing c.args.t c.args.more } in r) c.then_some-self.ensures
