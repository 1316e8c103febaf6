use Rattle.std.proofs.Common.{◌≡◌, sym, ◌∙◌, rules}
use Rattle.ct_switch.proofs.Rows.{called_found, called_missing}
use Rattle.ct_switch.proofs.exports.called.Goals as goal

pub returns-in-Some : goal.returns-in-Some
returns-in-Some c =
    let rows : c.args.e.now.rows ≡ c.deref.result.now = search rules in
    called_found c.args.e.now c.args.entry c.in-Some.row (rw rows (sym c.named.ensures ∙ c.in-Some.is))

pub returns-in-None : goal.returns-in-None
returns-in-None c =
    let rows : c.args.e.now.rows ≡ c.deref.result.now = search rules in
    called_missing c.args.e.now c.args.entry (rw rows (sym c.named.ensures ∙ c.in-None.is))
