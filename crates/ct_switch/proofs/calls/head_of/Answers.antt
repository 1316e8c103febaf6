use Rattle.std.proofs.Common.{◌≡◌, ◌*◌, length, subst, rules}
use Rattle.ct_switch.specs.Exports.{AreTogether}
use Rattle.ct_switch.proofs.Entering.{together_here}
use Rattle.ct_switch.proofs.calls.head_of.Goals as goal

pub table_at-requires-clause-together : goal.table_at-requires-clause-together
table_at-requires-clause-together g c =
    let rows : c.args.e.now.rows ≡ c.deref.result.now = search rules in
    subst (λ rs. AreTogether rs c.args.x.now.callee) rows
    (together_here c.args.e.now c.args.t.now.area.ram (8 * length (g.M.Memory.granules c.args.mem.now)) c.args.x.now.number c.args.x.now.callee
    c.requires.callable c.requires.callee)
