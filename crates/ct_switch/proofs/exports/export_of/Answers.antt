use Rattle.std.proofs.Common.{◌≡◌, sym, ◌∙◌, rules}
use Rattle.def_reach.specs.Roots.{gate_for}
use Rattle.ct_switch.proofs.Rows.{export_found, export_missing}
use Rattle.ct_switch.proofs.exports.export_of.Goals as goal

pub returns-in-Some : goal.returns-in-Some
returns-in-Some c =
    let gates : c.args.e.now.gates ≡ c.deref.result.now = search rules in
    let rows : c.args.e.now.rows ≡ c.deref-2.result.now = search rules in
    let gate : c.gate_of-gate.result ≡ gate_for c.args.e.now.gates c.args.number = rw gates c.gate_of-gate.ensures in
    rw (c.home_of.ensures, c.is_disabled.ensures, gate)
    (sym (export_found c.args.e.now c.args.number c.in-Some.row (rw rows (sym c.named.ensures ∙ c.in-Some.is))))

pub returns-in-None : goal.returns-in-None
returns-in-None c =
    let gates : c.args.e.now.gates ≡ c.deref.result.now = search rules in
    let rows : c.args.e.now.rows ≡ c.deref-2.result.now = search rules in
    let gate : c.gate_of-gate.result ≡ gate_for c.args.e.now.gates c.args.number = rw gates c.gate_of-gate.ensures in
    rw gate (sym (export_missing c.args.e.now c.args.number (rw rows (sym c.named.ensures ∙ c.in-None.is))))
