use Rattle.std.proofs.Common.{◌≡◌, ◌≤◌, ◌<◌, ◌∙◌, length, sym, ap, arith, rules}
use Rattle.ct_switch.specs.declared.exports.Export.{Export}
use Rattle.ct_switch.specs.Exports.{callee_of}
use Rattle.tests_machine.proofs.Searches.{callable_so}
use Rattle.tests_machine.proofs.asked.is_callable.Goals as goal

pub table_at-table-requires-clause-together : goal.table_at-table-requires-clause-together
table_at-table-requires-clause-together c = c.are_together-together.ensures c.if-together.true

pub returns-then-together : goal.returns-then-together
returns-then-together c =
    let rows : c.as_slice-rows.result.now ≡ c.args.e.now.rows = search rules in
    let home : c.export_of-home.result.callee ≡ callee_of c.args.e.now c.args.number = ap (λ (x : Export). x.callee) c.export_of-home.ensures in
    let some : 1 ≤ c.args.number = omega arith in
    let inside : c.saturating_sub-index.result < length c.as_slice-rows.result.now = omega arith in
    λ so. callable_so c.args.e.now c.args.ram c.args.size c.args.number c.saturating_sub-index.result c.export_of-home.result.callee c.table_at-table.result
    c.as_slice-rows.result.now some c.saturating_sub-index.ensures home rows inside
    (sym c.is_export_of-exported.ensures ∙ c.if-exported.true) (c.are_together-together.ensures c.if-together.true) c.table_at-table.ensures (c.head_lies.ensures so)
