use Rattle.std.proofs.Common.{◌+◌, ◌∙◌, ap, sym, arith}
use Rattle.ct_entry.specs.declared.rows.Owner.TheVariants.{Compartment}
use Rattle.law_boot.proofs.Putting.{puts_code, puts_globals}
use Rattle.ct_boot.proofs.Fits.{table_end}
use Rattle.ct_boot.proofs.Made.{puts_at, code_made_is, globals_made_are}
use Rattle.ct_boot.proofs.Ranges.{both_granules, granule_at}
use Rattle.ct_boot.proofs.filling.put_head.Goals as goal

pub put-requires-clause-puts : goal.put-requires-clause-puts
put-requires-clause-puts g c =
    puts_at c.args.parts.now c.args.own.now.table _ _ _ (puts_code c.args.parts.now c.requires.sound c.args.of c.args.own.now c.requires.there) (ap (λ o. o.table) c.own.view_is)
    (c.own_code.ensures (Compartment c.args.of) ∙ code_made_is c.args.parts.now c.args.of c.args.own.now _ _ c.requires.there c.code_number-number.ensures.is (ap (λ o. o.code) c.own.view_is))

pub overflow_add-own-inside : goal.overflow_add-own-inside
overflow_add-own-inside g c =
    let end = table_end c.args.parts.now c.requires.sound c.args.of c.args.own.now c.requires.there in
    let table = ap (λ o. o.table) c.own.view_is in
    omega (arith, end, table)

pub put-requires-2-clause-puts : goal.put-requires-2-clause-puts
put-requires-2-clause-puts g c =
    puts_at c.args.parts.now (c.args.own.now.table + 8) _ _ _ (puts_globals c.args.parts.now c.requires.sound c.args.of c.args.own.now c.requires.there) (ap (λ o. o.table + 8) c.own.view_is)
    (c.own_globals.ensures c.args.of ∙ globals_made_are c.args.parts.now c.args.of c.args.own.now _ c.requires.there c.code_number-number.ensures.globals)

pub returns : goal.returns
returns g c =
    let even = (puts_code c.args.parts.now c.requires.sound c.args.of c.args.own.now c.requires.there).even in
    both_granules c.args.parts.now _ _ _ c.args.own.now.table even
    (granule_at c.args.parts.now _ _ _ c.args.own.now.table c.put.ensures (sym (ap (λ o. o.table) c.own.view_is)))
    (granule_at c.args.parts.now _ _ _ (c.args.own.now.table + 8) c.put-2.ensures (sym (ap (λ o. o.table + 8) c.own.view_is)))
