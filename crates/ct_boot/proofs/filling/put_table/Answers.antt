use Rattle.std.proofs.Common.{◌≡◌, ◌+◌, ◌*◌, ◌∙◌, Some, length, slice_get, refl, ap, sym, arith}
use Rattle.def_image.specs.Members.{gate_address}
use Rattle.def_image.specs.Spelling.{export_field}
use Rattle.law_boot.proofs.Putting.{puts_export}
use Rattle.ct_boot.proofs.Fits.{table_end}
use Rattle.ct_boot.proofs.Made.{bytes_at}
use Rattle.ct_boot.proofs.filling.put_table.Goals as goal

pub put_exports-requires-clause-fits : goal.put_exports-requires-clause-fits
put_exports-requires-clause-fits g c =
    let end = table_end c.args.parts.now c.requires.sound c.args.of c.args.own.now c.requires.there in
    let own = c.own.view_is in
    let exports = c.as_slice.ensures.value ∙ ap (λ d. d.exports) c.code.view_is ∙ ap (λ o. o.code.exports) own in
    let table = ap (λ o. o.table) own in
    let all = ap length exports in
    omega (arith, end, table, all)

pub put_exports-requires-clause-puts : goal.put_exports-requires-clause-puts
put_exports-requires-clause-puts g c j x is =
    let own = c.own.view_is in
    let exports = c.as_slice.ensures.value ∙ ap (λ d. d.exports) c.code.view_is ∙ ap (λ o. o.code.exports) own in
    let export : slice_get c.args.own.now.code.exports j ≡ Some x = ap (λ xs. slice_get xs j) (sym exports) ∙ is in
    bytes_at c.args.parts.now (gate_address c.args.own.now j) _ (export_field x.row) (export_field x.row)
    (puts_export c.args.parts.now c.requires.sound c.args.of j c.args.own.now x c.requires.there export)
    (ap (λ o. o.table + 16 + 16 * j) own) refl
