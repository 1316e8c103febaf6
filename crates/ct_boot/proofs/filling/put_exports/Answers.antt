use Rattle.std.proofs.Common.{◌+◌, ◌*◌, ◌∙◌, refl, ap, arith}
use Rattle.def_image.specs.Spelling.{export_field}
use Rattle.ct_boot.proofs.Made.{bytes_at}
use Rattle.ct_boot.proofs.Ranges.{got_of}
use Rattle.ct_boot.proofs.filling.put_exports.Goals as goal

pub put_bytes-requires-clause-puts : goal.put_bytes-requires-clause-puts
put_bytes-requires-clause-puts g c =
    let puts = c.requires.puts c.loop-index.index c.index-exports-index.result (got_of c.args.exports.now _ _ _ refl (omega (arith, c.loop-index-test.true)) c.index-exports-index.is) in
    bytes_at c.args.parts.now (c.args.table + 16 + 16 * c.loop-index.index) _ _ _ puts refl (c.write_export.ensures ∙ ap (λ x. export_field x.row) c.export.view_is)
