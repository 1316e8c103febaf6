use Rattle.std.proofs.Common.{◌≡◌, ◌≤◌, length, map, arith}
use Rattle.def_desc.specs.References.{export_name}
use Rattle.def_desc.specs.Rows.{LexportRow}
use Rattle.def_link.specs.Slots.{index_of, export_from}
use Rattle.ct_link_slots.specs.Exporters.{library_exporter}
use Rattle.ct_link_slots.proofs.Names.{lent_next}
use Rattle.ct_link_slots.proofs.exports.lent.Goals as goal

pub loop-library-preserved : goal.loop-library-preserved
loop-library-preserved c =
    let l = c.loop-library in
    let x = c.library-item.result in
    let e = c.export_in-export.result in
    let is : e ≡ index_of c.args.text.now (map (export_name x.name) (map (λ (y : LexportRow). y.name) x.exports)) = rw (← c.library.view_is, ← c.as_bytes.ensures.value, ← c.as_slice-exports.ensures.value) c.export_in-export.ensures in
    let past = c.if-export-exports.false in
    let more : length x.exports ≤ e = rw (← c.library.view_is, ← c.as_slice-exports.ensures.value) (omega (arith, past)) in
    lent_next c.args.text.now c.args.libraries.now l.library-index l.owner e (export_from c.args.text.now 0 (map library_exporter c.args.libraries.now)) _ x l.invariant c.loop-library-test.true c.library-item.is is more
