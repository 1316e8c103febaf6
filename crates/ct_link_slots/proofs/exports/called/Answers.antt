use Rattle.std.proofs.Common.{◌≡◌, ◌≤◌, length, map, arith}
use Rattle.def_desc.specs.References.{export_name}
use Rattle.def_desc.specs.Rows.{ExportRow}
use Rattle.def_link.specs.Slots.{index_of, export_from}
use Rattle.ct_link_slots.specs.Exporters.{exporter}
use Rattle.ct_link_slots.proofs.Names.{call_next}
use Rattle.ct_link_slots.proofs.exports.called.Goals as goal

pub loop-compartment-preserved : goal.loop-compartment-preserved
loop-compartment-preserved c =
    let l = c.loop-compartment in
    let x = c.compartment-item.result in
    let e = c.export_in-export.result in
    let is : e ≡ index_of c.args.text.now (map (export_name x.name) (map (λ (y : ExportRow). y.name) x.exports)) = rw (← c.compartment.view_is, ← c.as_bytes.ensures.value, ← c.as_slice-exports.ensures.value) c.export_in-export.ensures in
    let past = c.if-export-exports.false in
    let more : length x.exports ≤ e = rw (← c.compartment.view_is, ← c.as_slice-exports.ensures.value) (omega (arith, past)) in
    call_next c.args.text.now c.args.compartments.now l.compartment-index l.owner e (export_from c.args.text.now 0 (map exporter c.args.compartments.now)) _ x l.invariant c.loop-compartment-test.true c.compartment-item.is is more
