use Rattle.std.proofs.Common.{◌≡◌, map, drop}
use Rattle.def_link.specs.Slots.{export_from}
use Rattle.ct_link_slots.specs.Exporters.{exporter}
use Rattle.ct_link_slots.proofs.exports.called.Given as goal

abbrev pub invariant-loop-compartment : goal.invariant-loop-compartment
invariant-loop-compartment l =
    (l.owner ≡ l.compartment-index)
    × (export_from l.text l.owner (map exporter (drop l.compartment-index l.compartments)) ≡ export_from l.text 0 (map exporter l.compartments))
