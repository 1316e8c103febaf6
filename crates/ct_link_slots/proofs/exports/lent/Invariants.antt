use Rattle.std.proofs.Common.{◌≡◌, map, drop}
use Rattle.def_link.specs.Slots.{export_from}
use Rattle.ct_link_slots.specs.Exporters.{library_exporter}
use Rattle.ct_link_slots.proofs.exports.lent.Given as goal

abbrev pub invariant-loop-library : goal.invariant-loop-library
invariant-loop-library l =
    (l.owner ≡ l.library-index)
    × (export_from l.text l.owner (map library_exporter (drop l.library-index l.libraries)) ≡ export_from l.text 0 (map library_exporter l.libraries))
