use Rattle.std.proofs.Common.{◌≡◌}
use Rattle.std.specs.List.{flat_map}
use Rattle.ct_json.specs.Values.{items_left}
use Rattle.def_texts.specs.Names.{with_names}
use Rattle.def_desc.specs.References.{exports_in}
use Rattle.ct_desc.proofs.references.add_owners.Given as goal

abbrev pub invariant-loop-owner : goal.invariant-loop-owner
invariant-loop-owner l =
    with_names l.names (flat_map exports_in (items_left l.owner-iterator))
    ≡ with_names l.fn.names (flat_map exports_in (items_left l.initial.owner-iterator))
