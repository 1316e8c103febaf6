use Rattle.std.proofs.Common.{◌≡◌, map}
use Rattle.std.specs.Prelude.{codes}
use Rattle.ct_json.specs.Values.{items_left}
use Rattle.def_texts.specs.Names.{with_names}
use Rattle.def_desc.specs.Members.{text_or}
use Rattle.def_desc.specs.References.{export_name}
use Rattle.ct_desc.proofs.references.add_exports.Given as goal

abbrev pub invariant-loop-export : goal.invariant-loop-export
invariant-loop-export l =
    with_names l.names (map (export_name l.owner) (map (text_or (codes "name")) (items_left l.export-iterator)))
    ≡ with_names l.fn.names (map (export_name l.owner) (map (text_or (codes "name")) (items_left l.initial.export-iterator)))
