use Rattle.std.proofs.Common.{◌≡◌, map}
use Rattle.std.specs.Prelude.{codes}
use Rattle.ct_json.specs.Values.{items_left}
use Rattle.def_texts.specs.Names.{with_names}
use Rattle.def_desc.specs.Members.{text_or}
use Rattle.ct_desc.proofs.references.add_names.Given as goal

abbrev pub invariant-loop-value : goal.invariant-loop-value
invariant-loop-value l =
    with_names l.names (map (text_or (codes "name")) (items_left l.value-iterator))
    ≡ with_names l.fn.names (map (text_or (codes "name")) (items_left l.initial.value-iterator))
