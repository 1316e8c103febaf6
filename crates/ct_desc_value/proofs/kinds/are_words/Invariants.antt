use Rattle.std.proofs.Common.{◌≡◌}
use Rattle.std.specs.List.{list_all}
use Rattle.ct_json.specs.Values.{items_left}
use Rattle.def_desc.specs.Members.{text_value}
use Rattle.def_desc.specs.Kinds.{is_word}
use Rattle.ct_desc_value.proofs.kinds.are_words.Given as goal

abbrev pub invariant-loop-value : goal.invariant-loop-value
invariant-loop-value l =
    list_all (λ w. is_word (text_value w)) (items_left l.value-iterator)
    ≡ list_all (λ w. is_word (text_value w)) (items_left l.initial.value-iterator)
