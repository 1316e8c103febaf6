use Rattle.std.proofs.Common.{◌≡◌, ◌++◌, map}
use Rattle.ct_json.specs.Values.{items_left}
use Rattle.def_desc.specs.Members.{text_value}
use Rattle.def_desc.specs.Reading.{hexadecimal_word}
use Rattle.ct_desc_rows.proofs.reading.words_of.Given as goal

abbrev pub invariant-loop-value : goal.invariant-loop-value
invariant-loop-value l =
    l.all.items ++ map (λ w. hexadecimal_word (text_value w)) (items_left l.value-iterator)
    ≡ map (λ w. hexadecimal_word (text_value w)) (items_left l.initial.value-iterator)
