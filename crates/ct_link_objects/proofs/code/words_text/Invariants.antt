use Rattle.std.proofs.Common.{◌≡◌, take}
use Rattle.std.specs.List.{flat_map}
use Rattle.def_object.specs.Object.{word_bytes}
use Rattle.ct_link_objects.proofs.code.words_text.Given as goal

abbrev pub invariant-loop-word : goal.invariant-loop-word
invariant-loop-word l = l.text.items ≡ flat_map word_bytes (take l.word-index l.words)
