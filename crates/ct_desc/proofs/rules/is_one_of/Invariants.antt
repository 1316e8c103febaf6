use Rattle.std.proofs.Common.{◌≡◌, map, drop}
use Rattle.def_texts.specs.Names.{among}
use Rattle.ct_desc.proofs.rules.is_one_of.Given as goal

abbrev pub invariant-loop-choice : goal.invariant-loop-choice
invariant-loop-choice l = among l.text (map (λ t. t.now) (drop l.choice-index l.texts)) ≡ among l.text (map (λ t. t.now) l.texts)
