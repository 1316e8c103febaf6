use Rattle.std.proofs.Common.{◌∙◌}
use Rattle.law_words.proofs.Spellings.{spells_back, told_legal, packs_back, packed_small}
use Rattle.law_words.proofs.sets.spelling_holds.Goals as goal

pub returns-clause-legal : goal.returns-clause-legal
returns-clause-legal c = told_legal

pub returns-clause-back : goal.returns-clause-back
returns-clause-back c = spells_back

pub returns-clause-six : goal.returns-clause-six
returns-clause-six c = packed_small

pub returns-clause-normal : goal.returns-clause-normal
returns-clause-normal c = packs_back

pub returns-clause-inverse : goal.returns-clause-inverse
returns-clause-inverse c = λ set small legal. packs_back set small ∙ legal
