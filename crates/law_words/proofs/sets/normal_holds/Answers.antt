use Rattle.law_words.proofs.Spellings.{normal_legal, normal_within}
use Rattle.law_words.proofs.sets.normal_holds.Goals as goal

pub returns-clause-legal : goal.returns-clause-legal
returns-clause-legal c = normal_legal

pub returns-clause-within : goal.returns-clause-within
returns-clause-within c = normal_within
