use Rattle.law_words.proofs.Bits.{within_is, is_within_from}
use Rattle.law_words.proofs.sets.within_holds.Goals as goal

pub returns-clause-tells : goal.returns-clause-tells
returns-clause-tells c = within_is

pub returns-clause-told : goal.returns-clause-told
returns-clause-told c = is_within_from
