use Rattle.law_words.proofs.Passing.{opened_is, opened_at, linked_is}
use Rattle.law_words.proofs.operations.jumps_open_and_link.Goals as goal

pub returns-clause-opens : goal.returns-clause-opens
returns-clause-opens c = opened_is

pub returns-clause-opens_at : goal.returns-clause-opens_at
returns-clause-opens_at c = opened_at

pub returns-clause-links : goal.returns-clause-links
returns-clause-links c = linked_is
