use Rattle.law_words.proofs.Blocks.{base_is_block, top_is_block}
use Rattle.law_words.proofs.rounding.bounds_are_blocks.Goals as goal

pub returns-clause-base : goal.returns-clause-base
returns-clause-base c = base_is_block

pub returns-clause-top : goal.returns-clause-top
returns-clause-top c = top_is_block
