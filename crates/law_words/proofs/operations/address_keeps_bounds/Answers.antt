use Rattle.law_words.proofs.Narrowing.{addressed}
use Rattle.law_words.proofs.operations.address_keeps_bounds.Goals as goal

pub returns : goal.returns
returns c = λ d a small t. (addressed d a small t).bounds
