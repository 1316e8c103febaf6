use Rattle.law_words.proofs.Passing.{loaded_facts, loaded_narrows}
use Rattle.law_words.proofs.operations.loads_attenuate.Goals as goal

pub returns-clause-kind : goal.returns-clause-kind
returns-clause-kind c = loaded_facts

pub returns-clause-through : goal.returns-clause-through
returns-clause-through c = λ by d t. (loaded_narrows by d t).1
