use Rattle.law_words.proofs.Rights.{taken}
use Rattle.law_words.proofs.rows.rights_are_spelled.Goals as goal

pub returns-clause-code : goal.returns-clause-code
returns-clause-code c = taken.code

pub returns-clause-service : goal.returns-clause-service
returns-clause-service c = taken.service

pub returns-clause-globals : goal.returns-clause-globals
returns-clause-globals c = taken.globals

pub returns-clause-heap : goal.returns-clause-heap
returns-clause-heap c = taken.heap

pub returns-clause-stack : goal.returns-clause-stack
returns-clause-stack c = taken.stack

pub returns-clause-sealed : goal.returns-clause-sealed
returns-clause-sealed c = taken.sealed

pub returns-clause-export : goal.returns-clause-export
returns-clause-export c = taken.export

pub returns-clause-quota : goal.returns-clause-quota
returns-clause-quota c = taken.quota

pub returns-clause-key : goal.returns-clause-key
returns-clause-key c = taken.key
