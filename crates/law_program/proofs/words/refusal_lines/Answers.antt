use Rattle.std.proofs.Common.{refl}
use Rattle.std.specs.Fmt.{digits}
use Rattle.law_program.proofs.words.refusal_lines.Goals as goal

pub returns-clause-no_text : goal.returns-clause-no_text
unfolding digits
returns-clause-no_text c = refl

pub returns-clause-no_device : goal.returns-clause-no_device
unfolding digits
returns-clause-no_device c = refl

pub returns-clause-inner : goal.returns-clause-inner
unfolding digits
returns-clause-inner c = refl

pub returns-clause-mnemonic : goal.returns-clause-mnemonic
unfolding digits
returns-clause-mnemonic c = refl

pub returns-clause-export : goal.returns-clause-export
unfolding digits
returns-clause-export c = refl

pub returns-clause-room : goal.returns-clause-room
unfolding digits
returns-clause-room c = refl

pub returns-clause-import : goal.returns-clause-import
unfolding digits
returns-clause-import c = refl

pub returns-clause-initial : goal.returns-clause-initial
unfolding digits
returns-clause-initial c = refl

pub returns-clause-cut : goal.returns-clause-cut
unfolding digits
returns-clause-cut c = refl

pub returns-clause-script : goal.returns-clause-script
unfolding digits
returns-clause-script c = refl

pub returns-clause-policy : goal.returns-clause-policy
unfolding digits
returns-clause-policy c = refl
