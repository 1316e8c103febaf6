use Rattle.std.proofs.Common.{refl}
use Rattle.std.specs.Fmt.{digits}
use Rattle.law_program.proofs.words.forms_of_words.Goals as goal

pub returns-clause-run : goal.returns-clause-run
unfolding digits
returns-clause-run c = refl

pub returns-clause-runimage : goal.returns-clause-runimage
unfolding digits
returns-clause-runimage c = refl

pub returns-clause-script : goal.returns-clause-script
unfolding digits
returns-clause-script c = refl

pub returns-clause-of_image : goal.returns-clause-of_image
unfolding digits
returns-clause-of_image c = refl

pub returns-clause-demo : goal.returns-clause-demo
unfolding digits
returns-clause-demo c = refl

pub returns-clause-least : goal.returns-clause-least
unfolding digits
returns-clause-least c = refl

pub returns-clause-greatest : goal.returns-clause-greatest
unfolding digits
returns-clause-greatest c = refl

pub returns-clause-led : goal.returns-clause-led
unfolding digits
returns-clause-led c = refl

pub returns-clause-signed : goal.returns-clause-signed
unfolding digits
returns-clause-signed c = refl

pub returns-clause-empty : goal.returns-clause-empty
unfolding digits
returns-clause-empty c = refl

pub returns-clause-no_steps : goal.returns-clause-no_steps
unfolding digits
returns-clause-no_steps c = refl

pub returns-clause-leading : goal.returns-clause-leading
unfolding digits
returns-clause-leading c = refl
