use Rattle.law_boot.proofs.Lying.{trusted_there, own_there, library_there, shared_there, sealed_there, stack_there}
use Rattle.law_boot.proofs.parts.parts_lie.Goals as goal

pub returns : goal.returns
returns c = record {
  trusted = trusted_there;
  code = λ p s b c is. (own_there p s b c is).code;
  table = λ p s b c is. (own_there p s b c is).table;
  globals = λ p s b c is. (own_there p s b c is).globals;
  library = library_there;
  shared = shared_there;
  sealed = sealed_there;
  stack = stack_there;
}
