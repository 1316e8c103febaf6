use Rattle.std.proofs.Common.{refl}
use Rattle.law_routines.proofs.switch_computed.Goals as goal

pub returns : goal.returns
returns c = record {
  whole = refl;
  units = refl;
  twice = refl;
  most = refl;
  top = refl;
  too_deep = refl;
  no_stack = refl;
}
