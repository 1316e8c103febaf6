use Rattle.std.proofs.Common.{refl}
use Rattle.def_reach.specs.Roots.{root_of, gate_for}
use Rattle.def_words.specs.LeastBounds.{exponent_for}
use Rattle.law_routines.proofs.heap_computed.Goals as goal

pub returns : goal.returns
unfolding root_of gate_for exponent_for
returns c = record {
  first = refl;
  second = refl;
  over = refl;
  third = refl;
  nothing = refl;
  whole = refl;
  quarantined = refl;
  full = refl;
}
