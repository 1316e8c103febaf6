use Rattle.std.proofs.Common.{refl}
use Rattle.def_words.specs.Authority.{cap_bounds}
use Rattle.def_words.specs.Capability.{masked, with_address, with_exact_bounds}
use Rattle.def_words.specs.Derive.{derive, memory_root}
use Rattle.def_words.specs.LeastBounds.{exponent_for}
use Rattle.def_words.specs.Permissions.{bit, cap_perms, form_of, normal_set, packed, set_where, unpacked}
use Rattle.def_words.specs.Seals.{cap_seal}
use Rattle.law_routines.proofs.sweep_computed.Goals as goal

pub returns : goal.returns
unfolding derive with_address with_exact_bounds masked cap_seal cap_perms packed unpacked set_where bit form_of normal_set cap_bounds memory_root exponent_for
returns c = record {
  begins = refl;
  first = refl;
  second = refl;
  stale = refl;
  over = refl;
  gone = refl;
  untagged = refl;
  unmarked = refl;
}
