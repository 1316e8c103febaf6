use Rattle.std.proofs.Common.{refl}
use Rattle.def_words.specs.Authority.{cap_bounds}
use Rattle.def_words.specs.Capability.{masked, with_address, with_exact_bounds}
use Rattle.def_words.specs.Derive.{derive, executable_root}
use Rattle.def_words.specs.LeastBounds.{exponent_for}
use Rattle.def_words.specs.Permissions.{bit, cap_perms, form_of, normal_set, packed, set_where, unpacked}
use Rattle.def_words.specs.Seals.{cap_seal}
use Rattle.ct_switch.proofs.given.return_sentry.Goals as goal

pub invariant_of-result : goal.invariant_of-result
unfolding cap_bounds cap_perms cap_seal unpacked bit set_where
invariant_of-result c = (refl, refl, refl)

pub returns : goal.returns
unfolding derive executable_root with_address with_exact_bounds masked cap_bounds cap_perms cap_seal exponent_for bit set_where form_of normal_set packed unpacked
returns c = refl
