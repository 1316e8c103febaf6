use Rattle.std.proofs.Common.{refl}
use Rattle.def_words.specs.Derive.{derive, sealing_root, memory_root}
use Rattle.def_words.specs.Capability.{with_address, with_exact_bounds, masked, sealed_by, unsealed_by}
use Rattle.def_words.specs.Seals.{cap_seal}
use Rattle.def_words.specs.Permissions.{cap_perms, packed, unpacked, set_where, bit, form_of, normal_set}
use Rattle.def_words.specs.Authority.{cap_bounds}
use Rattle.def_words.specs.LeastBounds.{exponent_for}
use Rattle.law_words.proofs.rows.sealing_rows.Goals as goal

pub returns-clause-inside : goal.returns-clause-inside
unfolding derive with_address with_exact_bounds masked sealed_by unsealed_by cap_seal cap_perms packed unpacked set_where bit form_of normal_set cap_bounds sealing_root memory_root exponent_for
returns-clause-inside c = refl

pub returns-clause-thirteen : goal.returns-clause-thirteen
unfolding derive with_address with_exact_bounds masked sealed_by unsealed_by cap_seal cap_perms packed unpacked set_where bit form_of normal_set cap_bounds sealing_root memory_root exponent_for
returns-clause-thirteen c = refl

pub returns-clause-at_top : goal.returns-clause-at_top
unfolding derive with_address with_exact_bounds masked sealed_by unsealed_by cap_seal cap_perms packed unpacked set_where bit form_of normal_set cap_bounds sealing_root memory_root exponent_for
returns-clause-at_top c = refl

pub returns-clause-outside : goal.returns-clause-outside
unfolding derive with_address with_exact_bounds masked sealed_by unsealed_by cap_seal cap_perms packed unpacked set_where bit form_of normal_set cap_bounds sealing_root memory_root exponent_for
returns-clause-outside c = refl

pub returns-clause-fourteen : goal.returns-clause-fourteen
unfolding derive with_address with_exact_bounds masked sealed_by unsealed_by cap_seal cap_perms packed unpacked set_where bit form_of normal_set cap_bounds sealing_root memory_root exponent_for
returns-clause-fourteen c = refl

pub returns-clause-opens : goal.returns-clause-opens
unfolding derive with_address with_exact_bounds masked sealed_by unsealed_by cap_seal cap_perms packed unpacked set_where bit form_of normal_set cap_bounds sealing_root memory_root exponent_for
returns-clause-opens c = refl
