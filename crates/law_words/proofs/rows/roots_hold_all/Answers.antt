use Rattle.std.proofs.Common.{refl}
use Rattle.law_words.proofs.Making.{root_base, root_top}
use Rattle.law_words.proofs.Rights.{executable_is_root, memory_is_root, sealing_is_root}
use Rattle.def_words.specs.Derive.{memory_root, executable_root, sealing_root}
use Rattle.def_words.specs.Permissions.{cap_perms, unpacked, set_where, bit}
use Rattle.law_words.proofs.rows.roots_hold_all.Goals as goal

pub returns-clause-memory : goal.returns-clause-memory
returns-clause-memory c = memory_is_root

pub returns-clause-executable : goal.returns-clause-executable
returns-clause-executable c = executable_is_root

pub returns-clause-sealing : goal.returns-clause-sealing
returns-clause-sealing c = sealing_is_root

pub returns-clause-lowest : goal.returns-clause-lowest
returns-clause-lowest c = root_base

pub returns-clause-highest : goal.returns-clause-highest
returns-clause-highest c = root_top

pub returns-clause-at_zero : goal.returns-clause-at_zero
unfolding memory_root
returns-clause-at_zero c = refl

pub returns-clause-at_end : goal.returns-clause-at_end
unfolding memory_root
returns-clause-at_end c = refl

pub returns-clause-memory_rights : goal.returns-clause-memory_rights
unfolding memory_root cap_perms unpacked set_where bit
returns-clause-memory_rights c = refl

pub returns-clause-executable_rights : goal.returns-clause-executable_rights
unfolding executable_root cap_perms unpacked set_where bit
returns-clause-executable_rights c = refl

pub returns-clause-sealing_rights : goal.returns-clause-sealing_rights
unfolding sealing_root cap_perms unpacked set_where bit
returns-clause-sealing_rights c = refl
