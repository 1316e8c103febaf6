use Rattle.std.proofs.Common.{◌<◌, slice_index_or}
use Rattle.law_words.proofs.Spellings.{unpacked_small}
use Rattle.ct_perm.specs.declared.spelling.TheConstants.{SETS}
use Rattle.ct_perm.proofs.Told.{told_is}
use Rattle.ct_perm.proofs.spelling.told.Goals as goal

pub returns-clause-value : goal.returns-clause-value
returns-clause-value c = told_is c.args.bits c.requires

pub returns-clause-small : goal.returns-clause-small
returns-clause-small c =
    let small : slice_index_or SETS c.args.bits 0 < 4096 = rw (told_is c.args.bits c.requires) (unpacked_small c.args.bits) in
    small
