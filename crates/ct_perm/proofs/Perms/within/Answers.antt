use Rattle.std.proofs.Common.{◌∙◌, ap, ◌==◌}
use Rattle.std.proofs.lemmas.Nat.{and_comm}
use Rattle.def_words.specs.Permissions.{is_within}
use Rattle.law_words.proofs.Bits.{within_is, is_within_from}
use Rattle.ct_perm.proofs.Perms.within.Goals as goal

pub returns-clause-value : goal.returns-clause-value
unfolding is_within
returns-clause-value c = c.contains.ensures tt ∙ ap (λ n. n == c.args.self.0) (and_comm c.args.other.0 c.args.self.0)

pub returns-clause-inclusion : goal.returns-clause-inclusion
returns-clause-inclusion c = rw (returns-clause-value c) (within_is c.args.self.0 c.args.other.0, is_within_from c.args.self.0 c.args.other.0)
