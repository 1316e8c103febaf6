use Rattle.std.proofs.Common.{◌∙◌, ap, ◌&&◌, bit_and}
use Rattle.def_words.specs.Permissions.{normal_set, set_where, bit, holds}
use Rattle.law_words.proofs.Spellings.{normal_small}
use Rattle.ct_perm.proofs.Perms.normal.Goals as goal

pub returns-clause-value : goal.returns-clause-value
unfolding normal_set
returns-clause-value c =
    c.intersection.ensures tt
    ∙ ap (λ mask. bit_and c.args.self.0 mask) (c.from_bits_retain.ensures tt)
    ∙ c.held.ensures c.args.self.0 ∙ ap (λ form. set_where (λ p. bit c.args.self.0 p && holds form p)) c.form_of.ensures

pub returns-clause-small : goal.returns-clause-small
returns-clause-small c = rw (returns-clause-value c) (normal_small c.args.self.0)
