use Rattle.std.proofs.Common.{◌≡◌, false, refl, subst}
use Rattle.std.proofs.lemmas.Bool.{both_ways}
use Rattle.def_reach.specs.Sharing.{Reaches}
use Rattle.ct_graph.proofs.Reached.{trusted_reaches_none, reaches_of, reached_of}
use Rattle.ct_licence.proofs.rows.reaches.Goals as goal

pub returns-in-Trusted : goal.returns-in-Trusted
returns-in-Trusted c =
    (λ h. absurd (both_ways false refl h), λ r. absurd (trusted_reaches_none c.args.g.now c.args.actor (subst (λ o. Reaches c.args.g.now o c.args.actor) c.in-Trusted.is r)))

pub returns-in_default : goal.returns-in_default
returns-in_default c =
    (λ t. reaches_of c.args.g.now c.args.owner c.args.actor c.in_default.not-Trusted (c.reaches.ensures.0 t), λ r. c.reaches.ensures.1 (reached_of c.args.g.now c.args.owner c.args.actor c.requires r))
