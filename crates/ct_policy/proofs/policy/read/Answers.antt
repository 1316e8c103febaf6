use Rattle.std.proofs.Common.{subst}
use Rattle.def_policy.specs.Texts.{ReadsAsPolicy}
use Rattle.ct_policy.proofs.Members.{are_sound}
use Rattle.ct_policy.proofs.policy.read.Goals as goal

pub read_lines-requires-clause-sound : goal.read_lines-requires-clause-sound
read_lines-requires-clause-sound c = are_sound c.args.image.now _ c.parts-parts.ensures.parts c.parts-parts.ensures.faultless

pub invariant_of-result : goal.invariant_of-result
invariant_of-result c = c.in_ok-rows.ensures.1

pub returns : goal.returns
returns c = subst (λ p. ReadsAsPolicy p c.args.bytes.now c.in_ok-rows.rows.items) c.parts-parts.ensures.parts c.in_ok-rows.ensures.0
