use Rattle.std.proofs.Common.{refl, ◌∙◌}
use Rattle.ct_gen.proofs.Pieces.{opened}
use Rattle.ct_gen.proofs.sources.opening.Goals as goal

pub returns : goal.returns
returns c = c.in_ok-text.ensures ∙ opened _ _ c.args.size refl refl
