use Rattle.std.proofs.Common.{refl, ◌∙◌}
use Rattle.ct_gen.proofs.Pieces.{closed}
use Rattle.ct_gen.proofs.sources.closing.Goals as goal

pub returns : goal.returns
returns c = c.in_ok-text.ensures ∙ closed _ _ c.args.i refl refl
