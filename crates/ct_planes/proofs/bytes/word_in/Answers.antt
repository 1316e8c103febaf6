use Rattle.std.proofs.Common.{◌∙◌}
use Rattle.ct_planes.proofs.Holding.{word_read}
use Rattle.ct_planes.proofs.bytes.word_in.Goals as goal

pub returns : goal.returns
returns c ws h aligned = c.from_le_bytes.ensures ∙ word_read ws c.args.bytes.now c.args.at h aligned
