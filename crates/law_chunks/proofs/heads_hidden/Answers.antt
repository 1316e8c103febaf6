use Rattle.law_chunks.proofs.Kept.{head_not_live, head_hidden}
use Rattle.law_chunks.proofs.heads_hidden.Goals as goal

pub returns : goal.returns
returns c = record { objects = head_not_live; hidden = head_hidden }
