use Rattle.law_image.proofs.OneCut.{ends_whole}
use Rattle.law_image.proofs.ends_where_written.Goals as goal

pub returns : goal.returns
returns c = ends_whole
