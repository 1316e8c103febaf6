use Rattle.ct_image_parts.proofs.Backs.{comes_back}
use Rattle.ct_image_parts.proofs.whole.fields_come_back.Goals as goal

pub returns : goal.returns
returns c = comes_back
