use Rattle.law_examples.proofs.Leaving.{before_confined, after_not_confined}
use Rattle.law_examples.proofs.needed.joined_frames_needed.Goals as goal

pub returns : goal.returns
returns c = record { before = before_confined; after = after_not_confined }
