use Rattle.std.proofs.Common.{◌/◌, ◌∙◌}
use Rattle.ct_planes.proofs.Planed.{new_granules}
use Rattle.ct_planes.specs.View.{granules_of}
use Rattle.ct_planes.proofs.planes.Planes.new.Goals as goal

pub returns : goal.returns
returns c =
    (λ i. granules_of (c.in_ok-words.ensures i) (c.in_ok-tags.ensures i) (c.in_ok-shadows.ensures i) (c.in_ok-marks.ensures i)) ∙ new_granules (c.args.size / 8)
