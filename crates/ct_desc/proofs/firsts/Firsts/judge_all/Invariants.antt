use Rattle.std.proofs.Common.{◌≡◌, length}
use Rattle.ct_desc_value.specs.Seen.{spots_left}
use Rattle.ct_desc.specs.Judged.{after_kinds}
use Rattle.ct_desc.proofs.firsts.Firsts.judge_all.Given as goal

abbrev pub invariant-loop-spot : goal.invariant-loop-spot
invariant-loop-spot l = after_kinds l.self (spots_left l.spots) ≡ after_kinds l.fn.self (spots_left l.fn.spots)

abbrev pub decreases-loop-spot : goal.decreases-loop-spot
decreases-loop-spot l = length (spots_left l.spots)
