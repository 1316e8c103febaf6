use Rattle.std.proofs.Common.{◌≡◌, length}
use Rattle.ct_desc_value.specs.Seen.{spots_in}
use Rattle.ct_desc_value.proofs.walk.Lists.next.Given as goal

abbrev pub invariant-loop-found : goal.invariant-loop-found
invariant-loop-found l = spots_in l.self ≡ spots_in l.fn.self

abbrev pub decreases-loop-found : goal.decreases-loop-found
decreases-loop-found l = length l.self.lists.now
