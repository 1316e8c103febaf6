use Rattle.law_granules.proofs.Lists.{zeroed_is, zeroed_holds, marked_is, next_one, next_or_none}
use Rattle.law_granules.proofs.Apart.{marked_holds}
use Rattle.law_granules.proofs.ranges.Goals as goal

pub returns : goal.returns
returns c = record { zeroed = zeroed_is; zeroes = zeroed_holds; marks = marked_holds; marked = marked_is; one = next_one; none = next_or_none }
