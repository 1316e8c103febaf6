use Rattle.law_layout.proofs.Placing.{each_one, sized, low, high, apart}
use Rattle.law_layout.proofs.regions_in_order.Goals as goal

pub returns-clause-each : goal.returns-clause-each
returns-clause-each c = each_one

pub returns-clause-sized : goal.returns-clause-sized
returns-clause-sized c = sized

pub returns-clause-low : goal.returns-clause-low
returns-clause-low c = low

pub returns-clause-high : goal.returns-clause-high
returns-clause-high c = high

pub returns-clause-apart : goal.returns-clause-apart
returns-clause-apart c = apart
