use Rattle.law_words.proofs.Away.{address_settles, raise_settles, derives_settle, bounds_settles, exact_settles, mask_settles, seals_settles, unseals_settles, loads_settles, clears_settles, opens_settles, links_settles, integers_settles}
use Rattle.law_words.proofs.operations.results_settle.Goals as goal

pub returns-clause-address : goal.returns-clause-address
returns-clause-address c = address_settles

pub returns-clause-raise : goal.returns-clause-raise
returns-clause-raise c = raise_settles

pub returns-clause-derives : goal.returns-clause-derives
returns-clause-derives c = derives_settle

pub returns-clause-bounds : goal.returns-clause-bounds
returns-clause-bounds c = bounds_settles

pub returns-clause-exact : goal.returns-clause-exact
returns-clause-exact c = exact_settles

pub returns-clause-mask : goal.returns-clause-mask
returns-clause-mask c = mask_settles

pub returns-clause-seals : goal.returns-clause-seals
returns-clause-seals c = seals_settles

pub returns-clause-unseals : goal.returns-clause-unseals
returns-clause-unseals c = unseals_settles

pub returns-clause-loads : goal.returns-clause-loads
returns-clause-loads c = loads_settles

pub returns-clause-clears : goal.returns-clause-clears
returns-clause-clears c = clears_settles

pub returns-clause-opens : goal.returns-clause-opens
returns-clause-opens c = opens_settles

pub returns-clause-links : goal.returns-clause-links
returns-clause-links c = links_settles

pub returns-clause-integers : goal.returns-clause-integers
returns-clause-integers c = integers_settles
