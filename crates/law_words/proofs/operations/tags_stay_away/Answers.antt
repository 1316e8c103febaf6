use Rattle.law_words.proofs.Away.{address_away, bounds_away, exact_away, masked_away, sealed_away, unsealed_away, loaded_away}
use Rattle.law_words.proofs.operations.tags_stay_away.Goals as goal

pub returns-clause-address : goal.returns-clause-address
returns-clause-address c = address_away

pub returns-clause-bounds : goal.returns-clause-bounds
returns-clause-bounds c = bounds_away

pub returns-clause-exact : goal.returns-clause-exact
returns-clause-exact c = exact_away

pub returns-clause-mask : goal.returns-clause-mask
returns-clause-mask c = masked_away

pub returns-clause-seals : goal.returns-clause-seals
returns-clause-seals c = sealed_away

pub returns-clause-unseals : goal.returns-clause-unseals
returns-clause-unseals c = unsealed_away

pub returns-clause-loads : goal.returns-clause-loads
returns-clause-loads c = loaded_away
