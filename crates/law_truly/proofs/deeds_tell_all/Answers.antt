use Rattle.law_truly.proofs.Changes as laws
use Rattle.law_truly.proofs.DeviceAccesses.{accesses_told}
use Rattle.law_truly.proofs.deeds_tell_all.Goals as goal

pub returns : goal.returns
returns c = record { all = laws.tells_all; nothing = laws.nothing_untold; accesses = accesses_told }
