use Rattle.ct_switch.proofs.Rooms.{NoneBelow}
use Rattle.ct_switch.proofs.room.exponent.Given as goal

-- none so far fits
abbrev pub invariant-loop-e : goal.invariant-loop-e
invariant-loop-e l = NoneBelow l.length l.e
