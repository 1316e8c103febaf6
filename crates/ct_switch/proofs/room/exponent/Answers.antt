use Rattle.std.proofs.Common.{◌≡◌, arith}
use Rattle.ct_switch.proofs.Rooms.{found, missing, fits_so}
use Rattle.ct_switch.proofs.room.exponent.Goals as goal

pub returns-then-length-e-le-MOST_UNITS-clause-is : goal.returns-then-length-e-le-MOST_UNITS-clause-is
returns-then-length-e-le-MOST_UNITS-clause-is c =
    found c.args.length c.loop-e.e (omega arith) (omega arith) (fits_so c.args.length c.loop-e.e (omega arith)) c.loop-e.invariant

pub returns-clause-is : goal.returns-clause-is
returns-clause-is c =
    let end : c.loop-e.e ≡ 15 = omega arith in
    missing c.args.length (rw end at c.loop-e.invariant)
