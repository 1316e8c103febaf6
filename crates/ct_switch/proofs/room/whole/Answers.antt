use Rattle.std.proofs.Common.{◌/◌, ◌*◌, ◌^◌}
use Rattle.ct_switch.proofs.Rooms.{whole_units, cut_units}
use Rattle.ct_switch.proofs.room.whole.Goals as goal

pub returns-clause-even : goal.returns-clause-even
returns-clause-even c = λ low. cut_units (c.args.length / 2 ^ c.args.exponent * 2 ^ c.args.exponent) (whole_units (c.args.length / 2 ^ c.args.exponent) c.args.exponent low)
