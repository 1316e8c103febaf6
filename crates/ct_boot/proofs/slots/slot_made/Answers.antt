use Rattle.std.proofs.Common.{subst}
use Rattle.def_image.specs.Sound.{Names}
use Rattle.ct_boot.proofs.Made.{call_fits}
use Rattle.ct_boot.proofs.slots.slot_made.Goals as goal

pub call-requires : goal.call-requires
call-requires c = call_fits c.args.parts.now c.requires.sound c.args.row (subst (λ k. Names c.args.parts.now c.args.row k) c.in-Call.is c.requires.fits.names)
