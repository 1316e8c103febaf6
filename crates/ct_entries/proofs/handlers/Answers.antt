use Rattle.std.proofs.Common.{sym, subst}
use Rattle.def_image.specs.Sound.{Sound}
use Rattle.ct_entries.proofs.Standing.{faultless_is_sound}
use Rattle.ct_entries.proofs.handlers.Goals as goal

pub handlers_of-requires : goal.handlers_of-requires
handlers_of-requires c = subst Sound (sym c.parts.ensures.parts) (faultless_is_sound c.args.image.now c.parts.ensures.faultless)
