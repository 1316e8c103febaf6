use Rattle.std.proofs.Common.{sym, subst}
use Rattle.def_image.specs.Sound.{Sound}
use Rattle.ct_entries.proofs.Standing.{faultless_is_sound}
use Rattle.ct_entries.proofs.entries.Goals as goal

pub of_parts-requires : goal.of_parts-requires
of_parts-requires c = subst Sound (sym c.parts.ensures.parts) (faultless_is_sound c.args.image.now c.parts.ensures.faultless)
