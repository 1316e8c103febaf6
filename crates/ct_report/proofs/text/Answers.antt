use Rattle.std.proofs.Common.{◌∙◌, sym, subst}
use Rattle.def_image.specs.Sound.{Sound}
use Rattle.ct_entries.proofs.Standing.{faultless_is_sound}
use Rattle.ct_report.proofs.Own.{own_line}
use Rattle.ct_report.proofs.text.Goals as goal

pub line_of-requires-clause-sound : goal.line_of-requires-clause-sound
line_of-requires-clause-sound c = subst Sound (sym c.parts.ensures.parts) (faultless_is_sound c.args.image.now c.parts.ensures.faultless)

pub returns : goal.returns
returns c = c.in_ok-line.ensures ∙ own_line c.args.image.now c.parts.result.now c.args.entries.now c.parts.ensures.parts c.requires.entries
