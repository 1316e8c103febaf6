use Rattle.std.proofs.Common.{◌≡◌, drop, map}
use Rattle.def_texts.specs.Names.{among}
use Rattle.ct_image_limits.proofs.names.is_among.Given as goal

abbrev pub invariant-loop-part : goal.invariant-loop-part
invariant-loop-part g l = among l.name (map g.T.Named.named (drop l.part-index l.parts)) ≡ among l.name (map g.T.Named.named l.parts)
