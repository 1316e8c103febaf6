use Rattle.std.proofs.Common.{◌∙◌, ap}
use Rattle.ct_planes.specs.Bits.{words_of, flags_of}
use Rattle.ct_planes.proofs.Spelling.{spelled_is}
use Rattle.ct_planes.proofs.bits.Bits.words.Goals as goal

pub returns : goal.returns
returns c =
    let flags = flags_of c.self.inside.count c.self.inside.words.items in
    c.deref.ensures.value ∙ spelled_is flags c.self.inside.words.items c.self.invariant.1 ∙ ap words_of c.self.view_is
