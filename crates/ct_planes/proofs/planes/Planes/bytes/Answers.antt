use Rattle.std.proofs.Common.{◌∙◌, ap}
use Rattle.ct_planes.proofs.Planed.{bytes_seen}
use Rattle.ct_planes.specs.Lent.{bytes_of}
use Rattle.ct_planes.proofs.planes.Planes.bytes.Goals as goal

pub returns : goal.returns
returns c =
    let p = c.self.inside in
    c.bytes.ensures ∙ bytes_seen p.words p.tags p.shadows p.marks c.self.invariant ∙ ap bytes_of c.self.view_is
