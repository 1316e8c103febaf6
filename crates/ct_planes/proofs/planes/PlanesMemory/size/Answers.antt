use Rattle.std.proofs.Common.{◌*◌, ◌∙◌, ap}
use Rattle.ct_planes.proofs.Planed.{seen_sizes}
use Rattle.ct_planes.proofs.planes.PlanesMemory.size.Goals as goal

pub returns : goal.returns
returns c =
    let p = c.self.inside in
    c.size.ensures ∙ ap (λ n. 8 * n) (seen_sizes _ _ _ _ _ c.self.invariant c.self.view_is).words
