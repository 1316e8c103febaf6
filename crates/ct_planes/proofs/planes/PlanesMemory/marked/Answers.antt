use Rattle.std.proofs.Common.{◌/◌, ◌∙◌, sym, ap, arith}
use Rattle.ct_planes.proofs.Planed.{seen_sizes, seen_granule}
use Rattle.def_memory.specs.declared.Granule.{Granule}
use Rattle.ct_planes.proofs.planes.PlanesMemory.marked.Goals as goal

pub get-requires : goal.get-requires
get-requires c = omega (arith, (seen_sizes _ _ _ _ _ c.self.invariant c.self.view_is).marks, c.requires)

pub returns : goal.returns
returns c =
    let p = c.self.inside in
    c.get.ensures ∙ ap (λ (g : Granule). g.mark) (sym (seen_granule p.words p.tags p.shadows p.marks c.args.self.now (c.args.at / 8) c.self.invariant c.self.view_is))
