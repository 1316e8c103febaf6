use Rattle.std.proofs.Common.{◌*◌, ◌/◌, ◌%◌, ◌∙◌, sym, ap, subst}
use Rattle.ct_planes.proofs.Planed.{seen_sizes, seen_granule}
use Rattle.def_memory.specs.declared.Granule.{Granule}
use Rattle.def_memory.specs.Accesses.{IsAccess, part_of}
use Rattle.ct_planes.proofs.planes.PlanesMemory.load.Goals as goal

pub load-requires : goal.load-requires
load-requires c =
    subst (λ n. IsAccess (8 * n) c.args.at c.args.width) (sym (seen_sizes _ _ _ _ _ c.self.invariant c.self.view_is).words) c.requires

pub returns : goal.returns
returns c =
    let p = c.self.inside in
    c.load.ensures ∙ ap (λ (g : Granule). part_of g.cap.word (c.args.at % 8) c.args.width) (sym (seen_granule p.words p.tags p.shadows p.marks c.args.self.now (c.args.at / 8) c.self.invariant c.self.view_is))
