use Rattle.std.proofs.Common.{◌/◌, ◌∙◌, sym, ap, arith}
use Rattle.ct_planes.proofs.Planed.{seen_sizes, seen_granule, set_of}
use Rattle.std.proofs.Math.ListN.{set}
use Rattle.def_memory.specs.declared.Granule.{Granule}
use Rattle.def_memory.specs.Granules.{granule_at}
use Rattle.ct_planes.specs.View.{granules_of}
use Rattle.ct_planes.proofs.planes.PlanesMemory.store_cap.Goals as goal

pub put_word-requires : goal.put_word-requires
put_word-requires c = omega (arith, (seen_sizes _ _ _ _ _ c.self.invariant c.self.view_is).words, c.requires.aligned, c.requires.inside)

pub put-requires : goal.put-requires
put-requires c = omega (arith, (seen_sizes _ _ _ _ _ c.self.invariant c.self.view_is).tags, c.requires.aligned, c.requires.inside)

pub put-requires-2 : goal.put-requires-2
put-requires-2 c = omega (arith, (seen_sizes _ _ _ _ _ c.self.invariant c.self.view_is).shadows, c.requires.aligned, c.requires.inside)

pub returns : goal.returns
returns c =
    let p = c.self.inside in
    let k = c.args.at / 8 in
    let here = seen_granule p.words p.tags p.shadows p.marks c.args.self.now k c.self.invariant c.self.view_is in
    (λ i. granules_of (c.put_word.ensures i) (c.put.ensures i) (c.put-2.ensures i) p.marks)
    ∙ set_of p.words p.tags p.shadows p.marks k c.args.cap.word c.args.cap.tag c.args.cap.shadow c.self.invariant
    ∙ ap (λ (g : Granule). set (granules_of p.words p.tags p.shadows p.marks) k (record { cap = c.args.cap; mark = g.mark })) (sym here)
    ∙ ap (λ l. set l k (record { cap = c.args.cap; mark = (granule_at c.args.self.now k).mark })) c.self.view_is
