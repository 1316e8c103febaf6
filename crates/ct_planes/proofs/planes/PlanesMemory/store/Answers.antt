use Rattle.std.proofs.Common.{ℕ, ◌*◌, ◌/◌, ◌%◌, ◌∙◌, false, get_or, sym, ap, arith, subst}
use Rattle.ct_planes.proofs.Planed.{seen_sizes, seen_granule, set_of}
use Rattle.std.proofs.Math.ListN.{set}
use Rattle.law_granules.proofs.Lists.{in_list}
use Rattle.def_memory.specs.declared.Granule.{Granule}
use Rattle.def_memory.specs.Granules.{plain, granule_at}
use Rattle.def_memory.specs.Accesses.{IsAccess, with_part}
use Rattle.def_words.specs.Capability.{nowhere}
use Rattle.ct_planes.specs.View.{granules_of}
use Rattle.ct_planes.proofs.planes.PlanesMemory.store.Goals as goal

pub store-requires : goal.store-requires
store-requires c =
    subst (λ n. IsAccess (8 * n) c.args.at c.args.width) (sym (seen_sizes _ _ _ _ _ c.self.invariant c.self.view_is).words) c.requires

pub put-requires : goal.put-requires
put-requires c = omega (arith, (seen_sizes _ _ _ _ _ c.self.invariant c.self.view_is).tags, in_list c.args.self.now c.args.at c.args.width c.requires)

pub clear-requires : goal.clear-requires
clear-requires c = omega (arith, (seen_sizes _ _ _ _ _ c.self.invariant c.self.view_is).shadows, in_list c.args.self.now c.args.at c.args.width c.requires)

pub returns : goal.returns
returns c =
    let p = c.self.inside in
    let k = c.args.at / 8 in
    let word : ℕ → ℕ = λ w. with_part w (c.args.at % 8) c.args.width c.args.value in
    let here = seen_granule p.words p.tags p.shadows p.marks c.args.self.now k c.self.invariant c.self.view_is in
    (λ i. granules_of (c.store.ensures i) (c.put.ensures i) (c.clear.ensures i) p.marks)
    ∙ set_of p.words p.tags p.shadows p.marks k (word (get_or p.words k 0)) false nowhere c.self.invariant
    ∙ ap (λ (g : Granule). set (granules_of p.words p.tags p.shadows p.marks) k (record { cap = plain (word g.cap.word); mark = g.mark })) (sym here)
    ∙ ap (λ l. set l k (record { cap = plain (word (granule_at c.args.self.now k).cap.word); mark = (granule_at c.args.self.now k).mark })) c.self.view_is
