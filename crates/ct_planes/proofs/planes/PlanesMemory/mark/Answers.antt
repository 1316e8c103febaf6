use Rattle.std.proofs.Common.{◌*◌, ◌/◌, length, sym, arith, subst}
use Rattle.ct_planes.proofs.Planed.{seen_sizes, marked_is, fit_marked}
use Rattle.def_memory.specs.Ranges.{IsRange}
use Rattle.ct_planes.proofs.planes.PlanesMemory.mark.Goals as goal

pub fill-requires-clause-inside : goal.fill-requires-clause-inside
fill-requires-clause-inside c = omega (arith, (seen_sizes _ _ _ _ _ c.self.invariant c.self.view_is).marks, c.requires.inside)

pub invariant_of-self : goal.invariant_of-self
invariant_of-self c =
    let p = c.self.inside in
    rw c.fill.ensures (fit_marked p.words p.tags p.shadows p.marks (c.args.from / 8) (c.args.to / 8) c.args.on c.self.invariant)

pub returns : goal.returns
returns c =
    let p = c.self.inside in
    let range : IsRange (8 * length p.words) c.args.from c.args.to = subst (λ n. IsRange (8 * n) c.args.from c.args.to) (sym (seen_sizes _ _ _ _ _ c.self.invariant c.self.view_is).words) c.requires in
    let is = marked_is p.words p.tags p.shadows p.marks c.args.from c.args.to c.args.on c.self.invariant range in
    rw (c.fill.ensures, ← c.self.view_is) is
