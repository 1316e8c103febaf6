use Rattle.std.proofs.Common.{ℕ, ◌≡◌, ◌*◌, false, arith, subst}
use Rattle.ct_planes.proofs.Planed.{none_tagged, next_tagged_is}
use Rattle.def_memory.specs.Ranges.{InsideRange, IsNextTagged, is_tagged}
use Rattle.ct_planes.proofs.planes.PlanesMemory.next_tagged_below.Goals as goal

pub returns-in-Some : goal.returns-in-Some
returns-in-Some c =
    let p = c.self.inside in
    let lt = c.in-Some.ensures.1 in (
      subst (λ gs. IsNextTagged gs c.args.from (8 * c.in-Some.i)) c.self.view_is (next_tagged_is p.words p.tags p.shadows p.marks c.args.from c.in-Some.i c.self.invariant c.in-Some.ensures.0),
      omega (arith, lt),
    )

pub returns-in-None : goal.returns-in-None
returns-in-None c =
    let p = c.self.inside in
    subst (λ gs. (k : ℕ) → InsideRange c.args.from c.args.to k → is_tagged gs k ≡ false) c.self.view_is (none_tagged p.words p.tags p.shadows p.marks c.args.from c.args.to c.self.invariant c.in-None.ensures)
