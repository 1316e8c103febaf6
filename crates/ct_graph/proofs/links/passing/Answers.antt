use Rattle.std.proofs.Common.{◌≡◌, ◌+◌, ◌-◌, sym, subst, arith, drop}
use Rattle.ct_graph.specs.Links.{ArePassing}
use Rattle.ct_graph.proofs.Passing.{passing_starts, passing_next}
use Rattle.ct_graph.proofs.links.passing.Goals as goal

pub loop-left-init : goal.loop-left-init
loop-left-init c = record { inside = omega arith; so_far = passing_starts c.args.gates.now c.args.count _ (c.in_ok-all.ensures.items_if_clones_equal (λ y h. h)) }

pub loop-left-preserved : goal.loop-left-preserved
loop-left-preserved c =
    let back : c.loop-left.left - 1 + 1 ≡ c.loop-left.left = omega (arith, c.loop-left-test.true) in
    record {
      inside = omega (arith, c.loop-left.invariant.inside);
      so_far = passing_next c.args.gates.now c.args.count (c.loop-left.left - 1) c.loop-left.all.items c.note.new.all.items _ (omega (arith, c.loop-left.invariant.inside, c.loop-left-test.true))
          (subst (λ n. ArePassing (drop n c.args.gates.now) c.args.count c.loop-left.all.items) (sym back) c.loop-left.invariant.so_far) c.note.ensures;
    }
