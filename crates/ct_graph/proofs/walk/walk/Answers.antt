use Rattle.std.proofs.Common.{◌≡◌, arith, ℕ, ◌+◌, length, map, true, slice_index_or}
use Rattle.std.proofs.lemmas.List.{get_or_default}
use Rattle.ct_graph.specs.Cells.{cell, far}
use Rattle.ct_graph.proofs.Lists.{reached_inside}
use Rattle.ct_graph.proofs.Paths.{walk_on, nearer_one}
use Rattle.ct_graph.proofs.walk.walk.Goals as goal

pub loop-here-preserved : goal.loop-here-preserved
loop-here-preserved c = record {
  reached = omega (arith, c.in-Some.ensures.nearer, c.loop-here.invariant.reached);
  walked = rw c.in_ok-push-in-Some.ensures.items (walk_on (cell (map (λ r. r.items) c.args.rows.now)) (length c.args.rows.now) c.args.far.now c.args.start c.loop-here.places.items c.loop-here.here c.in-Some.place c.loop-here.invariant.walked c.in-Some.ensures);
}

pub returns-in-None : goal.returns-in-None
returns-in-None c =
    let same : slice_index_or c.args.far.now c.loop-here.here 0 ≡ far (length c.args.rows.now) c.args.far.now c.loop-here.here = get_or_default c.args.far.now c.loop-here.here 0 (length c.args.rows.now) (reached_inside (length c.args.rows.now) c.args.far.now c.loop-here.here c.loop-here.invariant.reached) in
    let near : (x : ℕ) × ((cell (map (λ r. r.items) c.args.rows.now) c.loop-here.here x ≡ true) × (far (length c.args.rows.now) c.args.far.now c.loop-here.here ≡ far (length c.args.rows.now) c.args.far.now x + 1)) =
    nearer_one _ (length c.args.rows.now) c.args.end c.args.far.now c.requires.distance c.loop-here.here c.loop-here.invariant.reached (rw same at c.loop-here-test.true) in
    absurd (c.in-None.ensures near.0 (reached_inside (length c.args.rows.now) c.args.far.now near.0 (omega (arith, near.1.1, c.loop-here.invariant.reached))) near.1.0 near.1.1)
