use Rattle.std.proofs.Common.{◌≡◌, ap, arith, ℕ, length, map, slice_set, List, Bool}
use Rattle.std.proofs.lemmas.List.{length-map}
use Rattle.ct_graph.specs.Cells.{cell}
use Rattle.ct_graph.proofs.Lists.{goes_inside}
use Rattle.ct_graph.proofs.Levels.{levels_start, levels_end}
use Rattle.ct_graph.proofs.distances.distances.Goals as goal

pub loop-near-init : goal.loop-near-init
loop-near-init c = levels_start _ (length c.args.rows.now) c.args.end _ c.requires.end (ap (λ (l : List ℕ). slice_set l c.args.end 0) (c.in_ok-far.ensures.items_if_clones_equal (λ y h. h)))

pub loop-near-preserved : goal.loop-near-preserved
loop-near-preserved c = c.level.ensures.levels c.args.end c.loop-near.invariant

pub returns : goal.returns
returns c =
    let rows : List (List Bool) = map (λ r. r.items) c.args.rows.now in
    let size : length rows ≡ length c.args.rows.now = length-map c.args.rows.now (λ r. r.items) in
    levels_end (cell rows) (length c.args.rows.now) c.args.end c.loop-near.near c.loop-near.far.items (λ v x goes. omega (arith, goes_inside rows v x goes, size)) (omega (arith, c.loop-near-test.false)) c.loop-near.invariant
