use Rattle.std.proofs.Common.{◌≡◌, arith, length, map, subst}
use Rattle.ct_graph.specs.Cells.{cell, IsLevel}
use Rattle.ct_graph.proofs.Levels.{level_starts, level_ends}
use Rattle.ct_graph.proofs.distances.level.Goals as goal

pub loop-place-init : goal.loop-place-init
loop-place-init c = record { size = c.requires.size; levels = λ b h. level_starts _ (length c.args.rows.now) b c.args.near c.args.far.now.items h }

pub loop-place-preserved : goal.loop-place-preserved
loop-place-preserved c = record { size = c.level_at.ensures.size; levels = λ b h. c.level_at.ensures.level b (c.loop-place.invariant.levels b h) }

pub returns-clause-levels : goal.returns-clause-levels
returns-clause-levels c b h =
    let whole : c.loop-place.place ≡ length c.args.rows.now = omega (arith, c.loop-place-test.false, c.loop-place.auto.place-end) in
    level_ends (cell (map (λ r. r.items) c.args.rows.now)) (length c.args.rows.now) b c.args.near c.loop-place.far.items c.requires.near
    (subst (λ i. IsLevel (cell (map (λ r. r.items) c.args.rows.now)) (length c.args.rows.now) b c.args.near i c.loop-place.far.items) whole (c.loop-place.invariant.levels b h))
