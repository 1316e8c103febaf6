use Rattle.std.proofs.Common.{◌≡◌, arith, length, map, subst}
use Rattle.ct_graph.specs.Cells.{cell, IsSpread}
use Rattle.ct_graph.proofs.Levels.{spread_starts, spread_step}
use Rattle.ct_graph.proofs.distances.spread.Goals as goal

pub loop-other-init : goal.loop-other-init
loop-other-init c = record { size = c.requires.size; spreads = λ b h was. spread_starts _ (length c.args.rows.now) b c.args.place c.args.near c.args.far.now.items h }

pub loop-other-preserved : goal.loop-other-preserved
loop-other-preserved c = record {
  size = c.tell.ensures.size;
  spreads = λ b h was. spread_step (cell (map (λ r. r.items) c.args.rows.now)) (length c.args.rows.now) b c.args.place c.args.near c.loop-other.other c.args.far.now.items c.loop-other.far.items c.tell.new.far.items was c.requires.near c.loop-other-test.true (c.loop-other.invariant.spreads b h was) c.tell.ensures.told;
}

pub returns-clause-spreads : goal.returns-clause-spreads
returns-clause-spreads c b h was =
    let whole : c.loop-other.other ≡ length c.args.rows.now = omega (arith, c.loop-other-test.false, c.loop-other.auto.other-end) in
    subst (λ i. IsSpread (cell (map (λ r. r.items) c.args.rows.now)) (length c.args.rows.now) b c.args.place c.args.near i c.args.far.now.items c.loop-other.far.items) whole (c.loop-other.invariant.spreads b h was)
