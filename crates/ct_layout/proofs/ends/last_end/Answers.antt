use Rattle.std.proofs.Common.{◌+◌, ◌≡◌, ◌<◌, get_or, length, drop, arith, sym, ap, ◌∙◌}
use Rattle.def_layout.specs.Placement.{last_end}
use Rattle.law_layout.proofs.Placing.{next_end}
use Rattle.ct_layout.proofs.Walking.{last_after, small_after, none_left}
use Rattle.ct_layout.proofs.ends.last_end.Goals as goal

pub loop-size-preserved : goal.loop-size-preserved
loop-size-preserved c =
    let lt : c.loop-size.size-index < length c.args.sizes.now = omega arith in
    let ended : next_end c.loop-size.end (get_or c.args.sizes.now c.loop-size.size-index 0) ≡ c.region_base.result + c.region_length.result = cc in
    record {
      same = ap (λ n. last_end n (drop (c.loop-size.size-index + 1) c.args.sizes.now)) (sym ended) ∙ last_after _ _ _ _ lt c.loop-size.invariant.same;
      small = small_after _ _ lt c.loop-size.invariant.small;
      near = omega arith;
    }

pub returns : goal.returns
returns c = none_left c.loop-size.end c.loop-size.size-index (last_end c.args.base c.args.sizes.now) c.args.sizes.now (omega arith) c.loop-size.invariant.same
