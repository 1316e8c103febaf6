use Rattle.std.proofs.Common.{◌+◌, ◌<◌, length, ap, sym, subst, arith}
use Rattle.ct_boot.proofs.Ranges.{got_of}
use Rattle.ct_boot.proofs.Standing.{IsSoFar, next_fits, one_more}
use Rattle.ct_boot.proofs.Placing.{ends_small}
use Rattle.ct_boot.proofs.fresh.threads_of.Goals as goal

pub overflow_add-at : goal.overflow_add-at
overflow_add-at c =
    let p = c.args.parts.now in
    let x = c.index-thread.result.now in
    let lt : c.loop-index.index < length c.args.parts.now.threads = omega (arith, c.loop-index-test.true, c.len-index-end.ensures, ap (λ p. length p.threads) c.parts.view_is) in
    let there = got_of c.parts.inside.threads.items p.threads c.loop-index.index x (ap (λ p. p.threads) c.parts.view_is) lt c.index-thread.ensures in
    let fits = next_fits p c.loop-index.fresh.items c.loop-index.index c.loop-index.at x c.loop-index.invariant there in
    let length = ap (λ a. a.trusted_length) c.area_from-area.ensures in
    let small = ends_small p c.requires in
    omega (arith, length, fits, small)

pub loop-index-preserved : goal.loop-index-preserved
loop-index-preserved c =
    let p = c.args.parts.now in
    let x = c.index-thread.result.now in
    let lt : c.loop-index.index < length c.args.parts.now.threads = omega (arith, c.loop-index-test.true, c.len-index-end.ensures, ap (λ p. length p.threads) c.parts.view_is) in
    let there = got_of c.parts.inside.threads.items p.threads c.loop-index.index x (ap (λ p. p.threads) c.parts.view_is) lt c.index-thread.ensures in
    subst (λ fs. IsSoFar p fs (c.loop-index.index + 1) (c.loop-index.at + c.area_from-area.result.trusted_length)) (sym c.in_ok-push.ensures.items)
    (one_more p c.loop-index.fresh.items c.loop-index.index c.loop-index.at c.first_at-first.result c.area_from-area.result x c.loop-index.invariant there c.first_at-first.ensures c.area_from-area.ensures)
