use Rattle.std.proofs.Common.{ℕ, ◌≡◌, ◌+◌, ◌*◌, ◌%◌, ◌<◌, ◌^◌, min, arith}
use Rattle.ct_revoke.proofs.Passing.{passes_next, finishes_within}
use Rattle.ct_revoke.proofs.sweeping.pass.Goals as goal

below : (end high size found : ℕ) → end ≡ min high size → found < end → found < high
below end high size found is under = omega (arith, is, under)

-- a whole granule lies below the end
fits : (end high size found count : ℕ) → end ≡ min high size → size ≡ 8 * count → size < 2 ^ 32 → found % 8 ≡ 0 → found < end → found + 8 < 2 ^ 32
fits end high size found count is all few even under = omega (arith, is, all, few, even, under)

pub overflow_add-at : goal.overflow_add-at
overflow_add-at g c =
    let small = fits c.min-end.result c.args.high c.size.result c.in-Some.found _ c.min-end.ensures c.size.ensures c.size.type_inv c.in-Some.ensures.0.aligned c.in-Some.ensures.1 in
    omega (arith, small)

pub loop-found-preserved : goal.loop-found-preserved
loop-found-preserved g c =
    passes_next _ _ _ _ _ _ _ _ c.loop-found.invariant c.in-Some.ensures.0
    (below c.min-end.result c.args.high c.size.result c.in-Some.found c.min-end.ensures c.in-Some.ensures.1) c.pass_one.ensures

pub returns : goal.returns
returns g c =
    let all = c.size.ensures in
    let most = c.min-end.ensures in
    finishes_within _ _ _ _ c.min-end.result _ _ c.loop-found.invariant (omega (arith, all, most)) c.in_default.ensures
