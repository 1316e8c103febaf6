use Rattle.std.proofs.Common.{ap, ◌∙◌}
use Rattle.std.proofs.lemmas.Result.{IfOk-weaker}
use Rattle.ct_boot.proofs.Launched.{starts}
use Rattle.ct_boot.proofs.Placing.{region_is}
use Rattle.ct_boot.proofs.launching.engine_of.Goals as goal

pub start-requires : goal.start-requires
start-requires g c =
    let p = c.args.parts.now in
    (starts p c.requires.sound (g.M.Memory.granules c.args.mem) _ c.as_slice.result.now c.in_ok-heap.heap c.args.limits.now c.requires.booted
    (region_is p _ _ _ (ap (λ q. q.ram) c.parts.view_is) c.areas_begin.ensures c.in_ok-threads.ensures.end)
    (c.as_slice.ensures.value ∙ c.in_ok-threads.ensures.fresh) c.in_ok-heap.ensures.is c.in_ok-heap.ensures.empty).0

pub returns : goal.returns
returns g c =
    let p = c.args.parts.now in
    IfOk-weaker c.start.result _ _
    (λ e is. is ∙ (starts p c.requires.sound (g.M.Memory.granules c.args.mem) _ c.as_slice.result.now c.in_ok-heap.heap c.args.limits.now c.requires.booted
    (region_is p _ _ _ (ap (λ q. q.ram) c.parts.view_is) c.areas_begin.ensures c.in_ok-threads.ensures.end)
    (c.as_slice.ensures.value ∙ c.in_ok-threads.ensures.fresh) c.in_ok-heap.ensures.is c.in_ok-heap.ensures.empty).1) c.start.ensures
