use Rattle.std.proofs.Common.{true, false, is_some, unwrap_or, sym, ap, ◌∙◌, subst}
use Rattle.law_lists.proofs.Tests.{some_is}
use Rattle.ct_engine.specs.Seen.{EngineRow}
use Rattle.ct_engine.specs.Sweeps.{NoneLeft, slice_end, over}
use Rattle.ct_engine.proofs.Sweeps.{with_front}
use Rattle.ct_engine.proofs.Revoker.{front_is, slice_mid, mid_over, passed_is, passed_all}
use Rattle.ct_engine.proofs.engine.Engine.pass.Goals as goal

pub invariant_of-self : goal.invariant_of-self
invariant_of-self g c =
    (slice_mid (g.M.Memory.granules c.settle.new.mem) (g.M.Memory.granules c.slice.new.mem) c.settle.new.rows c.args.self.now c.args.rate c.slice.new.self (c.settle.ensures.seen ∙ c.self.view_is) c.settle.ensures.holds c.settle.ensures.alone c.slice.ensures.front c.slice.ensures.sliced).holds

pub finish-requires : goal.finish-requires
finish-requires g c =
    let mid = slice_mid (g.M.Memory.granules c.settle.new.mem) (g.M.Memory.granules c.slice.new.mem) c.settle.new.rows c.args.self.now c.args.rate c.slice.new.self (c.settle.ensures.seen ∙ c.self.view_is) c.settle.ensures.holds c.settle.ensures.alone c.slice.ensures.front c.slice.ensures.sliced in
    subst (λ (s : EngineRow). NoneLeft s.state.objects s) (sym mid.is)
    (c.requires.left (unwrap_or c.settle.new.rows.front 0)
    (front_is (g.M.Memory.granules c.settle.new.mem) c.settle.new.rows c.args.self.now (c.settle.ensures.seen ∙ c.self.view_is) ∙ some_is c.settle.new.rows.front 0 (ap (λ (s : EngineRow). is_some s.state.front) c.settle.ensures.seen ∙ sym c.running.ensures ∙ c.if-not-running.false))
    (passed_all c.args.self.now (unwrap_or c.settle.new.rows.front 0) (slice_end c.args.self.now c.args.rate (unwrap_or c.settle.new.rows.front 0))
    (mid_over (g.M.Memory.granules c.slice.new.mem) (with_front c.settle.new.rows c.slice.new.self) c.args.self.now (unwrap_or c.settle.new.rows.front 0) c.args.rate c.size.result c.finished.result mid c.size.ensures c.finished.ensures.0 c.finished.ensures.1 ∙ c.if-finished.true)))

pub invariant_of-self-else-finished : goal.invariant_of-self-else-finished
invariant_of-self-else-finished g c =
    (slice_mid (g.M.Memory.granules c.settle.new.mem) (g.M.Memory.granules c.slice.new.mem) c.settle.new.rows c.args.self.now c.args.rate c.slice.new.self (c.settle.ensures.seen ∙ c.self.view_is) c.settle.ensures.holds c.settle.ensures.alone c.slice.ensures.front c.slice.ensures.sliced).holds

pub returns-then-finished : goal.returns-then-finished
returns-then-finished g c =
    let mid = slice_mid (g.M.Memory.granules c.settle.new.mem) (g.M.Memory.granules c.slice.new.mem) c.settle.new.rows c.args.self.now c.args.rate c.slice.new.self (c.settle.ensures.seen ∙ c.self.view_is) c.settle.ensures.holds c.settle.ensures.alone c.slice.ensures.front c.slice.ensures.sliced in
    c.finish.ensures ∙ ap over mid.is
    ∙ passed_is c.args.self.now c.args.rate (unwrap_or c.settle.new.rows.front 0) true
    (front_is (g.M.Memory.granules c.settle.new.mem) c.settle.new.rows c.args.self.now (c.settle.ensures.seen ∙ c.self.view_is) ∙ some_is c.settle.new.rows.front 0 (ap (λ (s : EngineRow). is_some s.state.front) c.settle.ensures.seen ∙ sym c.running.ensures ∙ c.if-not-running.false))
    (mid_over (g.M.Memory.granules c.slice.new.mem) (with_front c.settle.new.rows c.slice.new.self) c.args.self.now (unwrap_or c.settle.new.rows.front 0) c.args.rate c.size.result c.finished.result mid c.size.ensures c.finished.ensures.0 c.finished.ensures.1 ∙ c.if-finished.true)

pub returns-else-finished : goal.returns-else-finished
returns-else-finished g c =
    let mid = slice_mid (g.M.Memory.granules c.settle.new.mem) (g.M.Memory.granules c.slice.new.mem) c.settle.new.rows c.args.self.now c.args.rate c.slice.new.self (c.settle.ensures.seen ∙ c.self.view_is) c.settle.ensures.holds c.settle.ensures.alone c.slice.ensures.front c.slice.ensures.sliced in
    mid.is
    ∙ passed_is c.args.self.now c.args.rate (unwrap_or c.settle.new.rows.front 0) false
    (front_is (g.M.Memory.granules c.settle.new.mem) c.settle.new.rows c.args.self.now (c.settle.ensures.seen ∙ c.self.view_is) ∙ some_is c.settle.new.rows.front 0 (ap (λ (s : EngineRow). is_some s.state.front) c.settle.ensures.seen ∙ sym c.running.ensures ∙ c.if-not-running.false))
    (mid_over (g.M.Memory.granules c.slice.new.mem) (with_front c.settle.new.rows c.slice.new.self) c.args.self.now (unwrap_or c.settle.new.rows.front 0) c.args.rate c.size.result c.finished.result mid c.size.ensures c.finished.ensures.0 c.finished.ensures.1 ∙ c.if-finished.false)
