use Rattle.std.proofs.Common.{◌≤◌, ◌*◌, length, unwrap_or, sym, ◌∙◌, arith, subst}
use Rattle.ct_engine.proofs.Revoker.{front_none, begun_holds, begun_then, begun_else}
use Rattle.ct_engine.proofs.engine.Engine.begin.Goals as goal

pub invariant_of-self : goal.invariant_of-self
invariant_of-self g c =
    let gs = g.M.Memory.granules c.self.inside.mem in
    begun_holds gs (g.M.Memory.granules c.paint.new.mem) c.self.inside.rows c.paint.new.self c.begin.new.self c.self.invariant
    (record { heap = c.paint.ensures.heap; laid = c.paint.ensures.laid; paints = c.paint.ensures.paints })
    (subst (λ f. unwrap_or f 0 ≤ 8 * length gs) (sym c.begin.ensures) (omega arith))

pub invariant_of-self-else-paint : goal.invariant_of-self-else-paint
invariant_of-self-else-paint g c =
    begun_holds (g.M.Memory.granules c.self.inside.mem) (g.M.Memory.granules c.paint.new.mem) c.self.inside.rows c.paint.new.self c.self.inside.rows.front c.self.invariant
    (record { heap = c.paint.ensures.heap; laid = c.paint.ensures.laid; paints = c.paint.ensures.paints }) c.self.invariant.heap.within

pub returns-then-paint : goal.returns-then-paint
returns-then-paint g c =
    begun_then (g.M.Memory.granules c.self.inside.mem) (g.M.Memory.granules c.paint.new.mem) c.self.inside.rows c.args.self.now c.paint.new.self c.begin.new.self c.self.view_is c.self.invariant
    (front_none c.self.inside.rows.front (sym c.running.ensures ∙ c.if-running.false))
    (record { heap = c.paint.ensures.heap; laid = c.paint.ensures.laid; paints = c.paint.ensures.paints })
    c.begin.ensures (sym c.paint.ensures.answer ∙ c.if-paint.true)

pub returns-else-paint : goal.returns-else-paint
returns-else-paint g c =
    begun_else (g.M.Memory.granules c.self.inside.mem) (g.M.Memory.granules c.paint.new.mem) c.self.inside.rows c.args.self.now c.paint.new.self c.self.view_is c.self.invariant
    (front_none c.self.inside.rows.front (sym c.running.ensures ∙ c.if-running.false))
    (record { heap = c.paint.ensures.heap; laid = c.paint.ensures.laid; paints = c.paint.ensures.paints })
    (sym c.paint.ensures.answer ∙ c.if-paint.false)
