use Rattle.std.proofs.Common.{sym, ◌∙◌}
use Rattle.run_rows.specs.Swept.{SweptRow}
use Rattle.run_rows.proofs.Keeping.{none_begun, begun}
use Rattle.run_rows.proofs.heap.swept.Swept.begin.Goals as goal

pub invariant_of-self : goal.invariant_of-self
invariant_of-self c = none_begun (let s : SweptRow = record { heap = c.self.inside.heap; granules = c.self.inside.mem; front = c.self.inside.front; low = c.self.inside.low; quotas = c.self.inside.quotas; made = c.self.inside.made } in s) c.paint-some.new.self c.paint-some.new.mem c.self.invariant c.paint-some.ensures.heap c.paint-some.ensures.laid c.paint-some.ensures.paints (sym c.running-runs.ensures ∙ c.if-runs.false)

pub invariant_of-self-2 : goal.invariant_of-self-2
invariant_of-self-2 c = begun (let s : SweptRow = record { heap = c.self.inside.heap; granules = c.self.inside.mem; front = c.self.inside.front; low = c.self.inside.low; quotas = c.self.inside.quotas; made = c.self.inside.made } in s) c.paint-some.new.self c.paint-some.new.mem c.begin.new.self c.self.invariant c.paint-some.ensures.heap c.paint-some.ensures.laid c.paint-some.ensures.paints c.begin.ensures
