use Rattle.std.proofs.Common.{Some, ap, ◌∙◌}
use Rattle.run_rows.specs.Swept.{SweptRow}
use Rattle.run_rows.proofs.Keeping.{none_stale, after_flush}
use Rattle.run_rows.proofs.heap.swept.Swept.flush.Goals as goal

pub flush-requires-clause-swept : goal.flush-requires-clause-swept
flush-requires-clause-swept c = none_stale (let s : SweptRow = record { heap = c.self.inside.heap; granules = c.self.inside.mem; front = c.self.inside.front; low = c.self.inside.low; quotas = c.self.inside.quotas; made = c.self.inside.made } in s) c.self.invariant (c.finished-over.ensures.0 c.if-not-over.false ∙ ap (λ n. Some n) c.size.ensures)

pub invariant_of-self : goal.invariant_of-self
invariant_of-self c = after_flush (let s : SweptRow = record { heap = c.self.inside.heap; granules = c.self.inside.mem; front = c.self.inside.front; low = c.self.inside.low; quotas = c.self.inside.quotas; made = c.self.inside.made } in s) c.flush.new.self c.flush.new.mem c.end.new.self c.self.invariant c.flush.ensures.laid c.flush.ensures.flushes c.end.ensures
