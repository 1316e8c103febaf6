use Rattle.run_rows.specs.Swept.{SweptRow}
use Rattle.run_rows.proofs.Keeping.{after_allocate}
use Rattle.run_rows.proofs.heap.swept.Swept.allocate.Goals as goal

pub invariant_of-self : goal.invariant_of-self
invariant_of-self c = after_allocate (let s : SweptRow = record { heap = c.self.inside.heap; granules = c.self.inside.mem; front = c.self.inside.front; low = c.self.inside.low; quotas = c.self.inside.quotas; made = c.self.inside.made } in s) c.allocate.new.self c.allocate.new.mem c.args.quota c.args.size c.allocate.result c.self.invariant c.allocate.ensures.laid c.allocate.ensures.answer c.allocate.ensures.refused
