use Rattle.run_rows.specs.Swept.{SweptRow}
use Rattle.run_rows.proofs.Keeping.{after_free}
use Rattle.run_rows.proofs.heap.swept.Swept.free.Goals as goal

pub invariant_of-self : goal.invariant_of-self
invariant_of-self c = after_free (let s : SweptRow = record { heap = c.self.inside.heap; granules = c.self.inside.mem; front = c.self.inside.front; low = c.self.inside.low; quotas = c.self.inside.quotas; made = c.self.inside.made } in s) c.free.new.self c.free.new.mem c.args.quota c.args.base c.args.top c.free.result c.self.invariant c.free.ensures.laid c.free.ensures.answer c.free.ensures.refused
