use Rattle.std.proofs.Common.{◌+◌, ◌*◌, min, length, unwrap_or, sym, ◌∙◌, arith}
use Rattle.run_rows.specs.Swept.{SweptRow}
use Rattle.run_rows.proofs.Keeping.{after_slice}
use Rattle.run_rows.proofs.heap.swept.Swept.slice.Goals as goal

pub invariant_of-self : goal.invariant_of-self
invariant_of-self c = after_slice (let s : SweptRow = record { heap = c.self.inside.heap; granules = c.self.inside.mem; front = c.self.inside.front; low = c.self.inside.low; quotas = c.self.inside.quotas; made = c.self.inside.made } in s) c.slice.new.mem c.slice.new.self (min (unwrap_or c.self.inside.front 0 + 8 * c.args.count) (8 * length c.self.inside.mem)) c.self.invariant (sym c.running-runs.ensures ∙ c.if-not-runs.false) c.slice.ensures.front (omega arith) c.slice.ensures.sliced c.slice.ensures.clean
