use Rattle.std.proofs.Common.{ap, ◌∙◌}
use Rattle.def_machine.specs.Memory.{filtered_in}
use Rattle.run_rows.specs.declared.heap.swept.TheConstants.{RAM}
use Rattle.run_rows.specs.Swept.{SweptRow}
use Rattle.run_rows.proofs.Keeping.{put_done}
use Rattle.run_rows.proofs.heap.swept.Swept.put.Goals as goal

pub invariant_of-self : goal.invariant_of-self
invariant_of-self c = put_done (let s : SweptRow = record { heap = c.self.inside.heap; granules = c.self.inside.mem; front = c.self.inside.front; low = c.self.inside.low; quotas = c.self.inside.quotas; made = c.self.inside.made } in s) c.args.slot c.args.cap c.shrink.result c.store_cap.new.self c.self.invariant c.if-slot-self.false (c.shrink.ensures ∙ c.filter-passed.ensures ∙ ap (filtered_in RAM c.self.inside.mem) c.expand.ensures) c.store_cap.ensures
