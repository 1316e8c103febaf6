use Rattle.bench_parts.specs.Laden.{LadenRow}
use Rattle.bench_parts.proofs.Keeping.{after_allocate}
use Rattle.bench_parts.proofs.laden.Laden.allocate.Goals as goal

pub invariant_of-self : goal.invariant_of-self
invariant_of-self c = after_allocate (let l : LadenRow = record { heap = c.self.inside.heap; granules = c.self.inside.mem; quotas = c.self.inside.quotas; made = c.self.inside.made } in l) c.allocate.new.self c.allocate.new.mem c.args.quota c.args.size c.allocate.result c.self.invariant c.allocate.ensures.laid c.allocate.ensures.answer c.allocate.ensures.refused
