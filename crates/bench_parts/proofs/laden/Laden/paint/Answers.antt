use Rattle.bench_parts.specs.Laden.{LadenRow}
use Rattle.bench_parts.proofs.Keeping.{after_paint}
use Rattle.bench_parts.proofs.laden.Laden.paint.Goals as goal

pub invariant_of-self : goal.invariant_of-self
invariant_of-self c = after_paint (let l : LadenRow = record { heap = c.self.inside.heap; granules = c.self.inside.mem; quotas = c.self.inside.quotas; made = c.self.inside.made } in l) c.paint.new.self c.paint.new.mem c.self.invariant c.paint.ensures.heap c.paint.ensures.laid c.paint.ensures.paints
