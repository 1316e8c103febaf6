use Rattle.bench_parts.specs.Laden.{LadenRow}
use Rattle.bench_parts.proofs.Keeping.{none_stale, after_flush}
use Rattle.bench_parts.proofs.laden.Laden.flush.Goals as goal

pub flush-requires-clause-swept : goal.flush-requires-clause-swept
flush-requires-clause-swept c = none_stale (let l : LadenRow = record { heap = c.self.inside.heap; granules = c.self.inside.mem; quotas = c.self.inside.quotas; made = c.self.inside.made } in l) c.self.invariant

pub invariant_of-self : goal.invariant_of-self
invariant_of-self c = after_flush (let l : LadenRow = record { heap = c.self.inside.heap; granules = c.self.inside.mem; quotas = c.self.inside.quotas; made = c.self.inside.made } in l) c.flush.new.self c.flush.new.mem c.self.invariant c.flush.ensures.laid c.flush.ensures.flushes
