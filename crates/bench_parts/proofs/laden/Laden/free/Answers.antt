use Rattle.std.proofs.Common.{◌≡◌, None}
use Rattle.def_chunks.specs.Heaps.{objects_of}
use Rattle.ct_heap.specs.Lookups.{whole_of}
use Rattle.bench_parts.specs.Laden.{LadenRow}
use Rattle.bench_parts.proofs.Keeping.{after_free}
use Rattle.bench_parts.proofs.laden.Laden.free.Goals as goal

pub invariant_of-self : goal.invariant_of-self
invariant_of-self c = after_free (let l : LadenRow = record { heap = c.self.inside.heap; granules = c.self.inside.mem; quotas = c.self.inside.quotas; made = c.self.inside.made } in l) c.free.new.self c.free.new.mem c.args.quota c.args.base c.args.top (λ e. whole_of c.args.quota c.args.base c.args.top (objects_of c.self.inside.heap c.self.inside.mem) ≡ None) c.free.result c.self.invariant c.free.ensures.laid c.free.ensures.answer c.free.ensures.refused
