use Rattle.ct_heap.proofs.Finds.{found_tells, found_nothing}
use Rattle.ct_heap.proofs.Answering.{frees}
use Rattle.ct_heap.proofs.heap.Heap.free.Goals as goal

pub quarantine-requires-clause-found : goal.quarantine-requires-clause-found
quarantine-requires-clause-found g c = (found_tells c.args.self.now (g.M.Memory.granules c.args.mem.now) c.args.base c.args.top c.in-Some.found c.requires.laid c.in-Some.ensures).freeing

pub returns-in-None-clause-answer : goal.returns-in-None-clause-answer
returns-in-None-clause-answer g c = found_nothing c.args.self.now (g.M.Memory.granules c.args.mem.now) c.args.base c.args.top c.args.quota c.requires.laid c.in-None.ensures

pub returns-then-found-quota-clause-answer : goal.returns-then-found-quota-clause-answer
returns-then-found-quota-clause-answer g c = (found_tells c.args.self.now (g.M.Memory.granules c.args.mem.now) c.args.base c.args.top c.in-Some.found c.requires.laid c.in-Some.ensures).others c.args.quota c.if-found-quota.true

pub returns-clause-answer : goal.returns-clause-answer
returns-clause-answer g c = frees c.args.self.now c.quarantine.new.self (g.M.Memory.granules c.args.mem.now) (g.M.Memory.granules c.quarantine.new.mem) c.args.quota c.args.base c.args.top c.in-Some.found c.quarantine.result.number c.quarantine.result.base c.quarantine.result.length c.quarantine.result.live (found_tells c.args.self.now (g.M.Memory.granules c.args.mem.now) c.args.base c.args.top c.in-Some.found c.requires.laid c.in-Some.ensures) c.if-found-quota.false c.quarantine.ensures.freed
