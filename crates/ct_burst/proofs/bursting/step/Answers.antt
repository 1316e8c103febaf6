use Rattle.std.proofs.Common.{ap}
use Rattle.ct_decode.specs.declared.reading.Reading.{Reading}
use Rattle.ct_burst.proofs.Fetching.{word_goes}
use Rattle.ct_burst.proofs.bursting.step.Goals as goal

pub returns-clause-goes : goal.returns-clause-goes
returns-clause-goes g c carried =
    word_goes c.args.ram c.args.row.now (g.M.Memory.granules c.args.mem.now) c.args.window c.word_at-word.result c.reading.result.now.instruction c.carry.new.row (g.M.Memory.granules c.carry.new.mem)
    c.requires.held c.requires.window c.word_at-word.ensures (ap (λ (x : Reading). x.instruction) c.reading.ensures.is) (c.carry.ensures.carries carried)
