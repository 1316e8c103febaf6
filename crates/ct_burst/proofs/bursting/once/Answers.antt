use Rattle.std.proofs.Common.{ap, refl}
use Rattle.ct_burst.specs.Carrying.{went}
use Rattle.ct_burst.specs.Going.{running_thread}
use Rattle.ct_burst.proofs.bursting.once.Goals as goal

pub returns-in-Went-clause-goes : goal.returns-in-Went-clause-goes
returns-in-Went-clause-goes g c fs =
    (running_thread c.args.row.now fs, g.M.Memory.granules c.args.mem.now, (refl, refl), c.step.ensures.goes (ap went c.in-Went.is) fs)

pub returns-in-Led-clause-goes : goal.returns-in-Led-clause-goes
returns-in-Led-clause-goes g c fs =
    (running_thread c.args.row.now fs, g.M.Memory.granules c.args.mem.now, (refl, refl), c.step.ensures.goes (ap went c.in-Led.is) fs)

pub returns-in-Turned-clause-goes : goal.returns-in-Turned-clause-goes
returns-in-Turned-clause-goes g c fs =
    (running_thread c.args.row.now fs, g.M.Memory.granules c.args.mem.now, (refl, refl), c.step.ensures.goes (ap went c.in-Turned.is) fs)
