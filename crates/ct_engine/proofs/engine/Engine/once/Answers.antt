use Rattle.ct_engine.proofs.Bursts.{Burst, burst_holds, burst_goes, burst_window}
use Rattle.ct_engine.proofs.Goes.{runner}
use Rattle.ct_engine.proofs.Windows.{window_here}
use Rattle.ct_engine.proofs.engine.Engine.once.Given as given
use Rattle.ct_engine.proofs.engine.Engine.once.Goals as goal

pub once-requires-clause-window : goal.once-requires-clause-window
once-requires-clause-window g c =
    window_here (runner c.self.invariant c.self.view_is c.requires.runs c.index_mut-row.ensures.value) c.self.view_is c.requires.window

burst : (g : given.Over) (c : goal.After-self-1 g)
    → Burst (g.M.Memory.granules c.self.inside.mem) c.self.inside.rows c.args.self.now c.args.t 1 c.once.result
    c.index_mut-row.result.now c.once.new.row (g.M.Memory.granules c.once.new.mem)
burst g c = record {
  run = runner c.self.invariant c.self.view_is c.requires.runs c.index_mut-row.ensures.value;
  view = c.self.view_is;
  opened = c.requires.opened;
  few = c.once.ensures.most;
  goes = c.once.ensures.goes;
  beside = c.once.ensures.stays.beside;
}

pub invariant_of-self : goal.invariant_of-self
invariant_of-self g c = burst_holds (burst g c)

pub returns-clause-goes : goal.returns-clause-goes
returns-clause-goes g c = burst_goes (burst g c)

pub returns-clause-window : goal.returns-clause-window
returns-clause-window g c = burst_window (burst g c) c.once.new.window c.once.ensures.window
