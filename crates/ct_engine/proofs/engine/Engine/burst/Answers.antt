use Rattle.ct_engine.proofs.Bursts.{Burst, burst_holds, burst_goes, burst_window}
use Rattle.ct_engine.proofs.Goes.{runner}
use Rattle.ct_engine.proofs.Windows.{window_here}
use Rattle.ct_engine.proofs.engine.Engine.burst.Given as given
use Rattle.ct_engine.proofs.engine.Engine.burst.Goals as goal

pub burst-requires-clause-window : goal.burst-requires-clause-window
burst-requires-clause-window g c =
    window_here (runner c.self.invariant c.self.view_is c.requires.runs c.index_mut.ensures.value) c.self.view_is c.requires.window

burst : (g : given.Over) (c : goal.After-self-1 g)
    → Burst (g.M.Memory.granules c.self.inside.mem) c.self.inside.rows c.args.self.now c.args.t c.args.most c.burst.result
    c.index_mut.result.now c.burst.new.row (g.M.Memory.granules c.burst.new.mem)
burst g c = record {
  run = runner c.self.invariant c.self.view_is c.requires.runs c.index_mut.ensures.value;
  view = c.self.view_is;
  opened = c.requires.opened;
  few = c.burst.ensures.most;
  goes = c.burst.ensures.goes;
  beside = c.burst.ensures.stays.beside;
}

pub invariant_of-self : goal.invariant_of-self
invariant_of-self g c = burst_holds (burst g c)

pub returns-clause-goes : goal.returns-clause-goes
returns-clause-goes g c = burst_goes (burst g c)

pub returns-clause-window : goal.returns-clause-window
returns-clause-window g c = burst_window (burst g c) c.burst.new.window c.burst.ensures.window
