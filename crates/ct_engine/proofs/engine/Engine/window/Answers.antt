use Rattle.ct_threads.specs.Windows.{HoldsEach, IsWindow}
use Rattle.ct_engine.proofs.Goes.{runner}
use Rattle.ct_engine.proofs.Windows.{counter_seen}
use Rattle.ct_engine.proofs.engine.Engine.window.Goals as goal

pub returns-clause-is : goal.returns-clause-is
returns-clause-is g c =
    counter_seen (runner c.self.invariant c.self.view_is c.requires c.index.ensures) c.self.view_is
    (λ x ram size. IsWindow c.window_of.result x ram size) c.window_of.ensures.is

pub returns-clause-whole : goal.returns-clause-whole
returns-clause-whole g c =
    counter_seen (runner c.self.invariant c.self.view_is c.requires c.index.ensures) c.self.view_is
    (λ x ram size. HoldsEach c.window_of.result x ram size) c.window_of.ensures.whole
