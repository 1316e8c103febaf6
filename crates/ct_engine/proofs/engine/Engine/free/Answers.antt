use Rattle.std.proofs.Common.{◌∙◌, refl, ap}
use Rattle.ct_engine.specs.Seen.{EngineRow}
use Rattle.ct_engine.proofs.Whole.{turn_holds}
use Rattle.ct_engine.proofs.Goes.{Runner, filter_turn, filter_sees}
use Rattle.ct_engine.proofs.HeapTurns.{with_heap}
use Rattle.ct_engine.proofs.Tables.{with_table}
use Rattle.ct_engine.proofs.Freeing.{freed_holds, free_is, free_told}
use Rattle.ct_engine.proofs.engine.Engine.free.Given as given
use Rattle.ct_engine.proofs.engine.Engine.free.Goals as goal

-- the thread that runs, once the object and its row are gone
here : (g : given.Over) (c : goal.After-self-1 g)
    → Runner (g.M.Memory.granules c.free.new.mem)
    (with_table (with_heap c.self.inside.rows c.free.new.self c.self.inside.rows.front) c.drop_row.new.self) c.args.t c.index_mut.result.now
here g c = record {
  holds = freed_holds c.self.invariant c.in_ok-object.ensures.answer c.drop_row.new.self c.in_ok-object.ensures.laid c.drop_row.ensures.room;
  runs = ap (λ (s : EngineRow). s.state.running) c.self.view_is ∙ c.requires.runs;
  is = c.index_mut.ensures.value;
}

pub invariant_of-self-2 : goal.invariant_of-self-2
invariant_of-self-2 g c = turn_holds (filter_turn (here g c) c.filter_row.new.t c.filter_row.ensures)

pub returns-clause-is : goal.returns-clause-is
returns-clause-is g c =
    free_is c.self.invariant c.in_ok-object.ensures.answer c.drop_row.new.self c.args.t c.self.view_is c.drop_row.ensures.rows
    (filter_sees (here g c) c.filter_row.new.t c.filter_row.ensures)

pub returns-clause-told : goal.returns-clause-told
returns-clause-told g c =
    free_told c.self.invariant c.in_ok-object.ensures.answer c.drop_row.new.self c.args.t c.in_ok-object.object refl c.self.view_is
    (filter_sees (here g c) c.filter_row.new.t c.filter_row.ensures)
