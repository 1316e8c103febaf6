use Rattle.std.proofs.Common.{◌≡◌, Bool, true, sym, subst}
use Rattle.def_machine.specs.Threads.{picked_with}
use Rattle.def_machine.specs.Memory.{filtered_in}
use Rattle.ct_areas.specs.Threads.{thread_of}
use Rattle.ct_engine.proofs.turns.take_up.Goals as goal

pub returns-else-stood-clause-thread : goal.returns-else-stood-clause-thread
returns-else-stood-clause-thread g c =
    let gs = g.M.Memory.granules c.args.mem.now in
    let r = c.args.row.now in
    subst (λ (b : Bool). thread_of (g.M.Memory.granules c.pick_row.new.mem) true c.pick_row.new.t ≡ picked_with (filtered_in r.area.ram gs) (thread_of gs b r))
    (sym c.if-stood.false) c.pick_row.ensures.thread
