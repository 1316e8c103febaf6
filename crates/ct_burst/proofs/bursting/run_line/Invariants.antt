use Rattle.std.proofs.Common.{◌+◌, ◌-◌, ◌*◌, ◌≤◌, ◌≡◌, List}
use Rattle.def_machine.specs.State.{Frame}
use Rattle.def_words.specs.Authority.{cap_address}
use Rattle.ct_burst.specs.Carrying.{HasWindow, IsOn, Stays}
use Rattle.ct_burst.specs.Going.{running_thread, GoesFor}
use Rattle.ct_burst.proofs.bursting.run_line.Given as goal

-- those that are to come
abbrev pub decreases-loop-to_come : goal.decreases-loop-to_come
decreases-loop-to_come g l = l.to_come

-- the others were carried out, one address after another, and the row suits the window
abbrev pub invariant-loop-to_come : goal.invariant-loop-to_come
invariant-loop-to_come g l =
    (l.to_come ≤ l.most)
    × ((fs : List Frame) → GoesFor l.ram (l.most - l.to_come) (running_thread l.fn.row fs) (g.M.Memory.granules l.fn.mem) (running_thread l.row fs) (g.M.Memory.granules l.mem))
    × Stays l.fn.row l.row (g.M.Memory.granules l.fn.mem) (g.M.Memory.granules l.mem)
    × IsOn l.row l.window
    × HasWindow l.ram l.row (g.M.Memory.granules l.mem) l.window
    × (cap_address l.row.pcc ≡ cap_address l.fn.row.pcc + 4 * (l.most - l.to_come))
