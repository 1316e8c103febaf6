use Rattle.std.proofs.Common.{◌-◌, ◌≤◌, List}
use Rattle.def_machine.specs.State.{Frame}
use Rattle.ct_burst.specs.Carrying.{HasWindow, IsHeld, Stays}
use Rattle.ct_burst.specs.Going.{running_thread, GoesFor}
use Rattle.ct_burst.proofs.bursting.run.Given as goal

-- those that are left
abbrev pub decreases-loop-made : goal.decreases-loop-made
decreases-loop-made g l = l.most - l.made

-- so many instructions were carried out, and the window holds the row's address
abbrev pub invariant-loop-made : goal.invariant-loop-made
invariant-loop-made g l =
    (l.made ≤ l.most)
    × ((fs : List Frame) → GoesFor l.ram l.made (running_thread l.fn.row fs) (g.M.Memory.granules l.fn.mem) (running_thread l.row fs) (g.M.Memory.granules l.mem))
    × Stays l.fn.row l.row (g.M.Memory.granules l.fn.mem) (g.M.Memory.granules l.mem)
    × IsHeld l.row l.window
    × HasWindow l.ram l.row (g.M.Memory.granules l.mem) l.window
