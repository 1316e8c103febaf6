use Rattle.std.proofs.Common.{◌≡◌}
use Rattle.def_machine.specs.Memory.{filtered_in}
use Rattle.law_lists.proofs.Maps.{so_far}
use Rattle.ct_threads.proofs.registers.filter_each.Given as goal

-- so many registers have passed the load filter
abbrev pub invariant-loop-number : goal.invariant-loop-number
invariant-loop-number g l =
    l.registers ≡ so_far (filtered_in l.ram (g.M.Memory.granules l.mem)) l.number l.fn.registers
