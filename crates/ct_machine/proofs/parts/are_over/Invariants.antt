use Rattle.std.proofs.Common.{◌≡◌, true, take}
use Rattle.std.specs.List.{list_all}
use Rattle.def_sched.specs.Statuses.{is_ended}
use Rattle.ct_machine.proofs.parts.are_over.Given as goal

-- the first of them have ended
abbrev pub invariant-loop-t : goal.invariant-loop-t
invariant-loop-t l = list_all is_ended (take l.t l.sched.statuses) ≡ true
