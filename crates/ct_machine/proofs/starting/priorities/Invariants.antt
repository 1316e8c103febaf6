use Rattle.std.proofs.Common.{◌≡◌, take}
use Rattle.ct_machine.specs.Starting.{priorities_of}
use Rattle.ct_machine.proofs.starting.priorities.Given as goal

-- those of the first threads
abbrev pub invariant-loop-thread : goal.invariant-loop-thread
invariant-loop-thread l = l.all.items ≡ priorities_of (take l.thread-index l.threads)
