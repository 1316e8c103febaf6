use Rattle.std.proofs.Common.{ℕ, ◌<◌, ◌≡◌, false}
use Rattle.def_sched.specs.Statuses.{is_ready, status_of}
use Rattle.ct_sched.proofs.choosing.are_idle.Given as goal

-- none before it is ready
abbrev pub invariant-loop-t : goal.invariant-loop-t
invariant-loop-t l = (k : ℕ) → k < l.t → is_ready (status_of l.statuses k) ≡ false
