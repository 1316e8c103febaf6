use Rattle.std.proofs.Common.{◌≡◌, ℕ, ◌+◌, ◌<◌, true}
use Rattle.def_sched.specs.Statuses.{is_ready, status_of}
use Rattle.def_sched.specs.Picks.{priority_of}
use Rattle.ct_sched.specs.Choosing.{at}
use Rattle.ct_sched.proofs.choosing.foremost.Given as goal

-- a priority that counts is at least this
pub record Found (l : goal.Live-loop-place) : Type 0 where
  pub seen : (k : ℕ) → k < l.place → is_ready (status_of l.statuses (at l.order k)) ≡ true → priority_of l.priorities (at l.order k) < l.least
  pub inside : 0 < l.least → l.found < l.place
  pub ready : 0 < l.least → is_ready (status_of l.statuses (at l.order l.found)) ≡ true
  pub is : 0 < l.least → l.least ≡ priority_of l.priorities (at l.order l.found) + 1
  pub before : (k : ℕ) → k < l.found → 0 < l.least → is_ready (status_of l.statuses (at l.order k)) ≡ true → priority_of l.priorities (at l.order k) + 1 < l.least

abbrev pub invariant-loop-place : goal.invariant-loop-place
invariant-loop-place l = Found l
