use Rattle.std.proofs.Common.{ℕ, ◌<◌, ◌≤◌, ◌-◌, length, slice_index_or}
use Rattle.ct_script.proofs.finding.first_from.Given as goal

pub record Between (l : goal.Live-loop-low) : Type 0 where
  pub order : l.low ≤ l.high
  pub inside : l.high ≤ length l.steps
  pub less : (k : ℕ) → k < l.low → slice_index_or l.steps k 0 < l.step
  pub rest : (k : ℕ) → l.high ≤ k → k < length l.steps → l.step ≤ slice_index_or l.steps k 0

abbrev pub invariant-loop-low : goal.invariant-loop-low
invariant-loop-low l = Between l

abbrev pub decreases-loop-low : goal.decreases-loop-low
decreases-loop-low l = l.high - l.low
