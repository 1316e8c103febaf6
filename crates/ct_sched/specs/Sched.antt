-- A scheduler as contracts see it.
use Rattle.std.specs.Prelude.{ℕ, ◌≡◌, ◌<◌, ◌^◌, List, Option, Some, None, length, count_by}
use Rattle.def_sched.specs.declared.Status.{Status}
use Rattle.def_sched.specs.Statuses.{runs_again}
use Rattle.def_sched.specs.Picks.{IsOrder, moved_last}

-- each thread's priority and status, thread 0 first, and the order of picks
pub record SchedRow : Type 0 where
  pub priorities : List ℕ
  pub statuses : List Status
  pub order : List ℕ

abbrev pub with_statuses : SchedRow → List Status → SchedRow
with_statuses s statuses = record s { statuses = statuses }

-- the thread that was picked, if one was, stands last
abbrev pub after_pick : SchedRow → Option ℕ → SchedRow
after_pick s None = s
after_pick s (Some t) = record s { order = moved_last t s.order }

-- what a scheduler keeps: each thread has a priority and stands in the order once, and those that go on are
-- counted
pub record IsKept (s : SchedRow) (count : ℕ) : Type 0 where
  pub few : length s.statuses < 2 ^ 32
  pub priorities : length s.priorities ≡ length s.statuses
  pub order : IsOrder (length s.statuses) s.order
  pub going : count ≡ count_by runs_again s.statuses
