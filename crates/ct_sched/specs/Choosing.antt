-- What one look along the order finds.
use Rattle.std.specs.Prelude.{ℕ, ◌≡◌, ◌<◌, ◌≤◌, true, false, List, length, slice_index_or}
use Rattle.def_sched.specs.declared.Status.{Status}
use Rattle.def_sched.specs.Statuses.{is_ready, status_of}
use Rattle.def_sched.specs.Picks.{priority_of}

-- the thread at a place of the order
abbrev pub at : List ℕ → ℕ → ℕ
at order place = slice_index_or order place 0

-- no thread in the order is ready
abbrev pub NoneReady : List Status → List ℕ → Type 0
NoneReady statuses order =
    (k : ℕ) → k < length order → is_ready (status_of statuses (at order k)) ≡ false

-- The thread at this place is ready. Ready threads before it have a lesser priority, and those behind it no
-- greater one.
pub record IsForemost (priorities : List ℕ) (statuses : List Status) (order : List ℕ)
    (place : ℕ) : Type 0 where
  pub inside : place < length order
  pub ready : is_ready (status_of statuses (at order place)) ≡ true
  pub before : (k : ℕ) → k < place → is_ready (status_of statuses (at order k)) ≡ true
      → priority_of priorities (at order k) < priority_of priorities (at order place)
  pub greatest : (k : ℕ) → k < length order → is_ready (status_of statuses (at order k)) ≡ true
      → priority_of priorities (at order k) ≤ priority_of priorities (at order place)
