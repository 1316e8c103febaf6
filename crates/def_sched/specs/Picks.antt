-- Which thread is picked. The record of picks is the order of the threads by their last pick: those never
-- picked stand first, by their numbers, then the others, the one picked longest ago first.
use Rattle.std.specs.Prelude.{ℕ, ◌==◌, ◌&&◌, ◌||◌, ◌++◌, ◌∷◌, [], ◌≡◌, ◌<◌, Bool, not, nat_le, List, Option, All, AllPairs, Contains, length, filter, find, slice_index_or}
use Rattle.std.specs.List.{range_with_len, list_all}
use Rattle.def_sched.specs.declared.Status.{Status}
use Rattle.def_sched.specs.Statuses.{is_ready, status_of}

-- before the first pick of so many threads
abbrev pub first_order : ℕ → List ℕ
first_order count = range_with_len 0 count

-- after a pick of thread t it stands last
abbrev pub moved_last : ℕ → List ℕ → List ℕ
moved_last t order = filter (λ u. not (u == t)) order ++ t ∷ []

-- each of so many threads stands in the order once
pub record IsOrder (count : ℕ) (order : List ℕ) : Type 0 where
  pub size : length order ≡ count
  pub below : All (λ t. t < count) order
  pub each : (t : ℕ) → t < count → Contains order t
  pub once : AllPairs (λ t u. t ≡ u → ⊥) order

-- greater runs first
abbrev pub priority_of : List ℕ → ℕ → ℕ
priority_of priorities t = slice_index_or priorities t 0

-- thread u doesn't come before thread t by priority
abbrev pub gives_way : List ℕ → List Status → ℕ → ℕ → Bool
gives_way priorities statuses t u =
    not (is_ready (status_of statuses u))
    || nat_le (priority_of priorities u) (priority_of priorities t)

-- thread t is ready, and no ready thread has a greater priority
abbrev pub is_foremost : List ℕ → List Status → List ℕ → ℕ → Bool
is_foremost priorities statuses order t =
    is_ready (status_of statuses t) && list_all (gives_way priorities statuses t) order

-- among the ready threads of greatest priority the one picked least recently; none where none is ready
abbrev pub pick : List ℕ → List Status → List ℕ → Option ℕ
pick priorities statuses order = find (is_foremost priorities statuses order) order
