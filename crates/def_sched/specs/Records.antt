-- A record of picks, newest first, and what it says of the thread that is picked next.
use Rattle.std.specs.Prelude.{ℕ, ◌==◌, ◌≡◌, ◌<◌, ◌≤◌, ◌⊎◌, true, List, [], ◌∷◌}
use Rattle.std.specs.List.{position_or_len}
use Rattle.def_sched.specs.declared.Status.{Status}
use Rattle.def_sched.specs.Statuses.{is_ready, status_of}
use Rattle.def_sched.specs.Picks.{first_order, moved_last, priority_of}

-- the order of so many threads after these picks
abbrev pub order_after : ℕ → List ℕ → List ℕ
order_after count [] = first_order count
order_after count (t ∷ picks) = moved_last t (order_after count picks)

-- how many picks there were since thread t was picked; of one never picked, how many there were at all
abbrev pub since : List ℕ → ℕ → ℕ
since picks t = position_or_len (λ p. p == t) picks

-- Thread t was picked longer ago than thread u, or only u was picked at all; of two that were never picked t
-- has the lower number.
abbrev pub IsLongerAgo : List ℕ → ℕ → ℕ → Type 0
IsLongerAgo picks t u =
    (since picks u < since picks t) ⊎ ((since picks t ≡ since picks u) × (t < u))

-- Thread t is one of the ready threads, none of which has a greater priority, and of those of its priority
-- it was picked longest ago.
pub record IsFairPick (count : ℕ) (priorities : List ℕ) (statuses : List Status) (picks : List ℕ)
    (t : ℕ) : Type 0 where
  pub thread : t < count
  pub ready : is_ready (status_of statuses t) ≡ true
  pub greatest : (u : ℕ) → u < count → is_ready (status_of statuses u) ≡ true
      → priority_of priorities u ≤ priority_of priorities t
  pub longest : (u : ℕ) → u < count → is_ready (status_of statuses u) ≡ true
      → priority_of priorities u ≡ priority_of priorities t → (u ≡ t → ⊥) → IsLongerAgo picks t u
