-- A ready thread is one of those that have a status.
use Rattle.std.proofs.Common.{ℕ, zero, suc, ◌≡◌, ◌<◌, true, false, is_none, List, [], ◌∷◌, length, slice_index_or, ap, arith}
use Rattle.def_sched.specs.declared.Status.{Status}
use Rattle.def_sched.specs.declared.Status.TheVariants.{Ready, Ended}
use Rattle.def_sched.specs.Statuses.{is_ready, status_of}
use Rattle.def_sched.specs.Picks.{pick}
use Rattle.law_sched.proofs.Picks.{none_is_picked}

pub ready_there : (ss : List Status) (t : ℕ) → status_of ss t ≡ Ready → t < length ss
ready_there [] t is = absurd (let clash : Ended ≡ Ready = is in cc)
ready_there (s ∷ ss) zero is = omega arith
ready_there (s ∷ ss) (suc t) is = let rest = ready_there ss t is in omega (arith, rest)

-- where none is ready none is picked
pub idle_picks : (priorities : List ℕ) (ss : List Status) (order : List ℕ) → ((t : ℕ) → is_ready (status_of ss t) ≡ false) → is_none (pick priorities ss order) ≡ true
idle_picks priorities ss order idle = ap is_none (none_is_picked priorities ss order (λ k below. idle (slice_index_or order k 0)))
