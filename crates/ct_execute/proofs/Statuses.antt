-- Threads with the statuses that the scheduler keeps.
use Rattle.std.proofs.Common.{ℕ, zero, suc, ◌≡◌, List, [], ◌∷◌, length, refl, ap, arith}
use Rattle.std.proofs.Math.ListN.{get_or, set}
use Rattle.def_sched.specs.declared.Status.{Status}
use Rattle.def_machine.specs.State.{Thread, nobody}
use Rattle.def_machine.specs.Threads.{with_status, statuses_of, with_statuses}
pub use Rattle.ct_engine.proofs.Freeing.{changed_with}

-- ---- one thread of them

-- its status aside, it is as it was, whatever the statuses are
pub like_with : (ts : List Thread) (ss : List Status) (t : ℕ) (s : Status)
    → with_status (get_or (with_statuses ts ss) t nobody) s ≡ with_status (get_or ts t nobody) s
like_with [] ss t s = refl
like_with (x ∷ ts) [] t s = refl
like_with (x ∷ ts) (r ∷ ss) zero s = refl
like_with (x ∷ ts) (r ∷ ss) (suc t) s = like_with ts ss t s

-- it changes together with its status
pub set_both : (ts : List Thread) (ss : List Status) (t : ℕ) (new : Thread) (s : Status) → length ss ≡ length ts
    → with_statuses (set ts t new) (set ss t s) ≡ set (with_statuses ts ss) t (with_status new s)
set_both [] [] t new s e = refl
set_both [] (r ∷ ss) t new s e = absurd (omega (arith, e))
set_both (x ∷ ts) [] t new s e = absurd (omega (arith, e))
set_both (x ∷ ts) (r ∷ ss) zero new s e = refl
set_both (x ∷ ts) (r ∷ ss) (suc t) new s e =
    ap (λ (us : List Thread). with_status x r ∷ us) (set_both ts ss t new s (omega (arith, e)))

-- ---- all of them

-- statuses are given twice
pub twice_with : (ts : List Thread) (ss new : List Status) → length ss ≡ length ts → length new ≡ length ts
    → with_statuses (with_statuses ts ss) new ≡ with_statuses ts new
twice_with [] ss new e k = refl
twice_with (x ∷ ts) [] new e k = absurd (omega (arith, e))
twice_with (x ∷ ts) (r ∷ ss) [] e k = absurd (omega (arith, k))
twice_with (x ∷ ts) (r ∷ ss) (s ∷ new) e k =
    ap (λ (us : List Thread). with_status x s ∷ us) (twice_with ts ss new (omega (arith, e)) (omega (arith, k)))

pub statuses_with : (ts : List Thread) (ss : List Status) → length ss ≡ length ts
    → statuses_of (with_statuses ts ss) ≡ ss
statuses_with [] [] e = refl
statuses_with [] (s ∷ ss) e = absurd (omega (arith, e))
statuses_with (x ∷ ts) [] e = absurd (omega (arith, e))
statuses_with (x ∷ ts) (s ∷ ss) e =
    ap (λ (rs : List Status). s ∷ rs) (statuses_with ts ss (omega (arith, e)))
