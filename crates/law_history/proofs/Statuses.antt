-- How long a sleep lasts, and whom a wake wakes.
use Rattle.std.proofs.Common.{ℕ, zero, suc, ◌≡◌, ◌-◌, ◌≤◌, ◌<◌, inl, inr, Bool, true, cond, nat_lt, List, [], ◌∷◌, take, count_by, refl, ap, ◌∙◌, arith, if◌then◌else◌}
use Rattle.std.proofs.lemmas.Bool.{and_from, and_parts, lt-ltb, ltb-true}
use Rattle.std.proofs.lemmas.List.Sums.{sum_by-take-le}
use Rattle.law_lists.proofs.Tests.{eq_tells}
use Rattle.def_events.specs.Causes.{after_ticks}
use Rattle.def_sched.specs.declared.Status.{Status}
use Rattle.def_sched.specs.declared.Status.TheVariants.{Ready, Sleeping}
use Rattle.def_sched.specs.Statuses.{after_tick, asleep, status_of, waiting_below, waits_for, wakes}

-- ---- a sleep

awake : (n : ℕ) → after_ticks n Ready ≡ Ready
awake zero = refl
awake (suc n) = awake n

asleep_some : (n : ℕ) → asleep (suc n) ≡ Sleeping (suc n)
asleep_some n = elim (eq_tells (suc n) 0) [
  | inl is ↦ absurd (let none = is.1 in omega (arith, none))
  | inr some ↦ ap (λ b. if b then Ready else Sleeping (suc n)) some.0
]

next_tick : (n : ℕ) → after_tick (asleep (suc n)) ≡ asleep n
next_tick n = let less : suc n - 1 ≡ n = omega arith in ap after_tick (asleep_some n) ∙ ap asleep less

pub sleep_over : (n : ℕ) → after_ticks n (asleep n) ≡ Ready
sleep_over zero = refl
sleep_over (suc n) = ap (after_ticks n) (next_tick n) ∙ sleep_over n

pub sleep_lasts : (n k : ℕ) → k < n → after_ticks k (asleep n) ≡ Sleeping (n - k)
sleep_lasts zero k lt = absurd (omega (arith, lt))
sleep_lasts (suc n) zero lt = let whole : suc n ≡ suc n - 0 = omega arith in asleep_some n ∙ ap (λ m. Sleeping m) whole
sleep_lasts (suc n) (suc k) lt = ap (after_ticks k) (next_tick n) ∙ sleep_lasts n k (omega (arith, lt)) ∙ (let less : n - k ≡ suc n - suc k = omega arith in ap (λ m. Sleeping m) less)

-- ---- a wake

front_of : (xs : List Status) (u t : ℕ) → u ≤ t → take u (take t xs) ≡ take u xs
front_of xs zero t low = refl
front_of xs (suc u) zero low = absurd (omega (arith, low))
front_of [] (suc u) (suc t) low = refl
front_of (x ∷ xs) (suc u) (suc t) low = ap (λ ys. x ∷ ys) (front_of xs u t (omega (arith, low)))

counted : (p : Status → Bool) (xs : List Status) (u t : ℕ) → u ≤ t → count_by p (take u xs) ≤ count_by p (take t xs)
counted p xs u t low =
    let fewer = sum_by-take-le (λ x. cond (p x) 1 0) (take t xs) u in
    let front : count_by p (take u (take t xs)) ≡ count_by p (take u xs) = ap (count_by p) (front_of xs u t low) in
    omega (arith, fewer, front)

pub lower_wakes : (address most t u : ℕ) (statuses : List Status) → u ≤ t → waits_for address (status_of statuses u) ≡ true → wakes address most statuses t ≡ true → wakes address most statuses u ≡ true
lower_wakes address most t u statuses low waits is =
    let parts = and_parts (waits_for address (status_of statuses t)) (nat_lt (waiting_below address statuses t) most) is in
    let few = ltb-true (waiting_below address statuses t) most parts.1 in
    let fewer = counted (waits_for address) statuses u t low in
    and_from (waits_for address (status_of statuses u)) (nat_lt (waiting_below address statuses u) most) waits (lt-ltb (waiting_below address statuses u) most (omega (arith, few, fewer)))

pub waking_waits : (address most t : ℕ) (statuses : List Status) → wakes address most statuses t ≡ true → waits_for address (status_of statuses t) ≡ true
waking_waits address most t statuses is = (and_parts (waits_for address (status_of statuses t)) (nat_lt (waiting_below address statuses t) most) is).0
