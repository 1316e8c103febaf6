-- How many threads a wake wakes.
use Rattle.std.proofs.Common.{ℕ, zero, suc, ◌≡◌, ◌+◌, ◌<◌, Bool, true, false, cond, nat_lt, min, List, length, take, ◌&&◌, count_by, refl, sym, ap, ◌∙◌, arith}
use Rattle.std.specs.List.{range_with_len}
use Rattle.std.proofs.lemmas.Bool.{ltb-true, ltb-false}
use Rattle.std.proofs.Math.Nat.{min_comm, min-eq_left, min-zero}
use Rattle.std.proofs.Math.Seq.{take-length}
use Rattle.std.proofs.lemmas.List.Sums.{sum_by-cons, count_by_more_no, count_by_more_yes}
use Rattle.def_sched.specs.declared.Status.{Status}
use Rattle.def_sched.specs.declared.Status.TheVariants.{Ended}
use Rattle.def_sched.specs.Statuses.{status_of, waiting_below, waits_for, wakes}

room_by : (most c next : ℕ) (room : Bool) → nat_lt c most ≡ room → next ≡ c + 1 → cond (nat_lt c most) 1 0 + min most c ≡ min most next
room_by most c next true is more =
    let lt = ltb-true c most is in
    let low : min most c ≡ c = min_comm most c ∙ min-eq_left (omega (arith, lt)) in
    let high : min most next ≡ next = min_comm most next ∙ min-eq_left (omega (arith, lt, more)) in
    ap (λ b. cond b 1 0 + min most c) is ∙ ap (λ m. 1 + m) low ∙ (let same : 1 + c ≡ next = omega (arith, more) in same) ∙ sym high
room_by most c next false is more =
    let le = ltb-false c most is in
    let now : min most c ≡ most = min-eq_left le in
    let then : min most next ≡ most = min-eq_left (omega (arith, le, more)) in
    let none : cond {A = ℕ} (nat_lt c most) 1 0 ≡ zero = ap (λ b. cond {A = ℕ} b 1 0) is in
    omega (arith, none, now, then)

-- one more thread is looked at: it wakes where it waits and fewer than so many wait below it
one_more : (most c next : ℕ) (waits : Bool) → next ≡ c + cond waits 1 0 → cond (waits && nat_lt c most) 1 0 + min most c ≡ min most next
one_more most c next false more =
    let same : c ≡ next = omega (arith, more) in
    let none : cond {A = ℕ} (false && nat_lt c most) 1 0 ≡ zero = refl in
    let least : min most c ≡ min most next = ap (min most) same in
    omega (arith, none, least)
one_more most c next true more = room_by most c next (nat_lt c most) refl more

below_next : (address : ℕ) (xs : List Status) (a : ℕ) (waits : Bool) → a < length xs → waits_for address (status_of xs a) ≡ waits
    → waiting_below address xs (a + 1) ≡ waiting_below address xs a + cond waits 1 0
below_next address xs a true inside is = count_by_more_yes (waits_for address) xs a Ended inside is
below_next address xs a false inside is =
    let same = count_by_more_no (waits_for address) xs a Ended inside is in
    omega (arith, same)

-- from thread a on
waking_from : (address most : ℕ) (xs : List Status) (n a : ℕ) → a + n ≡ length xs
    → count_by (wakes address most xs) (range_with_len a n) + min most (waiting_below address xs a) ≡ min most (count_by (waits_for address) xs)
waking_from address most xs zero a whole =
    let all : a ≡ length xs = omega (arith, whole) in
    let none : count_by (wakes address most xs) (range_with_len a zero) ≡ 0 = refl in
    let least : min most (waiting_below address xs a) ≡ min most (count_by (waits_for address) xs) =
    ap (λ k. min most (count_by (waits_for address) (take k xs))) all ∙ ap (λ ys. min most (count_by (waits_for address) ys)) (take-length xs) in
    omega (arith, none, least)
waking_from address most xs (suc n) a whole =
    let rest = waking_from address most xs n (a + 1) (omega (arith, whole)) in
    let next = below_next address xs a (waits_for address (status_of xs a)) (omega (arith, whole)) refl in
    let here = one_more most (waiting_below address xs a) (waiting_below address xs (a + 1)) (waits_for address (status_of xs a)) next in
    let first = sum_by-cons (λ t. cond {A = ℕ} (wakes address most xs t) 1 0) a (range_with_len (a + 1) n) in
    omega (arith, rest, here, first)

pub counted : (address most : ℕ) (statuses : List Status) → count_by (wakes address most statuses) (range_with_len 0 (length statuses)) ≡ min most (count_by (waits_for address) statuses)
counted address most statuses =
    let whole = waking_from address most statuses (length statuses) 0 (omega arith) in
    let none : min most 0 ≡ 0 = min-zero most in
    omega (arith, whole, none)
