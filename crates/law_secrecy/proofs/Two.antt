-- Two choices by one test, two runs of the same checks, and two lists of which one place, or a range, is set.
use Rattle.std.proofs.Common.{ℕ, zero, suc, ◌≡◌, ◌+◌, ◌&&◌, Bool, true, false, cond, nat_le, nat_lt, List, [], ◌∷◌, length, refl, ap, subst, arith, slice_set, Option, Some, None}
use Rattle.def_memory.specs.declared.Granule.{Granule}
use Rattle.def_memory.specs.Granules.{nothing, granule_at, blank}
use Rattle.def_memory.specs.Ranges.{zeroed_from, marked_from}
use Rattle.def_machine.specs.State.{DeviceState}
use Rattle.def_step.specs.Devices.{device}

-- ---- choices

pub two_choices : {A : Type 0} (P : A → A → Type 0) (c d : Bool) (x y u v : A) → c ≡ d → (c ≡ true → P x u) → (c ≡ false → P y v) → P (cond c x y) (cond d u v)
two_choices P true true x y u v e one other = one refl
two_choices P false false x y u v e one other = other refl
two_choices P true false x y u v e one other = absurd (let clash : true ≡ false = e in cc)
two_choices P false true x y u v e one other = absurd (let clash : false ≡ true = e in cc)

-- by one option
pub two_options : {A : Type 0} (P : Option A → Option A → Type 0) (o q : Option A) → o ≡ q → P None None → ((a : A) → o ≡ Some a → P (Some a) (Some a)) → P o q
two_options P None None e none some = none
two_options P (Some a) (Some c) e none some = let same : a ≡ c = cc in subst (λ z. P (Some a) (Some z)) same (some a refl)
two_options P None (Some c) e none some = absurd (let clash : None ≡ Some c = e in cc)
two_options P (Some a) None e none some = absurd (let clash : Some a ≡ None = e in cc)

-- ---- granules

-- of two lists of the same length one place is set
pub set_two : (P : Granule → Granule → Type 0) (gs hs : List Granule) (i k : ℕ) (x y : Granule) → length gs ≡ length hs → P nothing nothing → (i ≡ k → P x y) → P (granule_at gs k) (granule_at hs k) → P (granule_at (slice_set gs i x) k) (granule_at (slice_set hs i y) k)
set_two P [] [] i k x y e none new old = none
set_two P [] (h ∷ hs) i k x y e none new old = absurd (omega (arith, e))
set_two P (g ∷ gs) [] i k x y e none new old = absurd (omega (arith, e))
set_two P (g ∷ gs) (h ∷ hs) zero zero x y e none new old = new refl
set_two P (g ∷ gs) (h ∷ hs) zero (suc k) x y e none new old = old
set_two P (g ∷ gs) (h ∷ hs) (suc i) zero x y e none new old = old
set_two P (g ∷ gs) (h ∷ hs) (suc i) (suc k) x y e none new old = set_two P gs hs i k x y (omega (arith, e)) none (λ is. new (ap (λ n. suc n) is)) old

-- a range is zeroed, or marked
pub zeroed_two : (P : Granule → Granule → Type 0) (from to place : ℕ) (gs hs : List Granule) (k : ℕ) → length gs ≡ length hs → ((g h : Granule) → P g h → P (blank g) (blank h)) → P (granule_at gs k) (granule_at hs k) → P (granule_at (zeroed_from from to place gs) k) (granule_at (zeroed_from from to place hs) k)
zeroed_two P from to place [] [] k e goes old = old
zeroed_two P from to place [] (h ∷ hs) k e goes old = absurd (omega (arith, e))
zeroed_two P from to place (g ∷ gs) [] k e goes old = absurd (omega (arith, e))
zeroed_two P from to place (g ∷ gs) (h ∷ hs) zero e goes old =
    two_choices P (nat_le from place && nat_lt place to) (nat_le from place && nat_lt place to) (blank g) g (blank h) h refl (λ is. goes g h old) (λ not. old)
zeroed_two P from to place (g ∷ gs) (h ∷ hs) (suc k) e goes old = zeroed_two P from to (place + 8) gs hs k (omega (arith, e)) goes old

pub marked_two : (P : Granule → Granule → Type 0) (from to : ℕ) (on : Bool) (place : ℕ) (gs hs : List Granule) (k : ℕ) → length gs ≡ length hs → ((g h : Granule) → P g h → P (record g { mark = on }) (record h { mark = on })) → P (granule_at gs k) (granule_at hs k) → P (granule_at (marked_from from to on place gs) k) (granule_at (marked_from from to on place hs) k)
marked_two P from to on place [] [] k e goes old = old
marked_two P from to on place [] (h ∷ hs) k e goes old = absurd (omega (arith, e))
marked_two P from to on place (g ∷ gs) [] k e goes old = absurd (omega (arith, e))
marked_two P from to on place (g ∷ gs) (h ∷ hs) zero e goes old =
    two_choices P (nat_le from place && nat_lt place to) (nat_le from place && nat_lt place to) (record g { mark = on }) g (record h { mark = on }) h refl (λ is. goes g h old) (λ not. old)
marked_two P from to on place (g ∷ gs) (h ∷ hs) (suc k) e goes old = marked_two P from to on (place + 8) gs hs k (omega (arith, e)) goes old

-- ---- devices

pub set_devices : (ds es : List DeviceState) (i k : ℕ) (x y : DeviceState) → length ds ≡ length es → (i ≡ k → x ≡ y) → device ds k ≡ device es k → device (slice_set ds i x) k ≡ device (slice_set es i y) k
set_devices [] [] i k x y e new old = refl
set_devices [] (h ∷ hs) i k x y e new old = absurd (omega (arith, e))
set_devices (g ∷ gs) [] i k x y e new old = absurd (omega (arith, e))
set_devices (g ∷ gs) (h ∷ hs) zero zero x y e new old = new refl
set_devices (g ∷ gs) (h ∷ hs) zero (suc k) x y e new old = old
set_devices (g ∷ gs) (h ∷ hs) (suc i) zero x y e new old = old
set_devices (g ∷ gs) (h ∷ hs) (suc i) (suc k) x y e new old = set_devices gs hs i k x y (omega (arith, e)) (λ is. new (ap (λ n. suc n) is)) old
