-- What an allocation comes to, cause after cause.
use Rattle.std.proofs.Common.{ℕ, ◌≡◌, ◌+◌, ◌-◌, ◌==◌, ◌<◌, ◌||◌, inl, inr, Bool, true, false, not, nat_lt, List, [], ◌∷◌, Option, Some, None, refl, ap, ◌∙◌, arith, if◌then◌else◌}
use Rattle.law_lists.proofs.Tests.{eq_tells, lt_tells, bool_tells}
use Rattle.def_events.specs.Causes.{HasNoPlace, HasQuarantined, IsWithinLimit, SizeFits}
use Rattle.def_machine.specs.Heap.{IsPlaceFor, charge_for, length_for, new_object, place_of}
use Rattle.def_machine.specs.Image.{Image, root}
use Rattle.def_machine.specs.Objects.{Any, charges, has_quarantined}
use Rattle.def_machine.specs.State.{Object, State}
use Rattle.def_step.specs.Quotas.{Made, Refused, allocation, at_place}
use Rattle.law_events.proofs.Handing.{long_enough}
use Rattle.law_routines.proofs.Places.{place_found, place_none}

-- ---- the tests

abbrev is_unfit : Image → ℕ → Bool
is_unfit i size = (size == 0) || nat_lt (i.heap_end - i.heap_base) size

unfit : (i : Image) (size : ℕ) → (SizeFits i size → ⊥) → is_unfit i size ≡ true
unfit i size none = elim (eq_tells size 0) [
  | inl is ↦ ap (λ b. b || nat_lt (i.heap_end - i.heap_base) size) is.0
  | inr other ↦ elim (lt_tells (i.heap_end - i.heap_base) size) [
    | inl lt ↦ ap (λ b. b || nat_lt (i.heap_end - i.heap_base) size) other.0 ∙ lt.0
    | inr most ↦ absurd (none (let apart = other.1 in omega (arith, apart), most.1))
  ]
]

fit : (i : Image) (size : ℕ) → SizeFits i size → is_unfit i size ≡ false
fit i size h = elim (eq_tells size 0) [
  | inl is ↦ absurd (let some = h.0 in let none = is.1 in omega (arith, some, none))
  | inr other ↦ elim (lt_tells (i.heap_end - i.heap_base) size) [
    | inl lt ↦ absurd (let most = h.1 in let past = lt.1 in omega (arith, most, past))
    | inr most ↦ ap (λ b. b || nat_lt (i.heap_end - i.heap_base) size) other.0 ∙ most.0
  ]
]

abbrev is_past : Image → State → ℕ → ℕ → Bool
is_past i s quota size = nat_lt (root i quota).limit (charges quota s.objects + charge_for size)

past : (i : Image) (s : State) (quota size : ℕ) → (IsWithinLimit i s quota size → ⊥) → is_past i s quota size ≡ true
past i s quota size none = elim (lt_tells (root i quota).limit (charges quota s.objects + charge_for size)) [ inl lt ↦ lt.0 | inr most ↦ absurd (none most.1) ]

within : (i : Image) (s : State) (quota size : ℕ) → IsWithinLimit i s quota size → is_past i s quota size ≡ false
within i s quota size h = elim (lt_tells (root i quota).limit (charges quota s.objects + charge_for size)) [ inl lt ↦ absurd (let beyond = lt.1 in omega (arith, beyond, h)) | inr most ↦ most.0 ]

quarantined : (rs : List Object) → Any (λ (r : Object). r.live ≡ false) rs → has_quarantined rs ≡ true
quarantined [] any = absurd any
quarantined (r ∷ rs) (inl dead) = ap (λ b. not b || has_quarantined rs) dead
quarantined (r ∷ rs) (inr more) = elim (bool_tells r.live) [
  | inl live ↦ ap (λ b. not b || has_quarantined rs) live ∙ quarantined rs more
  | inr dead ↦ ap (λ b. not b || has_quarantined rs) dead
]

all_live : (rs : List Object) → (Any (λ (r : Object). r.live ≡ false) rs → ⊥) → has_quarantined rs ≡ false
all_live [] none = refl
all_live (r ∷ rs) none = elim (bool_tells r.live) [
  | inl live ↦ ap (λ b. not b || has_quarantined rs) live ∙ all_live rs (λ more. none (inr more))
  | inr dead ↦ absurd (none (inl dead))
]

-- ---- places

no_place : (i : Image) (s : State) (size : ℕ) → 0 < length_for size → HasNoPlace i s size → (o : Option ℕ) → place_of i s.objects (length_for size) ≡ o → o ≡ None
no_place i s size some none None is = refl
no_place i s size some none (Some b) is = absurd (none b (place_found i s.objects (length_for size) b some is).fits)

least_place : (i : Image) (s : State) (size base : ℕ) → 0 < length_for size → IsPlaceFor i s.objects (length_for size) base → (o : Option ℕ) → place_of i s.objects (length_for size) ≡ o → o ≡ Some base
least_place i s size base some place None is = absurd (place_none i s.objects (length_for size) base some is place.fits)
least_place i s size base some place (Some b) is =
    let other = place_found i s.objects (length_for size) b some is in
    elim (lt_tells b base) [
      | inl lt ↦ absurd (place.least b lt.1 other.fits)
      | inr low ↦ elim (lt_tells base b) [
        | inl lt ↦ absurd (other.least base lt.1 place.fits)
        | inr high ↦ let same : b ≡ base = (let a = low.1 in let c = high.1 in omega (arith, a, c)) in ap (λ n. Some n) same
      ]
    ]

positive : (i : Image) (size : ℕ) → SizeFits i size → 0 < length_for size
positive i size h = long_enough size (λ none. let some = h.0 in omega (arith, some, none))

-- ---- what it comes to

by_tests : (i : Image) (s : State) (quota size : ℕ) (a b : Bool) → is_unfit i size ≡ a → is_past i s quota size ≡ b
    → allocation i s quota size ≡ (if a then Refused 4 else if b then Refused 2 else at_place s quota size (place_of i s.objects (length_for size)))
by_tests i s quota size a b unfits passes =
    ap (λ c. if c then Refused 4 else if is_past i s quota size then Refused 2 else at_place s quota size (place_of i s.objects (length_for size))) unfits
    ∙ ap (λ c. if a then Refused 4 else if c then Refused 2 else at_place s quota size (place_of i s.objects (length_for size))) passes

pub size_refused : (i : Image) (s : State) (quota size : ℕ) → (SizeFits i size → ⊥) → allocation i s quota size ≡ Refused 4
size_refused i s quota size none = by_tests i s quota size true (is_past i s quota size) (unfit i size none) refl

pub limit_refused : (i : Image) (s : State) (quota size : ℕ) → SizeFits i size → (IsWithinLimit i s quota size → ⊥) → allocation i s quota size ≡ Refused 2
limit_refused i s quota size fits none = by_tests i s quota size false true (fit i size fits) (past i s quota size none)

placed : (i : Image) (s : State) (quota size : ℕ) → SizeFits i size → IsWithinLimit i s quota size → (o : Option ℕ) → place_of i s.objects (length_for size) ≡ o → allocation i s quota size ≡ at_place s quota size o
placed i s quota size fits limit o is = by_tests i s quota size false false (fit i size fits) (within i s quota size limit) ∙ ap (at_place s quota size) is

none_placed : (i : Image) (s : State) (quota size : ℕ) → SizeFits i size → IsWithinLimit i s quota size → HasNoPlace i s size → allocation i s quota size ≡ at_place s quota size None
none_placed i s quota size fits limit none = placed i s quota size fits limit None (no_place i s size (positive i size fits) none (place_of i s.objects (length_for size)) refl)

pub quarantined_refused : (i : Image) (s : State) (quota size : ℕ) → SizeFits i size → IsWithinLimit i s quota size → HasNoPlace i s size → HasQuarantined s → allocation i s quota size ≡ Refused 5
quarantined_refused i s quota size fits limit none some = none_placed i s quota size fits limit none ∙ ap (λ b. Refused (if b then 5 else 3)) (quarantined s.objects some)

pub full_refused : (i : Image) (s : State) (quota size : ℕ) → SizeFits i size → IsWithinLimit i s quota size → HasNoPlace i s size → (HasQuarantined s → ⊥) → allocation i s quota size ≡ Refused 3
full_refused i s quota size fits limit none live = none_placed i s quota size fits limit none ∙ ap (λ b. Refused (if b then 5 else 3)) (all_live s.objects live)

pub place_made : (i : Image) (s : State) (quota size base : ℕ) → SizeFits i size → IsWithinLimit i s quota size → IsPlaceFor i s.objects (length_for size) base → allocation i s quota size ≡ Made (new_object s quota size base)
place_made i s quota size base fits limit place = placed i s quota size fits limit (Some base) (least_place i s size base (positive i size fits) place (place_of i s.objects (length_for size)) refl)
