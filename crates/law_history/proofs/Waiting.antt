-- A chunk waits, a sweep paints it, and it leaves at that sweep's end: over events, and over lists of them.
use Rattle.std.proofs.Common.{ℕ, ◌≡◌, ◌+◌, ◌<◌, ◌⊎◌, inl, inr, true, List, [], ◌∷◌, Some, None, refl, sym, ◌∙◌, subst, arith}
use Rattle.def_machine.specs.State.{State, Object}
use Rattle.def_machine.specs.Objects.{Any, has_quarantined, painted}
use Rattle.def_machine.specs.Heap.{slice_end, ram_size, sweep_began}
use Rattle.def_step.specs.declared.Event.{Event}
use Rattle.def_step.specs.declared.Event.TheVariants.{Step, Tick, Sweep, Input}
use Rattle.def_step.specs.Events.{stepped, ticked, happens, run}
use Rattle.def_machine.specs.Platform.{Platform}
use Rattle.def_confined.specs.Confined.{Apart}
use Rattle.def_confined.specs.Changes.{NewObject}
use Rattle.law_moves.proofs.Rows.{each_take}
use Rattle.law_moves.proofs.Begins.{begun}
use Rattle.def_safety.specs.Reuse.{IsSameObject, Waits, IsPainted, ObjectsMeet, SweepBegins, PassesFrom, SweepsWhole}
use Rattle.law_history.proofs.Same.{Same, Stays, stepped_stays, ticked_same}
use Rattle.law_history.proofs.Sweeping.{sliced_from, swept_case, sliced_case, painted_row, waits_row, waits_left, row_tells, none_painted, counted}

-- ---- one Sweep event

-- a chunk that waits goes on waiting, or a sweep began: it has ended, or it runs and the chunk is there
abbrev AfterOne : Platform → Object → State → State → Type 0
AfterOne b r s z =
    Any (Waits r) z.objects
    ⊎ ((s.front ≡ None) × (has_quarantined s.objects ≡ true)
    × (((slice_end b.image s 0 ≡ ram_size s) × (z.front ≡ None))
    ⊎ ((slice_end b.image s 0 < ram_size s) × (z.front ≡ Some (slice_end b.image s 0)) × Any (IsSameObject r) z.objects)))

one_sweep : (b : Platform) (s : State) (r : Object) → Any (Waits r) s.objects → AfterOne b r s (happens b s Sweep).0
one_sweep b s r h = swept_case (AfterOne b r s) b.image (counted s)
    (λ none idle. inl h)
    (λ none some. sliced_case (AfterOne b r s) b.image (begun (counted s)) 0
    (λ all. inr (none, some, inl (all, refl)))
    (λ less. inr (none, some, inr (less, refl, painted_row r s.objects (waits_row r s.objects h)))))
    (λ x runs. sliced_case (AfterOne b r s) b.image (counted s) x
    (λ all. inl (waits_left r s.objects h))
    (λ less. inl h))

-- a sweep that runs ends, or goes on and lets nothing go
abbrev AfterNext : Platform → ℕ → State → State → Type 0
AfterNext b x s z =
    ((slice_end b.image s x ≡ ram_size s) × (z.front ≡ None))
    ⊎ ((slice_end b.image s x < ram_size s) × (z.front ≡ Some (slice_end b.image s x)) × (z.objects ≡ s.objects))

next_sweep : (b : Platform) (s : State) (x : ℕ) → s.front ≡ Some x → AfterNext b x s (happens b s Sweep).0
next_sweep b s x on = swept_case (AfterNext b x s) b.image (counted s)
    (λ none idle. absurd (let clash : Some x ≡ None = sym on ∙ none in cc))
    (λ none some. absurd (let clash : Some x ≡ None = sym on ∙ none in cc))
    (λ y runs. (let both : Some y ≡ Some x = sym runs ∙ on in let same : y ≡ x = cc in
    subst (λ (n : ℕ). AfterNext b x s (sliced_from b.image (counted s) n)) (sym same)
    (sliced_case (AfterNext b x s) b.image (counted s) x (λ all. inl (all, refl)) (λ less. inr (less, refl, refl)))))

-- ---- lists of events

running : (b : Platform) (s : State) (r : Object) (x : ℕ) (es : List Event) → s.front ≡ Some x → Any (IsSameObject r) s.objects → Any (IsSameObject r) (run b s es).objects ⊎ PassesFrom b x s es
unfolding run
running b s r x [] on h = inl h
running b s r x (Step ∷ es) on h =
    let stays : Stays s (stepped b s).0 = stepped_stays b s in
    elim (running b (happens b s Step).0 r x es (stays.front ∙ on) (stays.rows r h)) [ inl there ↦ inl there | inr ends ↦ inr (stays.front ∙ on, ends) ]
running b s r x (Tick ∷ es) on h =
    let same : Same s (ticked s) = ticked_same s in
    elim (running b (happens b s Tick).0 r x es (same.front ∙ on) (subst (Any (IsSameObject r)) (sym same.objects) h)) [ inl there ↦ inl there | inr ends ↦ inr (same.front ∙ on, ends) ]
running b s r x (Input n byte ∷ es) on h = elim (running b (happens b s (Input n byte)).0 r x es on h) [ inl there ↦ inl there | inr ends ↦ inr (on, ends) ]
running b s r x (Sweep ∷ es) on h = elim (next_sweep b s x on) [
  | inl over ↦ inr (inl over)
  | inr goes ↦ elim (running b (happens b s Sweep).0 r (slice_end b.image s x) es goes.1 (subst (Any (IsSameObject r)) (sym goes.2) h)) [ inl there ↦ inl there | inr ends ↦ inr (inr (goes.0, goes.1, ends)) ]
]

pub waiting : (b : Platform) (s : State) (r : Object) (es : List Event) → Any (Waits r) s.objects → Any (IsSameObject r) (run b s es).objects ⊎ SweepsWhole b s es
unfolding run
waiting b s r [] h = inl (waits_row r s.objects h)
waiting b s r (Step ∷ es) h =
    let stays : Stays s (stepped b s).0 = stepped_stays b s in
    elim (waiting b (happens b s Step).0 r es (stays.waits r h)) [ inl there ↦ inl there | inr whole ↦ inr (inr whole) ]
waiting b s r (Tick ∷ es) h =
    let same : Same s (ticked s) = ticked_same s in
    elim (waiting b (happens b s Tick).0 r es (subst (Any (Waits r)) (sym same.objects) h)) [ inl there ↦ inl there | inr whole ↦ inr (inr whole) ]
waiting b s r (Input n byte ∷ es) h = elim (waiting b (happens b s (Input n byte)).0 r es h) [ inl there ↦ inl there | inr whole ↦ inr (inr whole) ]
waiting b s r (Sweep ∷ es) h = elim (one_sweep b s r h) [
  | inl waits ↦ elim (waiting b (happens b s Sweep).0 r es waits) [ inl there ↦ inl there | inr whole ↦ inr (inr whole) ]
  | inr began ↦ elim began.2 [
    | inl over ↦ inr (inl ((refl, began.0, began.1), inl over))
    | inr on ↦ elim (running b (happens b s Sweep).0 r (slice_end b.image s 0) es on.1 on.2) [
      | inl there ↦ inl there
      | inr ends ↦ inr (inl ((refl, began.0, began.1), inr (on.0, on.1, ends)))
    ]
  ]
]

-- a new object's chunk meets none that is there
pub reuse : (b : Platform) (s : State) (es : List Event) (r q : Object) → Any (Waits r) s.objects → NewObject b.image (run b s es) q → ObjectsMeet q r → SweepsWhole b s es
reuse b s es r q h new meets = elim (waiting b s r es h) [
  | inr whole ↦ whole
  | inl there ↦ absurd (each_take (Apart q) (IsSameObject r) ⊥ (run b s es).objects
      (λ z apart row. meets (elim apart.1 [ inl below ↦ inl (omega (arith, below, row.1)) | inr above ↦ inr (omega (arith, above, row.1, row.2)) ]))
      new.apart there)
]

-- ---- what leaves, and what is painted

abbrev Leaves : Object → State → State → Type 0
Leaves r s z = (Any (IsSameObject r) z.objects → ⊥) → (z.front ≡ None) × Any (IsPainted r) (sweep_began s s.front).objects

began_is : (s : State) → s.front ≡ None → has_quarantined s.objects ≡ true → sweep_began s s.front ≡ begun s
began_is s none some = rw (none, some) refl

goes_is : (s : State) (x : ℕ) → s.front ≡ Some x → sweep_began s s.front ≡ s
goes_is s x on = rw on refl

sweep_leaves : (b : Platform) (s : State) (r : Object) → Any (IsSameObject r) s.objects → Leaves r s (happens b s Sweep).0
sweep_leaves b s r h = swept_case (Leaves r s) b.image (counted s)
    (λ none idle gone. absurd (gone h))
    (λ none some. sliced_case (Leaves r s) b.image (begun (counted s)) 0
    (λ all gone. (
      refl,
      elim (row_tells r (painted s.objects) (painted_row r s.objects h)) [
        | inl is ↦ subst (λ (z : State). Any (IsPainted r) z.objects) (sym (began_is s none some)) is
        | inr waits ↦ absurd (gone (waits_row r _ (waits_left r (painted s.objects) waits)))
      ],
    ))
    (λ less gone. absurd (gone (painted_row r s.objects h))))
    (λ x runs. sliced_case (Leaves r s) b.image (counted s) x
    (λ all gone. (
      refl,
      elim (row_tells r s.objects h) [
        | inl is ↦ subst (λ (z : State). Any (IsPainted r) z.objects) (sym (goes_is s x runs)) is
        | inr waits ↦ absurd (gone (waits_row r _ (waits_left r s.objects waits)))
      ],
    ))
    (λ less gone. absurd (gone h)))

pub leaves : (b : Platform) (s : State) (e : Event) (r : Object) → Any (IsSameObject r) s.objects → (Any (IsSameObject r) (happens b s e).0.objects → ⊥) → (e ≡ Sweep) × ((happens b s e).0.front ≡ None) × Any (IsPainted r) (sweep_began s s.front).objects
leaves b s Step r h gone = let stays = stepped_stays b s in absurd (gone (stays.rows r h))
leaves b s Tick r h gone = let same = ticked_same s in absurd (gone (subst (Any (IsSameObject r)) (sym same.objects) h))
leaves b s (Input n byte) r h gone = absurd (gone h)
leaves b s Sweep r h gone = let says = sweep_leaves b s r h gone in (refl, says.0, says.1)

abbrev Paints : Object → State → State → Type 0
Paints r s z = Any (IsPainted r) z.objects → (Any (IsPainted r) s.objects → ⊥) → (s.front ≡ None) × (has_quarantined s.objects ≡ true)

sweep_paints : (b : Platform) (s : State) (r : Object) → Paints r s (happens b s Sweep).0
sweep_paints b s r = swept_case (Paints r s) b.image (counted s)
    (λ none idle is before. absurd (before is))
    (λ none some. sliced_case (Paints r s) b.image (begun (counted s)) 0 (λ all is before. (none, some)) (λ less is before. (none, some)))
    (λ x runs. sliced_case (Paints r s) b.image (counted s) x (λ all is before. absurd (none_painted r s.objects is)) (λ less is before. absurd (before is)))

pub paints : (b : Platform) (s : State) (e : Event) (r : Object) → Any (IsPainted r) (happens b s e).0.objects → (Any (IsPainted r) s.objects → ⊥) → SweepBegins s e
paints b s Step r is before = let stays = stepped_stays b s in absurd (before (stays.painted r is))
paints b s Tick r is before = let same = ticked_same s in absurd (before (subst (Any (IsPainted r)) same.objects is))
paints b s (Input n byte) r is before = absurd (before is)
paints b s Sweep r is before = let says = sweep_paints b s r is before in (refl, says.0, says.1)

-- ---- the heap's own moves
