-- What each call leaves keeps what the next one asks.
use Rattle.std.proofs.Common.{ℕ, ◌≡◌, ◌+◌, ◌-◌, ◌*◌, ◌/◌, ◌≤◌, ◌<◌, inl, inr, ◌&&◌, true, false, nat_le, List, Option, Some, None, is_some, unwrap_or, Result, Ok, Err, MatchResult, OnErr, length, refl, sym, ap, ◌∙◌, arith, subst}
use Rattle.std.proofs.lemmas.List.{get_or_past}
use Rattle.law_lists.proofs.Sets.{after_set_at}
use Rattle.law_lists.proofs.Tests.{le_tells, lt_tells, both_left, some_is}
use Rattle.def_words.specs.declared.Cap.{Cap}
use Rattle.def_words.specs.Authority.{cap_base}
use Rattle.def_memory.specs.declared.Granule.{Granule}
use Rattle.def_memory.specs.Granules.{nothing, granule_at}
use Rattle.def_memory.specs.Accesses.{stored_cap}
use Rattle.law_granules.proofs.Lists.{cap_marks}
use Rattle.def_machine.specs.State.{Object}
use Rattle.def_machine.specs.Memory.{filtered_in}
use Rattle.def_machine.specs.Objects.{Each, quarantine, placed_among, painted, is_painted_at, unpainted}
use Rattle.def_chunks.specs.declared.rows.Range.{Range}
use Rattle.def_chunks.specs.Changes.{NoTagComes}
use Rattle.def_chunks.specs.Heaps.{HeapRow, objects_of, Laid}
use Rattle.def_chunks.specs.Kept.{KeepsUntagged, KeepsHeap}
use Rattle.law_chunks.proofs.Lays.{starts_low}
use Rattle.law_chunks.proofs.Carves.{store_length}
use Rattle.law_chunks.proofs.Kept.{cap_keeps, untag_keeps}
use Rattle.law_chunks.proofs.Standing.{objects_inside, objects_apart}
use Rattle.def_chunks.specs.Tiles.{chunks}
use Rattle.ct_heap.specs.declared.rows.Object.{Object as Told}
use Rattle.ct_heap.specs.declared.rows.HeapRefusal.{HeapRefusal}
use Rattle.ct_heap.specs.declared.rows.NotWhole.{NotWhole}
use Rattle.ct_heap.specs.Lookups.{whole_of}
use Rattle.ct_heap.specs.Effects.{Same, made, Allocates, RefusesSize, Frees, Paints, NoneStale, Flushes}
use Rattle.ct_revoke.specs.Slices.{IsSliced, CleanFrom}
use Rattle.ct_revoke.proofs.Filters.{untagged_passes, passes_clean}
use Rattle.run_rows.specs.declared.heap.swept.TheConstants.{RAM}
use Rattle.run_rows.specs.Swept.{SweptRow, rows, Held, PassedClean, IsSwept}
use Rattle.run_rows.proofs.Rows.{each_placed, painted_placed, painted_quarantined}
use Rattle.run_rows.proofs.Marks.{MarksStay, MarksNew, all_held_on, same_marks, unmarked_unpainted, freed_held, painted_held, flushed_held}

-- ---- what the front has passed

clean_on : (front : Option ℕ) (rs qs : List Object) (gs hs : List Granule) → NoTagComes gs hs → ((x : ℕ) → is_painted_at qs x ≡ is_painted_at rs x) → PassedClean front rs gs → PassedClean front qs hs
clean_on None rs qs gs hs tags same clean = tt
clean_on (Some front) rs qs gs hs tags same clean = λ k behind tagged.
    let stood = tags k tagged in
    same (cap_base (granule_at hs k).cap) ∙ ap (λ (c : Cap). is_painted_at rs (cap_base c)) stood ∙ clean k behind (ap (λ (c : Cap). c.tag) (sym stood) ∙ tagged)

idle_clean : (front : Option ℕ) (rs : List Object) (gs : List Granule) → is_some front ≡ false → PassedClean front rs gs
idle_clean None rs gs none = tt
idle_clean (Some front) rs gs none = absurd (let clash : true ≡ false = none in cc)

idle_start : (front : Option ℕ) → is_some front ≡ false → unwrap_or front 0 ≡ 0
idle_start None none = refl
idle_start (Some front) none = absurd (let clash : true ≡ false = none in cc)

-- ---- heads and heap change, and the heap stays where it lies

moved : (s : SweptRow) (n : HeapRow) (hs : List Granule) (front : Option ℕ) (count : ℕ) (qs : List Object) → IsSwept s → Laid n hs → Same s.heap n → objects_of n hs ≡ qs → n.next ≤ count + 1 → unwrap_or front 0 ≤ 8 * length hs → Each (λ r. Held s.heap.range.ram hs r) qs → PassedClean front qs hs → IsSwept (record s { heap = n; granules = hs; front = front; made = count })
moved s n hs front count qs is laid same objects next high held clean =
    let e_ram : n.range.ram ≡ s.heap.range.ram = ap (λ (r : Range). r.ram) same.range in
    let e_base : n.range.base ≡ s.heap.range.base = ap (λ (r : Range). r.base) same.range in
    let low = is.low in
    record {
      ram = e_ram ∙ is.ram;
      laid = laid;
      quotas = same.quotas ∙ is.quotas;
      made = next;
      low = omega (arith, low, e_ram, e_base);
      front = high;
      held = subst (λ m. Each (λ r. Held m hs r) (objects_of n hs)) (sym e_ram) (subst (λ rs. Each (λ r. Held s.heap.range.ram hs r) rs) (sym objects) held);
      clean = subst (λ rs. PassedClean front rs hs) (sym objects) clean;
    }

-- ---- allocations

pub asked : (s : SweptRow) → IsSwept s → IsSwept (record s { made = s.made + 1 })
asked s is = record {
  ram = is.ram;
  laid = is.laid;
  quotas = is.quotas;
  made = (let most = is.made in omega (arith, most));
  low = is.low;
  front = is.front;
  held = is.held;
  clean = is.clean;
}

allocated : (s : SweptRow) (n : HeapRow) (hs : List Granule) (quota size number base extent live : ℕ) → IsSwept s → Laid n hs → Allocates s.heap n s.granules hs quota size number base extent live → IsSwept (record s { heap = n; granules = hs; made = s.made + 1 })
allocated s n hs quota size number base extent live is laid a =
    let most = is.made in
    let next = a.next in
    let front = is.front in
    let long = a.stays.size in
    let o : Object = made s.heap quota size base in
    let stay = same_marks s.heap.range.ram s.granules hs a.stays.marks in
    let new : Held s.heap.range.ram hs (made s.heap quota size base) = record {
      marked = λ dead. absurd (let clash : true ≡ false = dead in cc);
      freed = λ paint. absurd (let clash : false ≡ true = paint in cc);
    } in
    moved s n hs s.front (s.made + 1) (placed_among o (rows s)) is laid a.same a.objects (omega (arith, most, next)) (omega (arith, front, long))
    (each_placed (λ r. Held s.heap.range.ram hs r) o (rows s) new (all_held_on s.heap.range.ram s.granules hs (rows s) stay is.held))
    (clean_on s.front (rows s) (placed_among o (rows s)) s.granules hs a.stays.tags (λ x. painted_placed o (rows s) x refl) is.clean)

-- nothing of heap and memory has changed
same_swept : (s : SweptRow) (n : HeapRow) (hs : List Granule) (count : ℕ) → n ≡ s.heap → hs ≡ s.granules → IsSwept (record s { made = count }) → IsSwept (record s { heap = n; granules = hs; made = count })
same_swept s n hs count heap memory is =
    subst (λ (x : HeapRow). IsSwept (record s { heap = x; granules = hs; made = count })) (sym heap)
    (subst (λ (gs : List Granule). IsSwept (record s { granules = gs; made = count })) (sym memory) is)

pub after_allocate : (s : SweptRow) (n : HeapRow) (hs : List Granule) (quota size : ℕ) (result : Result Told HeapRefusal) → IsSwept s → Laid n hs
    → MatchResult result (λ o. Allocates s.heap n s.granules hs quota size o.number o.base o.length o.live) (λ e. RefusesSize s.heap s.granules quota size e)
    → OnErr result ((n ≡ s.heap) × (hs ≡ s.granules)) → IsSwept (record s { heap = n; granules = hs; made = s.made + 1 })
after_allocate s n hs quota size (Ok o) is laid answer refused = allocated s n hs quota size o.number o.base o.length o.live is laid answer
after_allocate s n hs quota size (Err e) is laid answer refused = same_swept s n hs (s.made + 1) refused.0 refused.1 (asked s is)

-- ---- frees

freed_marks : (s : SweptRow) (n : HeapRow) (hs : List Granule) (quota base top number object_base extent live : ℕ) → Frees s.heap n s.granules hs quota base top number object_base extent live → MarksStay s.heap.range.ram s.granules hs
freed_marks s n hs quota base top number object_base extent live f x marked =
    let ram : ℕ = s.heap.range.ram in
    let k : ℕ = (x - ram) / 8 in
    let over : nat_le ram x ≡ true = both_left (nat_le ram x) (granule_at s.granules k).mark marked in
    elim (lt_tells (ram + 8 * k + 8) base) [
      | inl a ↦ ap (λ (g : Granule). nat_le ram x && g.mark) (f.rest k (inl a.1)) ∙ marked
      | inr a ↦ elim (lt_tells (ram + 8 * k) top) [
        | inl b ↦ ap (λ b. nat_le ram x && b) (f.marks k a.1 b.1) ∙ ap (λ b. b && true) over
        | inr b ↦ ap (λ (g : Granule). nat_le ram x && g.mark) (f.rest k (inr b.1)) ∙ marked
      ]
    ]

new_marks : (s : SweptRow) (n : HeapRow) (hs : List Granule) (quota base top number object_base extent live : ℕ) → IsSwept s → Frees s.heap n s.granules hs quota base top number object_base extent live → MarksNew s.heap.range hs base top
new_marks s n hs quota base top number object_base extent live is f whole low x from to =
    let ram : ℕ = s.heap.range.ram in
    let k : ℕ = (x - ram) / 8 in
    let even = is.laid.settled.tiled.even.0 in
    let above = is.laid.settled.tiled.above in
    let over : nat_le ram x ≡ true = elim (le_tells ram x) [ inl a ↦ a.0 | inr a ↦ absurd (let lt = a.1 in omega (arith, lt, from, low, above)) ] in
    let mark : (granule_at hs k).mark ≡ true = f.marks k (omega (arith, from, whole, low, even, above)) (omega (arith, to, from, low, above)) in
    ap (λ b. nat_le ram x && b) mark ∙ ap (λ b. b && true) over

was_freed : (s : SweptRow) (n : HeapRow) (hs : List Granule) (quota base top number object_base extent live : ℕ) → IsSwept s → Laid n hs → Frees s.heap n s.granules hs quota base top number object_base extent live → IsSwept (record s { heap = n; granules = hs })
was_freed s n hs quota base top number object_base extent live is laid f =
    let most = is.made in
    let next = f.next in
    let front = is.front in
    let long = f.size in
    moved s n hs s.front s.made (quarantine f.object.number (rows s)) is laid f.same f.objects (omega (arith, most, next)) (omega (arith, front, long))
    (freed_held s.heap.range s.granules hs quota base top f.object (rows s) (freed_marks s n hs quota base top number object_base extent live f) (new_marks s n hs quota base top number object_base extent live is f) is.laid.distinct (objects_inside s.heap s.granules is.laid) f.is is.held)
    (clean_on s.front (rows s) (quarantine f.object.number (rows s)) s.granules hs f.tags (λ x. painted_quarantined f.object.number (rows s) x) is.clean)

pub after_free : (s : SweptRow) (n : HeapRow) (hs : List Granule) (quota base top : ℕ) (result : Result Told NotWhole) → IsSwept s → Laid n hs
    → MatchResult result (λ o. Frees s.heap n s.granules hs quota base top o.number o.base o.length o.live) (λ e. whole_of quota base top (rows s) ≡ None)
    → OnErr result ((n ≡ s.heap) × (hs ≡ s.granules)) → IsSwept (record s { heap = n; granules = hs })
after_free s n hs quota base top (Ok o) is laid answer refused = was_freed s n hs quota base top o.number o.base o.length o.live is laid answer
after_free s n hs quota base top (Err e) is laid answer refused = same_swept s n hs s.made refused.0 refused.1 is

-- ---- memory changes, and heads and marks stay

kept : (s : SweptRow) (hs : List Granule) (front : Option ℕ) → IsSwept s → KeepsHeap s.heap s.granules hs → MarksStay s.heap.range.ram s.granules hs → unwrap_or front 0 ≤ 8 * length hs → PassedClean front (rows s) hs → IsSwept (record s { granules = hs; front = front })
kept s hs front is keeps stay high clean = record {
  ram = is.ram;
  laid = keeps.laid;
  quotas = is.quotas;
  made = is.made;
  low = is.low;
  front = high;
  held = subst (λ rs. Each (λ r. Held s.heap.range.ram hs r) rs) (sym keeps.objects) (all_held_on s.heap.range.ram s.granules hs (rows s) stay is.held);
  clean = subst (λ rs. PassedClean front rs hs) (sym keeps.objects) clean;
}

-- ---- stores below the heap

after_put : (s : SweptRow) (slot : ℕ) (c : Cap) → IsSwept s → slot < s.low / 8 → IsSwept (record s { granules = stored_cap s.granules (8 * slot) (filtered_in s.heap.range.ram s.granules c) })
after_put s slot c is below =
    let ram : ℕ = s.heap.range.ram in
    let passed : Cap = filtered_in ram s.granules c in
    let hs : List Granule = stored_cap s.granules (8 * slot) passed in
    let low = is.low in
    let inside = is.laid.settled.tiled.inside in
    let long = store_length s.granules (8 * slot) passed in
    let front = is.front in
    let keeps = cap_keeps s.heap s.granules (8 * slot) passed is.laid (record { aligned = omega arith; inside = omega (arith, below, low, inside) })
    (λ p starts. inr (let from = starts_low p s.heap.range.base (chunks s.heap.range s.granules) starts in omega (arith, from, low, below))) in
    let stay = same_marks ram s.granules hs (λ k. cap_marks s.granules (8 * slot) passed k) in
    kept s hs s.front is keeps stay (omega (arith, front, long)) (stored_clean s.front is.clean)
  where
    stored_clean : (front : Option ℕ) → PassedClean front (rows s) s.granules → PassedClean front (rows s) (stored_cap s.granules (8 * slot) (filtered_in s.heap.range.ram s.granules c))
    stored_clean None clean = tt
    stored_clean (Some front) clean = λ k.
        let ram : ℕ = s.heap.range.ram in
        let passed : Cap = filtered_in ram s.granules c in
        let P : ℕ → Granule → Type 0 = λ n g. 8 * n < front → g.cap.tag ≡ true → is_painted_at (rows s) (cap_base g.cap) ≡ false in
        after_set_at P s.granules (8 * slot / 8) k (record { cap = passed; mark = (granule_at s.granules (8 * slot / 8)).mark }) nothing
        (λ behind tagged. unmarked_unpainted ram s.granules (rows s) (cap_base passed) is.held (passes_clean ram s.granules c tagged)) (clean k)

pub put_done : (s : SweptRow) (slot : ℕ) (c d : Cap) (hs : List Granule) → IsSwept s → slot < s.low / 8 → d ≡ filtered_in RAM s.granules c → hs ≡ stored_cap s.granules (8 * slot) d → IsSwept (record s { granules = hs })
put_done s slot c d hs is below passed stored =
    let same : hs ≡ stored_cap s.granules (8 * slot) (filtered_in s.heap.range.ram s.granules c) = stored ∙ ap (λ x. stored_cap s.granules (8 * slot) x) (passed ∙ ap (λ m. filtered_in m s.granules c) (sym is.ram)) in
    subst (λ gs. IsSwept (record s { granules = gs })) (sym same) (after_put s slot c is below)

-- ---- sweeps

after_paint : (s : SweptRow) (n : HeapRow) (hs : List Granule) (front : Option ℕ) → IsSwept s → n ≡ s.heap → Laid n hs → Paints s.heap s.granules hs → unwrap_or front 0 ≡ 0 → PassedClean front (painted (rows s)) hs → IsSwept (record s { heap = n; granules = hs; front = front })
after_paint s n hs front is heap laid p start clean =
    subst (λ (x : HeapRow). IsSwept (record s { heap = x; granules = hs; front = front })) (sym heap)
    (record {
      ram = is.ram;
      laid = subst (λ (x : HeapRow). Laid x hs) heap laid;
      quotas = is.quotas;
      made = is.made;
      low = is.low;
      front = omega (arith, start);
      held = subst (λ rs. Each (λ r. Held s.heap.range.ram hs r) rs) (sym p.objects) (painted_held s.heap.range.ram s.granules hs (rows s) (same_marks s.heap.range.ram s.granules hs p.stays.marks) is.held);
      clean = subst (λ rs. PassedClean front rs hs) (sym p.objects) clean;
    })

pub none_begun : (s : SweptRow) (n : HeapRow) (hs : List Granule) → IsSwept s → n ≡ s.heap → Laid n hs → Paints s.heap s.granules hs → is_some s.front ≡ false → IsSwept (record s { heap = n; granules = hs })
none_begun s n hs is heap laid p none = after_paint s n hs s.front is heap laid p (idle_start s.front none) (idle_clean s.front (painted (rows s)) hs none)

pub begun : (s : SweptRow) (n : HeapRow) (hs : List Granule) (front : Option ℕ) → IsSwept s → n ≡ s.heap → Laid n hs → Paints s.heap s.granules hs → front ≡ Some 0 → IsSwept (record s { heap = n; granules = hs; front = front })
begun s n hs front is heap laid p start =
    subst (λ f. IsSwept (record s { heap = n; granules = hs; front = f })) (sym start) (after_paint s n hs (Some 0) is heap laid p refl (λ k behind. absurd (omega (arith, behind))))

sliced_untagged : (ram low high : ℕ) (gs hs : List Granule) → IsSliced ram low high gs hs → KeepsUntagged gs hs
sliced_untagged ram low high gs hs is = record {
  size = is.size;
  same = λ k none. elim (le_tells low (8 * k)) [
    | inl a ↦ elim (lt_tells (8 * k) high) [
      | inl b ↦ ap (λ (g : Granule). g.cap) (is.passed k (a.1, b.1)) ∙ untagged_passes ram gs (granule_at gs k).cap none
      | inr b ↦ ap (λ (g : Granule). g.cap) (is.rest k (inr b.1))
    ]
    | inr a ↦ ap (λ (g : Granule). g.cap) (is.rest k (inl a.1))
  ];
}

sliced_marks : (ram low high : ℕ) (gs hs : List Granule) → IsSliced ram low high gs hs → (k : ℕ) → (granule_at hs k).mark ≡ (granule_at gs k).mark
sliced_marks ram low high gs hs is k = elim (le_tells low (8 * k)) [
  | inl a ↦ elim (lt_tells (8 * k) high) [
    | inl b ↦ ap (λ (g : Granule). g.mark) (is.passed k (a.1, b.1))
    | inr b ↦ ap (λ (g : Granule). g.mark) (is.rest k (inr b.1))
  ]
  | inr a ↦ ap (λ (g : Granule). g.mark) (is.rest k (inl a.1))
]

pub after_slice : (s : SweptRow) (hs : List Granule) (front : Option ℕ) (high : ℕ) → IsSwept s → is_some s.front ≡ true → front ≡ Some high → high ≤ 8 * length s.granules
    → IsSliced RAM (unwrap_or s.front 0) (unwrap_or front 0) s.granules hs → CleanFrom RAM (unwrap_or s.front 0) (unwrap_or front 0) hs → IsSwept (record s { granules = hs; front = front })
after_slice s hs front high is some front_is most sliced clean =
    let low : ℕ = unwrap_or s.front 0 in
    let sliced_ : IsSliced s.heap.range.ram low high s.granules hs = subst (λ m. IsSliced m low high s.granules hs) (sym is.ram) (subst (λ f. IsSliced RAM low (unwrap_or f 0) s.granules hs) front_is sliced) in
    let clean_ : CleanFrom s.heap.range.ram low high hs = subst (λ m. CleanFrom m low high hs) (sym is.ram) (subst (λ f. CleanFrom RAM low (unwrap_or f 0) hs) front_is clean) in
    subst (λ f. IsSwept (record s { granules = hs; front = f })) (sym front_is) (ends sliced_ clean_)
  where
    ends : IsSliced s.heap.range.ram (unwrap_or s.front 0) high s.granules hs → CleanFrom s.heap.range.ram (unwrap_or s.front 0) high hs → IsSwept (record s { granules = hs; front = Some high })
    ends sliced clean =
        let ram : ℕ = s.heap.range.ram in
        let low : ℕ = unwrap_or s.front 0 in
        let keeps = untag_keeps s.heap s.granules hs is.laid (sliced_untagged ram low high s.granules hs sliced) in
        let long = sliced.size in
        let stay = same_marks ram s.granules hs (sliced_marks ram low high s.granules hs sliced) in
        let all : Each (λ r. Held ram hs r) (rows s) = all_held_on ram s.granules hs (rows s) stay is.held in
        let before : PassedClean (Some low) (rows s) s.granules = subst (λ f. PassedClean f (rows s) s.granules) (some_is s.front 0 some) is.clean in
        let passed : PassedClean (Some high) (rows s) hs = λ k behind tagged. elim (le_tells low (8 * k)) [
          | inl a ↦ unmarked_unpainted ram hs (rows s) (cap_base (granule_at hs k).cap) all (clean k (a.1, behind) tagged)
          | inr a ↦
              let same : (granule_at hs k).cap ≡ (granule_at s.granules k).cap = ap (λ (g : Granule). g.cap) (sliced.rest k (inl a.1)) in
              ap (λ (c : Cap). is_painted_at (rows s) (cap_base c)) same ∙ before k a.1 (ap (λ (c : Cap). c.tag) (sym same) ∙ tagged)
        ] in
        kept s hs (Some high) is keeps stay (omega (arith, most, long)) passed

-- ---- flushes

pub none_stale : (s : SweptRow) → IsSwept s → s.front ≡ Some (8 * length s.granules) → NoneStale (rows s) s.granules
none_stale s is ended k tagged some = elim (lt_tells k (length s.granules)) [
  | inl a ↦ (let lt = a.1 in subst (λ f. PassedClean f (rows s) s.granules) ended is.clean k (omega (arith, lt)) tagged)
  | inr a ↦ absurd (let none : false ≡ true = ap (λ (g : Granule). g.cap.tag) (sym (get_or_past s.granules k nothing a.1)) ∙ tagged in cc)
]

pub after_flush : (s : SweptRow) (n : HeapRow) (hs : List Granule) (front : Option ℕ) → IsSwept s → Laid n hs → Flushes s.heap n s.granules hs → front ≡ None → IsSwept (record s { heap = n; granules = hs; front = front })
after_flush s n hs front is laid f none =
    let most = is.made in
    let next = f.next in
    let even = is.laid.settled.tiled.even.0 in
    subst (λ m. IsSwept (record s { heap = n; granules = hs; front = m })) (sym none)
    (moved s n hs None s.made (unpainted (rows s)) is laid f.same f.objects (omega (arith, most, next)) (omega arith)
    (flushed_held s.heap.range s.granules hs (rows s) (omega (arith, even)) is.laid.settled.tiled.above f.marks (objects_apart s.heap s.granules is.laid) (objects_inside s.heap s.granules is.laid) is.held) tt)
