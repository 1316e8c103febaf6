-- A free, over all that is seen: the object is zeroed and marked, and the running thread's registers pass the load
-- filter.
use Rattle.std.proofs.Common.{ℕ, zero, suc, ◌≡◌, ◌+◌, ◌-◌, ◌*◌, ◌≤◌, ◌<◌, ◌==◌, ◌&&◌, ◌||◌, ◌⊎◌, inl, inr, Bool, true, false, nat_eq, List, [], ◌∷◌, map, Some, None, refl, sym, ap, ◌∙◌, subst, eq-eqb, arith}
use Rattle.std.specs.Prelude.{find}
use Rattle.std.proofs.Math.ListN.{get_or, set}
use Rattle.std.proofs.lemmas.Bool.{and_parts, eqb-true, false_from_ne_true, le-leb, lt-ltb, ne_eqb}
use Rattle.law_lists.proofs.Finds.{find_tells}
use Rattle.law_lists.proofs.Tests.{bool_tells, le_tells, lt_tells}
use Rattle.def_words.specs.declared.Cap.{Cap}
use Rattle.def_memory.specs.declared.Granule.{Granule}
use Rattle.def_memory.specs.Ranges.{is_tagged, zeroed_from, marked_from}
use Rattle.def_machine.specs.Image.{Image}
use Rattle.def_machine.specs.State.{State, Object, Thread, Status, nobody}
use Rattle.def_machine.specs.Threads.{with_status, with_statuses}
use Rattle.def_step.specs.Quotas as quotas
use Rattle.def_step.specs.Quotas.{without_row}
use Rattle.def_machine.specs.Memory.{filtered_in}
use Rattle.def_machine.specs.Objects.{Each, charges, quarantine}
use Rattle.def_hidden.specs.Hidden.{is_live_at}
use Rattle.def_hidden.specs.Hiding.{with_hidden}
use Rattle.law_hidden.proofs.Granules.{zeroed_seen, marked_seen}
use Rattle.def_chunks.specs.Heaps.{HeapRow, objects_of, Distinct, Laid}
use Rattle.def_chunks.specs.Kept.{StandsIn, InOrder}
use Rattle.law_chunks.proofs.Rows.{each_more, quarantine_others}
use Rattle.law_chunks.proofs.Standing.{objects_inside, objects_apart}
use Rattle.def_chunks.specs.Hides.{heap_hides}
use Rattle.def_chunks.specs.LiveObjects.{Vanishes}
use Rattle.law_hidden.proofs.Objects.{covers, covers_tells, object_vanishes}
use Rattle.ct_heap.specs.declared.rows.Object as told
use Rattle.ct_heap.specs.Lookups.{spans_of, whole_of}
use Rattle.ct_heap.specs.Effects.{Frees}
use Rattle.ct_token.specs.Table.{Table}
use Rattle.ct_engine.specs.declared.rows.Rows.{Rows}
use Rattle.ct_engine.specs.Seen.{EngineRow, region_hides, engine_view, after_filter}
use Rattle.ct_engine.specs.Kept.{IsClear, IsEngine}
use Rattle.ct_engine.specs.Grants.{WasWhole, let_go, freed, freed_by}
use Rattle.ct_engine.specs.Written.{state_with}
use Rattle.ct_engine.proofs.Clear.{tag_clear}
use Rattle.ct_engine.proofs.HiddenTwice.{seen_both}
use Rattle.ct_engine.proofs.HeapTurns.{with_heap, HeapTurns, turned_holds, turned_seen}
use Rattle.ct_engine.proofs.Granted.{hides_by}
use Rattle.ct_engine.proofs.Tables.{with_table, table_holds}

-- ---- an object that is found by its quota and its bounds

pub record Whole (quota base top : ℕ) (r : Object) : Type 0 where
  pub quota_is : r.quota ≡ quota
  pub base_is : r.base ≡ base
  pub top_is : r.base + r.length ≡ top

pub whole_says : (quota base top : ℕ) (os : List Object) (r : Object) → whole_of quota base top os ≡ Some r → Whole quota base top r
whole_says quota base top os r e =
    let last = and_parts (r.live && (r.quota == quota) && (r.base == base)) (r.base + r.length == top) (find_tells (spans_of quota base top) os r e).passes in
    let two = and_parts (r.live && (r.quota == quota)) (r.base == base) last.0 in
    let one = and_parts r.live (r.quota == quota) two.0 in
    record { quota_is = eqb-true r.quota quota one.1; base_is = eqb-true r.base base two.1; top_is = eqb-true (r.base + r.length) top last.1 }

-- it is the first, or one of the others
pub found_first : (p : Object → Bool) (q r : Object) (os : List Object) → p q ≡ true → find p (q ∷ os) ≡ Some r → q ≡ r
found_first p q r os is_it e = let is : Some q ≡ Some r = rw is_it at e in cc

pub found_later : (p : Object → Bool) (q r : Object) (os : List Object) → p q ≡ false → find p (q ∷ os) ≡ Some r → find p os ≡ Some r
found_later p q r os isnt e = rw isnt at e

-- what each is, it is
found_each : (P : Object → Type 0) (p : Object → Bool) (r : Object) (os : List Object) → Each P os → find p os ≡ Some r → P r
found_each P p r [] each e = absurd (let clash : None ≡ Some r = e in cc)
found_each P p r (q ∷ os) each e = elim (bool_tells (p q)) [
  | inl is_it ↦ subst P (found_first p q r os is_it e) each.0
  | inr isnt ↦ found_each P p r os each.1 (found_later p q r os isnt e)
]

-- ---- what is live

uncovered : (q : Object) (x : ℕ) → (x < q.base) ⊎ (q.base + q.length ≤ x) → covers x q ≡ false
uncovered q x out = false_from_ne_true (covers x q)
    (λ e. let in_ = covers_tells q x e in elim out [ inl a ↦ (let b = in_.0 in omega (arith, a, b)) | inr a ↦ (let b = in_.1 in omega (arith, a, b)) ])

-- none before an address
dead_before : (os : List Object) (x : ℕ) → Each (λ q. x < q.base) os → is_live_at os x ≡ false
dead_before [] x each = refl
dead_before (q ∷ os) x each = rw (uncovered q x (inl each.0), dead_before os x each.1) refl

-- none at the head of one that is found
head_dead : (p : Object → Bool) (r : Object) (os : List Object) (x : ℕ) → InOrder os → find p os ≡ Some r → r.base ≤ x + 8 → x < r.base → is_live_at os x ≡ false
head_dead p r [] x order e low high = refl
head_dead p r (q ∷ os) x order e low high = elim (bool_tells (p q)) [
  | inl is_it ↦
      let same : q.base ≡ r.base = ap (λ (o : Object). o.base) (found_first p q r os is_it e) in
      let later = each_more (λ z. q.base + q.length + 8 ≤ z.base) (λ z. x < z.base) os (λ z le. omega (arith, le, same, high)) order.0 in
      rw (uncovered q x (inl (omega (arith, same, high))), dead_before os x later) refl
  | inr isnt ↦
      let rest = found_later p q r os isnt e in
      let before : q.base + q.length + 8 ≤ r.base = found_each (λ z. q.base + q.length + 8 ≤ z.base) p r os order.0 rest in
      rw (uncovered q x (inr (omega (arith, before, low))), head_dead p r os x order.1 rest low high) refl
]

-- outside of it the same is live once it is quarantined
live_outside : (p : Object → Bool) (r : Object) (os : List Object) (x : ℕ) → Distinct os → find p os ≡ Some r → (x < r.base) ⊎ (r.base + r.length ≤ x)
    → is_live_at (quarantine r.number os) x ≡ is_live_at os x
live_outside p r [] x one e out = refl
live_outside p r (q ∷ os) x one e out = elim (bool_tells (p q)) [
  | inl is_it ↦
      let same : q ≡ r = found_first p q r os is_it e in
      let number : nat_eq q.number r.number ≡ true = eq-eqb q.number r.number (ap (λ (o : Object). o.number) same) in
      let others = quarantine_others r.number os (each_more (λ z. z.number ≡ q.number → ⊥) (λ z. z.number ≡ r.number → ⊥) os (λ z ne is. ne (is ∙ ap (λ (o : Object). o.number) (sym same))) one.0) in
      let off : covers x q ≡ false = subst (λ (o : Object). covers x o ≡ false) (sym same) (uncovered r x out) in
      rw (number, others, off) refl
  | inr isnt ↦
      let rest = found_later p q r os isnt e in
      let number : nat_eq q.number r.number ≡ false =
      ne_eqb q.number r.number (λ same. found_each (λ z. z.number ≡ q.number → ⊥) p r os one.0 rest (sym same)) in
      rw number (ap (λ b. covers x q || b) (live_outside p r os x one.1 rest out))
]

-- ---- what is seen

module _ {h n : HeapRow} {gs hs : List Granule} {quota base top number place long live : ℕ}
    (l : Laid h gs) (f : Frees h n gs hs quota base top number place long live) where
  whole : Whole quota base top f.object
  whole = whole_says quota base top (objects_of h gs) f.object f.is

  stands : StandsIn h.range f.object
  stands = found_each (λ q. StandsIn h.range q) (spans_of quota base top) f.object (objects_of h gs) (objects_inside h gs l) f.is

  -- outside of it the same is live
  same_live : (x : ℕ) → (x < base) ⊎ (top ≤ x) → is_live_at (quarantine f.object.number (objects_of h gs)) x ≡ is_live_at (objects_of h gs) x
  same_live x out =
      let b = whole.base_is in
      let t = whole.top_is in
      live_outside (spans_of quota base top) f.object (objects_of h gs) x l.distinct f.is
      (elim out [ inl a ↦ inl (omega (arith, a, b)) | inr a ↦ inr (omega (arith, a, t)) ])

  freed_vanishes : Vanishes h.range.ram h.range.base (h.range.base + h.range.length) (objects_of h gs) (quarantine f.object.number (objects_of h gs)) gs hs base top
  freed_vanishes =
      let b = whole.base_is in
      let low = stands.low in
      let high = stands.high in
      record {
        size = f.size;
        some = omega (arith, low, b);
        zero = f.zero;
        marks = f.marks;
        rest = f.rest;
        live = same_live;
        head = λ k from under.
            let dead = head_dead (spans_of quota base top) f.object (objects_of h gs) (h.range.ram + 8 * k) (objects_apart h gs l) f.is
            (omega (arith, from, b)) (omega (arith, under, b)) in
            rw (
              le-leb h.range.base (h.range.ram + 8 * k) (omega (arith, from, low, b)),
              lt-ltb (h.range.ram + 8 * k) (h.range.base + h.range.length) (omega (arith, under, high, b)),
              dead,
            ) refl;
      }

  -- it keeps clear what it hides: the object reads as zero
  freed_clear : IsClear h gs → IsClear n hs
  freed_clear clear k hid = elim (le_tells base (h.range.ram + 8 * k)) [
    | inl low ↦ elim (lt_tells (h.range.ram + 8 * k) top) [
      | inl high ↦ ap (λ (c : Cap). c.tag) (f.zero k low.1 high.1)
      | inr high ↦ stays (inr high.1)
    ]
    | inr low ↦ stays (inl low.1)
  ]
    where
      stays : (h.range.ram + 8 * k < base) ⊎ (top ≤ h.range.ram + 8 * k) → is_tagged hs k ≡ false
      stays out =
          let was : heap_hides h gs k ≡ true = rw (← same_live (h.range.ram + 8 * k) out)
          (sym (ap (λ (p : ℕ → Bool). p k) (hides_by h n hs (quarantine f.object.number (objects_of h gs)) f.same f.objects)) ∙ hid) in
          tag_clear gs hs k f.tags (clear k was)

module _ {gs hs : List Granule} {rows : Rows} {n : HeapRow} {quota base top number place long live : ℕ} (holds : IsEngine gs rows)
    (f : Frees rows.heap n gs hs quota base top number place long live) where
  -- below the heap everything stays
  freed_turns : HeapTurns gs hs rows n
  freed_turns =
      let b = (whole holds.heap.laid f).base_is in
      let low = (stands holds.heap.laid f).low in
      record { size = f.size; below = λ k under. ap (λ (g : Granule). g.cap) (f.rest k (inl (omega (arith, under, low, b)))); same = f.same }

  freed_seen : (k : Table) → k.rows ≡ without_row f.object.number rows.tokens.rows
      → engine_view hs (with_table (with_heap rows n rows.front) k) ≡ let_go (engine_view gs rows) f.object
  freed_seen k gone =
      let h : HeapRow = rows.heap in
      let w = whole holds.heap.laid f in
      let ram : ℕ = h.range.ram in
      let new : List Object = quarantine f.object.number (objects_of h gs) in
      let region : ℕ → Bool = region_hides rows.region in
      let was : List Granule = with_hidden (heap_hides h gs) gs in
      let memory : with_hidden region (with_hidden (heap_hides n hs) hs) ≡ marked_from (base - 8) top true ram (zeroed_from base top ram (engine_view gs rows).state.granules) =
      ap (λ xs. with_hidden region xs) (ap (λ (p : ℕ → Bool). with_hidden p hs) (hides_by h n hs new f.same f.objects)
      ∙ object_vanishes ram h.range.base (h.range.base + h.range.length) (objects_of h gs) new gs hs base top (freed_vanishes holds.heap.laid f))
      ∙ sym (marked_seen region (zeroed_from base top ram was) (base - 8) top true ram)
      ∙ ap (λ xs. marked_from (base - 8) top true ram xs) (sym (zeroed_seen region was base top ram))
      ∙ ap (λ xs. marked_from (base - 8) top true ram (zeroed_from base top ram xs)) (sym (seen_both gs rows holds)) in
      ap (λ (x : EngineRow). let y : EngineRow = record x { state = record x.state { tokens = k.rows } } in y) (turned_seen gs hs rows n rows.front holds freed_turns)
      ∙ rw (memory, f.objects, f.next, gone, w.top_is, w.base_is, holds.heap.ram) refl

  -- ---- the call: memory is freed, the object's row goes, and then the registers pass

  module _ (k : Table) where
    pub freed_holds : Laid n hs → k.room ≡ rows.tokens.room → IsEngine hs (with_table (with_heap rows n rows.front) k)
    freed_holds laid same =
        table_holds hs (with_heap rows n rows.front) k
        (turned_holds gs hs rows n rows.front holds freed_turns laid (freed_clear holds.heap.laid f holds.heap.clear) holds.heap.within) same

    pub free_is : {v z : EngineRow} (t : ℕ) → engine_view gs rows ≡ v → k.rows ≡ without_row number rows.tokens.rows
        → z ≡ after_filter (engine_view hs (with_table (with_heap rows n rows.front) k)) t → z ≡ freed_by v t (whole_of quota base top v.state.objects)
    free_is t is gone filtered =
        filtered ∙ ap (λ x. after_filter x t) (freed_seen k (rw f.number_is at gone)) ∙ ap (freed_by (engine_view gs rows) t) (sym f.is)
        ∙ ap (λ x. freed_by x t (whole_of quota base top x.state.objects)) is

    pub free_told : {v z : EngineRow} (t : ℕ) (o : told.Object) → o ≡ record { number = number; base = place; length = long; live = live }
        → engine_view gs rows ≡ v → z ≡ after_filter (engine_view hs (with_table (with_heap rows n rows.front) k)) t
        → WasWhole v z quota base top o
    free_told t o told_is is filtered = rw (told_is, filtered, ← is) (record {
      object = f.object;
      is = f.is;
      told = record {
        number = f.number_is;
        base = f.base_is;
        length = f.length_is;
        live = f.live_is ∙ ap (λ q. charges q (objects_of n hs)) (sym (whole holds.heap.laid f).quota_is);
      };
    })

-- ---- a state of the machine where this is seen

-- a thread changes by other parts than its status, whatever the statuses are
pub changed_with : (f : Thread → Thread) → ((x : Thread) (s : Status) → f (with_status x s) ≡ with_status (f x) s)
    → (ts : List Thread) (ss : List Status) (t : ℕ)
    → set (with_statuses ts ss) t (f (get_or (with_statuses ts ss) t nobody))
    ≡ with_statuses (set ts t (f (get_or ts t nobody))) ss
changed_with f same [] ss t = refl
changed_with f same (x ∷ ts) [] zero = refl
changed_with f same (x ∷ ts) [] (suc t) = refl
changed_with f same (x ∷ ts) (s ∷ ss) zero = ap (λ (y : Thread). y ∷ with_statuses ts ss) (same x s)
changed_with f same (x ∷ ts) (s ∷ ss) (suc t) =
    ap (λ (us : List Thread). with_status x s ∷ us) (changed_with f same ts ss t)

pub freed_shown : (i : Image) (m : State) (s : EngineRow) (statuses : List Status) (t : ℕ) (r : Object) → s.region.ram ≡ i.ram
    → quotas.let_go i (state_with m s statuses) t r ≡ state_with m (freed s t r) statuses
freed_shown i m s statuses t r ram =
    let here : State = state_with m s statuses in
    let wiped : ℕ → List Granule = λ n. marked_from (r.base - 8) (r.base + r.length) true n (zeroed_from r.base (r.base + r.length) n s.state.granules) in
    let filters : ℕ → List Cap → List Cap = λ n cs. map (filtered_in n (wiped n)) cs in
    let put : List Granule → List Thread → State = λ gs ts. record here { granules = gs; objects = quarantine r.number s.state.objects; tokens = without_row r.number s.state.tokens; threads = ts } in
    let old : Thread = get_or (with_statuses s.state.threads statuses) t nobody in
    ap (λ n. put (wiped n) (set (with_statuses s.state.threads statuses) t (record old { registers = filters n old.registers }))) (sym ram)
    ∙ ap (put (wiped s.region.ram)) (changed_with (λ (x : Thread). record x { registers = filters s.region.ram x.registers }) (λ x q. refl) s.state.threads statuses t)
