-- The revoker: what is kept and what is seen as a sweep begins, passes granules and ends.
use Rattle.std.proofs.Common.{ℕ, zero, suc, ◌≡◌, ◌+◌, ◌-◌, ◌*◌, ◌<◌, ◌≤◌, inl, inr, ◌&&◌, ◌||◌, Bool, true, false, not, cond, nat_eq, nat_le, nat_lt, List, [], ◌∷◌, length, Option, Some, None, is_some, min, unwrap_or, refl, sym, ap, ◌∙◌, arith, subst}
use Rattle.std.proofs.lemmas.Bool.{or_parts, not-false, le-leb, leb-true}
use Rattle.law_lists.proofs.Tests.{bool_tells, chosen, eq_tells}
use Rattle.def_words.specs.declared.Cap.{Cap}
use Rattle.def_memory.specs.declared.Granule.{Granule}
use Rattle.def_memory.specs.Granules.{plain, granule_at}
use Rattle.def_machine.specs.State.{Object}
use Rattle.def_machine.specs.Objects.{Each, has_quarantined, painted, unpainted, is_painted_at}
use Rattle.def_machine.specs.Slices.{marks_cleared}
use Rattle.def_hidden.specs.Hidden.{is_live_at}
use Rattle.def_hidden.specs.Hiding.{hide, with_hidden}
use Rattle.law_hidden.proofs.Granules.{with_hidden_length, with_hidden_at, with_hidden_is, appears}
use Rattle.def_chunks.specs.declared.rows.Range.{Range}
use Rattle.def_chunks.specs.Chunks.{Chunk, is_free}
use Rattle.def_chunks.specs.Tiles.{chunks}
use Rattle.def_chunks.specs.Heaps.{HeapRow, object_at, objects_in, quota_named, objects_of, Laid}
use Rattle.ct_heap.specs.Effects.{Same, NoneStale, Paints, Flushes}
use Rattle.ct_revoke.specs.Slices.{IsSliced}
use Rattle.def_chunks.specs.Hides.{hides_heap, heap_hides}
use Rattle.law_hidden.proofs.Slices.{kept_length}
use Rattle.law_hidden.proofs.Objects.{seen_place}
use Rattle.ct_engine.specs.declared.rows.Rows.{Rows}
use Rattle.ct_engine.specs.Seen.{EngineRow, region_hides, hidden, engine_view}
use Rattle.ct_engine.specs.Kept.{IsClear, IsEngine, OnlyRunnerStands}
use Rattle.ct_engine.specs.Sweeps.{NoneLeft, size_of, passes, began, over, with_slice, slice_end, passed_on}
use Rattle.ct_engine.proofs.Clear.{clear_tags}
use Rattle.ct_engine.proofs.Flushing.{none_stale}
use Rattle.ct_engine.proofs.HeapTurns.{with_heap, HeapTurns, turned_holds, turned_seen}
use Rattle.ct_engine.proofs.Sweeps.{with_front, slice_holds, slice_seen}
use Rattle.ct_engine.proofs.HiddenTwice.{with_hidden_both, seen_both}
use Rattle.law_hidden.proofs.Live.{painted_live}
use Rattle.law_moves.proofs.Ends.{unmarked_length}
use Rattle.ct_engine.proofs.Whole.{some_is}

-- ---- a sweep begins

-- what is live isn't painted
abbrev LivePlain : Object → Type 0
LivePlain r = r.live ≡ true → r.painted ≡ false

live_plain_in : (names : List ℕ) (base at : ℕ) (cs : List Chunk) → Each LivePlain (objects_in names base at cs)
live_plain_in names base at [] = tt
live_plain_in names base at (c ∷ cs) =
    chosen (λ (os : List Object). Each LivePlain os) (is_free c) (objects_in names base (at + c.size) cs) (object_at (quota_named names (at - base)) at c ∷ objects_in names base (at + c.size) cs)
    (λ e. live_plain_in names base (at + c.size) cs)
    (λ e. (λ live. elim (eq_tells c.state 1) [ inl a ↦ rw a.1 refl | inr a ↦ absurd (let clash : true ≡ false = sym live ∙ a.0 in cc) ], live_plain_in names base (at + c.size) cs))

live_plain : (h : HeapRow) (gs : List Granule) → Each LivePlain (objects_of h gs)
unfolding objects_of
live_plain h gs = live_plain_in h.names h.range.base h.range.base (chunks h.range gs)

-- so where nothing is quarantined nothing is painted
none_painted : (rs : List Object) → has_quarantined rs ≡ false → Each LivePlain rs → painted rs ≡ rs
none_painted [] none each = refl
none_painted (r ∷ rs) none each =
    let both = or_parts (not r.live) (has_quarantined rs) none in
    let live : r.live ≡ true = not-false r.live both.0 in
    ap (λ b. (let o : Object = record r { painted = b } in o) ∷ painted rs) (ap (λ b. not b) live ∙ sym (each.0 live))
    ∙ ap (λ os. r ∷ os) (none_painted rs both.1 each.1)

-- hidden by objects that live where others do
alike_hides : (h n : HeapRow) (gs hs : List Granule) → n.range.ram ≡ h.range.ram → n.range.base ≡ h.range.base → n.range.length ≡ h.range.length
    → ((x : ℕ) → is_live_at (objects_of n hs) x ≡ is_live_at (objects_of h gs) x) → (k : ℕ) → heap_hides n hs k ≡ heap_hides h gs k
alike_hides h n gs hs ram base long live k = rw (live (n.range.ram + 8 * k), ram, base, long) refl

-- what is seen where what is hidden changes alone
same_seen : (a b : ℕ → Bool) (gs hs : List Granule) → length hs ≡ length gs → ((k : ℕ) → b k ≡ a k) → ((k : ℕ) → (granule_at hs k).mark ≡ (granule_at gs k).mark)
    → ((k : ℕ) → a k ≡ false → granule_at hs k ≡ granule_at gs k) → with_hidden b hs ≡ with_hidden a gs
same_seen a b gs hs size same marks rest =
    appears a b gs hs size
    (λ k lt open_. (same k ∙ open_, rest k open_))
    (λ k lt was now_. absurd (let clash : true ≡ false = sym was ∙ sym (same k) ∙ now_ in cc))
    (λ k lt was is. marks k)

paint_hides : (h : HeapRow) (gs hs : List Granule) → Paints h gs hs → (k : ℕ) → heap_hides h hs k ≡ heap_hides h gs k
paint_hides h gs hs p k =
    alike_hides h h gs hs refl refl refl (λ x. ap (λ rs. is_live_at rs x) p.objects ∙ painted_live (objects_of h gs) x) k

paint_with_hidden : (h : HeapRow) (gs hs : List Granule) → Paints h gs hs → with_hidden (heap_hides h hs) hs ≡ with_hidden (heap_hides h gs) gs
paint_with_hidden h gs hs p =
    same_seen (heap_hides h gs) (heap_hides h hs) gs hs p.stays.size (paint_hides h gs hs p) p.stays.marks
    (λ k open_. p.stays.rest k (seen_place h.range.ram h.range.base (h.range.base + h.range.length) (objects_of h gs) k open_))

-- heap and memory after the paint
pub record Painted (gs hs : List Granule) (rows : Rows) (n : HeapRow) : Type 0 where
  pub heap : n ≡ rows.heap
  pub laid : Laid n hs
  pub paints : Paints rows.heap gs hs

paint_turns : (gs hs : List Granule) (rows : Rows) → Paints rows.heap gs hs → HeapTurns gs hs rows rows.heap
paint_turns gs hs rows p = record {
  size = p.stays.size;
  below = λ k low. ap (λ (g : Granule). g.cap) (p.stays.rest k (inl low));
  same = record { range = refl; limits = λ q. refl; quotas = refl };
}

paint_clear : (gs hs : List Granule) (h : HeapRow) → IsClear h gs → Paints h gs hs → IsClear h hs
paint_clear gs hs h clear p = clear_tags h h gs hs clear p.stays.tags (λ k hid. sym (paint_hides h gs hs p k) ∙ hid)

pub begun_holds : (gs hs : List Granule) (rows : Rows) (n : HeapRow) (front : Option ℕ) → IsEngine gs rows → Painted gs hs rows n
    → unwrap_or front 0 ≤ 8 * length gs → IsEngine hs (with_heap rows n front)
begun_holds gs hs rows n front holds p within =
    subst (λ h. IsEngine hs (with_heap rows h front)) (sym p.heap)
    (turned_holds gs hs rows rows.heap front holds (paint_turns gs hs rows p.paints) (subst (λ h. Laid h hs) p.heap p.laid)
    (paint_clear gs hs rows.heap holds.heap.clear p.paints) within)

begun_seen : (gs hs : List Granule) (rows : Rows) (n : HeapRow) (front : Option ℕ) → IsEngine gs rows → Painted gs hs rows n
    → engine_view hs (with_heap rows n front) ≡ record (engine_view gs rows) { state = record (engine_view gs rows).state { objects = painted (objects_of rows.heap gs); front = front } }
begun_seen gs hs rows n front holds p =
    let memory : with_hidden (region_hides rows.region) (with_hidden (heap_hides rows.heap hs) hs) ≡ (engine_view gs rows).state.granules =
    ap (λ xs. with_hidden (region_hides rows.region) xs) (paint_with_hidden rows.heap gs hs p.paints) ∙ sym (seen_both gs rows holds) in
    ap (λ h. engine_view hs (with_heap rows h front)) p.heap
    ∙ turned_seen gs hs rows rows.heap front holds (paint_turns gs hs rows p.paints) ∙ rw (memory, p.paints.objects) refl

-- a sweep began, or nothing is quarantined
pub begun_then : (gs hs : List Granule) (rows : Rows) (v : EngineRow) (n : HeapRow) (front : Option ℕ) → engine_view gs rows ≡ v → IsEngine gs rows → rows.front ≡ None → Painted gs hs rows n
    → front ≡ Some 0 → has_quarantined (objects_of rows.heap gs) ≡ true → engine_view hs (with_heap rows n front) ≡ began v v.state.front
begun_then gs hs rows v n front is holds none p first some =
    begun_seen gs hs rows n front holds p ∙ rw (← is, none, some, first) refl

pub begun_else : (gs hs : List Granule) (rows : Rows) (v : EngineRow) (n : HeapRow) → engine_view gs rows ≡ v → IsEngine gs rows → rows.front ≡ None → Painted gs hs rows n
    → has_quarantined (objects_of rows.heap gs) ≡ false → engine_view hs (with_heap rows n rows.front) ≡ began v v.state.front
begun_else gs hs rows v n is holds none p nothing_ =
    let nothing : has_quarantined v.state.objects ≡ false = ap (λ (s : EngineRow). has_quarantined s.state.objects) (sym is) ∙ nothing_ in
    let still : (o : Option ℕ) → o ≡ None → v ≡ began v o = λ o e. rw (e, nothing) refl in
    begun_seen gs hs rows n rows.front holds p
    ∙ rw (none_painted (objects_of rows.heap gs) nothing_ (live_plain rows.heap gs)) refl
    ∙ is ∙ still v.state.front (ap (λ (s : EngineRow). s.state.front) (sym is) ∙ none)

-- ---- a sweep ends

-- what is painted isn't live
left_in : (names : List ℕ) (base at : ℕ) (cs : List Chunk) (x : ℕ) → is_live_at (unpainted (objects_in names base at cs)) x ≡ is_live_at (objects_in names base at cs) x
left_in names base at [] x = refl
left_in names base at (c ∷ cs) x =
    let rest = left_in names base (at + c.size) cs x in
    elim (bool_tells (is_free c)) [
      | inl free_ ↦ rw free_ rest
      | inr used ↦ elim (eq_tells c.state 3) [
        | inl p ↦ (let dead : nat_eq c.state 1 ≡ false = rw p.1 refl in rw (used, p.0, dead) rest)
        | inr p ↦ rw (used, p.0) (ap (λ b. (nat_eq c.state 1 && nat_le (at + 8) x && nat_lt x (at + 8 + (c.size - 8))) || b) rest)
      ]
    ]

left_live : (h : HeapRow) (gs : List Granule) (x : ℕ) → is_live_at (unpainted (objects_of h gs)) x ≡ is_live_at (objects_of h gs) x
unfolding objects_of
left_live h gs x = left_in h.names h.range.base h.range.base (chunks h.range gs) x

-- the range lies where it lay
same_ram : (h n : HeapRow) → Same h n → n.range.ram ≡ h.range.ram
same_ram h n s = ap (λ (r : Range). r.ram) s.range

same_base : (h n : HeapRow) → Same h n → n.range.base ≡ h.range.base
same_base h n s = ap (λ (r : Range). r.base) s.range

same_long : (h n : HeapRow) → Same h n → n.range.length ≡ h.range.length
same_long h n s = ap (λ (r : Range). r.length) s.range

-- a granule whose mark is cleared
abbrev cleared : Bool → Granule → Granule
cleared painted_ g = record g { mark = cond painted_ false g.mark }

cleared_at : (rs : List Object) (x : ℕ) (gs : List Granule) (k : ℕ) → k < length gs → granule_at (marks_cleared rs x gs) k ≡ cleared (is_painted_at rs (x + 8 * k)) (granule_at gs k)
cleared_at rs x [] k lt = absurd (omega (arith, lt))
cleared_at rs x (g ∷ gs) zero lt = let here : x + 8 * zero ≡ x = omega arith in ap (λ p. cleared (is_painted_at rs p) g) (sym here)
cleared_at rs x (g ∷ gs) (suc k) lt =
    let next : x + 8 + 8 * k ≡ x + 8 * suc k = omega arith in
    cleared_at rs (x + 8) gs k (omega (arith, lt)) ∙ ap (λ p. cleared (is_painted_at rs p) (granule_at gs k)) next

granule_of : (c c' : Cap) (m m' : Bool) → c ≡ c' → m ≡ m' → (let x : Granule = record { cap = c; mark = m } in x) ≡ record { cap = c'; mark = m' }
granule_of c c' m m' p q = rw (p, q) refl

cleared_with_hidden : (b p : Bool) (g h : Granule) → h.mark ≡ cond p false g.mark → (b ≡ false → h.cap ≡ g.cap) → cleared p (hide b g) ≡ hide b h
cleared_with_hidden true p g h mark cap = granule_of (plain 0) (plain 0) (cond p false g.mark) h.mark refl (sym mark)
cleared_with_hidden false p g h mark cap = granule_of g.cap h.cap (cond p false g.mark) h.mark (sym (cap refl)) (sym mark)

flush_hides : (h n : HeapRow) (gs hs : List Granule) → Flushes h n gs hs → (k : ℕ) → heap_hides n hs k ≡ heap_hides h gs k
flush_hides h n gs hs f k =
    alike_hides h n gs hs (same_ram h n f.same) (same_base h n f.same) (same_long h n f.same) (λ x. ap (λ rs. is_live_at rs x) f.objects ∙ left_live h gs x) k

-- what is seen where marks are cleared, and what is hidden is the same
cleared_seen : (a b : ℕ → Bool) (rs : List Object) (ram : ℕ) (gs hs : List Granule) → length hs ≡ length gs → ((k : ℕ) → b k ≡ a k)
    → ((k : ℕ) → (granule_at hs k).mark ≡ cond (is_painted_at rs (ram + 8 * k)) false (granule_at gs k).mark)
    → ((k : ℕ) → a k ≡ false → (granule_at hs k).cap ≡ (granule_at gs k).cap) → with_hidden b hs ≡ marks_cleared rs ram (with_hidden a gs)
cleared_seen a b rs ram gs hs size same marks rest =
    sym (with_hidden_is b hs (marks_cleared rs ram (with_hidden a gs)) (unmarked_length rs ram (with_hidden a gs) ∙ with_hidden_length a gs ∙ sym size)
    (λ k lt.
    let long = with_hidden_length a gs in
    cleared_at rs ram (with_hidden a gs) k (omega (arith, lt, size, long))
    ∙ ap (λ g. cleared (is_painted_at rs (ram + 8 * k)) g) (with_hidden_at a gs k)
    ∙ cleared_with_hidden (a k) (is_painted_at rs (ram + 8 * k)) (granule_at gs k) (granule_at hs k) (marks k) (rest k)
    ∙ ap (λ b. hide b (granule_at hs k)) (sym (same k))))

-- heap and memory after the flush
pub record Flushed (gs hs : List Granule) (rows : Rows) (n : HeapRow) : Type 0 where
  pub laid : Laid n hs
  pub flushes : Flushes rows.heap n gs hs

flush_turns : (gs hs : List Granule) (rows : Rows) (n : HeapRow) → Flushes rows.heap n gs hs → HeapTurns gs hs rows n
flush_turns gs hs rows n f = record { size = f.size; below = λ k low. f.rest k (inl low); same = f.same }

flush_memory : (gs hs : List Granule) (rows : Rows) (n : HeapRow) → IsEngine gs rows → Flushes rows.heap n gs hs
    → with_hidden (region_hides rows.region) (with_hidden (heap_hides n hs) hs) ≡ marks_cleared (objects_of rows.heap gs) rows.region.ram (engine_view gs rows).state.granules
flush_memory gs hs rows n holds f =
    let h : HeapRow = rows.heap in
    let os : List Object = objects_of h gs in
    sym (with_hidden_both (region_hides rows.region) (heap_hides n hs) hs)
    ∙ cleared_seen (λ k. region_hides rows.region k || heap_hides h gs k) (λ k. region_hides rows.region k || heap_hides n hs k) os h.range.ram gs hs f.size
    (λ k. ap (λ b. region_hides rows.region k || b) (flush_hides h n gs hs f k)) f.marks
    (λ k open_. f.rest k (seen_place h.range.ram h.range.base (h.range.base + h.range.length) os k (or_parts (region_hides rows.region k) (heap_hides h gs k) open_).1))
    ∙ ap (λ ram. marks_cleared os ram (with_hidden (λ k. region_hides rows.region k || hides_heap ram h.range.base (h.range.base + h.range.length) os k) gs)) holds.heap.ram

-- no capability of a painted object is left in memory
pub finish_none : (gs : List Granule) (rows : Rows) (v : EngineRow) → engine_view gs rows ≡ v → IsEngine gs rows → NoneLeft v.state.objects v → NoneStale (objects_of rows.heap gs) gs
finish_none gs rows v is holds none =
    subst (λ (s : EngineRow). NoneStale s.state.objects gs) (sym is) (λ k. none_stale v.state.objects gs rows v is holds none k)

pub finish_holds : (gs hs : List Granule) (rows : Rows) (n : HeapRow) (front : Option ℕ) → IsEngine gs rows → Flushed gs hs rows n → front ≡ None → IsEngine hs (with_heap rows n front)
finish_holds gs hs rows n front holds w none =
    turned_holds gs hs rows n front holds (flush_turns gs hs rows n w.flushes) w.laid
    (clear_tags rows.heap n gs hs holds.heap.clear w.flushes.tags (λ k hid. sym (flush_hides rows.heap n gs hs w.flushes k) ∙ hid))
    (subst (λ f. unwrap_or f 0 ≤ 8 * length gs) (sym none) (omega arith))

pub finish_seen : (gs hs : List Granule) (rows : Rows) (v : EngineRow) (n : HeapRow) (front : Option ℕ) → engine_view gs rows ≡ v → IsEngine gs rows → Flushed gs hs rows n → front ≡ None
    → engine_view hs (with_heap rows n front) ≡ over v
finish_seen gs hs rows v n front is holds w none =
    turned_seen gs hs rows n front holds (flush_turns gs hs rows n w.flushes)
    ∙ rw (← is, flush_memory gs hs rows n holds w.flushes, w.flushes.objects, w.flushes.next, none) refl

-- ---- a slice, where a sweep runs

pub front_none : (f : Option ℕ) → is_some f ≡ false → f ≡ None
front_none None h = refl
front_none (Some n) h = absurd (let clash : true ≡ false = h in cc)

-- where the slice ends, in RAM as it is seen
high_is : (gs : List Granule) (rows : Rows) (rate low : ℕ) → min (low + 8 * rate) (8 * length gs) ≡ slice_end (engine_view gs rows) rate low
high_is gs rows rate low = ap (λ n. min (low + 8 * rate) (8 * n)) (sym (with_hidden_length (hidden gs rows) gs))

-- memory and rows after the slice
pub record Mid (hs : List Granule) (rows : Rows) (v : EngineRow) (low high : ℕ) : Type 0 where
  pub holds : IsEngine hs rows
  pub is : engine_view hs rows ≡ with_slice v low high

pub slice_mid : (gs hs : List Granule) (rows : Rows) (v : EngineRow) (rate : ℕ) (front : Option ℕ) → engine_view gs rows ≡ v → IsEngine gs rows → OnlyRunnerStands rows.standing.items rows.running
    → front ≡ Some (min (unwrap_or rows.front 0 + 8 * rate) (8 * length gs)) → IsSliced rows.region.ram (unwrap_or rows.front 0) (unwrap_or front 0) gs hs
    → Mid hs (with_front rows front) v (unwrap_or rows.front 0) (slice_end v rate (unwrap_or rows.front 0))
slice_mid gs hs rows v rate front is holds settled ends passed =
    let low : ℕ = unwrap_or rows.front 0 in
    let high : ℕ = min (low + 8 * rate) (8 * length gs) in
    let inside : high ≤ 8 * length gs = omega arith in
    let here : IsSliced rows.region.ram low high gs hs = subst (λ f. IsSliced rows.region.ram low (unwrap_or f 0) gs hs) ends passed in
    record {
      holds = subst (λ f. IsEngine hs (with_front rows f)) (sym ends) (slice_holds gs hs rows low high here holds inside);
      is = ap (λ f. engine_view hs (with_front rows f)) ends ∙ slice_seen gs hs rows low high here holds settled
          ∙ ap (λ n. with_slice (engine_view gs rows) low n) (high_is gs rows rate low) ∙ ap (λ s. with_slice s low (slice_end s rate low)) is;
    }

-- ---- what a slice comes to

pub front_is : (gs : List Granule) (rows : Rows) (v : EngineRow) → engine_view gs rows ≡ v → v.state.front ≡ rows.front
front_is gs rows v is = ap (λ (s : EngineRow). s.state.front) (sym is)

size_slice : (v : EngineRow) (low high : ℕ) → size_of (with_slice v low high) ≡ size_of v
size_slice v low high = ap (λ n. 8 * n) (kept_length (passes v low high) 0 v.state.granules)

-- by whether it came to RAM's end
pub passed_is : (v : EngineRow) (rate low : ℕ) (b : Bool) → v.state.front ≡ Some low → nat_le (size_of (with_slice v low (slice_end v rate low))) (slice_end v rate low) ≡ b
    → (let w : EngineRow = with_slice v low (slice_end v rate low) in cond b (over w) w ≡ passed_on v rate v.state.front)
passed_is v rate low b front test = rw (front, test) refl

mid_size : (hs : List Granule) (rows : Rows) (v : EngineRow) (low high : ℕ) → Mid hs rows v low high → 8 * length hs ≡ size_of (with_slice v low high)
mid_size hs rows v low high m = ap (λ n. 8 * n) (sym (with_hidden_length (hidden hs rows) hs)) ∙ ap (λ (s : EngineRow). size_of s) m.is

pub mid_over : (hs : List Granule) (rows : Rows) (v : EngineRow) (low rate size : ℕ) (b : Bool) → Mid hs rows v low (slice_end v rate low) → size ≡ 8 * length hs
    → (b ≡ true → rows.front ≡ Some size) → (rows.front ≡ Some size → b ≡ true) → nat_le (size_of (with_slice v low (slice_end v rate low))) (slice_end v rate low) ≡ b
mid_over hs rows v low rate size true m is ends_ goes =
    let same = some_is (slice_end v rate low) size (sym (ap (λ (s : EngineRow). s.state.front) m.is) ∙ ends_ refl) in
    let all = mid_size hs rows v low (slice_end v rate low) m in
    le-leb _ _ (omega (arith, same, all, is))
mid_over hs rows v low rate size false m is ends_ goes =
    let all = mid_size hs rows v low (slice_end v rate low) m in
    let long = size_slice v low (slice_end v rate low) in
    elim (bool_tells (nat_le (size_of (with_slice v low (slice_end v rate low))) (slice_end v rate low))) [
      | inl le ↦ absurd (let clash : false ≡ true = goes (ap (λ (s : EngineRow). s.state.front) m.is ∙ ap (λ n. let x : Option ℕ = Some n in x)
          (at_end (slice_end v rate low) (low + 8 * rate) (size_of v) size refl (leb-true _ _ le) (omega (arith, all, is)) long)) in cc)
      | inr more ↦ more
    ]
  where
    at_end : (high sum most size : ℕ) → {long : ℕ} → high ≡ min sum most → long ≤ high → size ≡ long → long ≡ most → high ≡ size
    at_end high sum most size a b c d = omega (arith, a, b, c, d)

pub passed_all : (v : EngineRow) (low high : ℕ) → nat_le (size_of (with_slice v low high)) high ≡ true → size_of v ≤ high
passed_all v low high test = let le = leb-true _ _ test in let long = size_slice v low high in omega (arith, le, long)
