-- Threads have started, and the heap is laid: what is seen of them, and what they keep.
use Rattle.std.proofs.Common.{ℕ, ◌≡◌, ◌+◌, ◌*◌, ◌/◌, ◌≤◌, ◌<◌, inl, inr, Bool, true, false, List, [], length, replicate, map, None, unwrap_or, refl, sym, ap, ◌∙◌, arith, subst}
use Rattle.std.proofs.lemmas.List.{get_or-replicate, get_or_past, length-replicate}
use Rattle.law_lists.proofs.Tests.{bool_tells, lt_tells}
use Rattle.def_words.specs.declared.Cap.{Cap}
use Rattle.def_memory.specs.declared.Granule.{Granule}
use Rattle.def_memory.specs.Granules.{plain, granule_at, blank, cap_in}
use Rattle.def_memory.specs.Ranges.{is_tagged}
use Rattle.def_machine.specs.Objects.{Each}
use Rattle.def_machine.specs.State.{Object}
use Rattle.def_hidden.specs.Hiding.{with_hidden}
use Rattle.law_hidden.proofs.Granules.{with_hidden_is, seen_at}
use Rattle.def_chunks.specs.declared.rows.Range.{Range}
use Rattle.def_chunks.specs.Heaps.{HeapRow, objects_of, Laid}
use Rattle.ct_heap.specs.Effects.{Stays, Same}
use Rattle.def_chunks.specs.Hides.{hides_heap}
use Rattle.def_chunks.specs.LiveObjects.{Appears}
use Rattle.law_hidden.proofs.Objects.{object_appears}
use Rattle.ct_areas.specs.declared.thread.Area.{Area}
use Rattle.ct_areas.specs.declared.thread.Fresh.{Fresh}
use Rattle.ct_engine.specs.declared.rows.Region.{Region}
use Rattle.ct_engine.specs.declared.rows.Rows.{Rows}
use Rattle.ct_engine.specs.Seen.{stands, region_hides, hides_over, engine_view, threads_of}
use Rattle.ct_engine.specs.Kept.{AreasFrom, StackLies, IsClear, IsEngine}
use Rattle.ct_engine.specs.Starts.{HaveBegun, MayStart, started}
use Rattle.ct_engine.proofs.Lists.{rows_same}
use Rattle.ct_engine.proofs.Whole.{none_is}
use Rattle.ct_engine.proofs.Stacks.{hidden_place}
use Rattle.ct_engine.proofs.HeapStays.{hidden_lies}
use Rattle.ct_engine.proofs.HiddenTwice.{with_hidden_both}
use Rattle.ct_engine.proofs.HeapTurns.{limits_stay}

-- nobody stands in a row
pub none_stood : (n u : ℕ) → stands (replicate n false) u ≡ false
none_stood n u = elim (lt_tells u n) [
  | inl a ↦ get_or-replicate n u false false a.1
  | inr a ↦ get_or_past (replicate n false) u false (let le = a.1 in let long = length-replicate n false in omega (arith, le, long))
]

-- Of memory `was`, in which threads started and left gs, once the heap is laid in it, which leaves hs.
pub record Lays (was gs hs : List Granule) (rows : Rows) (fs : List Fresh) (h : HeapRow) : Type 0 where
  pub may : MayStart was rows.region fs h
  pub begun : HaveBegun rows.region was gs rows.list.items fs
  pub none : rows.running ≡ None
  pub sizes : length rows.standing.items ≡ length rows.list.items
  pub empty : (u : ℕ) → stands rows.standing.items u ≡ false
  pub idle : rows.front ≡ None
  pub laid : Laid rows.heap hs
  pub objects : objects_of rows.heap hs ≡ []
  pub stays : Stays h.range [] gs hs
  pub same : Same h rows.heap
  pub next : rows.heap.next ≡ 1
  pub no_row : rows.tokens.rows ≡ []
  pub room : rows.tokens.room ≡ h.range.length / 16

-- ---- memory

zero_is : (g : Granule) → g.cap ≡ plain 0 → g ≡ blank g
zero_is g e = ap (λ (c : Cap). let z : Granule = record { cap = c; mark = g.mark } in z) e

-- where what is hidden reads as zero all is seen
clear_seen : (hidden : ℕ → Bool) (gs : List Granule) → ((k : ℕ) → hidden k ≡ true → cap_in gs k ≡ plain 0) → with_hidden hidden gs ≡ gs
clear_seen hidden gs clear =
    sym (with_hidden_is hidden gs gs refl (λ k lt. elim (bool_tells (hidden k)) [
      | inl e ↦ rw e (zero_is (granule_at gs k) (clear k e))
      | inr e ↦ rw e refl
    ]))

-- past the region nothing is hidden by it
past_region : (g : Region) (k : ℕ) → g.end ≤ g.ram + 8 * k → region_hides g k ≡ false
past_region g k past = elim (bool_tells (region_hides g k)) [
  | inl e ↦ absurd (let place = hidden_place g k e in let to = place.1 in omega (arith, past, to))
  | inr e ↦ e
]

-- the heap reads as zero also once threads started
heap_zero : (was gs hs : List Granule) (rows : Rows) (fs : List Fresh) (h : HeapRow) → Lays was gs hs rows fs h
    → (k : ℕ) → h.range.base ≤ rows.region.ram + 8 * k → rows.region.ram + 8 * k < h.range.base + h.range.length → cap_in gs k ≡ plain 0
heap_zero was gs hs rows fs h l k low high =
    let past = l.may.heap.past in
    let shown : region_hides rows.region k ≡ false = past_region rows.region k (omega (arith, past, low)) in
    ap (λ (x : Granule). x.cap) (sym (seen_at (region_hides rows.region) gs k shown))
    ∙ ap (λ xs. cap_in xs k) l.begun.memory
    ∙ ap (λ (x : Granule). x.cap) (seen_at (region_hides rows.region) was k shown)
    ∙ l.may.heap.clear k low high

-- where nothing lives, and the heap read as zero, memory is seen as it was
nothing_appears : (r : Range) (gs hs : List Granule) → Stays r [] gs hs → Appears r.ram r.base (r.base + r.length) [] [] gs hs 0 0
nothing_appears r gs hs s = record {
  size = s.size;
  marks = s.marks;
  rest = s.rest;
  stays = λ x live. live;
  comes = λ x live. inr live;
  zero = λ k low high. absurd (omega (arith, high));
}

memory_is : (was gs hs : List Granule) (rows : Rows) (fs : List Fresh) (h : HeapRow) → Lays was gs hs rows fs h
    → with_hidden (hides_over rows.region rows.heap.range (objects_of rows.heap hs)) hs ≡ was
memory_is was gs hs rows fs h l =
    let over : ℕ → List Granule → List Granule = λ ram xs. with_hidden (λ k. hides_heap ram h.range.base (h.range.base + h.range.length) [] k) xs in
    ap (λ (os : List Object). with_hidden (hides_over rows.region rows.heap.range os) hs) l.objects
    ∙ ap (λ (r : Range). with_hidden (hides_over rows.region r []) hs) l.same.range
    ∙ with_hidden_both (region_hides rows.region) (λ k. hides_heap rows.region.ram h.range.base (h.range.base + h.range.length) [] k) hs
    ∙ ap (λ ram. with_hidden (region_hides rows.region) (over ram hs)) (sym l.may.heap.ram)
    ∙ ap (λ xs. with_hidden (region_hides rows.region) xs) (object_appears h.range.ram h.range.base (h.range.base + h.range.length) [] [] gs hs 0 0 (nothing_appears h.range gs hs l.stays))
    ∙ ap (λ ram. with_hidden (region_hides rows.region) (over ram gs)) l.may.heap.ram
    ∙ ap (λ xs. with_hidden (region_hides rows.region) xs) (clear_seen (λ k. hides_heap rows.region.ram h.range.base (h.range.base + h.range.length) [] k) gs
    (λ k hid. let lies = hidden_lies rows.region.ram h.range.base (h.range.base + h.range.length) [] k hid in heap_zero was gs hs rows fs h l k lies.0 lies.1))
    ∙ l.begun.memory
    ∙ clear_seen (region_hides rows.region) was l.may.clear

-- ---- threads

rows_stay : (was gs hs : List Granule) (rows : Rows) (fs : List Fresh) (h : HeapRow) → Lays was gs hs rows fs h
    → AreasFrom rows.region.ram hs rows.standing.items 0 rows.region.trusted rows.region.end rows.list.items
    × (threads_of hs rows.standing.items 0 rows.list.items ≡ threads_of gs [] 0 rows.list.items)
rows_stay was gs hs rows fs h l =
    let ram = l.may.heap.ram in
    let past = l.may.heap.past in
    rows_same rows.region.ram gs hs [] rows.standing.items 0 rows.region.trusted rows.region.end rows.list.items l.begun.areas l.stays.size
    (λ m lo hi. ap (λ (x : Granule). x.cap) (l.stays.rest m (inl (omega (arith, hi, past, ram))))) (λ u lo. l.empty u)

-- ---- all that is seen

pub laid_seen : (was gs hs : List Granule) (rows : Rows) (fs : List Fresh) (h : HeapRow) → Lays was gs hs rows fs h
    → engine_view hs rows ≡ started was rows.region fs h
laid_seen was gs hs rows fs h l =
    let threads = (rows_stay was gs hs rows fs h l).1 ∙ l.begun.threads in
    rw (
      memory_is was gs hs rows fs h l,
      threads,
      l.begun.places,
      l.objects,
      l.no_row,
      l.next,
      limits_stay h rows.heap l.same,
      l.none,
      l.idle,
      ap (λ (r : Range). r.base) l.same.range,
      ap (λ (r : Range). r.length) l.same.range,
    ) refl

-- ---- what is kept

laid_clear : (was gs hs : List Granule) (rows : Rows) (fs : List Fresh) (h : HeapRow) → Lays was gs hs rows fs h → IsClear rows.heap hs
laid_clear was gs hs rows fs h l k hid =
    let base : rows.heap.range.base ≡ h.range.base = ap (λ (r : Range). r.base) l.same.range in
    let ram : rows.heap.range.ram ≡ h.range.ram = ap (λ (r : Range). r.ram) l.same.range in
    let long : rows.heap.range.length ≡ h.range.length = ap (λ (r : Range). r.length) l.same.range in
    let here = l.may.heap.ram in
    let lies = hidden_lies rows.heap.range.ram rows.heap.range.base (rows.heap.range.base + rows.heap.range.length) (objects_of rows.heap hs) k hid in
    let low = lies.0 in
    let high = lies.1 in
    let zero_ : cap_in gs k ≡ plain 0 = heap_zero was gs hs rows fs h l k (omega (arith, low, base, ram, here)) (omega (arith, high, base, ram, long, here)) in
    elim (bool_tells (is_tagged hs k)) [
      | inl on ↦ absurd (let clash : true ≡ false = sym on ∙ ap (λ (c : Cap). c.tag) (l.stays.tags k on) ∙ ap (λ (c : Cap). c.tag) zero_ in cc)
      | inr off ↦ off
    ]

pub laid_holds : (was gs hs : List Granule) (rows : Rows) (fs : List Fresh) (h : HeapRow) → Lays was gs hs rows fs h → IsEngine hs rows
laid_holds was gs hs rows fs h l =
    let base : rows.heap.range.base ≡ h.range.base = ap (λ (r : Range). r.base) l.same.range in
    let ram : rows.heap.range.ram ≡ h.range.ram = ap (λ (r : Range). r.ram) l.same.range in
    let past = l.may.heap.past in
    let size : length hs ≡ length was = l.stays.size ∙ l.begun.size in
    record {
      areas = (rows_stay was gs hs rows fs h l).0;
      sizes = l.sizes;
      runs = λ u e. none_is u (sym l.none ∙ e);
      alone = λ tight u stood. absurd (let clash : true ≡ false = sym stood ∙ l.empty u in cc);
      stacks = subst (λ (as_ : List Area). Each (StackLies rows.region rows.heap.range.base (8 * length hs)) as_) (sym l.begun.places)
          (subst (λ b. Each (StackLies rows.region b (8 * length hs)) (map (λ (f : Fresh). f.area) fs)) (sym base)
          (subst (λ m. Each (StackLies rows.region h.range.base (8 * m)) (map (λ (f : Fresh). f.area) fs)) (sym size) l.may.stacks));
      heap = record {
        laid = l.laid;
        ram = ram ∙ l.may.heap.ram;
        past = omega (arith, past, base);
        within = subst (λ o. unwrap_or o 0 ≤ 8 * length hs) (sym l.idle) (omega arith);
        clear = laid_clear was gs hs rows fs h l;
      };
      room = l.room ∙ ap (λ (r : Range). r.length / 16) (sym l.same.range);
    }
