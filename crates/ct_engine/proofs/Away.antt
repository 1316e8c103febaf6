-- Changes of memory that meet nothing hidden leave the threads, and what is kept of them.
use Rattle.std.proofs.Common.{ℕ, ◌≡◌, ◌*◌, ◌/◌, ◌<◌, ◌+◌, ◌⊎◌, inl, inr, Bool, true, false, List, length, map, refl, sym, ap, ◌∙◌, arith, subst}
use Rattle.std.proofs.lemmas.List.{get_or_past}
use Rattle.law_lists.proofs.Tests.{lt_tells}
use Rattle.def_memory.specs.declared.Granule.{Granule}
use Rattle.def_memory.specs.Accesses.{IsAccess, loaded}
use Rattle.def_memory.specs.Granules.{cap_in}
use Rattle.def_hidden.specs.Hiding.{with_hidden}
use Rattle.law_hidden.proofs.Granules.{with_hidden_length, load_seen}
use Rattle.def_machine.specs.Objects.{Each}
use Rattle.def_machine.specs.State.{Thread, nobody}
use Rattle.def_chunks.specs.Heaps.{objects_of}
use Rattle.def_chunks.specs.Hides.{hides_heap, heap_hides}
use Rattle.std.proofs.lemmas.Bool.{or_cases, or_left, or_right}
use Rattle.ct_engine.proofs.HeapStays.{HeapStays, heap_keeps, heap_holds}
use Rattle.ct_areas.specs.declared.thread.Thread as row
use Rattle.ct_engine.specs.declared.rows.Rows.{Rows}
use Rattle.ct_engine.specs.Seen.{EngineRow, hides, threads_of, engine_view, thread, with_granules, region_hides, hidden}
use Rattle.ct_engine.specs.Kept.{AreasFrom, StackLies, IsEngine}
use Rattle.ct_engine.proofs.Lists.{rows_same, how_many}
use Rattle.ct_engine.proofs.Whole.{hidden_is}

-- what is hidden holds what it held
abbrev pub HiddenStays : List Granule → List Granule → Rows → Type 0
HiddenStays gs hs rows = (k : ℕ) → hidden gs rows k ≡ true → cap_in hs k ≡ cap_in gs k

-- it is the region's or the heap's
pub hidden_cases : (gs : List Granule) (rows : Rows) (k : ℕ) → IsEngine gs rows → hidden gs rows k ≡ true → (region_hides rows.region k ≡ true) ⊎ (heap_hides rows.heap gs k ≡ true)
hidden_cases gs rows k holds is =
    subst (λ ram. (region_hides rows.region k ≡ true) ⊎ (hides_heap ram rows.heap.range.base (rows.heap.range.base + rows.heap.range.length) (objects_of rows.heap gs) k ≡ true)) (sym holds.heap.ram)
    (or_cases (region_hides rows.region k) _ is)

pub region_hidden : (gs : List Granule) (rows : Rows) (k : ℕ) → region_hides rows.region k ≡ true → hidden gs rows k ≡ true
region_hidden gs rows k is = or_left (region_hides rows.region k) _ is

pub heap_hidden : (gs : List Granule) (rows : Rows) (k : ℕ) → IsEngine gs rows → heap_hides rows.heap gs k ≡ true → hidden gs rows k ≡ true
heap_hidden gs rows k holds is =
    or_right (region_hides rows.region k) (hides_heap rows.region.ram rows.heap.range.base (rows.heap.range.base + rows.heap.range.length) (objects_of rows.heap gs) k)
    (subst (λ ram. hides_heap ram rows.heap.range.base (rows.heap.range.base + rows.heap.range.length) (objects_of rows.heap gs) k ≡ true) holds.heap.ram is)

heap_stays : (gs hs : List Granule) (rows : Rows) → IsEngine gs rows → HiddenStays gs hs rows → HeapStays rows.heap gs hs
heap_stays gs hs rows holds same k is = same k (heap_hidden gs rows k holds is)

away_rows : (gs hs : List Granule) (rows : Rows) → IsEngine gs rows → length hs ≡ length gs → HiddenStays gs hs rows
    → AreasFrom rows.region.ram hs rows.standing.items 0 rows.region.trusted rows.region.end rows.list.items
    × (threads_of hs rows.standing.items 0 rows.list.items ≡ threads_of gs rows.standing.items 0 rows.list.items)
away_rows gs hs rows holds size same =
    rows_same rows.region.ram gs hs rows.standing.items rows.standing.items 0 rows.region.trusted rows.region.end rows.list.items holds.areas size
    (λ m lo hi. same m (region_hidden gs rows m (hidden_is rows.region m lo hi))) (λ u lo. refl)

pub away_holds : (gs hs : List Granule) (rows : Rows) → IsEngine gs rows → length hs ≡ length gs → HiddenStays gs hs rows → IsEngine hs rows
away_holds gs hs rows holds size same = record {
  areas = (away_rows gs hs rows holds size same).0;
  runs = holds.runs;
  sizes = holds.sizes;
  alone = holds.alone;
  stacks = subst (λ n. Each (StackLies rows.region rows.heap.range.base (8 * n)) (map (λ (t : row.Thread). t.area) rows.list.items)) (sym size) holds.stacks;
  heap = heap_holds gs hs rows.region rows.heap rows.front holds.heap size (heap_stays gs hs rows holds same);
  room = holds.room;
}

pub away_seen : (gs hs : List Granule) (rows : Rows) → IsEngine gs rows → length hs ≡ length gs → HiddenStays gs hs rows
    → engine_view hs rows ≡ with_granules (engine_view gs rows) (with_hidden (hidden gs rows) hs)
away_seen gs hs rows holds size same =
    let threads = (away_rows gs hs rows holds size same).1 in
    rw ((heap_keeps gs hs rows.region rows.heap rows.front holds.heap size (heap_stays gs hs rows holds same)).objects, threads) refl

pub apart : (h : ℕ → Bool) (k m : ℕ) → h m ≡ false → h k ≡ true → k ≡ m → ⊥
apart h k m open_ hidden e = let clash : true ≡ false = sym hidden ∙ ap (λ n. h n) e ∙ open_ in cc

-- ---- what is asked of a place

pub size_is : (gs : List Granule) (rows : Rows) (v : EngineRow) → engine_view gs rows ≡ v → length v.state.granules ≡ length gs
size_is gs rows v is = ap (λ (s : EngineRow). length s.state.granules) (sym is) ∙ with_hidden_length (hidden gs rows) gs

pub access_by : (gs : List Granule) (rows : Rows) (v : EngineRow) (at width : ℕ) → engine_view gs rows ≡ v → IsAccess (8 * length v.state.granules) at width → IsAccess (8 * length gs) at width
access_by gs rows v at width is access = subst (λ n. IsAccess (8 * n) at width) (size_is gs rows v is) access

-- ---- what is read

pub load_is : (gs : List Granule) (rows : Rows) (v : EngineRow) (at width : ℕ) → engine_view gs rows ≡ v → hides v (at / 8) ≡ false → loaded gs at width ≡ loaded v.state.granules at width
load_is gs rows v at width is open_ =
    let here : hidden gs rows (at / 8) ≡ false = rw (← is) at open_ in
    sym (load_seen (hidden gs rows) gs at width here) ∙ ap (λ (s : EngineRow). loaded s.state.granules at width) is

-- ---- how many there are

pub count_is : (gs : List Granule) (rows : Rows) (v : EngineRow) → engine_view gs rows ≡ v → length rows.list.items ≡ length v.state.threads
count_is gs rows v is = sym (how_many gs rows.standing.items 0 rows.list.items) ∙ ap (λ (s : EngineRow). length s.state.threads) is

pub alive_there : (gs : List Granule) (rows : Rows) (v : EngineRow) (t : ℕ) → engine_view gs rows ≡ v → 0 < length (thread v t).frames → t < length rows.list.items
alive_there gs rows v t is alive = elim (lt_tells t (length v.state.threads)) [
  | inl a ↦ (let lt = a.1 in let size = count_is gs rows v is in omega (arith, lt, size))
  | inr a ↦ absurd (let none : length (thread v t).frames ≡ 0 = ap (λ (u : Thread). length u.frames) (get_or_past v.state.threads t nobody a.1) in omega (arith, alive, none))
]
