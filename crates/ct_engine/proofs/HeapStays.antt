-- What leaves the heap, its objects, and what it hides, as they are.
use Rattle.std.proofs.Common.{ℕ, ◌≡◌, ◌+◌, ◌*◌, ◌≤◌, ◌<◌, ◌&&◌, not, nat_le, nat_lt, inl, inr, Bool, true, List, length, Option, unwrap_or, sym, ap, ◌∙◌, subst, arith}
use Rattle.std.proofs.lemmas.Bool.{leb-true, ltb-true, and_parts}
use Rattle.law_lists.proofs.Tests.{lt_tells}
use Rattle.def_machine.specs.State.{Object}
use Rattle.def_hidden.specs.Hidden.{is_live_at}
use Rattle.def_words.specs.declared.Cap.{Cap}
use Rattle.def_memory.specs.declared.Granule.{Granule}
use Rattle.def_memory.specs.Granules.{cap_in}
use Rattle.def_areas.specs.Touches.{Touches}
use Rattle.def_chunks.specs.Heaps.{HeapRow, objects_of}
use Rattle.def_chunks.specs.Kept.{KeepsHeap}
use Rattle.def_chunks.specs.Hides.{hides_heap, heap_hides}
use Rattle.law_hidden.proofs.Shown.{hidden_keeps, hides_same}
use Rattle.ct_areas.specs.declared.thread.Thread as row
use Rattle.ct_areas.specs.Threads.{area_begin, area_end}
use Rattle.ct_threads.proofs.Beside.{within}
use Rattle.ct_engine.specs.declared.rows.Region.{Region}
use Rattle.ct_engine.specs.Kept.{HeapHolds}
use Rattle.ct_engine.proofs.Lists.{Lies}

-- what the heap hides lies in its range
pub hidden_lies : (ram base end : ℕ) (os : List Object) (k : ℕ) → hides_heap ram base end os k ≡ true → (base ≤ ram + 8 * k) × (ram + 8 * k < end)
hidden_lies ram base end os k hidden =
    let all = and_parts (nat_le base (ram + 8 * k) && nat_lt (ram + 8 * k) end) (not (is_live_at os (ram + 8 * k))) hidden in
    let both = and_parts (nat_le base (ram + 8 * k)) (nat_lt (ram + 8 * k) end) all.0 in
    (leb-true base (ram + 8 * k) both.0, ltb-true (ram + 8 * k) end both.1)

pub heap_low : (h : HeapRow) (gs : List Granule) (k : ℕ) → heap_hides h gs k ≡ true → h.range.base ≤ h.range.ram + 8 * k
heap_low h gs k hidden = (hidden_lies h.range.ram h.range.base (h.range.base + h.range.length) (objects_of h gs) k hidden).0

-- what the heap hides holds what it held
abbrev pub HeapStays : HeapRow → List Granule → List Granule → Type 0
HeapStays h gs hs = (k : ℕ) → heap_hides h gs k ≡ true → cap_in hs k ≡ cap_in gs k

pub heap_keeps : (gs hs : List Granule) (g : Region) (h : HeapRow) (front : Option ℕ) → HeapHolds gs g h front → length hs ≡ length gs → HeapStays h gs hs → KeepsHeap h gs hs
heap_keeps gs hs g h front holds size same = hidden_keeps h gs hs holds.laid size same

pub heap_holds : (gs hs : List Granule) (g : Region) (h : HeapRow) (front : Option ℕ) → HeapHolds gs g h front → length hs ≡ length gs → HeapStays h gs hs → HeapHolds hs g h front
heap_holds gs hs g h front holds size same =
    let keeps = heap_keeps gs hs g h front holds size same in
    record {
      laid = keeps.laid;
      ram = holds.ram;
      past = holds.past;
      within = subst (λ n. unwrap_or front 0 ≤ 8 * n) (sym size) holds.within;
      clear = λ k hid.
          let was : heap_hides h gs k ≡ true = sym (hides_same h gs hs k keeps.objects) ∙ hid in
          ap (λ (c : Cap). c.tag) (same k was) ∙ holds.clear k was;
    }

-- a change of one area
pub area_stays : (gs hs : List Granule) (g : Region) (h : HeapRow) (front : Option ℕ) (runs : Bool) (t : row.Thread) → HeapHolds gs g h front → Lies g.ram gs runs g.trusted g.end t
    → Touches (area_begin t.area) (area_end t.area) gs hs → HeapStays h gs hs
area_stays gs hs g h front runs t holds l touches k hid =
    let low = heap_low h gs k hid in
    let ram = holds.ram in
    let past = holds.past in
    let high = l.high in
    let base = l.base in
    ap (λ (x : Granule). x.cap) (touches.rest k (elim (lt_tells k (area_begin t.area)) [
      | inl a ↦ inl a.1
      | inr a ↦ elim (lt_tells k (area_end t.area)) [
        | inl b ↦ absurd (let w = within (8 * length gs) t.area k l.kept.area a.1 b.1 in let to = w.1 in omega (arith, low, ram, past, high, base, to))
        | inr b ↦ inr b.1
      ]
    ]))
