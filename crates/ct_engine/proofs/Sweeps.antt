-- A slice of a sweep over memory, as what is seen of it: with hidden granules, and in the threads' areas; and what it
-- leaves of the heap.
use Rattle.std.proofs.Common.{ℕ, zero, suc, ◌≡◌, ◌+◌, ◌-◌, ◌*◌, ◌==◌, ◌<◌, ◌≤◌, inl, inr, ◌&&◌, Bool, true, false, nat_le, nat_lt, List, [], ◌∷◌, length, map, Option, Some, refl, sym, ap, ◌∙◌, arith, subst}
use Rattle.law_lists.proofs.Tests.{chosen_in}
use Rattle.std.proofs.lemmas.List.{ext_get_or}
use Rattle.std.proofs.Math.ListN.{get_or}
use Rattle.law_lists.proofs.Tests.{bool_tells}
use Rattle.def_words.specs.declared.Cap.{Cap}
use Rattle.def_memory.specs.declared.Granule.{Granule}
use Rattle.def_memory.specs.Granules.{plain, nothing, granule_at, cap_in, caps_from}
use Rattle.def_memory.specs.Ranges.{is_tagged}
use Rattle.def_machine.specs.State.{Thread, nobody}
use Rattle.def_machine.specs.Objects.{Each}
use Rattle.def_machine.specs.Slices.{is_number, filtered_between, kept_granules, kept_frames, kept_registers, kept_thread, kept_threads, KeepsWords}
use Rattle.def_machine.specs.Memory.{filtered_in}
use Rattle.def_areas.specs.Areas.{frames_in, frames_from}
use Rattle.def_hidden.specs.Hiding.{with_hidden}
use Rattle.def_chunks.specs.Heaps.{HeapRow, objects_of, Laid}
use Rattle.def_chunks.specs.Kept.{KeepsHeap, KeepsUntagged}
use Rattle.law_chunks.proofs.Kept.{untag_keeps}
use Rattle.ct_revoke.specs.Slices.{IsSliced}
use Rattle.def_chunks.specs.Hides.{heap_hides}
use Rattle.law_hidden.proofs.Shown.{hides_same}
use Rattle.law_hidden.proofs.Slices.{kept_same, kept_length, passed_same, slice_with_hidden}
use Rattle.law_hidden.proofs.Areas.{held_kept, registers_kept, frames_kept, passed_keeps}
use Rattle.ct_areas.specs.declared.thread.Thread as row
use Rattle.ct_areas.specs.Threads.{HasArea, area_begin, living, thread_of}
use Rattle.ct_areas.proofs.Places.{area_even}
use Rattle.ct_threads.proofs.Clean.{plain_is}
use Rattle.ct_threads.specs.Kept.{IsPlain, IsKept}
use Rattle.ct_engine.specs.declared.rows.Rows.{Rows}
use Rattle.ct_engine.specs.Seen.{EngineRow, threads_of, engine_view, seen_by, hidden, no_area, stands}
use Rattle.ct_engine.specs.Kept.{AreasFrom, StackLies, IsClear, IsEngine, OnlyRunnerStands}
use Rattle.ct_engine.specs.Sweeps.{area_offset, with_slice}

-- ---- granule by granule

granule_kept : (f : ℕ → Cap → Cap) (n : ℕ) (gs : List Granule) (k : ℕ) → k < length gs
    → granule_at (kept_granules f n gs) k ≡ record (granule_at gs k) { cap = f (n + 8 * k) (granule_at gs k).cap }
granule_kept f n [] k lt = absurd (omega (arith, lt))
granule_kept f n (g ∷ gs) zero lt = let here : n + 8 * zero ≡ n = omega arith in ap (λ m. let x : Granule = record g { cap = f m g.cap } in x) (sym here)
granule_kept f n (g ∷ gs) (suc k) lt =
    let next : n + 8 + 8 * k ≡ n + 8 * suc k = omega arith in
    granule_kept f (n + 8) gs k (omega (arith, lt)) ∙ ap (λ m. let x : Granule = record (granule_at gs k) { cap = f m (granule_at gs k).cap } in x) next

slice_kept : (ram low high : ℕ) (gs hs : List Granule) → IsSliced ram low high gs hs → hs ≡ kept_granules (λ n c. filtered_between ram gs low high n c) 0 gs
slice_kept ram low high gs hs is =
    ext_get_or nothing hs (kept_granules (λ n c. filtered_between ram gs low high n c) 0 gs) (is.size ∙ sym (kept_length (λ n c. filtered_between ram gs low high n c) 0 gs))
    (λ k lt.
    let size = is.size in
    let inside : k < length gs = omega (arith, lt, size) in
    let put : Cap → Granule = λ c. let x : Granule = record (granule_at gs k) { cap = c } in x in
    chosen_in (λ c. granule_at hs k ≡ put c) low high (0 + 8 * k) (filtered_in ram gs (granule_at gs k).cap) (granule_at gs k).cap
    (λ a b. is.passed k (omega (arith, a), omega (arith, b)))
    (λ out. is.rest k (elim out [ inl a ↦ inl (omega (arith, a)) | inr b ↦ inr (omega (arith, b)) ]))
    ∙ sym (granule_kept (λ n c. filtered_between ram gs low high n c) 0 gs k inside))

-- a plain word passes
plain_passes : (ram : ℕ) (gs : List Granule) (low high n w : ℕ) → filtered_between ram gs low high n (plain w) ≡ plain w
plain_passes ram gs low high n w = elim (bool_tells (nat_le low n && nat_lt n high)) [ inl e ↦ rw e refl | inr e ↦ rw e refl ]

-- ---- a thread

nobody_kept : (f : ℕ → Cap → Cap) → KeepsWords f → (area : ℕ) (runs : Bool) → nobody ≡ kept_thread f area runs nobody
nobody_kept f z area true = refl
nobody_kept f z area false = rw (z.zero_is area) refl

frames_area : (f : ℕ → Cap → Cap) → KeepsWords f → (gs : List Granule) (t : row.Thread) (area : ℕ) → area ≡ 8 * area_begin t.area
    → frames_in (kept_granules f 0 gs) (area_begin t.area) t.actor t.top t.handling t.depth ≡ kept_frames f area (frames_in gs (area_begin t.area) t.actor t.top t.handling t.depth)
unfolding frames_in
frames_area f z gs t area is =
    frames_kept f z gs (area_begin t.area) t.actor t.top t.handling t.depth
    ∙ ap (λ m. kept_frames f m (frames_from gs (area_begin t.area) t.actor t.top t.handling t.depth)) (sym is)

registers_area : (f : ℕ → Cap → Cap) → KeepsWords f → (gs : List Granule) (begin area : ℕ) → area ≡ 8 * begin
    → plain 0 ∷ caps_from (kept_granules f 0 gs) (begin + 1) 15 ≡ kept_registers f area (plain 0 ∷ caps_from gs (begin + 1) 15)
registers_area f z gs begin area is =
    let next : 8 * (begin + 1) ≡ area + 8 = omega (arith, is) in
    ap (λ cs. plain 0 ∷ cs) (registers_kept f z gs (begin + 1) 15 ∙ ap (λ m. kept_registers f m (caps_from gs (begin + 1) 15)) next)
    ∙ ap (λ c. c ∷ kept_registers f (area + 8) (caps_from gs (begin + 1) 15)) (sym (z.zero_is area))

living_kept : (f : ℕ → Cap → Cap) → KeepsWords f → (gs : List Granule) (t : row.Thread) (area : ℕ) → area ≡ 8 * area_begin t.area → (runs : Bool)
    → living (kept_granules f 0 gs) runs t ≡ kept_thread f area runs (living gs runs t)
living_kept f z gs t area is true = rw (frames_area f z gs t area is) refl
living_kept f z gs t area is false =
    let head : cap_in (kept_granules f 0 gs) (area_begin t.area) ≡ f area (cap_in gs (area_begin t.area)) =
    held_kept f z gs (area_begin t.area) ∙ ap (λ m. f m (cap_in gs (area_begin t.area))) (sym is) in
    rw (head, registers_area f z gs (area_begin t.area) area is, frames_area f z gs t area is) refl

thread_kept : (f : ℕ → Cap → Cap) → KeepsWords f → (gs : List Granule) (size : ℕ) (runs : Bool) (t : row.Thread) → HasArea size t.area
    → thread_of (kept_granules f 0 gs) runs t ≡ kept_thread f (t.area.trusted - t.area.ram) runs (thread_of gs runs t)
thread_kept f z gs size runs t has = elim (bool_tells (t.depth == 0)) [
  | inl e ↦ rw e (nobody_kept f z (t.area.trusted - t.area.ram) runs)
  | inr e ↦ rw e (living_kept f z gs t (t.area.trusted - t.area.ram) (area_even size t.area has) runs)
]

-- the areas of these threads begin at these offsets, the first being thread n
abbrev BeginAt : (ℕ → ℕ) → ℕ → ℕ → List row.Thread → Type 0
BeginAt area ram n ts = (k : ℕ) → k < length ts → area (n + k) ≡ (get_or (map (λ (t : row.Thread). t.area) ts) k no_area).trusted - ram

begins_first : (area : ℕ → ℕ) (ram n : ℕ) (t : row.Thread) (ts : List row.Thread) → BeginAt area ram n (t ∷ ts) → area n ≡ t.area.trusted - ram
begins_first area ram n t ts begins =
    let here : n + 0 ≡ n = omega arith in
    ap area (sym here) ∙ begins 0 (omega arith)

begins_more : (area : ℕ → ℕ) (ram n : ℕ) (t : row.Thread) (ts : List row.Thread) → BeginAt area ram n (t ∷ ts) → BeginAt area ram (n + 1) ts
begins_more area ram n t ts begins k lt =
    let next : n + 1 + k ≡ n + suc k = omega arith in
    ap area next ∙ begins (suc k) (omega (arith, lt))

threads_kept : (f : ℕ → Cap → Cap) → KeepsWords f → (area : ℕ → ℕ) (ram : ℕ) (gs : List Granule) (standing : List Bool) (running : Option ℕ) (n from to : ℕ) (ts : List row.Thread) → AreasFrom ram gs standing n from to ts
    → OnlyRunnerStands standing running → BeginAt area ram n ts → threads_of (kept_granules f 0 gs) standing n ts ≡ kept_threads f area running n (threads_of gs standing n ts)
threads_kept f z area ram gs standing running n from to [] h one begins = refl
threads_kept f z area ram gs standing running n from to (t ∷ ts) h one begins =
    let first : thread_of (kept_granules f 0 gs) (stands standing n) t ≡ kept_thread f (area n) (is_number running n) (thread_of gs (stands standing n) t) =
    thread_kept f z gs (8 * length gs) (stands standing n) t h.2.area
    ∙ ap (λ m. kept_thread f (t.area.trusted - m) (stands standing n) (thread_of gs (stands standing n) t)) h.1
    ∙ ap (λ m. kept_thread f m (stands standing n) (thread_of gs (stands standing n) t)) (sym (begins_first area ram n t ts begins))
    ∙ ap (λ b. kept_thread f (area n) b (thread_of gs (stands standing n) t)) (one n) in
    ap (λ x. x ∷ threads_of (kept_granules f 0 gs) standing (n + 1) ts) first
    ∙ ap (λ xs. kept_thread f (area n) (is_number running n) (thread_of gs (stands standing n) t) ∷ xs)
    (threads_kept f z area ram gs standing running (n + 1) (t.area.trusted + t.area.trusted_length) to ts h.3 one (begins_more area ram n t ts begins))

-- ---- what is kept

-- what is kept of a plain word
abbrev KeepsPlain : (ℕ → Cap → Cap) → Type 0
KeepsPlain f = (n w : ℕ) → f n (plain w) ≡ plain w

word_kept : (f : ℕ → Cap → Cap) → KeepsWords f → KeepsPlain f → (gs : List Granule) (m : ℕ) → IsPlain (cap_in gs m) → IsPlain (cap_in (kept_granules f 0 gs) m)
word_kept f z p gs m q = plain_is (cap_in (kept_granules f 0 gs) m) (cap_in gs m).word (held_kept f z gs m ∙ ap (λ c. f (8 * m) c) q ∙ p (8 * m) (cap_in gs m).word)

row_kept : (f : ℕ → Cap → Cap) → KeepsWords f → KeepsPlain f → (gs : List Granule) (runs : Bool) (t : row.Thread) → IsKept gs runs t → IsKept (kept_granules f 0 gs) runs t
row_kept f z p gs runs t k = record {
  area = rw (kept_length f 0 gs) k.area;
  room = k.room;
  zero = k.zero;
  alive = k.alive;
  clean = λ m lo hi. elim (k.clean m lo hi) [ inl s ↦ inl s | inr q ↦ inr (word_kept f z p gs m q) ];
}

areas_kept : (f : ℕ → Cap → Cap) → KeepsWords f → KeepsPlain f → (ram : ℕ) (gs : List Granule) (standing : List Bool) (n from to : ℕ) (ts : List row.Thread) → AreasFrom ram gs standing n from to ts
    → AreasFrom ram (kept_granules f 0 gs) standing n from to ts
areas_kept f z p ram gs standing n from to [] h = (h.0, λ m lo hi. word_kept f z p gs m (h.1 m lo hi))
areas_kept f z p ram gs standing n from to (t ∷ ts) h = (
  h.0,
  h.1,
  row_kept f z p gs (stands standing n) t h.2,
  areas_kept f z p ram gs standing (n + 1) (t.area.trusted + t.area.trusted_length) to ts h.3,
  λ m lo hi. word_kept f z p gs m (h.4 m lo hi),
)

-- ---- the heap

-- what is untagged passes
untagged_passes : (ram : ℕ) (gs : List Granule) (low high n : ℕ) (c : Cap) → c.tag ≡ false → filtered_between ram gs low high n c ≡ c
untagged_passes ram gs low high n c off = elim (bool_tells (nat_le low n && nat_lt n high)) [ inl e ↦ rw e (rw off refl) | inr e ↦ rw e refl ]

slice_untags : (ram : ℕ) (gs : List Granule) (low high : ℕ) → KeepsUntagged gs (kept_granules (λ n c. filtered_between ram gs low high n c) 0 gs)
slice_untags ram gs low high = record {
  size = kept_length (λ n c. filtered_between ram gs low high n c) 0 gs;
  same = λ k off. held_kept (λ n c. filtered_between ram gs low high n c) (passed_keeps ram gs low high) gs k
      ∙ untagged_passes ram gs low high (8 * k) (cap_in gs k) off;
}

slice_heap : (ram : ℕ) (gs : List Granule) (low high : ℕ) (h : HeapRow) → Laid h gs → KeepsHeap h gs (kept_granules (λ n c. filtered_between ram gs low high n c) 0 gs)
slice_heap ram gs low high h laid = untag_keeps h gs (kept_granules (λ n c. filtered_between ram gs low high n c) 0 gs) laid (slice_untags ram gs low high)

slice_clear : (ram : ℕ) (gs : List Granule) (low high : ℕ) (h : HeapRow) → Laid h gs → IsClear h gs → IsClear h (kept_granules (λ n c. filtered_between ram gs low high n c) 0 gs)
slice_clear ram gs low high h laid clear k hid =
    let was : heap_hides h gs k ≡ true = sym (hides_same h gs (kept_granules (λ n c. filtered_between ram gs low high n c) 0 gs) k (slice_heap ram gs low high h laid).objects) ∙ hid in
    let off : is_tagged gs k ≡ false = clear k was in
    ap (λ (c : Cap). c.tag) ((slice_untags ram gs low high).same k off) ∙ off

-- ---- all that is kept, and all that is seen

-- these rows, with this front
abbrev pub with_front : Rows → Option ℕ → Rows
with_front rows front = record rows { front = front }

pub slice_holds : (gs hs : List Granule) (rows : Rows) (low high : ℕ) → IsSliced rows.region.ram low high gs hs → IsEngine gs rows → high ≤ 8 * length gs → IsEngine hs (with_front rows (Some high))
slice_holds gs hs rows low high is holds inside =
    let f : ℕ → Cap → Cap = λ n c. filtered_between rows.region.ram gs low high n c in
    let kept : IsEngine (kept_granules f 0 gs) (with_front rows (Some high)) = record {
      areas = areas_kept f (passed_keeps rows.region.ram gs low high) (λ n w. plain_passes rows.region.ram gs low high n w)
          rows.region.ram gs rows.standing.items 0 rows.region.trusted rows.region.end rows.list.items holds.areas;
      runs = holds.runs;
      sizes = holds.sizes;
      alone = holds.alone;
      stacks = subst (λ n. Each (StackLies rows.region rows.heap.range.base (8 * n)) (map (λ (t : row.Thread). t.area) rows.list.items)) (sym (kept_length f 0 gs)) holds.stacks;
      heap = record {
        laid = (slice_heap rows.region.ram gs low high rows.heap holds.heap.laid).laid;
        ram = holds.heap.ram;
        past = holds.heap.past;
        within = subst (λ n. high ≤ 8 * n) (sym (kept_length f 0 gs)) inside;
        clear = slice_clear rows.region.ram gs low high rows.heap holds.heap.laid holds.heap.clear;
      };
      room = holds.room;
    } in
    subst (λ xs. IsEngine xs (with_front rows (Some high))) (sym (slice_kept rows.region.ram low high gs hs is)) kept

slice_objects : (gs hs : List Granule) (rows : Rows) (low high : ℕ) → IsSliced rows.region.ram low high gs hs → IsEngine gs rows → objects_of rows.heap hs ≡ objects_of rows.heap gs
slice_objects gs hs rows low high is holds =
    ap (λ xs. objects_of rows.heap xs) (slice_kept rows.region.ram low high gs hs is) ∙ (slice_heap rows.region.ram gs low high rows.heap holds.heap.laid).objects

pub slice_seen : (gs hs : List Granule) (rows : Rows) (low high : ℕ) → IsSliced rows.region.ram low high gs hs → IsEngine gs rows → OnlyRunnerStands rows.standing.items rows.running → engine_view hs (with_front rows (Some high)) ≡ with_slice (engine_view gs rows) low high
slice_seen gs hs rows low high is holds settled =
    let ram : ℕ = rows.region.ram in
    let v : ℕ → Bool = hidden gs rows in
    let shown : List Granule = with_hidden v gs in
    let f : ℕ → Cap → Cap = λ n c. filtered_between ram shown low high n c in
    let area : ℕ → ℕ = area_offset (engine_view gs rows) in
    let put : List Granule → List Thread → EngineRow = λ xs ts. record (engine_view gs rows) { state = record (engine_view gs rows).state { granules = xs; threads = ts; front = Some high } } in
    let memory : hs ≡ kept_granules f 0 gs = slice_kept ram low high gs hs is
    ∙ sym (kept_same f (λ n c. filtered_between ram gs low high n c) (λ n c. passed_same v ram gs low high n c) 0 gs) in
    let granules : with_hidden v hs ≡ kept_granules f 0 shown =
    ap (λ xs. with_hidden v xs) (slice_kept ram low high gs hs is) ∙ sym (slice_with_hidden v ram gs low high) in
    let begins : BeginAt area ram 0 rows.list.items = λ k lt. (let none : 0 + k ≡ k = omega arith in ap area none) in
    let threads : threads_of hs rows.standing.items 0 rows.list.items ≡ kept_threads f area rows.running 0 (threads_of gs rows.standing.items 0 rows.list.items) =
    ap (λ xs. threads_of xs rows.standing.items 0 rows.list.items) memory
    ∙ threads_kept f (passed_keeps ram shown low high) area ram gs rows.standing.items rows.running 0 rows.region.trusted rows.region.end rows.list.items holds.areas settled begins in
    ap (λ os. seen_by os (with_front rows (Some high)) hs rows.list.items rows.standing.items rows.running) (slice_objects gs hs rows low high is holds)
    ∙ ap (λ xs. put xs (threads_of hs rows.standing.items 0 rows.list.items)) granules
    ∙ ap (λ ts. put (kept_granules f 0 shown) ts) threads
