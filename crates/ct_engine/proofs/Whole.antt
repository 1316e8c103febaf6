-- What a change of one thread makes of all that is seen, and of what is kept.
use Rattle.std.proofs.Common.{ℕ, zero, suc, ◌≡◌, ◌≢◌, ◌+◌, ◌*◌, ◌<◌, ◌≤◌, inl, inr, Bool, true, false, List, [], ◌∷◌, length, map, Option, Some, None, unwrap_or, is_some, refl, sym, ap, ◌∙◌, arith, subst}
use Rattle.std.proofs.lemmas.Bool.{le-leb, lt-ltb}
use Rattle.std.proofs.Math.Seq.{map-set_same}
use Rattle.std.proofs.Math.ListN.{get_or, set}
use Rattle.std.specs.Bool.{then_some}
use Rattle.std.specs.Vec.{with_item}
use Rattle.std.proofs.lemmas.List.{get_or_default, get_or-set_same, get_or-set_other, set-get_or, length-set}
use Rattle.law_lists.proofs.Tests.{bool_tells}
use Rattle.def_words.specs.declared.Cap.{Cap}
use Rattle.def_memory.specs.declared.Granule.{Granule}
use Rattle.def_machine.specs.State.{Thread, Object, nobody}
use Rattle.def_chunks.specs.Heaps.{objects_of}
use Rattle.std.proofs.lemmas.Bool.{or_left, cases_eq}
use Rattle.def_machine.specs.Objects.{Each}
use Rattle.def_machine.specs.Slices.{is_number}
use Rattle.def_machine.specs.Threads.{picked_with}
use Rattle.def_machine.specs.Memory.{filtered_in}
use Rattle.def_areas.specs.Touches.{Touches}
use Rattle.def_hidden.specs.Hiding.{with_hidden}
use Rattle.law_hidden.proofs.Granules.{hidden_changes}
use Rattle.law_hidden.proofs.Steps.{filtered_same}
use Rattle.ct_areas.specs.declared.thread.Area.{Area}
use Rattle.ct_areas.specs.declared.thread.Thread as row
use Rattle.ct_areas.specs.Threads.{area_begin, area_end, thread_of}
use Rattle.ct_threads.specs.Kept.{IsKept}
use Rattle.ct_threads.proofs.Beside.{within}
use Rattle.ct_threads.proofs.Entering.{thread_depth}
use Rattle.ct_engine.specs.declared.rows.Region.{Region}
use Rattle.ct_engine.specs.declared.rows.Rows.{Rows}
use Rattle.ct_engine.specs.Seen.{EngineRow, stands, threads_of, engine_view, thread, with_thread, with_running, resumed, region_hides, hides_over, seen_by, hidden}
use Rattle.ct_engine.specs.Kept.{AreasFrom, StackLies, IsEngine}
use Rattle.ct_engine.proofs.Lists.{Lies, OthersStand, lies, rows_put, the_thread}
use Rattle.ct_engine.proofs.HeapStays.{HeapStays, heap_keeps, heap_holds, area_stays}
use Rattle.law_moves.proofs.Slices.{is_itself, number_is}

-- a granule of the region is hidden
pub hidden_is : (g : Region) (k : ℕ) → g.trusted ≤ g.ram + 8 * k → g.ram + 8 * k < g.end → region_hides g k ≡ true
hidden_is g k low high = rw (le-leb g.trusted (g.ram + 8 * k) low, lt-ltb (g.ram + 8 * k) g.end high) refl

pub some_is : (t u : ℕ) → (let o : Option ℕ = Some t in o) ≡ Some u → t ≡ u
some_is t u e = ap (λ (o : Option ℕ). unwrap_or o 0) e

pub none_is : {A : Type 0} (u : ℕ) → (let o : Option ℕ = None in o) ≡ Some u → A
none_is u e = absurd (let clash : false ≡ true = ap (λ (o : Option ℕ). is_some o) e in cc)

-- this thread runs, or none
abbrev pub only : Bool → ℕ → Option ℕ
only runs t = then_some runs t

only_is : (runs : Bool) (t : ℕ) → is_number (only runs t) t ≡ runs
only_is true t = is_itself t
only_is false t = refl

only_beside : (runs : Bool) (t u : ℕ) → u ≢ t → is_number (only runs t) u ≡ false
only_beside true t u no_ = elim (bool_tells (is_number (Some t) u)) [
  | inl e ↦ absurd (no_ (sym (some_is t u (number_is (Some t) u e))))
  | inr e ↦ e
]
only_beside false t u no_ = refl

-- ---- whose registers stand in their rows

stood_lies : (standing : List Bool) (t : ℕ) → stands standing t ≡ true → t < length standing
stood_lies [] t e = absurd (let clash : false ≡ true = e in cc)
stood_lies (b ∷ bs) zero e = omega arith
stood_lies (b ∷ bs) (suc t) e = (let lt = stood_lies bs t e in omega (arith, lt))

-- who stands in a row is a thread
pub in_rows : {gs : List Granule} {rows : Rows} → IsEngine gs rows → (t : ℕ) → stands rows.standing.items t ≡ true → t < length rows.list.items
in_rows {gs} {rows} holds t e =
    let lt = stood_lies rows.standing.items t e in
    let each = holds.sizes in
    omega (arith, lt, each)

pub the_runner : {gs : List Granule} {rows : Rows} → IsEngine gs rows → (t : ℕ) → rows.running ≡ Some t → t < length rows.list.items
the_runner holds t runs = in_rows holds t (holds.runs t runs)

pub runner_stands : {gs : List Granule} {rows : Rows} → IsEngine gs rows → (t : ℕ) → rows.running ≡ Some t → t < length rows.standing.items
runner_stands {gs} {rows} holds t runs = stood_lies rows.standing.items t (holds.runs t runs)

pub set_stands : (standing : List Bool) (t : ℕ) (b : Bool) → t < length standing → stands (set standing t b) t ≡ b
set_stands standing t b lt = get_or-set_same standing t b false lt

pub others_stand : (standing : List Bool) (t : ℕ) (b : Bool) → OthersStand standing (set standing t b) t
others_stand standing t b = λ u no_. get_or-set_other standing t u b false no_

-- read by an index, and so by any default
pub stood_is : (standing : List Bool) (t : ℕ) (b : Bool) → b ≡ get_or standing t b → t < length standing → stands standing t ≡ b
stood_is standing t b is lt = get_or_default standing t false b lt ∙ sym is

pub there_in : {gs : List Granule} {rows : Rows} → IsEngine gs rows → (t : ℕ) → t < length rows.list.items → t < length rows.standing.items
there_in {gs} {rows} holds t lt = (let each = holds.sizes in omega (arith, lt, each))

-- ---- a thread's row

-- Row r is that of thread t, and `stood` tells whether its program counter capability and its registers stand in it.
pub record RowAt (gs : List Granule) (rows : Rows) (t : ℕ) (r : row.Thread) (stood : Bool) : Type 0 where
  pub holds : IsEngine gs rows
  pub there : t < length rows.list.items
  pub is : r ≡ get_or rows.list.items t r
  pub on : stands rows.standing.items t ≡ stood

pub row_at : {gs : List Granule} {rows : Rows} {t : ℕ} {r : row.Thread} {b stood : Bool} → IsEngine gs rows → t < length rows.list.items
    → r ≡ get_or rows.list.items t r → b ≡ get_or rows.standing.items t b → b ≡ stood → RowAt gs rows t r stood
row_at {gs} {rows} {t} {r} {b} holds lt is on which =
    record { holds = holds; there = lt; is = is; on = stood_is rows.standing.items t b on (there_in holds t lt) ∙ which }

module _ {gs : List Granule} {rows : Rows} {t : ℕ} {r : row.Thread} {stood : Bool} (w : RowAt gs rows t r stood) where
  -- what it keeps
  pub row_lies : Lies rows.region.ram gs stood rows.region.trusted rows.region.end r
  row_lies =
      let g : Region = rows.region in
      let l = lies g.ram gs rows.standing.items 0 g.trusted g.end rows.list.items t r w.holds.areas w.there in
      let start : 0 + t ≡ t = omega arith in
      let here : stands rows.standing.items (0 + t) ≡ stood = rw start w.on in
      let mine : Lies g.ram gs stood g.trusted g.end (get_or rows.list.items t r) = rw here at l in
      rw (← w.is) at mine

  -- the thread that is seen of it, and how many frames that has
  pub row_thread : thread (engine_view gs rows) t ≡ thread_of gs stood r
  row_thread =
      let start : 0 + t ≡ t = omega arith in
      let here : stands rows.standing.items (0 + t) ≡ stood = rw start w.on in
      the_thread gs rows.standing.items 0 rows.list.items t r w.there
      ∙ rw here (ap (λ (u : row.Thread). thread_of gs stood u) (sym w.is))

  pub row_depth : length (thread (engine_view gs rows) t).frames ≡ r.depth
  row_depth = ap (λ (u : Thread). length u.frames) row_thread ∙ thread_depth gs stood r

-- ---- its turn

-- these rows, of which thread t's is another; who stands in a row and who runs are as in others
abbrev pub turned : Rows → Rows → ℕ → row.Thread → Rows
turned rows new t q =
    record rows { list = with_item rows.list t q; standing = new.standing; running = new.running }

-- Row r of thread t becomes q, in which it stands or not, and memory another where its area lies. Beside it nobody
-- comes to stand in a row or to run, or stops to.
pub record Turn (gs hs : List Granule) (rows new : Rows) (t : ℕ) (r q : row.Thread) (stood now : Bool) : Type 0 where
  pub row : RowAt gs rows t r stood
  pub touches : Touches (area_begin r.area) (area_end r.area) gs hs
  pub place : q.area ≡ r.area
  pub kept : IsKept hs now q
  pub on : stands new.standing.items t ≡ now
  pub runs : is_number new.running t ≡ now
  pub size : length new.standing.items ≡ length rows.standing.items
  pub others : OthersStand rows.standing.items new.standing.items t
  pub beside : (u : ℕ) → u ≢ t → is_number new.running u ≡ is_number rows.running u

module _ {gs hs : List Granule} {rows new : Rows} {t : ℕ} {r q : row.Thread} {stood now : Bool}
    (u : Turn gs hs rows new t r q stood now) where
  places_stay : map (λ (x : row.Thread). x.area) (set rows.list.items t q) ≡ map (λ (x : row.Thread). x.area) rows.list.items
  places_stay = map-set_same (λ (x : row.Thread). x.area) rows.list.items t q r (u.place ∙ ap (λ (x : row.Thread). x.area) u.row.is)

  running_stands : (v : ℕ) → new.running ≡ Some v → stands new.standing.items v ≡ true
  running_stands v e =
      let number : is_number new.running v ≡ true = ap (λ o. is_number o v) e ∙ is_itself v in
      elim (cases_eq v t) [
        | inl same ↦ subst (λ n. stands new.standing.items n ≡ true) (sym same)
            (u.on ∙ sym u.runs ∙ subst (λ n. is_number new.running n ≡ true) same number)
        | inr no_ ↦ u.others v no_ ∙ u.row.holds.runs v (number_is rows.running v (sym (u.beside v no_) ∙ number))
      ]

  standing_runs : rows.loose ≡ false → (v : ℕ) → stands new.standing.items v ≡ true → new.running ≡ Some v
  standing_runs tight v stood_ = number_is new.running v (elim (cases_eq v t) [
    | inl same ↦ subst (λ n. is_number new.running n ≡ true) (sym same)
        (u.runs ∙ sym u.on ∙ subst (λ n. stands new.standing.items n ≡ true) same stood_)
    | inr no_ ↦ u.beside v no_ ∙ ap (λ o. is_number o v) (u.row.holds.alone tight v (sym (u.others v no_) ∙ stood_)) ∙ is_itself v
  ])

  rows_turn : AreasFrom rows.region.ram hs new.standing.items 0 rows.region.trusted rows.region.end (set rows.list.items t q)
      × (threads_of hs new.standing.items 0 (set rows.list.items t q) ≡ set (threads_of gs rows.standing.items 0 rows.list.items) t (thread_of hs now q))
  rows_turn =
      rows_put rows.region.ram gs hs rows.standing.items new.standing.items 0 t t rows.region.trusted rows.region.end rows.list.items r q now
      u.row.holds.areas u.row.there (omega arith) u.row.is u.touches u.others u.place u.on u.kept

  heap_turn : HeapStays rows.heap gs hs
  heap_turn = area_stays gs hs rows.region rows.heap rows.front stood r u.row.holds.heap (row_lies u.row) u.touches

  -- what is kept
  pub turn_holds : IsEngine hs (turned rows new t q)
  turn_holds =
      let g : Region = rows.region in
      let old = u.row.holds in
      record {
        areas = rows_turn.0;
        sizes = u.size ∙ old.sizes ∙ sym (length-set rows.list.items t q);
        runs = running_stands;
        alone = standing_runs;
        stacks = subst (λ (as_ : List Area). Each (StackLies g rows.heap.range.base (8 * length hs)) as_) (sym places_stay)
            (subst (λ n. Each (StackLies g rows.heap.range.base (8 * n)) (map (λ (x : row.Thread). x.area) rows.list.items))
            (sym u.touches.size) old.stacks);
        heap = heap_holds gs hs g rows.heap rows.front old.heap u.touches.size heap_turn;
        room = old.room;
      }

  -- a change of one area isn't seen
  unseen : (os : List Object) → with_hidden (hides_over rows.region rows.heap.range os) hs ≡ with_hidden (hides_over rows.region rows.heap.range os) gs
  unseen os =
      hidden_changes (hides_over rows.region rows.heap.range os) gs hs (area_begin r.area) (area_end r.area) u.touches (λ k lo hi.
      let l = row_lies u.row in
      let w = within (8 * length gs) r.area k l.kept.area lo hi in
      let a = w.0 in
      let b = w.1 in
      let low = l.low in
      let high = l.high in
      let base = l.base in
      or_left (region_hides rows.region k) _ (hidden_is rows.region k (omega (arith, a, low, base)) (omega (arith, b, high, base))))

  -- what is seen
  pub turn_sees : (x : Thread) → thread_of hs now q ≡ x
      → engine_view hs (turned rows new t q) ≡ with_running (with_thread (engine_view gs rows) t x) new.running
  turn_sees x same =
      let g : Region = rows.region in
      let ts : List row.Thread = rows.list.items in
      let os : List Object = objects_of rows.heap gs in
      let granules = unseen os in
      let threads = rows_turn.1 ∙ ap (λ (y : Thread). set (threads_of gs rows.standing.items 0 ts) t y) same in
      let places = places_stay in
      let rest : seen_by os rows hs (set ts t q) new.standing.items new.running ≡ with_running (with_thread (engine_view gs rows) t x) new.running =
      rw (granules, threads, places) refl in
      ap (λ (xs : List Object). seen_by xs rows hs (set ts t q) new.standing.items new.running)
      (heap_keeps gs hs g rows.heap rows.front u.row.holds.heap u.touches.size heap_turn).objects ∙ rest

-- nothing, where the thread that is seen is the same
pub turn_stays : {gs hs : List Granule} {rows new : Rows} {t : ℕ} {r q : row.Thread} {stood now : Bool} → Turn gs hs rows new t r q stood now
    → thread_of hs now q ≡ thread_of gs stood r → engine_view hs (turned rows new t q) ≡ with_running (engine_view gs rows) new.running
turn_stays {gs} {hs} {rows} {new} {t} u same =
    turn_sees u (thread (engine_view gs rows) t) (same ∙ sym (row_thread u.row))
    ∙ ap (λ (xs : List Thread). let s : EngineRow = record (engine_view gs rows) { state = record (engine_view gs rows).state { threads = xs; running = new.running } } in s)
    (set-get_or (engine_view gs rows).state.threads t nobody)

-- ---- whether it stands in its row is noted anew

-- these rows, of which thread t's is now stood in or not, and this one runs
abbrev pub noted : Rows → ℕ → Bool → Option ℕ → Rows
noted rows t now run = record rows { standing = with_item rows.standing t now; running = run }

module _ {gs hs : List Granule} {rows : Rows} {t : ℕ} {r q : row.Thread} {stood now : Bool} (w : RowAt gs rows t r stood)
    (touches : Touches (area_begin r.area) (area_end r.area) gs hs) (place : q.area ≡ r.area) (kept : IsKept hs now q) where
  pub noted_turn : (run : Option ℕ) → is_number run t ≡ now → ((u : ℕ) → u ≢ t → is_number run u ≡ is_number rows.running u)
      → Turn gs hs rows (noted rows t now run) t r q stood now
  noted_turn run runs beside = record {
    row = w;
    touches = touches;
    place = place;
    kept = kept;
    on = set_stands rows.standing.items t now (there_in w.holds t w.there);
    runs = runs;
    size = length-set rows.standing.items t now;
    others = others_stand rows.standing.items t now;
    beside = beside;
  }

  -- none ran, or it; it runs now, or none
  pub only_turn : (ran : Bool) → rows.running ≡ only ran t → Turn gs hs rows (noted rows t now (only now t)) t r q stood now
  only_turn ran is =
      noted_turn (only now t) (only_is now t)
      (λ u no_. only_beside now t u no_ ∙ sym (ap (λ o. is_number o u) is ∙ only_beside ran t u no_))

-- ---- they go to their areas one after another

-- of rows over memory `was`, those of the first so many threads
pub record Settles (was : List Granule) (old : Rows) (gs : List Granule) (rows : Rows) (count : ℕ) : Type 0 where
  pub holds : IsEngine gs rows
  pub seen : engine_view gs rows ≡ engine_view was old
  pub many : length rows.list.items ≡ length old.list.items
  pub away : (u : ℕ) → u < count → stands rows.standing.items u ≡ true → rows.running ≡ Some u

-- ---- a pick

pub map_same : (f k : Cap → Cap) → ((c : Cap) → f c ≡ k c) → (cs : List Cap) → map f cs ≡ map k cs
map_same f k same [] = refl
map_same f k same (c ∷ cs) = rw (same c, map_same f k same cs) refl

picked_same : (f k : Cap → Cap) (t : Thread) → ((c : Cap) → f c ≡ k c) → picked_with f t ≡ picked_with k t
picked_same f k t same = rw (same t.pcc, map_same f k same t.registers) refl

-- the load filter of a row's thread, over what is seen
pub filter_seen : {gs : List Granule} {rows : Rows} {t : ℕ} {r : row.Thread} {stood : Bool} → RowAt gs rows t r stood
    → (c : Cap) → filtered_in r.area.ram gs c ≡ filtered_in rows.region.ram (engine_view gs rows).state.granules c
filter_seen {gs} {rows} w c =
    ap (λ n. filtered_in n gs c) (row_lies w).base ∙ sym (filtered_same (hidden gs rows) rows.region.ram gs c)

-- what stood in a row, or not, stands in it and has passed the filter
pub pick_sees : {gs hs : List Granule} {rows new : Rows} {t : ℕ} {r q : row.Thread} {stood : Bool} → Turn gs hs rows new t r q stood true
    → thread_of hs true q ≡ picked_with (filtered_in r.area.ram gs) (thread_of gs stood r) → new.running ≡ Some t
    → engine_view hs (turned rows new t q) ≡ resumed (engine_view gs rows) t
pick_sees {gs} {hs} {rows} {new} {t} {r} {q} {stood} u picked runs =
    let v : EngineRow = engine_view gs rows in
    let seen_filter : Cap → Cap = filtered_in rows.region.ram v.state.granules in
    turn_sees u (picked_with seen_filter (thread v t))
    (picked ∙ picked_same (filtered_in r.area.ram gs) seen_filter (thread_of gs stood r) (filter_seen u.row)
    ∙ ap (λ (x : Thread). picked_with seen_filter x) (sym (row_thread u.row)))
    ∙ ap (λ o. with_running (with_thread v t (picked_with seen_filter (thread v t))) o) runs
