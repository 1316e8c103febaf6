-- Instructions on the running thread's row and on memory, one after another, are the ones of what is seen.
use Rattle.std.proofs.Common.{ℕ, zero, suc, ◌*◌, ◌≡◌, ◌≤◌, ◌<◌, true, List, [], length, map, refl, sym, ap, ◌∙◌, subst, arith}
use Rattle.std.proofs.Math.ListN.{set}
use Rattle.std.proofs.lemmas.List.{get_or-set_same, set-get_or, set-set}
use Rattle.std.specs.Vec.{with_item}
use Rattle.def_memory.specs.declared.Granule.{Granule}
use Rattle.def_machine.specs.State.{Frame, Thread, nobody, register}
use Rattle.def_machine.specs.Objects.{Each}
use Rattle.def_machine.specs.Threads.{jumped}
use Rattle.def_hidden.specs.Hiding.{with_hidden}
use Rattle.ct_areas.specs.declared.thread.Thread as row
use Rattle.ct_areas.specs.Threads.{living}
use Rattle.ct_threads.specs.Rows.{row_gone}
use Rattle.ct_threads.specs.declared.window.Window.{Window}
use Rattle.ct_threads.specs.Windows.{IsWindow}
use Rattle.ct_burst.specs.Going as raw
use Rattle.ct_engine.specs.declared.rows.Rows.{Rows}
use Rattle.ct_engine.specs.Seen.{EngineRow, engine_view, seen_of, thread, with_granules, with_thread, hides, hidden}
use Rattle.ct_engine.specs.Kept.{AreasFrom, IsEngine, StackLies}
use Rattle.ct_engine.specs.Bursts.{GoesFor, GoesOnce, IsOpen, StaysOpen}
use Rattle.ct_engine.specs.Steps.{HasWindow}
use Rattle.ct_engine.proofs.Away.{away_holds, away_seen, HiddenStays}
use Rattle.ct_engine.proofs.Goes.{Runner, running_is, jump_turn, jump_sees}
use Rattle.ct_engine.proofs.Lists.{how_many}
use Rattle.ct_engine.proofs.Outcomes.{once_gone, once_seen, once_size, once_stays, Gone, Sees}
use Rattle.ct_engine.proofs.Reaching.{fetch_seen, register_seen}
use Rattle.ct_engine.proofs.Whole.{the_runner, turn_holds}
use Rattle.ct_engine.proofs.Windows.{counter_seen}

-- a row while its thread is w
abbrev pub row_of : row.Thread → Thread → row.Thread
row_of r w = record r { pcc = w.pcc; regs = w.registers }

-- these rows, of which one is another
abbrev pub put_row : Rows → ℕ → row.Thread → Rows
put_row rows t q = record rows { list = with_item rows.list t q }

opens_sees : (s : EngineRow) (t : ℕ) → IsOpen s t → Sees (hides s) s.region.ram (thread s t)
opens_sees s t opens = record {
  accesses = λ n i y. register_seen s t n i (register (thread s t) n) y opens refl;
  fetches = fetch_seen s t opens;
}

-- ---- one instruction

-- it takes the running thread, of row r, over granules gs to w and hs
record Going (gs : List Granule) (rows : Rows) (t : ℕ) (r : row.Thread) (w : Thread) (hs : List Granule) : Type 0 where
  run : Runner gs rows t r
  opened : IsOpen (engine_view gs rows) t
  goes : raw.GoesOnce rows.region.ram (thread (engine_view gs rows) t) gs w hs

module _ {gs : List Granule} {rows : Rows} {t : ℕ} {r : row.Thread} {w : Thread} {hs : List Granule} (g : Going gs rows t r w hs) where
  sees_here : Sees (hidden gs rows) rows.region.ram (thread (engine_view gs rows) t)
  sees_here = opens_sees (engine_view gs rows) t g.opened

  size_here : length hs ≡ length gs
  size_here = once_size rows.region.ram (thread (engine_view gs rows) t) gs w hs g.goes

  stays_here : HiddenStays gs hs rows
  stays_here = once_stays (hidden gs rows) rows.region.ram (thread (engine_view gs rows) t) gs w hs sees_here g.goes

  -- memory is another, and no row is
  moved_runner : Runner hs rows t r
  moved_runner = record { holds = away_holds gs hs rows g.run.holds size_here stays_here; runs = g.run.runs; is = g.run.is }

  gone_here : Gone (thread (engine_view gs rows) t) w
  gone_here = once_gone rows.region.ram (thread (engine_view gs rows) t) gs w hs g.goes

  row_is : row_of r w ≡ row_gone r gone_here.pcc r.posture gone_here.to gone_here.value
  row_is =
      let j = gone_here in
      ap (λ (u : Thread). row_of r u) (j.is ∙ ap (λ (u : Thread). jumped u j.pcc u.posture j.to j.value) (running_is g.run))

  went_holds : IsEngine hs (put_row rows t (row_of r w))
  went_holds =
      let j = gone_here in
      turn_holds (jump_turn moved_runner (row_of r w) j.pcc r.posture j.to j.value row_is)

  went_view : engine_view hs (put_row rows t (row_of r w)) ≡ with_granules (with_thread (engine_view gs rows) t w) (with_hidden (hidden gs rows) hs)
  went_view =
      let j = gone_here in
      let s : EngineRow = engine_view gs rows in
      let posture : r.posture ≡ (thread s t).posture = sym (ap (λ (u : Thread). u.posture) (running_is g.run)) in
      jump_sees moved_runner (row_of r w) j.pcc r.posture j.to j.value row_is
      ∙ ap (λ (v : EngineRow). with_thread v t (jumped (thread v t) j.pcc r.posture j.to j.value)) (away_seen gs hs rows g.run.holds size_here stays_here)
      ∙ ap (λ (u : Thread). with_granules (with_thread s t u) (with_hidden (hidden gs rows) hs))
      (ap (λ p. jumped (thread s t) j.pcc p j.to j.value) posture ∙ sym j.is)

  went_once : GoesOnce t (engine_view gs rows) (engine_view hs (put_row rows t (row_of r w)))
  went_once = record {
    to = w;
    after = with_hidden (hidden gs rows) hs;
    goes = once_seen (hidden gs rows) rows.region.ram (thread (engine_view gs rows) t) gs w hs sees_here g.goes;
    is = went_view;
  }

  went_thread : thread (engine_view hs (put_row rows t (row_of r w))) t ≡ w
  went_thread =
      let there = the_runner g.run.holds t g.run.runs in
      let many = how_many gs rows.standing.items 0 rows.list.items in
      let lt : t < length (engine_view gs rows).state.threads = omega (arith, there, many) in
      ap (λ (s : EngineRow). thread s t) went_view ∙ get_or-set_same (engine_view gs rows).state.threads t w nobody lt

-- ---- one after another

-- after so many thread t is w, in these rows over these granules
pub record Stands (s : EngineRow) (t n : ℕ) (w : Thread) (hs : List Granule) (rows : Rows) : Type 0 where
  pub holds : IsEngine hs rows
  pub goes : GoesFor t n s (engine_view hs rows)
  pub is : thread (engine_view hs rows) t ≡ w

-- rows count by their items
stands_by : (s : EngineRow) (t n : ℕ) (w : Thread) (hs : List Granule) (rows a b : Rows) → a.list.items ≡ b.list.items
    → Stands s t n w hs (record rows { list = a.list }) → Stands s t n w hs (record rows { list = b.list })
stands_by s t n w hs rows a b same h =
    let view : engine_view hs (record rows { list = a.list }) ≡ engine_view hs (record rows { list = b.list }) =
    ap (λ (qs : List row.Thread). seen_of hs rows qs rows.standing.items rows.running) same in
    record {
      holds = record {
        areas = subst (λ (qs : List row.Thread). AreasFrom rows.region.ram hs rows.standing.items 0 rows.region.trusted rows.region.end qs) same h.holds.areas;
        runs = h.holds.runs;
        sizes = h.holds.sizes ∙ ap (λ (qs : List row.Thread). length qs) same;
        alone = h.holds.alone;
        stacks = subst (λ (qs : List row.Thread). Each (StackLies rows.region rows.heap.range.base (8 * length hs)) (map (λ (q : row.Thread). q.area) qs)) same h.holds.stacks;
        heap = h.holds.heap;
        room = h.holds.room;
      };
      goes = subst (λ (v : EngineRow). GoesFor t n s v) view h.goes;
      is = subst (λ (v : EngineRow). thread v t ≡ w) view h.is;
    }

module _ {gs : List Granule} {rows : Rows} {t : ℕ} {r : row.Thread} (h : Runner gs rows t r) (most : ℕ)
    (opened : StaysOpen t most (engine_view gs rows)) where
  own_row : (w : Thread) → w ≡ thread (engine_view gs rows) t → rows.list.items ≡ set rows.list.items t (row_of r w)
  own_row w is =
      let same : row_of r w ≡ r = ap (λ (u : Thread). row_of r u) (is ∙ running_is h) in
      sym (ap (λ (q : row.Thread). set rows.list.items t q) (same ∙ h.is) ∙ set-get_or rows.list.items t r)

  burst_stands : (n : ℕ) (w : Thread) (hs : List Granule) → n ≤ most → raw.GoesFor rows.region.ram n (thread (engine_view gs rows) t) gs w hs
      → Stands (engine_view gs rows) t n w hs (put_row rows t (row_of r w))
  burst_stands zero w hs few g =
      stands_by (engine_view gs rows) t zero w hs rows rows (put_row rows t (row_of r w)) (own_row w g.0)
      (subst (λ (xs : List Granule). Stands (engine_view gs rows) t zero w xs rows) (sym g.1)
      (record { holds = h.holds; goes = refl; is = sym g.0 }))
  burst_stands (suc n) w hs few g =
      let mid : Thread = g.0 in
      let between : List Granule = g.1 in
      let there : Rows = put_row rows t (row_of r mid) in
      let before : Stands (engine_view gs rows) t n mid between there = burst_stands n mid between (omega (arith, few)) g.2 in
      let step : Going between there t (row_of r mid) w hs = record {
        run = record {
          holds = before.holds;
          runs = h.runs;
          is = sym (get_or-set_same rows.list.items t (row_of r mid) (row_of r mid) (the_runner h.holds t h.runs));
        };
        opened = opened n (engine_view between there) (omega (arith, few)) before.goes;
        goes = subst (λ (u : Thread). raw.GoesOnce rows.region.ram u between w hs) (sym before.is) g.3;
      } in
      stands_by (engine_view gs rows) t (suc n) w hs rows (put_row there t (row_of r w)) (put_row rows t (row_of r w))
      (set-set rows.list.items t (row_of r mid) (row_of r w))
      (record { holds = went_holds step; goes = (engine_view between there, before.goes, went_once step); is = went_thread step })

-- after a burst that took row r to q, with the frames that the thread has all the time
pub record Burst (gs : List Granule) (rows : Rows) (v : EngineRow) (t most n : ℕ) (r q : row.Thread) (hs : List Granule) : Type 0 where
  pub run : Runner gs rows t r
  pub view : engine_view gs rows ≡ v
  pub opened : StaysOpen t most v
  pub few : n ≤ most
  pub goes : (fs : List Frame) → raw.GoesFor rows.region.ram n (raw.running_thread r fs) gs (raw.running_thread q fs) hs
  pub beside : q ≡ row_of r (raw.running_thread q [])

module _ {gs : List Granule} {rows : Rows} {v : EngineRow} {t most n : ℕ} {r q : row.Thread} {hs : List Granule} (b : Burst gs rows v t most n r q hs) where
  stands : Stands (engine_view gs rows) t n (raw.running_thread q (living gs true r).frames) hs (put_row rows t q)
  stands =
      let w : Thread = raw.running_thread q (living gs true r).frames in
      subst (λ (p : row.Thread). Stands (engine_view gs rows) t n w hs (put_row rows t p)) (sym b.beside)
      (burst_stands b.run most (subst (λ (s : EngineRow). StaysOpen t most s) (sym b.view) b.opened) n w hs b.few
      (subst (λ (u : Thread). raw.GoesFor rows.region.ram n u gs w hs) (sym (running_is b.run)) (b.goes (living gs true r).frames)))

  pub burst_holds : IsEngine hs (put_row rows t q)
  burst_holds = stands.holds

  pub burst_goes : GoesFor t n v (engine_view hs (put_row rows t q))
  burst_goes = subst (λ (s : EngineRow). GoesFor t n s (engine_view hs (put_row rows t q))) b.view stands.goes

  pub burst_window : (window : Window) → IsWindow window q.pcc rows.region.ram (8 * length hs) → HasWindow (engine_view hs (put_row rows t q)) t window
  burst_window window is =
      let there = the_runner b.run.holds t b.run.runs in
      let after : Runner hs (put_row rows t q) t q =
      record { holds = burst_holds; runs = b.run.runs; is = sym (get_or-set_same rows.list.items t q q there) } in
      counter_seen after refl (λ x ram size. IsWindow window x ram size) is
