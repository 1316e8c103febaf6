-- The running thread: what is seen of it is its row, and it goes on.
use Rattle.std.proofs.Common.{ℕ, suc, ◌≡◌, ◌<◌, true, List, ◌∷◌, length, map, Some, refl, sym, ap, ◌∙◌, arith, subst}
use Rattle.std.proofs.Math.ListN.{get_or}
use Rattle.def_words.specs.declared.Cap.{Cap}
use Rattle.def_words.specs.declared.Posture.{Posture}
use Rattle.def_memory.specs.declared.Granule.{Granule}
use Rattle.def_machine.specs.State.{Thread, Frame, register}
use Rattle.def_machine.specs.Threads.{jumped}
use Rattle.def_machine.specs.Memory.{filtered_in}
use Rattle.def_machine.specs.Slices.{is_number}
use Rattle.def_step.specs.Switch.{frame_top}
use Rattle.def_areas.specs.Touches.{Touches}
use Rattle.law_areas.proofs.Changes.{unchanged}
use Rattle.law_moves.proofs.Slices.{is_itself}
use Rattle.ct_areas.specs.declared.thread.Thread as row
use Rattle.ct_areas.specs.Threads.{area_begin, area_end, living, thread_of}
use Rattle.ct_areas.specs.Parts.{inner_frame, outer_frames, register_in}
use Rattle.ct_areas.proofs.Places.{alive_is}
use Rattle.ct_areas.proofs.Rows.{frames_are}
use Rattle.ct_threads.specs.Kept.{IsKept}
use Rattle.ct_threads.specs.Rows.{row_gone}
use Rattle.ct_threads.proofs.Filtering.{row_sifted, sifted_kept}
use Rattle.ct_threads.proofs.Going.{gone_kept}
use Rattle.ct_engine.specs.declared.rows.Rows.{Rows}
use Rattle.ct_engine.specs.Seen.{EngineRow, engine_view, thread, after_jump, after_filter}
use Rattle.ct_engine.specs.Kept.{IsEngine}
use Rattle.ct_engine.proofs.Lists.{Lies}
use Rattle.ct_engine.proofs.Whole.{RowAt, Turn, turned, turn_sees, row_lies, row_thread, the_runner, map_same, filter_seen}

-- row r is that of thread t, which runs
pub record Runner (gs : List Granule) (rows : Rows) (t : ℕ) (r : row.Thread) : Type 0 where
  pub holds : IsEngine gs rows
  pub runs : rows.running ≡ Some t
  pub is : r ≡ get_or rows.list.items t r

pub runner : {gs : List Granule} {rows : Rows} {v : EngineRow} {t : ℕ} {r : row.Thread} → IsEngine gs rows → engine_view gs rows ≡ v
    → v.state.running ≡ Some t → r ≡ get_or rows.list.items t r → Runner gs rows t r
runner holds view runs is = record { holds = holds; runs = ap (λ (s : EngineRow). s.state.running) view ∙ runs; is = is }

-- ---- what is seen of it

module _ {gs : List Granule} {rows : Rows} {t : ℕ} {r : row.Thread} (h : Runner gs rows t r) where
  pub runner_row : RowAt gs rows t r true
  runner_row = record { holds = h.holds; there = the_runner h.holds t h.runs; is = h.is; on = h.holds.runs t h.runs }

  pub running_lies : Lies rows.region.ram gs true rows.region.trusted rows.region.end r
  running_lies = row_lies runner_row

  pub running_alive : 0 < r.depth
  running_alive = running_lies.kept.alive refl

  pub running_thread : thread (engine_view gs rows) t ≡ thread_of gs true r
  running_thread = row_thread runner_row

  pub running_is : thread (engine_view gs rows) t ≡ living gs true r
  running_is = running_thread ∙ alive_is gs true r running_alive

  pub register_is : (n : ℕ) → register (thread (engine_view gs rows) t) n ≡ register_in r n
  register_is n = ap (λ (u : Thread). register u n) running_is

  -- it has an innermost frame, of its row's compartment
  pub running_frames : (thread (engine_view gs rows) t).frames ≡ inner_frame gs r ∷ outer_frames gs r
  running_frames = ap (λ (u : Thread). u.frames) running_thread ∙ frames_are gs true r running_alive

  pub running_top : frame_top (thread (engine_view gs rows) t).frames ≡ r.top
  running_top = ap (λ (fs : List Frame). frame_top fs) running_frames

  pub running_some : 0 < length (thread (engine_view gs rows) t).frames
  running_some =
      let many : length (thread (engine_view gs rows) t).frames ≡ suc (length (outer_frames gs r)) = ap length running_frames in
      omega (arith, many)

  -- ---- its row changes

  pub running_turn : {hs : List Granule} {q : row.Thread} → Touches (area_begin r.area) (area_end r.area) gs hs → q.area ≡ r.area
      → IsKept hs true q → Turn gs hs rows rows t r q true true
  running_turn touches place kept = record {
    row = runner_row;
    touches = touches;
    place = place;
    kept = kept;
    on = h.holds.runs t h.runs;
    runs = ap (λ o. is_number o t) h.runs ∙ is_itself t;
    size = refl;
    others = λ u no_. refl;
    beside = λ u no_. refl;
  }

  -- beside its area's memory, so that its program counter and registers alone are others
  own_turn : (q s : row.Thread) → q ≡ s → s.area ≡ r.area → IsKept gs true s → Turn gs gs rows rows t r q true true
  own_turn q s is place kept =
      subst (λ (x : row.Thread). Turn gs gs rows rows t r x true true) (sym is)
      (running_turn (unchanged gs (area_begin r.area) (area_end r.area)) place kept)

  module _ (q : row.Thread) (pcc : Cap) (posture : Posture) (to : ℕ) (value : Cap) (gone : q ≡ row_gone r pcc posture to value) where
    pub jump_turn : Turn gs gs rows rows t r q true true
    jump_turn = own_turn q (row_gone r pcc posture to value) gone refl (gone_kept gs r pcc posture to value running_lies.kept)

    pub jump_sees : engine_view gs (turned rows rows t q) ≡ after_jump (engine_view gs rows) t pcc posture to value
    jump_sees =
        turn_sees jump_turn (jumped (thread (engine_view gs rows) t) pcc posture to value)
        (ap (λ (x : row.Thread). thread_of gs true x) gone
        ∙ alive_is gs true (row_gone r pcc posture to value) running_alive
        ∙ ap (λ (u : Thread). jumped u pcc posture to value) (sym running_is))

  -- its registers pass the load filter
  module _ (q : row.Thread) (passed : q ≡ row_sifted gs r) where
    pub filter_turn : Turn gs gs rows rows t r q true true
    filter_turn = own_turn q (row_sifted gs r) passed refl (sifted_kept gs r running_lies.kept)

    pub filter_sees : engine_view gs (turned rows rows t q) ≡ after_filter (engine_view gs rows) t
    filter_sees =
        let keep : Cap → Cap = filtered_in rows.region.ram (engine_view gs rows).state.granules in
        let with_all : Thread → List Cap → Thread = λ u cs. record u { registers = cs } in
        turn_sees filter_turn _
        (ap (λ (x : row.Thread). thread_of gs true x) passed
        ∙ alive_is gs true (row_sifted gs r) running_alive
        ∙ ap (λ cs. with_all (living gs true r) cs) (map_same (filtered_in r.area.ram gs) keep (filter_seen runner_row) r.regs)
        ∙ ap (λ (u : Thread). with_all u (map keep u.registers)) (sym running_is))
