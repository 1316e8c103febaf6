-- A trap's error handler: what is said where it is entered, and what that leaves of a row.
use Rattle.std.proofs.Common.{ℕ, ◌≡◌, ◌+◌, ◌-◌, ◌*◌, ◌/◌, ◌%◌, ◌==◌, ◌&&◌, ◌<◌, ◌≤◌, not, nat_le, if◌then◌else◌, Bool, true, false, List, [], ◌∷◌, length, Option, Some, None, refl, sym, ap, ◌∙◌, arith}
use Rattle.std.proofs.lemmas.Bool.{eqb-false, leb-true, and_parts, not-true}
use Rattle.std.specs.Prelude.{is_none}
use Rattle.std.specs.Int.{is_in_range}
use Rattle.law_lists.proofs.Tests.{none_is}
use Rattle.def_words.specs.declared.Trap.{Trap}
use Rattle.def_words.specs.Authority.{cap_address, cap_base}
use Rattle.def_memory.specs.declared.Granule.{Granule}
use Rattle.def_machine.specs.State.{Thread, Frame}
use Rattle.def_step.specs.Checks.{first_failed}
use Rattle.def_step.specs.Switch.{stack_checks}
use Rattle.def_step.specs.declared.TheConstants.{TRAP_RECORD}
use Rattle.def_step.specs.Handlers.{Handed, has_room, record_end, handled_by}
use Rattle.ct_areas.specs.declared.thread.Thread as row
use Rattle.ct_areas.specs.Threads.{living, thread_of}
use Rattle.ct_areas.specs.Parts.{register_in, inner_frame, outer_frames}
use Rattle.ct_areas.proofs.Places.{alive_is}
use Rattle.ct_areas.proofs.Rows.{frames_are}
use Rattle.ct_switch.specs.Ready.{IsReady}
use Rattle.ct_switch.proofs.Failing.{AllPass, all_pass}
use Rattle.ct_threads.specs.Handling.{is_handled_in, handling_row}

-- ---- what is said where it is entered

pub record Says (t : row.Thread) (handler : ℕ) : Type 0 where
  pub some : handler ≡ 0 → ⊥
  pub low : t.area.stack + TRAP_RECORD ≤ record_end (register_in t 2)
  pub high : cap_address (register_in t 2) ≤ t.top

pub says : (t : row.Thread) (handler : ℕ) → is_handled_in t handler ≡ true → Says t handler
says t handler is =
    let outer_parts = and_parts (not (handler == 0) && not t.handling) (has_room t.area.stack t.top (register_in t 2)) is in
    let inner_parts = and_parts (not (handler == 0)) (not t.handling) outer_parts.0 in
    let room = and_parts (is_none (first_failed (stack_checks t.area.stack t.top (register_in t 2)))) (nat_le (t.area.stack + TRAP_RECORD) (record_end (register_in t 2))) outer_parts.1 in
    let all : AllPass (stack_checks t.area.stack t.top (register_in t 2)) =
    all_pass (stack_checks t.area.stack t.top (register_in t 2)) (none_is (first_failed (stack_checks t.area.stack t.top (register_in t 2))) room.0) in
    let range = and_parts (cap_base (register_in t 2) == t.area.stack) (is_in_range t.area.stack t.top (cap_address (register_in t 2))) all.1.1.1.0 in
    let ends = and_parts (nat_le t.area.stack (cap_address (register_in t 2))) (nat_le (cap_address (register_in t 2)) t.top) range.1 in
    record {
      some = eqb-false handler 0 (not-true (handler == 0) inner_parts.0);
      low = leb-true (t.area.stack + TRAP_RECORD) (record_end (register_in t 2)) room.1;
      high = leb-true (cap_address (register_in t 2)) t.top ends.1;
    }

-- what the place of the record tells
pub place_some : (b : Bool) (x at : ℕ) → Some at ≡ (if b then Some x else None) → (true ≡ b) × (at ≡ x)
place_some true x at e = (refl, cc)
place_some false x at e = absurd cc

pub place_none : (b : Bool) (x : ℕ) → (let o : Option ℕ = None in o) ≡ (if b then Some x else None) → false ≡ b
place_none true x e = absurd cc
place_none false x e = refl

-- the record lies in RAM, at a multiple of 16
pub record RecordLies (gs : List Granule) (t : row.Thread) (at : ℕ) : Type 0 where
  pub low : t.area.ram ≤ at
  pub inside : at + TRAP_RECORD ≤ t.area.ram + 8 * length gs
  pub whole : at % 16 ≡ 0

pub record_lies : (gs : List Granule) (t : row.Thread) (handler at : ℕ) → IsReady gs t → Says t handler → at ≡ record_end (register_in t 2) - TRAP_RECORD → RecordLies gs t at
record_lies gs t handler at ready say is =
    let both = numbers t.area.ram t.area.stack t.area.stack_length t.top (cap_address (register_in t 2)) at (8 * length gs) is say.low say.high ready.high ready.stack.low ready.stack.high in
    record { low = both.0; inside = both.1; whole = both.2 }
  where
    numbers : (ram stack long top c at size : ℕ) → at ≡ c / 16 * 16 - 80 → stack + 80 ≤ c / 16 * 16 → c ≤ top → top ≤ stack + long → ram ≤ stack → stack + long ≤ ram + size
        → (ram ≤ at) × (at + 80 ≤ ram + size) × (at % 16 ≡ 0)
    numbers ram stack long top c at size is low high under start end = (omega (arith, is, low, start), omega (arith, is, low, high, under, end), omega (arith, is))

-- ---- the row in the handler

-- the thread in the handler, by its frames
abbrev pub handled_over : Handed → Thread → Trap → List Frame → Thread
handled_over h old why [] = old
handled_over h old why (f ∷ fs) = handled_by h old why f fs

pub handled_thread : (gs : List Granule) (t : row.Thread) (h : Handed) (why : Trap) → 0 < t.depth
    → thread_of gs true (handling_row h t why) ≡ handled_over h (thread_of gs true t) why (thread_of gs true t).frames
handled_thread gs t h why some =
    let frames : (living gs true (handling_row h t why)).frames ≡ inner_frame gs (handling_row h t why) ∷ outer_frames gs (handling_row h t why) =
    ap (λ (u : Thread). u.frames) (sym (alive_is gs true (handling_row h t why) some)) ∙ frames_are gs true (handling_row h t why) some in
    alive_is gs true (handling_row h t why) some
    ∙ ap (λ (fs : List Frame). let l : Thread = record (living gs true (handling_row h t why)) { frames = fs } in l) frames
    ∙ ap (λ (old : Thread). handled_by h old why (inner_frame gs t) (outer_frames gs t)) (sym (alive_is gs true t some))
    ∙ ap (λ (fs : List Frame). handled_over h (thread_of gs true t) why fs) (sym (frames_are gs true t some))
