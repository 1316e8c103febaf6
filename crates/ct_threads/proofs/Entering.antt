-- A call: where the switch enters, and what is kept of the row.
use Rattle.std.proofs.Common.{ℕ, ◌≡◌, ◌+◌, ◌-◌, ◌^◌, ◌==◌, ◌<◌, ◌≤◌, inl, inr, Bool, true, nat_lt, List, length, Option, Some, None, refl, sym, ap, ◌∙◌, arith, subst}
use Rattle.std.proofs.lemmas.Bool.{eqb-false}
use Rattle.std.proofs.Math.Nat.{div-mul-le_self}
use Rattle.ct_entry.specs.Listed.{Listed}
use Rattle.law_lists.proofs.Tests.{lt_tells, chosen}
use Rattle.def_words.specs.declared.Trap.{Trap}
use Rattle.def_words.specs.Authority.{cap_address}
use Rattle.def_memory.specs.declared.Granule.{Granule}
use Rattle.def_memory.specs.Ranges.{zeroed_from}
use Rattle.def_reach.specs.Roots.{gate_for}
use Rattle.def_machine.specs.State.{Thread, Frame, register}
use Rattle.def_step.specs.Checks.{first_failed}
use Rattle.def_step.specs.Switch.{Switched, Trapped, TooDeep, NoStack, Enters, switch_checks, room_of, room_exponent, new_top, called, with_room, past_checks, switch_of}
use Rattle.def_areas.specs.Touches.{Touches}
use Rattle.law_areas.proofs.Frames.{frames_count}
use Rattle.ct_areas.specs.declared.thread.Thread as row
use Rattle.ct_areas.specs.Threads.{area_begin, area_end, thread_of, frames_most}
use Rattle.ct_areas.specs.Parts.{deeper}
use Rattle.ct_areas.proofs.Places.{frames_of}
use Rattle.ct_areas.proofs.Rows.{pushed_touches}
use Rattle.ct_switch.specs.Exports.{callee_of, export_of}
use Rattle.ct_switch.specs.Ready as ready
use Rattle.ct_switch.specs.Calls.{switch_in, memory_after, row_after, given_in, entered_row}
use Rattle.ct_switch.proofs.Failing.{checks_passed}
use Rattle.ct_threads.specs.Kept.{IsKept}
use Rattle.ct_threads.specs.Rows.{cleared}
use Rattle.ct_threads.proofs.Beside.{kept_as, kept_beside}
use Rattle.ct_threads.proofs.Clean.{pushed_kept}

pub thread_depth : (gs : List Granule) (runs : Bool) (r : row.Thread) → length (thread_of gs runs r).frames ≡ r.depth
thread_depth gs runs r = ap (λ (fs : List Frame). length fs) (frames_of gs runs r) ∙ frames_count gs (area_begin r.area) r.actor r.top r.handling r.depth

-- ---- the switch

-- where it enters: its checks passed, there is room for a frame, and what it enters
pub record EntersBy (e : Listed) (base top most : ℕ) (caller : Thread) (export high : ℕ) : Type 0 where
  pub passed : first_failed (switch_checks base top caller) ≡ None
  pub room : length caller.frames ≡ most → ⊥
  pub export_is : export ≡ called e caller
  pub high_is : high ≡ new_top base (cap_address (register caller 2))

pub enters_by : (e : Listed) (base top most : ℕ) (caller : Thread) (export high : ℕ) → switch_of e base top most caller ≡ Enters export high
    → EntersBy e base top most caller export high
enters_by e base top most caller export high is = by_failed (first_failed (switch_checks base top caller)) refl is
  where
    by_failed : (o : Option Trap) → first_failed (switch_checks base top caller) ≡ o → past_checks e base most caller o ≡ Enters export high
        → EntersBy e base top most caller export high
    by_failed (Some why) failed same = absurd cc
    by_failed None failed same =
        chosen (λ (w : Switched). w ≡ Enters export high → EntersBy e base top most caller export high) (length caller.frames == most)
        TooDeep (with_room e base (new_top base (cap_address (register caller 2))) (called e caller))
        (λ deep so. absurd cc)
        (λ free. chosen (λ (w : Switched). w ≡ Enters export high → EntersBy e base top most caller export high)
        (nat_lt (new_top base (cap_address (register caller 2)) - base) (gate_for e.gates (called e caller)).stack)
        NoStack (Enters (called e caller) (new_top base (cap_address (register caller 2))))
        (λ little so. absurd cc)
        (λ fits so. record {
          passed = failed;
          room = eqb-false (length caller.frames) most free;
          export_is = cc;
          high_is = cc;
        }))
        same

-- the new top is at most the frame's
pub top_under : (e : Listed) (base top most : ℕ) (caller : Thread) (export high : ℕ) → EntersBy e base top most caller export high → high ≤ top
top_under e base top most caller export high by =
    let passed = checks_passed base top (register caller 1) (register caller 6) (register caller 2) by.passed in
    let low = passed.low in
    let below = passed.high in
    let room : room_of (cap_address (register caller 2) - base) ≤ cap_address (register caller 2) - base =
    div-mul-le_self (cap_address (register caller 2) - base) (2 ^ room_exponent (cap_address (register caller 2) - base)) in
    let is = by.high_is in
    numbers base (cap_address (register caller 2)) (room_of (cap_address (register caller 2) - base)) top high low below room is
  where
    numbers : (b a r top high : ℕ) → b ≤ a → a ≤ top → r ≤ a - b → high ≡ b + r → high ≤ top
    numbers b a r top high low below room is = omega (arith, low, below, room, is)

-- ---- what it leaves of the row

pub record CallKeeps (gs hs : List Granule) (t q : row.Thread) (w : Switched) : Type 0 where
  pub kept : IsKept hs true q
  pub area : q.area ≡ t.area
  pub touches : Touches (area_begin t.area) (area_end t.area) (cleared gs t w) hs

row_unchanged : (gs hs : List Granule) (t q : row.Thread) (w : Switched) → IsKept gs true t → hs ≡ gs → q ≡ t → cleared gs t w ≡ gs → CallKeeps gs hs t q w
row_unchanged gs hs t q w k memory same none = record {
  kept = rw (memory, same) k;
  area = ap (λ (u : row.Thread). u.area) same;
  touches = rw (memory, none) (record { size = refl; marks = λ n. refl; rest = λ n out. refl });
}

pub call_keeps : (gs hs : List Granule) (e : Listed) (t q : row.Thread) → IsKept gs true t → ready.IsReady gs t → (w : Switched) → switch_in gs e t ≡ w
    → hs ≡ memory_after gs t w → q ≡ row_after gs e t w → CallKeeps gs hs t q w
call_keeps gs hs e t q k r (Trapped why) is memory row_is = row_unchanged gs hs t q (Trapped why) k memory row_is refl
call_keeps gs hs e t q k r TooDeep is memory row_is = row_unchanged gs hs t q TooDeep k memory row_is refl
call_keeps gs hs e t q k r NoStack is memory row_is = row_unchanged gs hs t q NoStack k memory row_is refl
call_keeps gs hs e t q k r (Enters export high) is memory row_is =
    let by = enters_by e t.area.stack t.top (frames_most t.area) (thread_of gs true t) export high is in
    let room : t.depth < frames_most t.area = less t.depth (frames_most t.area) k.room (λ same. by.room (thread_depth gs true t ∙ same)) in
    let under = top_under e t.area.stack t.top (frames_most t.area) (thread_of gs true t) export high by in
    let top = r.high in
    let ms : List Granule = zeroed_from t.area.stack high t.area.ram gs in
    let km : IsKept ms true t = kept_beside gs gs t t high true r (omega (arith, under, top)) refl k in
    let touches : Touches (area_begin t.area) (area_end t.area) ms hs =
    subst (λ (l : List Granule). Touches (area_begin t.area) (area_end t.area) ms l) (sym memory) (pushed_touches ms t export km.area room) in
    let deep : IsKept hs true (deeper t (callee_of e export) high) = pushed_kept ms hs t (callee_of e export) export high km room memory touches in
    record {
      kept = subst (λ (u : row.Thread). IsKept hs true u) (sym row_is)
          (kept_as hs true (deeper t (callee_of e export) high) (entered_row t (export_of e export) high (given_in gs e t export high)) deep refl refl refl);
      area = ap (λ (u : row.Thread). u.area) row_is;
      touches = touches;
    }
  where
    less : (a b : ℕ) → a ≤ b → (a ≡ b → ⊥) → a < b
    less a b le other = elim (lt_tells a b) [ inl x ↦ x.1 | inr x ↦ absurd (other (omega (arith, le, x.1))) ]
