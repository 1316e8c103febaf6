-- What a frame's end leaves, where it was the last and where another goes on.
use Rattle.std.proofs.Common.{ℕ, ◌≡◌, ◌+◌, ◌-◌, ◌*◌, ◌==◌, ◌<◌, inl, inr, Bool, true, false, nat_lt, cond, List, length, slice_index_or, refl, sym, ap, ◌∙◌, arith, subst}
use Rattle.law_lists.proofs.Tests.{eq_tells, lt_tells}
use Rattle.law_granules.proofs.Lists.{zeroed_length}
use Rattle.ct_entry.specs.Listed.{Listed}
use Rattle.def_reach.specs.Roots.{root_of}
use Rattle.def_words.specs.declared.Cap.{Cap}
use Rattle.def_words.specs.declared.Posture.{Posture}
use Rattle.def_words.specs.Jumped.{opened}
use Rattle.def_words.specs.Seals.{cap_seal, posture_through}
use Rattle.def_memory.specs.declared.Granule.{Granule}
use Rattle.def_memory.specs.Granules.{plain}
use Rattle.def_memory.specs.Ranges.{zeroed_from}
use Rattle.def_machine.specs.State.{Thread, Frame}
use Rattle.ct_areas.specs.declared.thread.Area.{Area}
use Rattle.ct_areas.specs.declared.thread.Thread as row
use Rattle.ct_areas.specs.Threads.{thread_of}
use Rattle.ct_areas.specs.Parts.{IsSpan, register_in, caller_row, without_frame, frame_address, shallower, inner_frame, outer_frames, filtered_frame, caller_registers}
use Rattle.ct_switch.specs.Ready.{IsReady}
use Rattle.ct_switch.specs.Calls.{handed, returned_by, thread_left, memory_left, row_left, ended_row, restored_row}
use Rattle.ct_switch.proofs.Threads.{stack_span, order_back, left_at, left_last, left_is, left_dressed, dressed}

pub popped_size : (gs ms : List Granule) (t : row.Thread) → ms ≡ without_frame gs t → length ms ≡ length gs
popped_size gs ms t is =
    ap length is ∙ zeroed_length (frame_address t.area (t.depth - 1)) (frame_address t.area (t.depth - 1) + 64) t.area.ram gs

area_kept : (gs : List Granule) (t q : row.Thread) → q ≡ shallower gs t → q.area ≡ t.area
area_kept gs t q is = ap (λ (r : row.Thread). r.area) is

-- the stack up to the frame's top, after the frame went
pub span_after : (gs ms : List Granule) (t q : row.Thread) → IsReady gs t → ms ≡ without_frame gs t → q ≡ shallower gs t
    → IsSpan q.area.ram (8 * length ms) q.area.stack (q.area.stack + (t.top - t.area.stack))
span_after gs ms t q ready popped row_is =
    let span : IsSpan t.area.ram (8 * length gs) t.area.stack t.top = stack_span gs t t.top ready ready.low (omega arith) ready.even in
    let whole : IsSpan t.area.ram (8 * length gs) t.area.stack (t.area.stack + (t.top - t.area.stack)) =
    subst (λ h. IsSpan t.area.ram (8 * length gs) t.area.stack h) (sym (order_back t.area.stack t.top ready.low)) span in
    let sized : IsSpan t.area.ram (8 * length ms) t.area.stack (t.area.stack + (t.top - t.area.stack)) =
    subst (λ n. IsSpan t.area.ram (8 * n) t.area.stack (t.area.stack + (t.top - t.area.stack))) (sym (popped_size gs ms t popped)) whole in
    subst (λ (a : Area). IsSpan a.ram (8 * length ms) a.stack (a.stack + (t.top - t.area.stack))) (sym (area_kept gs t q row_is)) sized

-- the same where the row is the caller's already
pub span_so : (gs ms : List Granule) (t made q : row.Thread) (kept : Frame) (first second : Cap) → IsReady gs t
    → made ≡ restored_row t (inner_frame gs t) kept first second → ms ≡ without_frame gs made → q ≡ shallower gs made
    → IsSpan q.area.ram (8 * length ms) q.area.stack (q.area.stack + (t.top - t.area.stack))
span_so gs ms t made q kept first second ready made_is popped row_is =
    let now : q ≡ restored_row (shallower gs t) (inner_frame gs t) kept first second = row_is ∙ ap (λ r. shallower gs r) made_is in
    rw now (span_after gs ms t (shallower gs t) ready (popped ∙ ap (λ r. without_frame gs r) made_is) refl)

cleared_after : (gs ms hs : List Granule) (t q : row.Thread) → IsReady gs t → q ≡ shallower gs t
    → hs ≡ zeroed_from q.area.stack (q.area.stack + (t.top - t.area.stack)) q.area.ram ms → hs ≡ zeroed_from t.area.stack t.top t.area.ram ms
cleared_after gs ms hs t q ready row_is cleared =
    cleared ∙ ap (λ (a : Area). zeroed_from a.stack (a.stack + (t.top - t.area.stack)) a.ram ms) (area_kept gs t q row_is)
    ∙ ap (λ h. zeroed_from t.area.stack h t.area.ram ms) (order_back t.area.stack t.top ready.low)

-- a row that became the caller's, and then its program counter capability opened, and its posture by the saved c1
pub restored_so : (gs : List Granule) (t q : row.Thread) (pcc : Cap) (link : ℕ × ℕ) (posture : Posture) → q ≡ caller_row gs t
    → link ≡ (cap_seal (inner_frame gs t).c1, (inner_frame gs t).c1.shadow.source) → pcc ≡ opened q.pcc → posture ≡ posture_through q.posture link.0 0 link.1
    → record q { pcc = pcc; posture = posture }
    ≡ restored_row t (inner_frame gs t) (filtered_frame gs t.area.ram (inner_frame gs t)) (register_in t 10) (register_in t 11)
restored_so gs t q pcc link posture row_is link_is pcc_is posture_is =
    rw (pcc_is, posture_is, link_is, row_is) refl

-- all that is said of an end with these two results; `goes` tells whether another frame goes on
pub record Left (gs hs : List Granule) (t new : row.Thread) (first second : Cap) (goes : Bool) : Type 0 where
  pub result : goes ≡ nat_lt 1 t.depth
  pub thread : thread_of hs true new ≡ thread_left gs t (λ f. first) (λ f. second)
  pub memory : hs ≡ memory_left gs t
  pub row : new ≡ row_left gs t (λ f. first) (λ f. second)

last_one : (n : ℕ) → n ≡ 1 → (false ≡ nat_lt 1 n) × ((n == 1) ≡ true)
last_one n is = elim (lt_tells 1 n) [
  | inl e ↦ absurd (omega (arith, is, e.1))
  | inr e ↦ (sym e.0, elim (eq_tells n 1) [ inl d ↦ d.0 | inr d ↦ absurd (d.1 is) ])
]

more_ones : (n : ℕ) → 1 < n → (true ≡ nat_lt 1 n) × ((n == 1) ≡ false)
more_ones n lt = elim (lt_tells 1 n) [
  | inl e ↦ (sym e.0, elim (eq_tells n 1) [ inl d ↦ absurd (omega (arith, lt, d.1)) | inr d ↦ d.0 ])
  | inr e ↦ absurd (omega (arith, lt, e.1))
]

cond_true : (b : Bool) (x y : row.Thread) → b ≡ true → x ≡ cond b x y
cond_true b x y is = rw is refl

cond_false : (b : Bool) (x y : row.Thread) → b ≡ false → y ≡ cond b x y
cond_false b x y is = rw is refl

above : (n : ℕ) → (n ≡ 0 → ⊥) → 0 < n
above n other = elim (lt_tells 0 n) [ inl e ↦ e.1 | inr e ↦ absurd (let zero_it : n ≡ 0 = omega (arith, e.1) in other zero_it) ]

pub left_ends : (gs ms hs : List Granule) (t q new : row.Thread) (first second : Cap) → IsReady gs t → ms ≡ without_frame gs t
    → q ≡ shallower gs t → hs ≡ zeroed_from q.area.stack (q.area.stack + (t.top - t.area.stack)) q.area.ram ms
    → q.depth ≡ 0 → new ≡ ended_row q → Left gs hs t new first second false
left_ends gs ms hs t q new first second ready popped row_is cleared none ended =
    let alive : 0 < t.depth = ready.alive in
    let less : q.depth ≡ t.depth - 1 = ap (λ (r : row.Thread). r.depth) row_is in
    let one : t.depth ≡ 1 = omega (arith, none, less, alive) in
    let tests = last_one t.depth one in
    record {
      result = tests.0;
      thread = ap (λ r. thread_of hs true r) ended ∙ sym (left_last gs t (λ f. first) (λ f. second) one);
      memory = cleared_after gs ms hs t q ready row_is cleared ∙ ap (λ l. zeroed_from t.area.stack t.top t.area.ram l) popped;
      row = ended ∙ ap (λ r. ended_row r) row_is
          ∙ cond_true (t.depth == 1) (ended_row t) (restored_row (shallower gs t) (inner_frame gs t) (filtered_frame gs t.area.ram (inner_frame gs t)) first second) tests.1;
    }

pub left_goes : (gs ms hs : List Granule) (t q new : row.Thread) (kept : Frame) (first second : Cap) → IsReady gs t → ms ≡ without_frame gs t
    → q ≡ shallower gs t → hs ≡ zeroed_from q.area.stack (q.area.stack + (t.top - t.area.stack)) q.area.ram ms
    → (q.depth ≡ 0 → ⊥) → (thread_of ms true q).frames ≡ outer_frames gs t → kept ≡ filtered_frame gs t.area.ram (inner_frame gs t)
    → new ≡ restored_row q (inner_frame gs t) kept first second → Left gs hs t new first second true
left_goes gs ms hs t q new kept first second ready popped row_is cleared some frames kept_is made =
    let less : q.depth ≡ t.depth - 1 = ap (λ (r : row.Thread). r.depth) row_is in
    let inner : 0 < q.depth = above q.depth some in
    let more : 1 < t.depth = omega (arith, less, inner) in
    let tests = more_ones t.depth more in
    let clean : hs ≡ zeroed_from t.area.stack t.top t.area.ram ms = cleared_after gs ms hs t q ready row_is cleared in
    let new_is : new ≡ restored_row q (inner_frame gs t) (filtered_frame gs t.area.ram (inner_frame gs t)) first second =
    made ∙ ap (λ k. restored_row q (inner_frame gs t) k first second) kept_is in
    record {
      result = tests.0;
      thread = ap (λ r. thread_of hs true r) new_is ∙ left_is gs ms hs t q first second ready (popped_size gs ms t popped) frames row_is clean inner;
      memory = clean ∙ ap (λ l. zeroed_from t.area.stack t.top t.area.ram l) popped;
      row = new_is ∙ ap (λ r. restored_row r (inner_frame gs t) (filtered_frame gs t.area.ram (inner_frame gs t)) first second) row_is
          ∙ cond_false (t.depth == 1) (ended_row t) (restored_row (shallower gs t) (inner_frame gs t) (filtered_frame gs t.area.ram (inner_frame gs t)) first second) tests.1;
    }

-- where the row is the caller's already when its frame goes
pub left_ends_so : (gs ms hs : List Granule) (t made q new : row.Thread) (kept : Frame) (first second : Cap) → IsReady gs t
    → made ≡ restored_row t (inner_frame gs t) kept first second → ms ≡ without_frame gs made → q ≡ shallower gs made
    → hs ≡ zeroed_from q.area.stack (q.area.stack + (t.top - t.area.stack)) q.area.ram ms → q.depth ≡ 0 → new ≡ ended_row q
    → Left gs hs t new first second false
left_ends_so gs ms hs t made q new kept first second ready made_is popped row_is cleared none ended =
    let now : q ≡ restored_row (shallower gs t) (inner_frame gs t) kept first second = row_is ∙ ap (λ r. shallower gs r) made_is in
    left_ends gs ms hs t (shallower gs t) new first second ready (popped ∙ ap (λ r. without_frame gs r) made_is) refl
    (cleared ∙ ap (λ (r : row.Thread). zeroed_from r.area.stack (r.area.stack + (t.top - t.area.stack)) r.area.ram ms) now)
    (sym (ap (λ (r : row.Thread). r.depth) now) ∙ none) (ended ∙ ap (λ r. ended_row r) now)

pub left_goes_so : (gs ms hs : List Granule) (t made q : row.Thread) (kept : Frame) (first second : Cap) → IsReady gs t
    → made ≡ restored_row t (inner_frame gs t) kept first second → ms ≡ without_frame gs made → q ≡ shallower gs made
    → hs ≡ zeroed_from q.area.stack (q.area.stack + (t.top - t.area.stack)) q.area.ram ms → (q.depth ≡ 0 → ⊥)
    → (thread_of ms true q).frames ≡ outer_frames gs made → kept ≡ filtered_frame gs t.area.ram (inner_frame gs t)
    → Left gs hs t q first second true
left_goes_so gs ms hs t made q kept first second ready made_is popped row_is cleared some frames kept_is =
    let f : Frame = inner_frame gs t in
    let less : row.Thread = shallower gs t in
    let now : q ≡ restored_row less f kept first second = row_is ∙ ap (λ r. shallower gs r) made_is in
    let more : less.depth ≡ 0 → ⊥ = λ is. some (ap (λ (r : row.Thread). r.depth) now ∙ is) in
    let same : (thread_of ms true (restored_row less f kept first second)).frames ≡ (thread_of ms true less).frames =
    ap (λ (l : Thread). l.frames) (dressed ms less (opened kept.c1) (caller_registers kept first second) (posture_through less.posture (cap_seal f.c1) 0 f.c1.shadow.source) (above less.depth more)) in
    left_goes gs ms hs t less q kept first second ready (popped ∙ ap (λ r. without_frame gs r) made_is) refl
    (cleared ∙ ap (λ (r : row.Thread). zeroed_from r.area.stack (r.area.stack + (t.top - t.area.stack)) r.area.ram ms) now)
    more (sym same ∙ sym (ap (λ r. (thread_of ms true r).frames) now) ∙ frames ∙ ap (λ r. outer_frames gs r) made_is) kept_is now

-- ---- what a return hands back

row_by : List Granule → row.Thread → Cap → Cap → row.Thread
row_by gs t a b = cond (t.depth == 1) (ended_row t)
    (restored_row (shallower gs t) (inner_frame gs t) (filtered_frame gs t.area.ram (inner_frame gs t)) a b)

-- what both results are, by the frame's export
pub record Answers (gs : List Granule) (e : Listed) (t : row.Thread) (first second : Cap) : Type 0 where
  pub first_is : first ≡ returned_by e t 10 (inner_frame gs t)
  pub second_is : second ≡ returned_by e t 11 (inner_frame gs t)

pub answers_are : (gs : List Granule) (e : Listed) (t : row.Thread) (passes : Bool) (first second : Cap)
    → passes ≡ (root_of e (inner_frame gs t).export).passes → first ≡ handed passes (register_in t 10) → second ≡ handed passes (register_in t 11)
    → Answers gs e t first second
answers_are gs e t passes first second is one two = record {
  first_is = one ∙ ap (λ b. handed b (register_in t 10)) is;
  second_is = two ∙ ap (λ b. handed b (register_in t 11)) is;
}

pub answered_thread : (gs : List Granule) (e : Listed) (t : row.Thread) (first second : Cap) → 0 < t.depth → Answers gs e t first second
    → thread_left gs t (λ f. first) (λ f. second) ≡ thread_left gs t (returned_by e t 10) (returned_by e t 11)
answered_thread gs e t first second alive a =
    left_at gs t (λ f. first) (λ f. second) (returned_by e t 10) (returned_by e t 11) alive a.first_is a.second_is

pub answered_row : (gs : List Granule) (e : Listed) (t : row.Thread) (first second : Cap) → Answers gs e t first second
    → row_left gs t (λ f. first) (λ f. second) ≡ row_left gs t (returned_by e t 10) (returned_by e t 11)
unfolding row_by
answered_row gs e t first second a =
    let one : row_by gs t first second ≡ row_by gs t (returned_by e t 10 (inner_frame gs t)) second = ap (λ x. row_by gs t x second) a.first_is in
    let two : row_by gs t (returned_by e t 10 (inner_frame gs t)) second
    ≡ row_by gs t (returned_by e t 10 (inner_frame gs t)) (returned_by e t 11 (inner_frame gs t)) =
    ap (λ x. row_by gs t (returned_by e t 10 (inner_frame gs t)) x) a.second_is in
    one ∙ two

-- ---- results that stand in a row's registers 10 and 11

-- a row that, with other registers, may leave as this one does, with the results that stand there
pub record Stands (gs : List Granule) (t made : row.Thread) (first second : Cap) : Type 0 where
  pub ready : IsReady gs made
  pub thread : thread_left gs made (λ f. register_in made 10) (λ f. register_in made 11) ≡ thread_left gs t (λ f. first) (λ f. second)
  pub row : row_left gs made (λ f. register_in made 10) (λ f. register_in made 11) ≡ row_left gs t (λ f. first) (λ f. second)

pub stands : (gs : List Granule) (t : row.Thread) (rs : List Cap) (first second : Cap) → IsReady gs t
    → slice_index_or rs 10 (plain 0) ≡ first → slice_index_or rs 11 (plain 0) ≡ second → Stands gs t (record t { regs = rs }) first second
unfolding row_by
stands gs t rs first second ready ten eleven =
    let made : row.Thread = record t { regs = rs } in
    record {
      ready = record { area = ready.area; stack = ready.stack; alive = ready.alive; room = ready.room; low = ready.low; high = ready.high; even = ready.even };
      thread = ap (λ c. thread_left gs made (λ f. c) (λ f. register_in made 11)) ten ∙ ap (λ c. thread_left gs made (λ f. first) (λ f. c)) eleven
          ∙ left_dressed gs t rs (λ f. first) (λ f. second) ready.alive;
      row = ap (λ c. row_by gs made c (register_in made 11)) ten ∙ ap (λ c. row_by gs made first c) eleven;
    }
