-- A sweep ends: the painted leave, and nothing of them is left.
use Rattle.std.proofs.Common.{ℕ, zero, suc, ◌≡◌, ◌+◌, ◌-◌, ◌*◌, ◌≤◌, ◌<◌, inl, inr, ◌&&◌, ◌||◌, Bool, true, false, cond, nat_le, nat_lt, take, slice_index_or, length, List, [], ◌∷◌, Option, Some, None, refl, sym, ap, ◌∙◌, subst, arith}
use Rattle.std.proofs.Math.ListN.{get_or}
use Rattle.std.proofs.lemmas.List.{get_or_past}
use Rattle.std.proofs.lemmas.Bool.{or_parts}
use Rattle.def_profile.specs.Areas.{frame_after}
use Rattle.law_lists.proofs.Tests.{bool_tells, both_left, both_right, chosen, le_tells, lt_tells}
use Rattle.def_words.specs.declared.Cap.{Cap}
use Rattle.def_memory.specs.declared.Granule.{Granule}
use Rattle.def_memory.specs.Granules.{plain, nothing}
use Rattle.def_machine.specs.Image.{Image, address_of, area_of, areas_size, frames_most}
use Rattle.def_machine.specs.State.{State, Thread, Frame, Object, thread, register, granule, nobody}
use Rattle.def_machine.specs.Objects.{Any, Each, InChunk, has_quarantined, painted, unpainted, is_painted_at}
use Rattle.def_machine.specs.Heap.{sweep_over, ram_size, ended_sweep, sweep_on, sweep_began, with_slice, slice_end, swept, sliced}
use Rattle.def_machine.specs.Slices.{kept_frame, kept_frames, marks_cleared, is_number}
use Rattle.def_confined.specs.Places.{HasLive, Covers, LiveCovers, LiveAt}
use Rattle.def_confined.specs.Confined.{Confined, Apart, AllApart, ObjectFits, MarksAt, MarksFit}
use Rattle.def_confined.specs.Partitioned.{Partitioned}
use Rattle.def_confined.specs.Changes.{Fades, FramesFade, ThreadFades, StateFades}
use Rattle.def_confined.specs.Holding.{EndFits, EndsFit}
use Rattle.def_confined.specs.Keeps.{Keeps}
use Rattle.def_confined.specs.Swept.{HasUnpainted, IsPassed, FramesSwept, Swept, Bounded}
use Rattle.law_moves.proofs.Rows.{any_map, each_map, each_any, one_row, left_any, any_left, left_each, left_apart, left_charges}
use Rattle.law_moves.proofs.Fades.{faded_confined}
use Rattle.law_moves.proofs.Derives.{code_no_heap}
use Rattle.law_moves.proofs.Slices.{slice_confined, live_unpainted, number_is, is_itself, thread_sliced}
use Rattle.law_moves.proofs.Passes.{slice_swept, slice_bounded}
use Rattle.law_moves.proofs.Begins.{begun_confined, begun_swept, begun_bounded}

-- ---- areas lie in RAM

area_there : (ns : List ℕ) (t : ℕ) → t < length ns → frame_after (areas_size (take t ns)) (slice_index_or ns t 0) ≤ areas_size ns
area_there [] t lt = absurd (omega (arith, lt))
area_there (n ∷ ns) zero lt = omega arith
area_there (n ∷ ns) (suc t) lt = let rest = area_there ns t (omega (arith, lt)) in omega (arith, rest)

-- ---- what leaves and what stays

stays : (i : Image) (s : State) (c : Cap) → HasUnpainted i s.objects c → Fades i s.objects (unpainted s.objects) c c
stays i s c h = inr (refl, λ tagged has heap some. left_any (Covers c) s.objects (h tagged heap some))

live_is_unpainted : (i : Image) (s : State) (c : Cap) → Confined i s → HasLive i s.objects c → HasUnpainted i s.objects c
live_is_unpainted i s c h has tagged heap some = live_unpainted i s.next s.objects c h.fits (has tagged heap some)

-- a sweep that has passed all of RAM
pub record Passed (i : Image) (s : State) (front : ℕ) : Type 0 where
  pub parts : Partitioned i
  pub held : Confined i s
  pub done : Swept i s
  pub bound : Bounded i s
  pub on : s.front ≡ Some front
  pub all : 8 * length s.granules ≤ front

pub is_passed : (i : Image) (s : State) (front x : ℕ) → s.front ≡ Some front → x < front → IsPassed s.front x
is_passed i s front x on lt = subst (λ o. IsPassed o x) (sym on) lt

pub thread_ends : (i : Image) (s : State) (front t : ℕ) → Passed i s front → t < length s.threads → frame_after (area_of i t - i.ram) (frames_most i t) ≤ front
thread_ends i s front t w lt =
    let there = area_there i.frames t (let m = w.bound.many in omega (arith, lt, m)) in
    let fits = w.bound.fits in
    let areas = w.bound.areas in
    let all = w.all in
    sums (areas_size (take t i.frames)) (64 * frames_most i t) (areas_size i.frames) i.trusted i.ram (length s.granules) front there fits areas all
  where
    sums : (a b c trusted ram n front : ℕ) → a + 160 + b ≤ c → trusted + c ≤ ram + 8 * n → ram ≤ trusted → 8 * n ≤ front → trusted + a - ram + 160 + b ≤ front
    sums a b c trusted ram n front one two three four = omega (arith, one, two, three, four)

pub granule_stays : (i : Image) (s : State) (front k : ℕ) → Passed i s front → HasUnpainted i s.objects (granule s k).cap
granule_stays i s front k w = elim (lt_tells k (length s.granules)) [
  | inl e ↦ w.done.granules k (is_passed i s front (8 * k) w.on (let lt = e.1 in let all = w.all in omega (arith, lt, all)))
  | inr e ↦ λ tagged. absurd (let clash : true ≡ false = sym tagged ∙ ap (λ (g : Granule). g.cap.tag) (get_or_past s.granules k nothing e.1) in cc)
]

pub idle_stays : (i : Image) (s : State) (front t n : ℕ) → Passed i s front → (s.running ≡ Some t → ⊥) → HasUnpainted i s.objects (register (thread s t) n)
idle_stays i s front t n w idle = elim (lt_tells t (length s.threads)) [
  | inl e ↦ elim (lt_tells n (length (thread s t).registers)) [
    | inl f ↦ w.done.registers t n idle
        (is_passed i s front (area_of i t - i.ram + 8 * n) w.on (let ends = thread_ends i s front t w e.1 in let few = w.bound.few t in let lt = f.1 in omega (arith, ends, few, lt)))
    | inr f ↦ λ tagged. absurd (let clash : true ≡ false = sym tagged ∙ ap (λ (c : Cap). c.tag) (get_or_past (thread s t).registers n (plain 0) f.1) in cc)
  ]
  | inr e ↦ λ tagged. absurd (let clash : true ≡ false = sym tagged ∙ ap (λ (x : Thread). (register x n).tag) (get_or_past s.threads t nobody e.1) in cc)
]

register_stays : (i : Image) (s : State) (front t n : ℕ) → Passed i s front → HasUnpainted i s.objects (register (thread s t) n)
register_stays i s front t n w = elim (bool_tells (is_number s.running t)) [
  | inl runs ↦ live_is_unpainted i s (register (thread s t) n) w.held (w.held.live t (number_is s.running t runs) n)
  | inr idle ↦ idle_stays i s front t n w (λ runs. absurd (let clash : true ≡ false = sym (ap (λ o. is_number o t) runs ∙ is_itself t) ∙ idle in cc))
]

frames_keep : (i : Image) (s : State) (front area : ℕ) (fs : List Frame) → s.front ≡ Some front → frame_after area (length fs) ≤ front → FramesSwept i s.objects s.front area fs → FramesFade i s.objects (unpainted s.objects) fs fs
frames_keep i s front area [] on le w = tt
frames_keep i s front area (f ∷ fs) on le w = (
  record {
    actor = refl;
    export = refl;
    same_top = refl;
    c1 = stays i s f.c1 (w.0.c1 (is_passed i s front _ on (low 0 refl)));
    c2 = stays i s f.c2 (w.0.c2 (is_passed i s front _ on (omega (arith, le))));
    c3 = stays i s f.c3 (w.0.c3 (is_passed i s front _ on (omega (arith, le))));
    c8 = stays i s f.c8 (w.0.c8 (is_passed i s front _ on (omega (arith, le))));
    c9 = stays i s f.c9 (w.0.c9 (is_passed i s front _ on (omega (arith, le))));
    returns = λ tagged is rooted. refl;
  },
  frames_keep i s front area fs on (omega (arith, le)) w.1,
)
  where
    low : (n : ℕ) → n ≡ 0 → frame_after area (length fs) < front
    low n e = omega (arith, le)

thread_keeps : (i : Image) (s : State) (front t : ℕ) → Passed i s front → ThreadFades i s.objects (unpainted s.objects) (thread s t) (thread s t)
thread_keeps i s front t w = record {
  pcc = stays i s (thread s t).pcc (λ tagged heap some. absurd (let clash : true ≡ false = sym heap ∙ code_no_heap i (thread s t).pcc (w.held.runs t tagged).code in cc));
  registers = λ n. stays i s (register (thread s t) n) (register_stays i s front t n w);
  frames = elim (lt_tells t (length s.threads)) [
    | inl e ↦ frames_keep i s front (area_of i t - i.ram) (thread s t).frames w.on
        (let ends = thread_ends i s front t w e.1 in let deep = w.bound.deep t in omega (arith, ends, deep)) (w.done.frames t)
    | inr e ↦ subst (λ (x : Thread). FramesFade i s.objects (unpainted s.objects) x.frames x.frames) (sym (get_or_past s.threads t nobody e.1)) tt
  ];
  posture = refl;
}

-- ---- marks

pub unmarked_cap : (rows : List Object) (x : ℕ) (gs : List Granule) (k : ℕ) → (get_or (marks_cleared rows x gs) k nothing).cap ≡ (get_or gs k nothing).cap
unmarked_cap rows x [] k = refl
unmarked_cap rows x (g ∷ gs) zero = refl
unmarked_cap rows x (g ∷ gs) (suc k) = unmarked_cap rows (x + 8) gs k

pub unmarked_length : (rows : List Object) (x : ℕ) (gs : List Granule) → length (marks_cleared rows x gs) ≡ length gs
unmarked_length rows x [] = refl
unmarked_length rows x (g ∷ gs) = ap (λ n. suc n) (unmarked_length rows (x + 8) gs)

no_mark : (b : Bool) → false ≡ cond b false false
no_mark true = refl
no_mark false = refl

unmarked_mark : (i : Image) (rows : List Object) (x : ℕ) (gs : List Granule) (k : ℕ) → (get_or (marks_cleared rows x gs) k nothing).mark ≡ cond (is_painted_at rows (x + 8 * k)) false (get_or gs k nothing).mark
unmarked_mark i rows x [] k = no_mark (is_painted_at rows (x + 8 * k))
unmarked_mark i rows x (g ∷ gs) zero = let e : x + 8 * zero ≡ x = omega arith in ap (λ n. cond (is_painted_at rows n) false g.mark) (sym e)
unmarked_mark i rows x (g ∷ gs) (suc k) =
    let e : x + 8 * suc k ≡ x + 8 + 8 * k = omega arith in
    unmarked_mark i rows (x + 8) gs k ∙ ap (λ n. cond (is_painted_at rows n) false (get_or gs k nothing).mark) (sym e)

in_chunk_tells : (r : Object) (x : ℕ) → InChunk r x → (nat_le r.base (x + 8) && nat_lt x (r.base + r.length)) ≡ true
in_chunk_tells r x h = elim (le_tells r.base (x + 8)) [
  | inl a ↦ elim (lt_tells x (r.base + r.length)) [ inl b ↦ rw (a.0, b.0) refl | inr b ↦ absurd (let lt = h.1 in let ge = b.1 in omega (arith, lt, ge)) ]
  | inr a ↦ absurd (let le = h.0 in let gt = a.1 in omega (arith, le, gt))
]

-- where no painted chunk is, what is there isn't painted
not_painted : (rows : List Object) (x : ℕ) → is_painted_at rows x ≡ false → Any (MarksAt x) rows → Any (λ r. (r.painted ≡ false) × MarksAt x r) rows
not_painted [] x none h = h
not_painted (r ∷ rs) x none (inl m) = inl (
  elim (bool_tells r.painted) [
    | inl is ↦ absurd (let both : (r.painted && nat_le r.base (x + 8) && nat_lt x (r.base + r.length)) ≡ true = rw is (in_chunk_tells r x m.1) in
        let clash : true ≡ false = sym both ∙ (or_parts (r.painted && nat_le r.base (x + 8) && nat_lt x (r.base + r.length)) (is_painted_at rs x) none).0 in cc)
    | inr not ↦ not
  ],
  m,
)
not_painted (r ∷ rs) x none (inr h) = inr (not_painted rs x (or_parts (r.painted && nat_le r.base (x + 8) && nat_lt x (r.base + r.length)) (is_painted_at rs x) none).1 h)

painted_there : (rows : List Object) (x : ℕ) → is_painted_at rows x ≡ true → Any (λ r. (r.painted ≡ true) × InChunk r x) rows
painted_there [] x h = absurd (let clash : false ≡ true = h in cc)
painted_there (r ∷ rs) x h = elim (bool_tells (r.painted && nat_le r.base (x + 8) && nat_lt x (r.base + r.length))) [
  | inl is ↦
      let two : (r.painted && nat_le r.base (x + 8)) ≡ true = both_left (r.painted && nat_le r.base (x + 8)) (nat_lt x (r.base + r.length)) is in
      inl (both_left r.painted (nat_le r.base (x + 8)) two, tells (both_right r.painted (nat_le r.base (x + 8)) two) (both_right (r.painted && nat_le r.base (x + 8)) (nat_lt x (r.base + r.length)) is))
  | inr not ↦ inr (painted_there rs x (let e : (false || is_painted_at rs x) ≡ true = ap (λ b. b || is_painted_at rs x) (sym not) ∙ h in e))
]
  where
    tells : nat_le r.base (x + 8) ≡ true → nat_lt x (r.base + r.length) ≡ true → InChunk r x
    tells le lt = (
      elim (le_tells r.base (x + 8)) [ inl a ↦ a.1 | inr a ↦ absurd (let clash : true ≡ false = sym le ∙ a.0 in cc) ],
      elim (lt_tells x (r.base + r.length)) [ inl b ↦ b.1 | inr b ↦ absurd (let clash : true ≡ false = sym lt ∙ b.0 in cc) ],
    )

meets : (r q : Object) (x : ℕ) → InChunk r x → InChunk q x → Apart r q → ⊥
meets r q x here there apart = elim apart.1 [ inl b ↦ omega (arith, b, here.0, here.1, there.0, there.1) | inr b ↦ omega (arith, b, here.0, here.1, there.0, there.1) ]

-- one granule is of one chunk
apart_painted : (rows : List Object) (x : ℕ) → AllApart rows → Any (λ r. (r.painted ≡ false) × MarksAt x r) rows → is_painted_at rows x ≡ false
apart_painted rows x apart there = elim (bool_tells (is_painted_at rows x)) [
  | inl is ↦ absurd (one_row (λ r. (r.painted ≡ true) × InChunk r x) (λ r. (r.painted ≡ false) × MarksAt x r) ⊥ rows
      (λ r q a b z. meets r q x a.1 b.1.1 z) (λ r q a b z. meets q r x b.1.1 a.1 z)
      (λ r a b. let clash : true ≡ false = sym a.0 ∙ b.0 in cc)
      apart (painted_there rows x is) there)
  | inr not ↦ not
]

cond_true : (b m : Bool) → cond b false m ≡ true → (b ≡ false) × (m ≡ true)
cond_true true m h = absurd (let clash : false ≡ true = h in cc)
cond_true false m h = (refl, h)

marks_left : (i : Image) (s : State) (k : ℕ) → Confined i s → MarksFit i (unpainted s.objects) k (granule (sweep_over i s) k).mark
marks_left i s k h =
    let is : (granule (sweep_over i s) k).mark ≡ cond (is_painted_at s.objects (address_of i k)) false (granule s k).mark = unmarked_mark i s.objects i.ram s.granules k in
    record {
      why = λ mark.
          let both = cond_true (is_painted_at s.objects (address_of i k)) (granule s k).mark (sym is ∙ mark) in
          left_any (MarksAt (address_of i k)) s.objects (not_painted s.objects (address_of i k) both.0 ((h.marks k).why both.1));
      all = λ there.
          let some = any_left (MarksAt (address_of i k)) s.objects there in
          let mark : (granule s k).mark ≡ true = (h.marks k).all (any_map (λ r. (r.painted ≡ false) × MarksAt (address_of i k) r) (MarksAt (address_of i k)) s.objects (λ r m. m.1) some) in
          is ∙ ap (λ b. cond b false (granule s k).mark) (apart_painted s.objects (address_of i k) h.apart some) ∙ mark;
    }

-- ---- the end

over_fades : (i : Image) (s : State) (front : ℕ) → Passed i s front → StateFades i s (sweep_over i s)
over_fades i s front w = record {
  caps = λ k. subst (λ c. Fades i s.objects (unpainted s.objects) (granule s k).cap c) (sym (unmarked_cap s.objects i.ram s.granules k)) (stays i s (granule s k).cap (granule_stays i s front k w));
  fixed = λ k is same. unmarked_cap s.objects i.ram s.granules k;
  domains = λ k tagged d. (
    (λ there. left_any (LiveAt i (address_of i k) d) s.objects (each_any (ObjectFits i s.next) (LiveAt i (address_of i k) d) (λ r. (r.painted ≡ false) × LiveAt i (address_of i k) d r) s.objects (λ r f m. (f.unpainted m.0, m)) w.held.fits there)),
    (λ there. any_map (λ r. (r.painted ≡ false) × LiveAt i (address_of i k) d r) (LiveAt i (address_of i k) d) s.objects (λ r m. m.1) (any_left (LiveAt i (address_of i k) d) s.objects there)),
  );
  threads = λ t. thread_keeps i s front t w;
  live = λ t runs n tagged heap some. left_any (LiveCovers (register (thread s t) n)) s.objects (each_any (ObjectFits i s.next) (LiveCovers (register (thread s t) n)) (λ r. (r.painted ≡ false) × LiveCovers (register (thread s t) n) r) s.objects (λ r f m. (f.unpainted m.0, m)) w.held.fits (w.held.live t runs n tagged heap some));
  apart = left_apart s.objects w.held.apart;
  numbered = w.held.numbered;
  fits = left_each (ObjectFits i s.next) s.objects w.held.fits;
  marks = λ k. marks_left i s k w.held;
  limits = λ q. rw (left_charges q s.objects (each_map (ObjectFits i s.next) (λ r. r.live ≡ true → r.painted ≡ false) s.objects (λ r f. f.unpainted) w.held.fits)) (w.held.limits q);
  size = unmarked_length s.objects i.ram s.granules;
}

over_confined : (i : Image) (s : State) (front : ℕ) → Passed i s front → Confined i (sweep_over i s)
over_confined i s front w = faded_confined i s (sweep_over i s) w.held (over_fades i s front w)

none_painted : (rows : List Object) → Each (λ r. r.painted ≡ false) (unpainted rows)
none_painted [] = tt
none_painted (r ∷ rs) = chosen (Each (λ q. q.painted ≡ false)) r.painted (unpainted rs) (r ∷ unpainted rs) (λ is. none_painted rs) (λ not. (not, none_painted rs))

frames_idle : (i : Image) (objects : List Object) (area : ℕ) (fs : List Frame) → FramesSwept i objects None area fs
frames_idle i objects area [] = tt
frames_idle i objects area (f ∷ fs) = (record { c1 = λ p. absurd p; c2 = λ p. absurd p; c3 = λ p. absurd p; c8 = λ p. absurd p; c9 = λ p. absurd p }, frames_idle i objects area fs)

over_swept : (i : Image) (s : State) → Swept i (sweep_over i s)
over_swept i s = record {
  granules = λ k p. absurd p;
  registers = λ t n not p. absurd p;
  frames = λ t. frames_idle i (unpainted s.objects) (area_of i t - i.ram) (thread s t).frames;
  idle = λ none. none_painted s.objects;
}

over_bounded : (i : Image) (s : State) → Bounded i s → Bounded i (sweep_over i s)
over_bounded i s b = record { deep = b.deep; few = b.few; many = b.many; areas = b.areas; fits = omega (arith, unmarked_length s.objects i.ram s.granules, b.fits) }

pub record Held (i : Image) (s : State) : Type 0 where
  pub held : Confined i s
  pub done : Swept i s
  pub bound : Bounded i s

ended_held : (i : Image) (s : State) (front : ℕ) → s.front ≡ Some front → Partitioned i → Held i s → Held i (ended_sweep i s front)
ended_held i s front on p k = chosen (Held i) (nat_le (ram_size s) front) (sweep_over i s) s
    (λ is. record {
      held = over_confined i s front (record { parts = p; held = k.held; done = k.done; bound = k.bound; on = on; all = elim (le_tells (ram_size s) front) [ inl e ↦ e.1 | inr e ↦ absurd (let clash : true ≡ false = sym is ∙ e.0 in cc) ] });
      done = over_swept i s;
      bound = over_bounded i s k.bound;
    })
    (λ not. k)

on_held : (i : Image) (s : State) (front : Option ℕ) → s.front ≡ front → Partitioned i → Held i s → Held i (sweep_on i s front)
on_held i s None on p k = k
on_held i s (Some front) on p k = ended_held i (with_slice i s front (slice_end i s front)) (slice_end i s front) refl p (record {
  held = slice_confined i s front (slice_end i s front) p k.held;
  done = slice_swept i s front (slice_end i s front) on p k.held k.done;
  bound = slice_bounded i s front (slice_end i s front) k.bound;
})

pub began_held : (i : Image) (s : State) (front : Option ℕ) → Held i s → Held i (sweep_began s front)
began_held i s None k = record { held = begun_confined i s k.held; done = begun_swept i s k.done; bound = begun_bounded i s k.bound }
began_held i s (Some front) k = k

-- ---- which threads have ended

no_frames : (i : Image) (s : State) (low high area : ℕ) (fs : List Frame) → kept_frames (sliced i s low high) area fs ≡ [] → fs ≡ []
no_frames i s low high area [] e = refl
no_frames i s low high area (f ∷ fs) e = let clash : (kept_frame (sliced i s low high) (frame_after area (length fs)) f ∷ kept_frames (sliced i s low high) area fs) ≡ [] = e in cc

slice_on : (i : Image) (s : State) (low high : ℕ) → EndsFit s → EndsFit (with_slice i s low high)
slice_on i s low high on = λ u. thread_sliced (λ n x y. EndFits x → EndFits y) i s low high u
    (λ n h. h)
    (λ h. record { over = λ e. ap (kept_frames (sliced i s low high) (area_of i u - i.ram)) (h.over e); none = λ e. h.none (no_frames i s low high (area_of i u - i.ram) (thread s u).frames e) })
    (on u)

began_on : (s : State) (front : Option ℕ) → EndsFit s → EndsFit (sweep_began s front)
began_on s None on = chosen EndsFit (has_quarantined s.objects) (record s { objects = painted s.objects; front = Some 0 }) s (λ is. on) (λ not. on)
began_on s (Some front) on = on

ended_on : (i : Image) (s : State) (front : ℕ) → EndsFit s → EndsFit (ended_sweep i s front)
ended_on i s front on = chosen EndsFit (nat_le (ram_size s) front) (sweep_over i s) s (λ is. on) (λ not. on)

passed_on : (i : Image) (s : State) (front : Option ℕ) → EndsFit s → EndsFit (sweep_on i s front)
passed_on i s None on = on
passed_on i s (Some front) on = ended_on i (with_slice i s front (slice_end i s front)) (slice_end i s front) (slice_on i s front (slice_end i s front) on)

-- ---- one Sweep event

pub swept_keeps : (i : Image) (s : State) → Partitioned i → Keeps i s → Keeps i (swept i s)
swept_keeps i s p k =
    let began = began_held i s s.front (record { held = k.confined; done = k.beside.swept; bound = k.beside.bounded }) in
    let after = on_held i (sweep_began s s.front) (sweep_began s s.front).front refl p began in
    record {
      confined = after.held;
      beside = record {
        swept = after.done;
        bounded = after.bound;
        ends = passed_on i (sweep_began s s.front) (sweep_began s s.front).front (began_on s s.front k.beside.ends);
      };
    }
