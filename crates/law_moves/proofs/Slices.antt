-- A slice: what stands in it and lies over marked granules loses its tag.
use Rattle.std.proofs.Common.{ℕ, zero, suc, ◌≡◌, ◌+◌, ◌-◌, ◌*◌, ◌%◌, ◌≤◌, ◌<◌, inl, inr, nat_lt, length, ◌&&◌, Bool, true, false, nat_le, List, [], ◌∷◌, Option, Some, None, refl, sym, ap, ◌∙◌, subst, arith}
use Rattle.std.proofs.Math.ListN.{get_or}
use Rattle.def_profile.specs.Areas.{frame_after}
use Rattle.law_lists.proofs.Tests.{bool_tells, chosen, both_left, both_right, le_tells, lt_tells}
use Rattle.def_words.specs.declared.Cap.{Cap}
use Rattle.def_words.specs.Authority.{cap_base}
use Rattle.def_words.specs.Capability.{untagged}
use Rattle.def_words.specs.Permissions.{execute}
use Rattle.def_words.specs.Seals.{cap_seal}
use Rattle.def_memory.specs.declared.Granule.{Granule}
use Rattle.def_memory.specs.Granules.{plain, nothing}
use Rattle.def_machine.specs.Image.{Image, booted, granule_of, address_of, area_of}
use Rattle.def_machine.specs.State.{State, Thread, Frame, Object, thread, register, granule, nobody}
use Rattle.def_machine.specs.Memory.{is_marked, filtered}
use Rattle.def_machine.specs.Objects.{Any, Each}
use Rattle.def_machine.specs.Heap.{sliced, with_slice, area_offset}
use Rattle.def_machine.specs.Slices.{kept_granules, kept_frames, kept_registers, kept_thread, kept_threads, is_number}
use Rattle.def_confined.specs.Capabilities.{Rooted, IsReturnType}
use Rattle.def_confined.specs.Places.{HasObject, HasLive, LiveCovers}
use Rattle.def_confined.specs.Confined.{Confined, ObjectFits, MarksAt, MarksFit}
use Rattle.def_confined.specs.Partitioned.{Partitioned, AwayFromHeap}
use Rattle.def_confined.specs.Changes.{Fades, FramesFade, ThreadFades, StateFades}
use Rattle.law_moves.proofs.Rows.{each_take, each_any}
use Rattle.law_moves.proofs.Fades.{faded_confined}
use Rattle.law_moves.proofs.Filters.{covers_live, untagged_says, granule_near}
use Rattle.def_confined.specs.Swept.{UnpaintedCovers, HasUnpainted}

-- what is away from the heap lies over no mark
away_unmarked : (i : Image) (s : State) (x : ℕ) → Partitioned i → Confined i s → AwayFromHeap i x → is_marked i s x ≡ false
away_unmarked i s x p h away = elim (bool_tells (is_marked i s x)) [
  | inl is ↦
      let inside : i.ram ≤ x = elim (le_tells i.ram x) [ inl e ↦ e.1 | inr e ↦ absurd (let clash : true ≡ false = sym (both_left (nat_le i.ram x) (granule s (granule_of i x)).mark is) ∙ e.0 in cc) ] in
      let there : Any (MarksAt (address_of i (granule_of i x))) s.objects = (h.marks (granule_of i x)).why (both_right (nat_le i.ram x) (granule s (granule_of i x)).mark is) in
      let near = granule_near i x inside in
      let even = p.even in
      absurd (each_take (ObjectFits i s.next) (MarksAt (address_of i (granule_of i x))) ⊥ s.objects
      (λ r f m. elim away [
        | inl below ↦ low_clash x (address_of i (granule_of i x)) r.base i.heap_base near.0 below m.1.0 f.low
        | inr above ↦ high_clash i x r (address_of i (granule_of i x)) p near.1 above m.1.1 f.high f.whole (own_multiple i (granule_of i x) p)
      ])
      h.fits there)
  | inr not ↦ not
]
  where
    low_clash : (x a b low : ℕ) → a ≤ x → x < low → b ≤ a + 8 → low + 8 ≤ b → ⊥
    low_clash x a b low one two three four = omega (arith, one, two, three, four)

    own_multiple : (i : Image) (k : ℕ) → Partitioned i → address_of i k % 8 ≡ 0
    own_multiple i k p = let ram = p.even.0 in omega (arith, ram)

    high_clash : (i : Image) (x : ℕ) (r : Object) (a : ℕ) → Partitioned i → x < a + 8 → i.heap_end ≤ x → a < r.base + r.length → r.base + r.length ≤ i.heap_end → (r.base % 8 ≡ 0) × (r.length % 8 ≡ 0) → a % 8 ≡ 0 → ⊥
    high_clash i x r a p one two three four whole mult = let a_ = whole.0 in let b_ = whole.1 in omega (arith, one, two, three, four, a_, b_, mult)

unmarked_stays : (i : Image) (s : State) (c : Cap) → is_marked i s (cap_base c) ≡ false → filtered i s c ≡ c
unmarked_stays i s c none = chosen (λ z. z ≡ c) (c.tag && is_marked i s (cap_base c)) (untagged c) c
    (λ is. absurd (let clash : true ≡ false = sym (both_right c.tag (is_marked i s (cap_base c)) is) ∙ none in cc)) (λ not. refl)

-- what jumps return to lies away from the heap
sentry_away : (i : Image) (c : Cap) → Partitioned i → Rooted i c → IsReturnType (cap_seal c) → AwayFromHeap i (cap_base c)
sentry_away i c p r is =
    let says = r.returns is in
    let range = r.range (r.returns is).2 in
    p.runs_away c.shadow.root (cap_base c) (r.rights (r.returns is).2 execute (r.returns is).1) range.0 (omega (arith, says.0, range.1))

pub number_is : (run : Option ℕ) (u : ℕ) → is_number run u ≡ true → run ≡ Some u
number_is None u h = absurd (let clash : false ≡ true = h in cc)
number_is (Some v) u h = elim (le_tells v u) [
  | inl a ↦ elim (le_tells u v) [
    | inl b ↦ let same : v ≡ u = omega (arith, a.1, b.1) in ap (λ n. Some n) same
    | inr b ↦ absurd (let clash : true ≡ false = sym (both_right (nat_le v u) (nat_le u v) h) ∙ b.0 in cc)
  ]
  | inr a ↦ absurd (let clash : true ≡ false = sym (both_left (nat_le v u) (nat_le u v) h) ∙ a.0 in cc)
]

pub is_itself : (u : ℕ) → is_number (Some u) u ≡ true
is_itself u = elim (le_tells u u) [ inl e ↦ rw e.0 refl | inr e ↦ absurd (omega (arith, e.1)) ]

-- ---- one place

-- a slice leaves what stands in a place, or takes its tag
slice_fades : (i : Image) (s : State) (low high offset : ℕ) (c : Cap) → Fades i s.objects s.objects c (sliced i s low high offset c)
slice_fades i s low high offset c = chosen (λ z. Fades i s.objects s.objects c z) (nat_le low offset && nat_lt offset high) (filtered i s c) c
    (λ is. chosen (λ z. Fades i s.objects s.objects c z) (c.tag && is_marked i s (cap_base c)) (untagged c) c (λ a. inl refl) (λ a. inr (refl, λ tagged h. h)))
    (λ not. inr (refl, λ tagged h. h))

-- where the base isn't marked it stays
slice_stays : (i : Image) (s : State) (low high offset : ℕ) (c : Cap) → filtered i s c ≡ c → sliced i s low high offset c ≡ c
slice_stays i s low high offset c same = chosen (λ z. z ≡ c) (nat_le low offset && nat_lt offset high) (filtered i s c) c (λ is. same) (λ not. refl)

pub live_unpainted : (i : Image) (next : ℕ) (rows : List Object) (c : Cap) → Each (ObjectFits i next) rows → Any (LiveCovers c) rows → Any (UnpaintedCovers c) rows
live_unpainted i next rows c fits live = each_any (ObjectFits i next) (LiveCovers c) (UnpaintedCovers c) rows (λ r f l. (f.unpainted l.0, l.1)) fits live

-- what it has passed is of no painted object
pub slice_unpainted : (i : Image) (s : State) (low high offset : ℕ) (c : Cap) → Partitioned i → Confined i s → (c.tag ≡ true → HasObject i s.objects c) → (offset < low → HasUnpainted i s.objects c) → offset < high → HasUnpainted i s.objects (sliced i s low high offset c)
slice_unpainted i s low high offset c p h has before lt = chosen (λ z. HasUnpainted i s.objects z) (nat_le low offset && nat_lt offset high) (filtered i s c) c
    (λ is. chosen (λ z. HasUnpainted i s.objects z) (c.tag && is_marked i s (cap_base c)) (untagged c) c
    (λ gone tagged. absurd (let clash : false ≡ true = tagged in cc))
    (λ not tagged heap some. live_unpainted i s.next s.objects c h.fits (covers_live i s c p h some (untagged_says c.tag (is_marked i s (cap_base c)) tagged not) (has tagged heap some))))
    (λ not. before (elim (le_tells low offset) [
      | inl a ↦ elim (lt_tells offset high) [ inl b ↦ absurd (let clash : true ≡ false = sym (rw (a.0, b.0) refl) ∙ not in cc) | inr b ↦ absurd (let ge = b.1 in omega (arith, ge, lt)) ]
      | inr a ↦ a.1
    ]))

-- ---- granules

pub granule_at_slice : (P : Granule → Type 0) (i : Image) (s : State) (low high offset : ℕ) (gs : List Granule) (k : ℕ) → P nothing → P (record (get_or gs k nothing) { cap = sliced i s low high (offset + 8 * k) (get_or gs k nothing).cap }) → P (get_or (kept_granules (sliced i s low high) offset gs) k nothing)
granule_at_slice P i s low high offset [] k none h = none
granule_at_slice P i s low high offset (g ∷ gs) zero none h = let e : offset + 8 * zero ≡ offset = omega arith in subst (λ n. P (record g { cap = sliced i s low high n g.cap })) e h
granule_at_slice P i s low high offset (g ∷ gs) (suc k) none h =
    let e : offset + 8 * suc k ≡ offset + 8 + 8 * k = omega arith in
    granule_at_slice P i s low high (offset + 8) gs k none (subst (λ n. P (record (get_or gs k nothing) { cap = sliced i s low high n (get_or gs k nothing).cap })) e h)

-- of the list itself, so that past its end nothing is asked
mark_stays : (i : Image) (s : State) (low high offset : ℕ) (gs : List Granule) (k : ℕ) → (get_or (kept_granules (sliced i s low high) offset gs) k nothing).mark ≡ (get_or gs k nothing).mark
mark_stays i s low high offset [] k = refl
mark_stays i s low high offset (g ∷ gs) zero = refl
mark_stays i s low high offset (g ∷ gs) (suc k) = mark_stays i s low high (offset + 8) gs k

kept_at : (i : Image) (s : State) (low high offset : ℕ) (gs : List Granule) (k : ℕ) → filtered i s (get_or gs k nothing).cap ≡ (get_or gs k nothing).cap → (get_or (kept_granules (sliced i s low high) offset gs) k nothing).cap ≡ (get_or gs k nothing).cap
kept_at i s low high offset [] k same = refl
kept_at i s low high offset (g ∷ gs) zero same = slice_stays i s low high offset g.cap same
kept_at i s low high offset (g ∷ gs) (suc k) same = kept_at i s low high (offset + 8) gs k same

pub slice_length : (i : Image) (s : State) (low high offset : ℕ) (gs : List Granule) → length (kept_granules (sliced i s low high) offset gs) ≡ length gs
slice_length i s low high offset [] = refl
slice_length i s low high offset (g ∷ gs) = ap (λ n. suc n) (slice_length i s low high (offset + 8) gs)

-- ---- threads

pub register_at_slice : (P : Cap → Type 0) (i : Image) (s : State) (low high at : ℕ) (rs : List Cap) (n : ℕ) → P (plain 0) → P (sliced i s low high (at + 8 * n) (get_or rs n (plain 0))) → P (get_or (kept_registers (sliced i s low high) at rs) n (plain 0))
register_at_slice P i s low high at [] n none h = none
register_at_slice P i s low high at (r ∷ rs) zero none h = let e : at + 8 * zero ≡ at = omega arith in subst (λ m. P (sliced i s low high m r)) e h
register_at_slice P i s low high at (r ∷ rs) (suc n) none h =
    let e : at + 8 * suc n ≡ at + 8 + 8 * n = omega arith in
    register_at_slice P i s low high (at + 8) rs n none (subst (λ m. P (sliced i s low high m (get_or rs n (plain 0)))) e h)

frames_fade : (i : Image) (s : State) (low high area : ℕ) (fs : List Frame) → Partitioned i → Confined i s → FramesFade i s.objects s.objects fs (kept_frames (sliced i s low high) area fs)
frames_fade i s low high area [] p h = tt
frames_fade i s low high area (f ∷ fs) p h =
    let at : ℕ = frame_after area (length fs) in (
      record {
        actor = refl;
        export = refl;
        same_top = refl;
        c1 = slice_fades i s low high at f.c1;
        c2 = slice_fades i s low high (at + 8) f.c2;
        c3 = slice_fades i s low high (at + 16) f.c3;
        c8 = slice_fades i s low high (at + 24) f.c8;
        c9 = slice_fades i s low high (at + 32) f.c9;
        returns = λ tagged is rooted. slice_stays i s low high at f.c1 (unmarked_stays i s f.c1 (away_unmarked i s (cap_base f.c1) p h (sentry_away i f.c1 p rooted is)));
      },
      frames_fade i s low high area fs p h,
    )

thread_at_slice : (Q : ℕ → Thread → Thread → Type 0) (i : Image) (s : State) (low high k u : ℕ) (xs : List Thread) → ((n : ℕ) → Q n nobody nobody)
    → Q (k + u) (get_or xs u nobody) (kept_thread (sliced i s low high) (area_of i (k + u) - i.ram) (is_number s.running (k + u)) (get_or xs u nobody)) → Q (k + u) (get_or xs u nobody) (get_or (kept_threads (sliced i s low high) (area_offset i) s.running k xs) u nobody)
thread_at_slice Q i s low high k u [] none h = none (k + u)
thread_at_slice Q i s low high k zero (x ∷ xs) none h =
    let e : k + zero ≡ k = omega arith in
    let here : Q k x (kept_thread (sliced i s low high) (area_of i k - i.ram) (is_number s.running k) x) = subst (λ n. Q n x (kept_thread (sliced i s low high) (area_of i n - i.ram) (is_number s.running n) x)) e h in
    subst (λ n. Q n x (kept_thread (sliced i s low high) (area_of i k - i.ram) (is_number s.running k) x)) (sym e) here
thread_at_slice Q i s low high k (suc u) (x ∷ xs) none h =
    let e : k + suc u ≡ k + 1 + u = omega arith in
    let there = thread_at_slice Q i s low high (k + 1) u xs none (subst (λ n. Q n (get_or xs u nobody) (kept_thread (sliced i s low high) (area_of i n - i.ram) (is_number s.running n) (get_or xs u nobody))) e h) in
    subst (λ n. Q n (get_or xs u nobody) (get_or (kept_threads (sliced i s low high) (area_offset i) s.running (k + 1) xs) u nobody)) (sym e) there

-- of a thread by its own number
pub thread_sliced : (Q : ℕ → Thread → Thread → Type 0) (i : Image) (s : State) (low high u : ℕ) → ((n : ℕ) → Q n nobody nobody) → Q u (thread s u) (kept_thread (sliced i s low high) (area_of i u - i.ram) (is_number s.running u) (thread s u)) → Q u (thread s u) (thread (with_slice i s low high) u)
thread_sliced Q i s low high u none h =
    let e : 0 + u ≡ u = omega arith in
    let there = thread_at_slice Q i s low high 0 u s.threads none (subst (λ n. Q n (thread s u) (kept_thread (sliced i s low high) (area_of i n - i.ram) (is_number s.running n) (thread s u))) (sym e) h) in
    subst (λ n. Q n (thread s u) (thread (with_slice i s low high) u)) e there

thread_fades : (i : Image) (s : State) (low high area u : ℕ) (b : Bool) → Partitioned i → Confined i s → ThreadFades i s.objects s.objects (thread s u) (kept_thread (sliced i s low high) area b (thread s u))
thread_fades i s low high area u true p h = record { pcc = inr (refl, λ t x. x); registers = λ n. inr (refl, λ t x. x); frames = frames_fade i s low high area (thread s u).frames p h; posture = refl }
thread_fades i s low high area u false p h = record {
  pcc = slice_fades i s low high area (thread s u).pcc;
  registers = λ n. register_at_slice (λ z. Fades i s.objects s.objects (register (thread s u) n) z) i s low high area (thread s u).registers n (inl refl) (slice_fades i s low high (area + 8 * n) (register (thread s u) n));
  frames = frames_fade i s low high area (thread s u).frames p h;
  posture = refl;
}

slice_fades_all : (i : Image) (s : State) (low high : ℕ) → Partitioned i → Confined i s → StateFades i s (with_slice i s low high)
slice_fades_all i s low high p h = record {
  caps = λ k. granule_at_slice (λ (g : Granule). Fades i s.objects s.objects (granule s k).cap g.cap) i s low high 0 s.granules k (inl refl) (slice_fades i s low high (0 + 8 * k) (granule s k).cap);
  fixed = λ k is same. elim (bool_tells (granule s k).cap.tag) [
    | inl tagged ↦
        let boot : (booted i k).cap.tag ≡ true = sym (ap (λ (c : Cap). c.tag) same) ∙ tagged in
        let away : AwayFromHeap i (cap_base (granule s k).cap) = subst (λ (c : Cap). AwayFromHeap i (cap_base c)) (sym same) (p.boot_away k is boot) in
        kept_at i s low high 0 s.granules k (unmarked_stays i s (granule s k).cap (away_unmarked i s (cap_base (granule s k).cap) p h away))
    | inr none ↦ kept_at i s low high 0 s.granules k (plain_stays (granule s k).cap none)
  ];
  domains = λ k tagged d. ((λ x. x), (λ x. x));
  threads = λ u. thread_sliced (λ n x y. ThreadFades i s.objects s.objects x y) i s low high u (λ n. record { pcc = inl refl; registers = λ m. inl refl; frames = tt; posture = refl }) (thread_fades i s low high (area_of i u - i.ram) u (is_number s.running u) p h);
  live = λ u runs n. thread_sliced (λ m x y. HasLive i s.objects (register x n) → HasLive i s.objects (register y n)) i s low high u (λ m any tagged. absurd (let clash : false ≡ true = tagged in cc))
      (let here : is_number s.running u ≡ true = ap (λ o. is_number o u) runs ∙ is_itself u in
      subst (λ (b : Bool). HasLive i s.objects (register (thread s u) n) → HasLive i s.objects (register (kept_thread (sliced i s low high) (area_of i u - i.ram) b (thread s u)) n)) (sym here) (λ x. x))
      (h.live u runs n);
  apart = h.apart;
  numbered = h.numbered;
  fits = h.fits;
  marks = λ k. subst (λ b. MarksFit i s.objects k b) (sym (mark_stays i s low high 0 s.granules k)) (h.marks k);
  limits = h.limits;
  size = slice_length i s low high 0 s.granules;
}
  where
    plain_stays : (c : Cap) → c.tag ≡ false → filtered i s c ≡ c
    plain_stays c none = chosen (λ z. z ≡ c) (c.tag && is_marked i s (cap_base c)) (untagged c) c
        (λ is. absurd (let clash : true ≡ false = sym (both_left c.tag (is_marked i s (cap_base c)) is) ∙ none in cc)) (λ not. refl)

pub slice_confined : (i : Image) (s : State) (low high : ℕ) → Partitioned i → Confined i s → Confined i (with_slice i s low high)
slice_confined i s low high p h = faded_confined i s (with_slice i s low high) h (slice_fades_all i s low high p h)
