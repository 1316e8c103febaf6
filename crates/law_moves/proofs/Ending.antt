-- A slice that comes to RAM's end has passed every place; and what it has passed is of no painted object.
use Rattle.std.proofs.Common.{ℕ, ◌≡◌, ◌+◌, ◌-◌, ◌≤◌, ◌<◌, ◌⊎◌, inl, inr, ◌&&◌, true, false, nat_le, nat_lt, length, List, [], ◌∷◌, Option, Some, None, refl, sym, ap, ◌∙◌, subst, arith}
use Rattle.std.proofs.lemmas.Bool.{leb-true, ltb-true, or_cases}
use Rattle.std.proofs.lemmas.List.{get_or_past}
use Rattle.def_profile.specs.Areas.{frame_after}
use Rattle.law_lists.proofs.Tests.{bool_tells, both_left, both_right, chosen, lt_tells}
use Rattle.def_words.specs.declared.Cap.{Cap}
use Rattle.def_words.specs.Authority.{cap_base, cap_top}
use Rattle.def_machine.specs.Image.{Image, Region, Fixed, Globals, Shared, HeapRam, Stack, Bare, region, address_of, area_of}
use Rattle.def_machine.specs.State.{State, Thread, Frame, Object, thread, register, granule, nobody}
use Rattle.def_machine.specs.Objects.{Any, Each, InChunk, has_quarantined, painted, is_painted_at}
use Rattle.def_machine.specs.Heap.{begun_sweep, sweep_began, with_slice, slice_end, ram_size}
use Rattle.def_confined.specs.Capabilities.{Rooted, heap_cap}
use Rattle.def_confined.specs.Places.{InRegion, outer}
use Rattle.def_confined.specs.Confined.{Confined, FramesHold, Apart, ObjectFits}
use Rattle.def_confined.specs.Keeps.{Keeps}
use Rattle.def_confined.specs.Partitioned.{Partitioned, AwayFromHeap}
use Rattle.def_confined.specs.Swept.{UnpaintedCovers, HasUnpainted, FramesSwept}
use Rattle.def_confined.specs.Facts.{RootsAway}
use Rattle.law_moves.proofs.Rows.{each_take, one_row}
use Rattle.law_moves.proofs.Derives.{code_no_heap}
use Rattle.law_moves.proofs.JumpsMoves.{in_rooted}
use Rattle.law_moves.proofs.Slices.{slice_confined, slice_length}
use Rattle.law_moves.proofs.Passes.{slice_swept, slice_bounded}
use Rattle.law_moves.proofs.Ends.{Held, Passed, began_held, granule_stays, idle_stays, is_passed, thread_ends}
use Rattle.def_confined.specs.Stale.{NotStale, SavedClean, IsClean}

-- ---- painted chunks

abbrev Painted : ℕ → Object → Type 0
Painted x r = (r.painted ≡ true) × InChunk r x

painted_there : (rows : List Object) (x : ℕ) → is_painted_at rows x ≡ true → Any (Painted x) rows
painted_there [] x h = absurd (let clash : false ≡ true = h in cc)
painted_there (r ∷ rs) x h = elim (or_cases (r.painted && nat_le r.base (x + 8) && nat_lt x (r.base + r.length)) (is_painted_at rs x) h) [
  | inl is ↦
      let two : (r.painted && nat_le r.base (x + 8)) ≡ true = both_left (r.painted && nat_le r.base (x + 8)) (nat_lt x (r.base + r.length)) is in
      inl (
        both_left r.painted (nat_le r.base (x + 8)) two,
        (
          leb-true r.base (x + 8) (both_right r.painted (nat_le r.base (x + 8)) two),
          ltb-true x (r.base + r.length) (both_right (r.painted && nat_le r.base (x + 8)) (nat_lt x (r.base + r.length)) is),
        ),
      )
  | inr more ↦ inr (painted_there rs x more)
]

-- away from the heap no chunk is
away_clear : (i : Image) (next x : ℕ) (rows : List Object) → Each (ObjectFits i next) rows → AwayFromHeap i x → is_painted_at rows x ≡ false
away_clear i next x rows fits away = elim (bool_tells (is_painted_at rows x)) [
  | inl is ↦ absurd (each_take (ObjectFits i next) (Painted x) ⊥ rows
      (λ r f m. elim away [ inl below ↦ omega (arith, below, m.1.0, f.low) | inr above ↦ omega (arith, above, m.1.1, f.high) ]) fits (painted_there rows x is))
  | inr not ↦ not
]

-- and a heap capability lies in an object that isn't painted, apart from the chunks that are
meets : (c : Cap) (r q : Object) → Painted (cap_base c) r → UnpaintedCovers c q → cap_base c < cap_top c → (Apart r q ⊎ Apart q r) → ⊥
meets c r q there covers some apart =
    let low = covers.1.low in
    let high = covers.1.high in
    let from = there.1.0 in
    let to = there.1.1 in
    elim apart [
      | inl a ↦ elim a.1 [ inl b ↦ omega (arith, b, low, high, from, to, some) | inr b ↦ omega (arith, b, low, high, from, to, some) ]
      | inr a ↦ elim a.1 [ inl b ↦ omega (arith, b, low, high, from, to, some) | inr b ↦ omega (arith, b, low, high, from, to, some) ]
    ]

not_stale : (i : Image) (s : State) (c : Cap) → RootsAway i → Confined i s → (c.tag ≡ true → (heap_cap i c ≡ true → HasUnpainted i s.objects c) × ((heap_cap i c ≡ false → cap_base c < cap_top c → AwayFromHeap i (cap_base c)))) → NotStale s.objects c
not_stale i s c away h has tagged some = elim (bool_tells (heap_cap i c)) [
  | inl heap ↦ elim (bool_tells (is_painted_at s.objects (cap_base c))) [
    | inl is ↦ absurd (one_row (Painted (cap_base c)) (UnpaintedCovers c) ⊥ s.objects
        (λ r q a b z. meets c r q a b some (inl z)) (λ r q a b z. meets c r q a b some (inr z))
        (λ r a b. let clash : true ≡ false = sym a.0 ∙ b.0 in cc)
        h.apart (painted_there s.objects (cap_base c) is) ((has tagged).0 heap tagged heap some))
    | inr not ↦ not
  ]
  | inr other ↦ away_clear i s.next (cap_base c) s.objects h.fits ((has tagged).1 other some)
]

-- the range of a root lies away from the heap
rooted_away : (i : Image) (c : Cap) → RootsAway i → Rooted i c → heap_cap i c ≡ false → cap_base c < cap_top c → AwayFromHeap i (cap_base c)
rooted_away i c away r other some =
    let range = r.range other in
    let low = range.0 in
    let high = range.1 in
    elim (away c.shadow.root r.from) [ inl below ↦ inl (omega (arith, below, high, some)) | inr above ↦ inr (omega (arith, above, low)) ]

by_root : (i : Image) (s : State) (c : Cap) → RootsAway i → Confined i s → (c.tag ≡ true → Rooted i c) → HasUnpainted i s.objects c → NotStale s.objects c
by_root i s c away h rooted has = not_stale i s c away h (λ tagged. ((λ heap. has), rooted_away i c away (rooted tagged)))

-- ---- every place has been passed

-- a confined state whose sweep has passed all of RAM
module _ (i : Image) (s : State) (front : ℕ) (away : RootsAway i) (w : Passed i s front) where
  -- ---- granules

  fixed_clean : (k : ℕ) → region i k ≡ Fixed → InRegion i s k Fixed (granule s k) → NotStale s.objects (granule s k).cap
  fixed_clean k is here tagged some =
      let boot = sym (ap (λ (c : Cap). c.tag) here) ∙ tagged in
      away_clear i s.next (cap_base (granule s k).cap) s.objects w.held.fits (subst (λ (c : Cap). AwayFromHeap i (cap_base c)) (sym here) (w.parts.boot_away k is boot))

  granule_clean : (k : ℕ) (r : Region) → region i k ≡ r → InRegion i s k r (granule s k) → NotStale s.objects (granule s k).cap
  granule_clean k Fixed is here = fixed_clean k is here
  granule_clean k (Globals o) is here = by_root i s (granule s k).cap away w.held (λ tagged. (here tagged).rooted) (granule_stays i s front k w)
  granule_clean k (Shared m) is here = by_root i s (granule s k).cap away w.held (λ tagged. (here tagged).1.rooted) (granule_stays i s front k w)
  granule_clean k HeapRam is here = by_root i s (granule s k).cap away w.held (λ tagged. (here tagged).1.rooted) (granule_stays i s front k w)
  granule_clean k (Stack t) is here = by_root i s (granule s k).cap away w.held (λ tagged. in_rooted i s.objects t (outer (thread s t).frames (address_of i k)) (granule s k).cap here tagged) (granule_stays i s front k w)
  granule_clean k Bare is here = λ tagged. absurd (let clash : true ≡ false = sym tagged ∙ here in cc)

  -- ---- frames

  frames_clean : (t area : ℕ) (fs : List Frame) → frame_after area (length fs) ≤ front → FramesHold i s.objects t fs → FramesSwept i s.objects s.front area fs → Each (SavedClean s.objects) fs
  frames_clean t area [] le h f = tt
  frames_clean t area (x ∷ xs) le h f = (
    record {
      c1 = by_root i s x.c1 away w.held (in_rooted i s.objects t xs x.c1 h.0.c1) (f.0.c1 (is_passed i s front _ w.on (omega (arith, le))));
      c2 = by_root i s x.c2 away w.held (in_rooted i s.objects t xs x.c2 h.0.c2) (f.0.c2 (is_passed i s front _ w.on (omega (arith, le))));
      c3 = by_root i s x.c3 away w.held (in_rooted i s.objects t xs x.c3 h.0.c3) (f.0.c3 (is_passed i s front _ w.on (omega (arith, le))));
      c8 = by_root i s x.c8 away w.held (in_rooted i s.objects t xs x.c8 h.0.c8) (f.0.c8 (is_passed i s front _ w.on (omega (arith, le))));
      c9 = by_root i s x.c9 away w.held (in_rooted i s.objects t xs x.c9 h.0.c9) (f.0.c9 (is_passed i s front _ w.on (omega (arith, le))));
    },
    frames_clean t area xs (omega (arith, le)) h.1 f.1,
  )

  thread_frames : (t : ℕ) → Each (SavedClean s.objects) (thread s t).frames
  thread_frames t = elim (lt_tells t (length s.threads)) [
    | inl e ↦ frames_clean t (area_of i t - i.ram) (thread s t).frames
        (let ends = thread_ends i s front t w e.1 in let deep = w.bound.deep t in omega (arith, ends, deep)) (w.held.frames t) (w.done.frames t)
    | inr e ↦ subst (λ (x : Thread). Each (SavedClean s.objects) x.frames) (sym (get_or_past s.threads t nobody e.1)) tt
  ]

  -- ---- threads that don't run

  -- a program counter is of code
  pcc_clean : (t : ℕ) → NotStale s.objects (thread s t).pcc
  pcc_clean t = not_stale i s (thread s t).pcc away w.held (λ tagged. (
    (λ heap. absurd (let clash : true ≡ false = sym heap ∙ code_no_heap i (thread s t).pcc (w.held.runs t tagged).code in cc)),
    rooted_away i (thread s t).pcc away (in_rooted i s.objects t (thread s t).frames (thread s t).pcc (w.held.pcc t) tagged),
  ))

  all_clean : IsClean s
  all_clean = record {
    granules = λ k. granule_clean k (region i k) refl (w.held.granules k);
    frames = thread_frames;
    stopped = λ t stops. record {
      pcc = pcc_clean t;
      registers = λ n. by_root i s (register (thread s t) n) away w.held (in_rooted i s.objects t (thread s t).frames (register (thread s t) n) (w.held.registers t n)) (idle_stays i s front t n w stops);
    };
  }

-- ---- one Sweep event

begun_size : (s : State) → ram_size (begun_sweep s) ≡ ram_size s
begun_size s = chosen (λ z. ram_size z ≡ ram_size s) (has_quarantined s.objects) (record s { objects = painted s.objects; front = Some 0 }) s (λ is. refl) (λ not. refl)

began_size : (s : State) (front : Option ℕ) → ram_size (sweep_began s front) ≡ ram_size s
began_size s None = begun_size s
began_size s (Some front) = refl

slice_clean : (i : Image) (s : State) (low high : ℕ) → Partitioned i → RootsAway i → Held i s → s.front ≡ Some low → ram_size s ≤ high → IsClean (with_slice i s low high)
slice_clean i s low high p away k on all = all_clean i (with_slice i s low high) high away (record {
  parts = p;
  held = slice_confined i s low high p k.held;
  done = slice_swept i s low high on p k.held k.done;
  bound = slice_bounded i s low high k.bound;
  on = refl;
  all = omega (arith, slice_length i s low high 0 s.granules, all);
})

pub ends_clean : (i : Image) (s : State) (front : ℕ) → Partitioned i → RootsAway i → Keeps i s → (sweep_began s s.front).front ≡ Some front → ram_size s ≤ slice_end i s front
    → IsClean (with_slice i (sweep_began s s.front) front (slice_end i s front))
ends_clean i s front p away k on all =
    let size = began_size s s.front in
    slice_clean i (sweep_began s s.front) front (slice_end i s front) p away
    (began_held i s s.front (record { held = k.confined; done = k.beside.swept; bound = k.beside.bounded })) on (omega (arith, size, all))
