-- The engine that starts over booted memory, with its heap.
use Rattle.std.proofs.Common.{ℕ, ◌≡◌, ◌+◌, ◌-◌, ◌*◌, ◌≤◌, ◌<◌, inl, inr, true, cond, nat_le, nat_lt, List, [], ◌∷◌, length, Some, slice_index_or, refl, sym, ap, ◌∙◌, subst, arith}
use Rattle.law_lists.proofs.Tests.{both_left, both_right, eq_tells}
use Rattle.law_lists.proofs.Places.{present}
use Rattle.std.proofs.lemmas.Bool.{leb-true, ltb-true}
use Rattle.def_memory.specs.declared.Granule.{Granule}
use Rattle.def_memory.specs.Granules.{plain, cap_in}
use Rattle.def_machine.specs.Image.{address_of, trusted_end}
use Rattle.def_machine.specs.State.{Thread, outermost}
use Rattle.def_chunks.specs.Heaps.{HeapRow}
use Rattle.def_image.specs.Parts.{ThreadRow, PartsRow}
use Rattle.def_image.specs.Regions.{trusted_region}
use Rattle.def_image.specs.Sound.{Sound}
use Rattle.def_boot.specs.Boot.{boot_state, first_thread, image_of}
use Rattle.def_boot.specs.Contents.{boot_cap, content_at, granules_in, region_at}
use Rattle.def_boot.specs.Made.{return_sentry}
use Rattle.law_boot.proofs.Found.{found, none_there}
use Rattle.law_boot.proofs.Contents.{booted_in}
use Rattle.law_started.proofs.Granules.{same_granule, granules_end}
use Rattle.ct_boot.proofs.Fits.{stack_end}
use Rattle.ct_areas.specs.declared.thread.Area.{Area}
use Rattle.ct_areas.specs.declared.thread.Fresh.{Fresh}
use Rattle.ct_engine.specs.declared.rows.Region.{Region}
use Rattle.ct_engine.specs.Seen.{EngineRow, region_hides, region_of, limits_in, thread, area_at}
use Rattle.ct_engine.specs.Starts.{AreFresh, MayHold, MayStart, started}
use Rattle.ct_heap.specs.Effects.{Empty, accounts_for, empty}
use Rattle.ct_boot.specs.Launching.{areas_begin, areas_end, fresh_of, heap_range, launched}
use Rattle.ct_boot.specs.Placed.{ArePlaced, AreFirst}
use Rattle.ct_boot.proofs.Standing.{stacks_lie, laid, threads_are, areas_count, area_is}
use Rattle.ct_boot.proofs.Placing.{stack_lies, ends_are, begins_are, ram_is, first_region, ends_in, ends_in_ram, begin_low, begin_even, are_placed}
use Rattle.law_started.proofs.Starting.{rows_start, threads_count}

module _ (p : PartsRow) (s : Sound p) where
  cap_at : (k : ℕ) → p.ram + 8 * k < p.ram + p.size → cap_in (boot_state p).granules k ≡ boot_cap p (p.ram + 8 * k)
  cap_at k high =
      let size = s.ram.size in
      let few : k < granules_in p = omega (arith, high, size) in
      let here : address_of (image_of p) k ≡ p.ram + 8 * k = ap (λ n. n + 8 * k) (sym (ram_is p)) in
      ap (λ (g : Granule). g.cap) (same_granule p s k) ∙ booted_in p k few ∙ ap (λ x. boot_cap p x) here

  -- ---- the region reads as zero

  zero_at : (x : ℕ) → areas_begin p ≤ x → x < areas_end p → boot_cap p x ≡ plain 0
  unfolding boot_cap
  zero_at x low high =
      let end = ends_in p s in
      let there : region_at p x ≡ Some (trusted_region p) = found p s 0 x (trusted_region p) (first_region p s) (omega (arith, low), omega (arith, high, end)) in
      ap (λ o. content_at p o x) there
      ∙ elim (eq_tells (x - p.trusted) 0) [
        | inl at ↦ absurd (let here = at.1 in omega (arith, here, low))
        | inr off ↦ ap (λ b. cond b return_sentry (plain 0)) off.0
      ]

  clear_at : (k : ℕ) → areas_begin p ≤ p.ram + 8 * k → p.ram + 8 * k < areas_end p → cap_in (boot_state p).granules k ≡ plain 0
  clear_at k low high =
      let end = ends_in_ram p s in
      cap_at k (omega (arith, high, end)) ∙ zero_at (p.ram + 8 * k) low high

  pub region_clear : (k : ℕ) → region_hides (region_of (image_of p)) k ≡ true → cap_in (boot_state p).granules k ≡ plain 0
  region_clear k hidden =
      let from = nat_le (image_of p).trusted ((image_of p).ram + 8 * k) in
      let to = nat_lt ((image_of p).ram + 8 * k) (trusted_end (image_of p)) in
      let low = leb-true (image_of p).trusted ((image_of p).ram + 8 * k) (both_left from to hidden) in
      let high = ltb-true ((image_of p).ram + 8 * k) (trusted_end (image_of p)) (both_right from to hidden) in
      let ram = ram_is p in
      let begin = begins_are p in
      let end = ends_are p in
      clear_at k (omega (arith, low, ram, begin)) (omega (arith, high, ram, end))

  -- ---- the threads may start

  pub size_is : 8 * length (boot_state p).granules ≡ p.size
  size_is = let all = granules_end p s in let ram = ram_is p in omega (arith, all, ram)

  fresh_laid : AreFresh p.ram p.size (areas_begin p) (areas_end p) (fresh_of p)
  fresh_laid =
      laid p p.size 0 (areas_begin p) p.threads (let unit = s.ram.base in omega (arith, unit)) (begin_even p s) (begin_low p s) (ends_in_ram p s)
      (λ k x is. record { one = (s.thread k x is).frames.0; end = stack_end p s k x is })

-- ---- the heap

pub heap_length : (p : PartsRow) → Sound p → p.heap + (p.ram + p.size - p.heap) ≡ p.ram + p.size
heap_length p s = let inside = s.heap.inside in omega (arith, inside)

limits_are : (limits : List ℕ) → limits_in (accounts_for limits) ≡ limits
limits_are [] = refl
limits_are (n ∷ ns) = ap (λ rest. n ∷ rest) (limits_are ns)

module _ (p : PartsRow) (s : Sound p) where
  -- no region reaches into the heap
  heap_zero : (x : ℕ) → p.heap ≤ x → boot_cap p x ≡ plain 0
  unfolding boot_cap
  heap_zero x low = ap (λ o. content_at p o x) (none_there p x (λ i r is lies. let end = (s.laid.each i r is).high in let lt = lies.1 in omega (arith, end, lt, low)))

  heap_clear : (k : ℕ) → p.heap ≤ p.ram + 8 * k → p.ram + 8 * k < p.ram + p.size → cap_in (boot_state p).granules k ≡ plain 0
  heap_clear k low high = cap_at p s k high ∙ heap_zero (p.ram + 8 * k) low

  holds : (limits : List ℕ) → Empty (empty (heap_range p) limits) → MayHold (boot_state p).granules (region_of (image_of p)) (empty (heap_range p) limits)
  holds limits none =
      let whole = heap_length p s in
      let ram = ram_is p in
      let size = size_is p s in
      record {
        empty = none;
        ram = ram;
        past = (let last = ends_in p s in let after = s.heap.after in let end = ends_are p in omega (arith, last, after, end));
        inside = omega (arith, whole, ram, size);
        clear = λ k low high. heap_clear k (omega (arith, low, ram)) (omega (arith, high, ram, whole));
      }

  pub starts : (gs : List Granule) (g : Region) (fs : List Fresh) (h : HeapRow) (limits : List ℕ) → gs ≡ (boot_state p).granules → g ≡ region_of (image_of p) → fs ≡ fresh_of p
      → h ≡ empty (heap_range p) limits → Empty h → MayStart gs g fs h × (started gs g fs h ≡ launched p limits)
  starts gs g fs h limits granules region fresh is none = rw (granules, region, fresh, is) (
    record {
      areas = rw (size_is p s, sym (ends_are p), sym (begins_are p), sym (ram_is p)) (fresh_laid p s);
      stacks = rw (size_is p s) (stacks_lie p (region_of (image_of p)) p.heap p.size 0 (areas_begin p) p.threads (λ k x there at. stack_lies p s k x there at));
      clear = region_clear p s;
      heap = holds limits (subst Empty is none);
    },
    rw (threads_are p 0 (areas_begin p) p.threads, heap_length p s, limits_are limits) refl,
  )

-- ---- what stands then

pub launched_placed : (p : PartsRow) (limits : List ℕ) (e : EngineRow) → Sound p → e ≡ launched p limits → ArePlaced (image_of p) (8 * length e.state.granules) e.areas
launched_placed p limits e s is =
    subst (λ (z : EngineRow). ArePlaced (image_of p) (8 * length z.state.granules) z.areas) (sym is) (are_placed p s (8 * length (boot_state p).granules) (size_is p s))

module _ (p : PartsRow) (limits : List ℕ) where
  thread_there : (t : ℕ) → t < length p.threads → (x : ThreadRow) × (thread (launched p limits) t ≡ first_thread p (0 + t) x)
      × ((area_at (launched p limits) t).stack + (area_at (launched p limits) t).stack_length ≡ x.stack + x.stack_length)
  thread_there t lt =
      let found = present p.threads t lt in (
        found.0,
        rows_start p 0 p.threads t found.0 found.1,
        ap (λ (a : Area). a.stack + a.stack_length) (area_is p 0 (areas_begin p) p.threads t found.0 found.1),
      )

  few : (t : ℕ) → t < length (launched p limits).state.threads → t < length p.threads
  few t lt = subst (λ n. t < n) (threads_count p 0 p.threads) lt

  all_first : AreFirst (launched p limits)
  all_first = record {
    count = threads_count p 0 p.threads ∙ sym (areas_count p 0 (areas_begin p) p.threads);
    one = λ t lt. ap (λ (z : Thread). length z.frames) (thread_there t (few t lt)).1;
    top = λ t lt. let here = thread_there t (few t lt) in
        ap (λ (z : Thread). (slice_index_or z.frames 0 (outermost 0 0 0)).top) here.1 ∙ sym here.2;
  }

pub launched_first : (p : PartsRow) (limits : List ℕ) (e : EngineRow) → e ≡ launched p limits → AreFirst e
launched_first p limits e is = subst (λ (z : EngineRow). AreFirst z) (sym is) (all_first p limits)
