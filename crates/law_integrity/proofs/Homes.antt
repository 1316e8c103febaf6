-- What events do to code, to globals and to stacks.
use Rattle.std.proofs.Common.{ℕ, ◌≡◌, ◌+◌, ◌≤◌, ◌<◌, ◌⊎◌, inl, inr, true, false, List, [], ◌∷◌, Some, refl, sym, ap, ◌∙◌, subst, arith}
use Rattle.law_lists.proofs.Tests.{bool_tells, chosen}
use Rattle.ct_entry.specs.declared.rows.Owner.TheVariants.{Compartment}
use Rattle.ct_entry.specs.declared.rows.Kind.TheVariants as kind
use Rattle.def_profile.specs.declared.rights.TheConstants.{HEAP_RIGHTS}
use Rattle.def_words.specs.declared.Cap.{Cap}
use Rattle.def_words.specs.Authority.{cap_top}
use Rattle.def_words.specs.Permissions.{bit, store_data}
use Rattle.def_memory.specs.declared.Granule.{Granule}
use Rattle.def_reach.specs.Roots.{Listing, is_owned, is_stack}
use Rattle.def_reach.specs.Sharing.{Reaches}
use Rattle.def_machine.specs.Platform.{Platform}
use Rattle.def_machine.specs.Image.{Image, Region, Fixed, Globals, Shared, HeapRam, Stack, Bare, root, region, booted, granule_of, address_of, stack_entry, stack_base}
use Rattle.def_machine.specs.Objects.{Any, InChunk}
use Rattle.def_machine.specs.State.{State, Frame, Object, thread, register, granule}
use Rattle.def_confined.specs.Capabilities.{heap_cap, stack_cap}
use Rattle.def_confined.specs.Confined.{Confined, FramesHold, ObjectFits}
use Rattle.def_confined.specs.Facts.{Facts}
use Rattle.def_confined.specs.Keeps.{Keeps}
use Rattle.def_confined.specs.Partitioned.{Partitioned, StoresInto, IsGlobalsOf, IsStackOfThread}
use Rattle.def_confined.specs.Places.{InRegion, InFrames, WithinRun}
use Rattle.def_step.specs.declared.Event.{Event}
use Rattle.def_step.specs.declared.Event.TheVariants.{Step}
use Rattle.def_step.specs.Accesses.{access_of}
use Rattle.def_step.specs.Events.{happens, run}
use Rattle.def_step.specs.Operands.{operands_of}
use Rattle.def_safety.specs.Accesses.{SpansLive, root_rights}
use Rattle.def_safety.specs.Each.{ready}
use Rattle.def_safety.specs.Used.{authority_of, access_start}
use Rattle.def_safety.specs.Wired.{Wired}
use Rattle.def_integrity.specs.Acting.{Acting}
use Rattle.def_integrity.specs.Touched.{IsStored, IsSwept, Touched, as_before, by_store, by_clearing, by_record, by_free, by_sweep}
use Rattle.def_integrity.specs.Homes.{KeepsWord, StoresTo, Clears, Records, CodeStays, ActsFor, GlobalsKept, GlobalsStay, OwnGlobals, RunsOver, StacksKept, StacksStay, IsObjectIn, ActsThrough, ImportsKept, ImportsStay}
use Rattle.law_moves.proofs.Derives.{within_less}
use Rattle.law_moves.proofs.Places.{within_head}
use Rattle.law_moves.proofs.Rows.{each_take}
use Rattle.law_events.proofs.Accesses.{width_of}
use Rattle.law_events.proofs.Events.{ready_keeps, event_keeps}
use Rattle.law_events.proofs.Running.{run_keeps}
use Rattle.law_integrity.proofs.Events.{granules_kept}

-- ---- where a thread's stack is, and an object

-- below the top of a frame, and from the stack's base on
pub own_stack : (i : Image) (s : State) (t k : ℕ) (f : Frame) (fs : List Frame) → Partitioned i → Confined i s → (thread s t).frames ≡ f ∷ fs → stack_base i t ≤ address_of i k → address_of i k < f.top → region i k ≡ Stack t
own_stack i s t k f fs p h frames low high =
    let holds : FramesHold i s.objects t (f ∷ fs) = subst (λ (gs : List Frame). FramesHold i s.objects t gs) frames (h.frames t) in
    let top = holds.0.high in
    p.stack_span k t holds.0.stack low (omega (arith, high, top))

pub in_heap : (i : Image) (k : ℕ) → Partitioned i → i.heap_base ≤ address_of i k → address_of i k < i.heap_end → region i k ≡ HeapRam
in_heap i k p low high =
    let back : granule_of i (address_of i k) ≡ k = omega arith in
    subst (λ n. region i n ≡ HeapRam) back (p.heap (address_of i k) low high).1

-- an object that is there fits
pub fits_there : (i : Image) (s : State) (o : Object) → Confined i s → Any (λ q. q ≡ o) s.objects → ObjectFits i s.next o
fits_there i s o h there = each_take (ObjectFits i s.next) (λ q. q ≡ o) (ObjectFits i s.next o) s.objects (λ q f same. subst (ObjectFits i s.next) same f) h.fits there

chunk_heap : (i : Image) (s : State) (k : ℕ) (o : Object) → Partitioned i → Confined i s → Any (λ q. q ≡ o) s.objects → InChunk o (address_of i k) → region i k ≡ HeapRam
chunk_heap i s k o p h there chunk =
    let fits = fits_there i s o h there in
    let low = fits.low in
    let high = fits.high in
    let from = chunk.0 in
    let to = chunk.1 in
    in_heap i k p (omega (arith, low, from)) (omega (arith, high, to))

-- a granule as it was is as a sweep leaves it
pub unswept : (b : Platform) (s after : State) (k : ℕ) → granule after k ≡ granule s k → IsSwept b s after k
unswept b s after k e = record { cap = inl (ap (λ (z : Granule). z.cap) e); mark = inl (ap (λ (z : Granule). z.mark) e) }

-- ---- a store, by what it goes through

-- not the heap's: the root may store there
pub record Through (b : Platform) (s : State) (k : ℕ) (by : Acting s) : Type 0 where
  pub number : ℕ
  pub at : ℕ
  pub here : granule_of b.image at ≡ k
  pub low : (root b.image number).base ≤ at
  pub high : at < (root b.image number).top
  pub right : bit (root b.image number).rights store_data ≡ true
  pub stores : StoresInto b.image number (region b.image k)
  pub owner : is_owned (root b.image number).origin ≡ true → Reaches b.image.entries (root b.image number).owner by.frame.actor
  pub own : is_stack (root b.image number).origin ≡ true → number ≡ stack_entry b.image by.thread_is
  pub run : is_stack (root b.image number).origin ≡ true → WithinRun b.image (by.frame ∷ by.below) (address_of b.image k + 1)

-- the rights that a capability is held to are its root's, where it isn't the heap's
pub held_to : (i : Image) (c : Cap) (n : ℕ) → heap_cap i c ≡ false → bit (root_rights i c) n ≡ true → bit (root i c.shadow.root).rights n ≡ true
held_to i c n other = chosen (λ (r : ℕ). bit r n ≡ true → bit (root i c.shadow.root).rights n ≡ true) (heap_cap i c) HEAP_RIGHTS (root i c.shadow.root).rights
    (λ is. absurd (let clash : true ≡ false = sym is ∙ other in cc))
    (λ not may. may)

-- a stack's capability in a register goes no further than the run
run_of : (i : Image) (s : State) (t n : ℕ) (f : Frame) (fs : List Frame) → Confined i s → (thread s t).frames ≡ f ∷ fs → (register (thread s t) n).tag ≡ true → stack_cap i (register (thread s t) n) ≡ true
    → WithinRun i (f ∷ fs) (cap_top (register (thread s t) n))
run_of i s t n f fs h frames tagged stack =
    let held : InFrames i s.objects t (f ∷ fs) (register (thread s t) n) = subst (λ gs. InFrames i s.objects t gs (register (thread s t) n)) frames (h.registers t n) in
    ((held tagged).own stack).1

-- where what it goes through isn't the heap's
pub through_root : (b : Platform) (s : State) (k : ℕ) (g : Granule) → Partitioned b.image → Confined b.image s → (h : IsStored b s k g) → heap_cap b.image (authority_of s h.by.thread_is h.instruction) ≡ false → Through b s k h.by
through_root b s k g p held h other =
    let c : Cap = authority_of s h.by.thread_is h.instruction in
    let at : ℕ = access_start s h.by.thread_is h.instruction in
    let some = (width_of h.instruction).some in
    let range = h.uses.range other in
    let high = range.1 in
    record {
      number = c.shadow.root;
      at = at;
      here = h.here;
      low = range.0;
      high = omega (arith, high, some);
      right = held_to b.image c store_data other h.uses.right;
      stores = subst (λ n. StoresInto b.image c.shadow.root (region b.image n)) h.here
          (p.stores c.shadow.root at h.inside (held_to b.image c store_data other h.uses.right) range.0 (omega (arith, high, some)));
      owner = h.uses.uses.owner;
      own = h.uses.uses.own;
      run = λ stack.
          let inside = h.inside in
          let here = h.here in
          let top = h.authority.high in
          within_less b.image (h.by.frame ∷ h.by.below) (cap_top (authority_of s h.by.thread_is h.instruction)) (address_of b.image k + 1) (omega (arith, inside, here, top, some))
          (run_of b.image s h.by.thread_is (operands_of h.instruction).first h.by.frame h.by.below held h.by.frames h.authority.tagged stack);
    }

stored_through : (b : Platform) (s : State) (k : ℕ) (g : Granule) → Partitioned b.image → Confined b.image s → (h : IsStored b s k g) → (region b.image k ≡ HeapRam) ⊎ Through b s k h.by
stored_through b s k g p held h =
    let some = (width_of h.instruction).some in
    elim (bool_tells (heap_cap b.image (authority_of s h.by.thread_is h.instruction))) [
      | inl heap ↦ inl (each_take (ObjectFits b.image s.next) (SpansLive (authority_of s h.by.thread_is h.instruction) (access_start s h.by.thread_is h.instruction) (access_of h.instruction).width) (region b.image k ≡ HeapRam) s.objects
          (λ q f spans.
          let low = f.low in
          let high = f.high in
          let from = spans.low in
          let to = spans.high in
          subst (λ n. region b.image n ≡ HeapRam) h.here (p.heap (access_start s h.by.thread_is h.instruction) (omega (arith, low, from)) (omega (arith, high, to, some))).1)
          held.fits (h.uses.object heap))
      | inr other ↦ inr (through_root b s k g p held h other)
    ]

-- ---- globals

globals_stored : (b : Platform) (s : State) (k o : ℕ) (by : Acting s) → region b.image k ≡ Globals o → Through b s k by → Reaches b.image.entries (Compartment o) by.frame.actor
globals_stored b s k o by is h =
    let of : IsGlobalsOf b.image h.number o = subst (StoresInto b.image h.number) is h.stores in
    subst (λ z. Reaches b.image.entries z by.frame.actor) of.1 (h.owner (ap is_owned of.0))

pub globals_kept : (b : Platform) (s : State) (e : Event) → Partitioned b.image → Facts b.image → Wired b → Keeps b.image s → GlobalsKept b s e
globals_kept b s e p facts wired keeps k o is = by (granules_kept b s e p facts wired keeps k)
  where
    held : Confined b.image (ready b s)
    held = (ready_keeps b s p keeps).confined

    by : Touched b s e k → KeepsWord b s e k ⊎ (ActsFor b s e o × StoresTo b s e k)
    by (as_before same) = inl (unswept b s (happens b s e).0 k same)
    by (by_store step h) = elim (stored_through b (ready b s) k _ p held h) [
      | inl heap ↦ absurd (let clash : Globals o ≡ HeapRam = sym is ∙ heap in cc)
      | inr through ↦ inr (record { step = step; by = h.by; reached = globals_stored b (ready b s) k o h.by is through }, h)
    ]
    by (by_clearing step h) = absurd (let clash : Globals o ≡ Stack h.by.thread_is = sym is ∙ own_stack b.image (ready b s) h.by.thread_is k h.by.frame h.by.below p held h.by.frames h.low h.high in cc)
    by (by_record step h) = absurd (let clash : Globals o ≡ Stack h.by.thread_is = sym is ∙ own_stack b.image (ready b s) h.by.thread_is k h.by.frame h.by.below p held h.by.frames h.low h.high in cc)
    by (by_free step h) = absurd (let clash : Globals o ≡ HeapRam = sym is ∙ chunk_heap b.image (ready b s) k h.object p held h.there h.chunk in cc)
    by (by_sweep sweep h) = inl h

pub own_globals : (b : Platform) (s : State) (e : Event) → GlobalsKept b s e → OwnGlobals b s e
own_globals b s e kept k o is alone = elim (kept k o is) [
  | inl left ↦ inl left
  | inr acts ↦ inr (record { step = acts.0.step; by = acts.0.by; itself = alone acts.0.by.frame.actor acts.0.reached }, acts.1)
]

-- what a sweep leaves holds the word that it held
pub swept_word : (b : Platform) (s after : State) (k : ℕ) → IsSwept b s after k → (granule after k).cap.word ≡ (granule s k).cap.word
swept_word b s after k h = elim h.cap [
  | inl same ↦ ap (λ (c : Cap). c.word) same
  | inr gone ↦ ap (λ (c : Cap). c.word) gone.2
]

pub globals_stay : (b : Platform) (s : State) (es : List Event) → Partitioned b.image → Facts b.image → Wired b → Keeps b.image s → GlobalsStay b s es
unfolding run
globals_stay b s [] p facts wired keeps k o is none = refl
globals_stay b s (e ∷ es) p facts wired keeps k o is none =
    globals_stay b (happens b s e).0 es p facts wired (event_keeps b s e p facts wired keeps) k o is none.1
    ∙ elim (globals_kept b s e p facts wired keeps k o is) [
      | inl left ↦ swept_word b s (happens b s e).0 k left
      | inr acts ↦ absurd (none.0 acts.0)
    ]

-- ---- stacks

stack_stored : (b : Platform) (s : State) (k t : ℕ) (by : Acting s) → Partitioned b.image → region b.image k ≡ Stack t → Through b s k by → t ≡ by.thread_is
stack_stored b s k t by p is h =
    let of : IsStackOfThread b.image h.number t = subst (StoresInto b.image h.number) is h.stores in
    let own : h.number ≡ stack_entry b.image by.thread_is = h.own (ap is_stack of.0) in
    let stack : (root b.image (stack_entry b.image t)).origin ≡ Listing kind.Stack = subst (λ n. (root b.image n).origin ≡ Listing kind.Stack) of.1 of.0 in
    p.stacks_differ t by.thread_is stack (sym of.1 ∙ own)

abbrev stack_of : Region → ℕ
stack_of (Stack t) = t
stack_of _ = 0

pub stacks_kept : (b : Platform) (s : State) (e : Event) → Partitioned b.image → Facts b.image → Wired b → Keeps b.image s → StacksKept b s e
stacks_kept b s e p facts wired keeps k t is = by (granules_kept b s e p facts wired keeps k)
  where
    held : Confined b.image (ready b s)
    held = (ready_keeps b s p keeps).confined

    over : e ≡ Step → (a : Acting (ready b s)) → t ≡ a.thread_is → WithinRun b.image (a.frame ∷ a.below) (address_of b.image k + 1) → RunsOver b s e t k
    over step a same run = (
      (step, a.running ∙ ap (λ n. Some n) (sym same)),
      subst (λ n. WithinRun b.image (thread (ready b s) n).frames (address_of b.image k + 1)) (sym same)
          (subst (λ (gs : List Frame). WithinRun b.image gs (address_of b.image k + 1)) (sym a.frames) run),
    )

    -- by the switcher or a trap: below the top of the innermost frame
    under : e ≡ Step → (a : Acting (ready b s)) → stack_base b.image a.thread_is ≤ address_of b.image k → address_of b.image k < a.frame.top → RunsOver b s e t k
    under step a low high =
        over step a (ap stack_of (sym is ∙ own_stack b.image (ready b s) a.thread_is k a.frame a.below p held a.frames low high)) (within_head b.image a.frame a.below (address_of b.image k + 1) (omega (arith, high)))

    by : Touched b s e k → KeepsWord b s e k ⊎ (RunsOver b s e t k × (StoresTo b s e k ⊎ Clears b s e k ⊎ Records b s e k))
    by (as_before same) = inl (unswept b s (happens b s e).0 k same)
    by (by_store step h) = elim (stored_through b (ready b s) k _ p held h) [
      | inl heap ↦ absurd (let clash : Stack t ≡ HeapRam = sym is ∙ heap in cc)
      | inr through ↦
          let of : IsStackOfThread b.image through.number t = subst (StoresInto b.image through.number) is through.stores in
          inr (over step h.by (stack_stored b (ready b s) k t h.by p is through) (through.run (ap is_stack of.0)), inl h)
    ]
    by (by_clearing step h) = inr (under step h.by h.low h.high, inr (inl h))
    by (by_record step h) = inr (under step h.by h.low h.high, inr (inr h))
    by (by_free step h) = absurd (let clash : Stack t ≡ HeapRam = sym is ∙ chunk_heap b.image (ready b s) k h.object p held h.there h.chunk in cc)
    by (by_sweep sweep h) = inl h

pub stacks_stay : (b : Platform) (s : State) (es : List Event) → Partitioned b.image → Facts b.image → Wired b → Keeps b.image s → StacksStay b s es
unfolding run
stacks_stay b s [] p facts wired keeps k t is none = refl
stacks_stay b s (e ∷ es) p facts wired keeps k t is none =
    stacks_stay b (happens b s e).0 es p facts wired (event_keeps b s e p facts wired keeps) k t is none.1
    ∙ elim (stacks_kept b s e p facts wired keeps k t is) [
      | inl left ↦ swept_word b s (happens b s e).0 k left
      | inr acts ↦ absurd (none.0 acts.0)
    ]

-- ---- shared and sealed objects

-- what may store there is an import
imports_owned : (i : Image) (n : ℕ) (r : Region) → IsObjectIn r → StoresInto i n r → is_owned (root i n).origin ≡ true
imports_owned i n (Shared object) is into = ap is_owned into.0
imports_owned i n Bare is into = elim into [ inl sealed ↦ ap is_owned sealed | inr device ↦ ap is_owned device ]
imports_owned i n Fixed is into = absurd is
imports_owned i n (Globals o) is into = absurd is
imports_owned i n HeapRam is into = absurd is
imports_owned i n (Stack t) is into = absurd is

pub imports_kept : (b : Platform) (s : State) (e : Event) → Partitioned b.image → Facts b.image → Wired b → Keeps b.image s → ImportsKept b s e
imports_kept b s e p facts wired keeps k is = by (granules_kept b s e p facts wired keeps k)
  where
    held : Confined b.image (ready b s)
    held = (ready_keeps b s p keeps).confined

    in_stack : (a : Acting (ready b s)) → stack_base b.image a.thread_is ≤ address_of b.image k → address_of b.image k < a.frame.top → ⊥
    in_stack a low high = subst IsObjectIn (own_stack b.image (ready b s) a.thread_is k a.frame a.below p held a.frames low high) is

    by : Touched b s e k → KeepsWord b s e k ⊎ (ActsThrough b s e k × StoresTo b s e k)
    by (as_before same) = inl (unswept b s (happens b s e).0 k same)
    by (by_store step h) = elim (stored_through b (ready b s) k _ p held h) [
      | inl heap ↦ absurd (subst IsObjectIn heap is)
      | inr through ↦ inr (
        record {
          step = step;
          by = h.by;
          entry = through.number;
          at = through.at;
          here = through.here;
          low = through.low;
          high = through.high;
          right = through.right;
          into = through.stores;
          reached = through.owner (imports_owned b.image through.number (region b.image k) is through.stores);
        },
        h,
      )
    ]
    by (by_clearing step h) = absurd (in_stack h.by h.low h.high)
    by (by_record step h) = absurd (in_stack h.by h.low h.high)
    by (by_free step h) = absurd (subst IsObjectIn (chunk_heap b.image (ready b s) k h.object p held h.there h.chunk) is)
    by (by_sweep sweep h) = inl h

pub imports_stay : (b : Platform) (s : State) (es : List Event) → Partitioned b.image → Facts b.image → Wired b → Keeps b.image s → ImportsStay b s es
unfolding run
imports_stay b s [] p facts wired keeps k is none = refl
imports_stay b s (e ∷ es) p facts wired keeps k is none =
    imports_stay b (happens b s e).0 es p facts wired (event_keeps b s e p facts wired keeps) k is none.1
    ∙ elim (imports_kept b s e p facts wired keeps k is) [
      | inl left ↦ swept_word b s (happens b s e).0 k left
      | inr acts ↦ absurd (none.0 acts.0)
    ]

-- ---- code

fixed_is : (i : Image) (s : State) (k : ℕ) → Confined i s → region i k ≡ Fixed → (granule s k).cap ≡ (booted i k).cap
fixed_is i s k h is = subst (λ r. InRegion i s k r (granule s k)) is (h.granules k)

pub code_stays : (b : Platform) (s : State) (es : List Event) → Partitioned b.image → Facts b.image → Wired b → Keeps b.image s → CodeStays b s (run b s es)
code_stays b s es p facts wired keeps k is = fixed_is b.image (run b s es) k (run_keeps b s es p facts wired keeps).confined is ∙ sym (fixed_is b.image s k keeps.confined is)
