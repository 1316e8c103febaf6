-- What is local stands in stacks: a store through SL goes into a stack, and whatever else changes a granule leaves it without
-- a tag.
use Rattle.std.proofs.Common.{ℕ, ◌≡◌, ◌+◌, ◌-◌, ◌*◌, ◌/◌, ◌≤◌, ◌<◌, ◌&&◌, true, false, inl, inr, not, nat_eq, nat_le, nat_lt, List, [], ◌∷◌, slice_set, Option, Some, None, Ok, Err, Result, refl, sym, ap, ◌∙◌, subst, arith}
use Rattle.law_lists.proofs.Tests.{chosen}
use Rattle.law_lists.proofs.Sets.{after_set_at}
use Rattle.ct_entry.specs.declared.acts.Deed.{Deed}
use Rattle.ct_entry.specs.declared.rows.Kind.TheVariants as kind
use Rattle.def_words.specs.declared.Cap.{Cap}
use Rattle.def_words.specs.declared.Trap.{Trap}
use Rattle.def_words.specs.Authority.{cap_address, cap_base, cap_top}
use Rattle.def_words.specs.Capability.{untagged}
use Rattle.def_words.specs.Loaded.{stored_through}
use Rattle.def_words.specs.Permissions.{has, global, memory_capability, store_data, store_local}
use Rattle.def_memory.specs.declared.Granule.{Granule}
use Rattle.def_memory.specs.Granules.{plain, nothing, granule_at}
use Rattle.def_memory.specs.Accesses.{stored, stored_cap}
use Rattle.def_memory.specs.Ranges.{zeroed_from}
use Rattle.def_instr.specs.declared.Instr.{Instr}
use Rattle.def_sched.specs.Picks.{pick}
use Rattle.def_reach.specs.Roots.{Origin, Listing, is_quota, is_stack}
use Rattle.def_machine.specs.Heap.{slice_end, sweep_over, swept, with_slice}
use Rattle.def_machine.specs.Image.{Image, Region, Fixed, Globals, Shared, HeapRam, Stack, Bare, granule_of, region, root, stack_base}
use Rattle.def_machine.specs.Memory.{filtered, is_marked_in}
use Rattle.def_machine.specs.Platform.{Platform}
use Rattle.def_machine.specs.State.{State, Frame, Object, granule, register, thread}
use Rattle.def_machine.specs.Threads.{statuses_of}
use Rattle.def_machine.specs.Frames.{ended_with, returned}
use Rattle.def_confined.specs.Capabilities.{Rooted, heap_cap, stack_cap}
use Rattle.def_confined.specs.Confined.{Confined}
use Rattle.def_confined.specs.Facts.{Facts}
use Rattle.def_confined.specs.Keeps.{Keeps}
use Rattle.def_confined.specs.Partitioned.{Carries, Partitioned}
use Rattle.def_step.specs.declared.Access.{Access}
use Rattle.def_step.specs.declared.Class.{Class}
use Rattle.def_step.specs.declared.Class.TheVariants as class
use Rattle.def_step.specs.declared.Event.{Event}
use Rattle.def_step.specs.declared.Event.TheVariants.{Step, Tick, Sweep, Input}
use Rattle.def_step.specs.declared.TheConstants.{TRAP_RECORD}
use Rattle.def_step.specs.Accesses.{Accessed, access_address, access_checks, access_of, access_result, accessed, load_checks, ram_stored, store_checks, unless}
use Rattle.def_step.specs.Checks.{first_failed}
use Rattle.def_step.specs.Events.{continued, happens, interrupted, one_more_step, picked_as, picked_from, preempted, preempted_from, run}
use Rattle.def_step.specs.Handlers.{record_end, record_words, words_written}
use Rattle.def_step.specs.Instructions.{Effect, accesses, around, carried_out, executed, flows, named_by, operand, space_of}
use Rattle.def_step.specs.Jumps.{Flowed}
use Rattle.def_step.specs.Operands.{class_of, operands_of}
use Rattle.def_step.specs.Quotas.{let_go}
use Rattle.def_image.specs.Parts.{PartsRow}
use Rattle.def_image.specs.Sound.{Sound}
use Rattle.def_boot.specs.Boot.{boot_state, image_of, platform_of}
use Rattle.def_safety.specs.Attenuates.{LocalsInStacks}
use Rattle.def_safety.specs.Clean.{high_of}
use Rattle.def_safety.specs.Each.{ready}
use Rattle.def_safety.specs.Wired.{Wired}
use Rattle.law_granules.proofs.Lists.{zeroed_at}
use Rattle.law_moves.proofs.Checks.{AllPass, all_pass}
use Rattle.law_moves.proofs.Ends.{unmarked_cap}
use Rattle.law_moves.proofs.Frees.{freed_cap}
use Rattle.law_moves.proofs.JumpsMoves.{in_rooted}
use Rattle.law_moves.proofs.Slices.{granule_at_slice}
use Rattle.law_moves.proofs.Begins.{begun}
use Rattle.law_routines.proofs.Accesses.{by_access}
use Rattle.law_routines.proofs.Stepping.{IfDone}
use Rattle.law_events.proofs.Accesses.{store_passes, when_false, width_of}
use Rattle.law_events.proofs.Events.{event_keeps, ready_keeps}
use Rattle.law_boot.proofs.Holding.{holds}
use Rattle.law_boot.proofs.Whole.{partitioned}
use Rattle.law_boot.proofs.Wiring.{wired}
use Rattle.law_started.proofs.Globality.{boots_local}
use Rattle.law_started.proofs.Whole.{keeps}
use Rattle.law_history.proofs.Attenuating.{through_store}
use Rattle.law_history.proofs.Routines.{executed_goes}
use Rattle.law_history.proofs.Sweeping.{swept_case, sliced_case}

-- c, in granule k, is local only in a stack
abbrev LocalAt : Image → ℕ → Cap → Type 0
LocalAt i k c = c.tag ≡ true → has c global ≡ false → (t : ℕ) × (region i k ≡ Stack t)

bare_at : (i : Image) (k : ℕ) (c : Cap) → c.tag ≡ false → LocalAt i k c
bare_at i k c off tagged = absurd (let clash : true ≡ false = sym tagged ∙ off in cc)

-- ---- where SL stores

stack_no_quota : (o : Origin) → is_stack o ≡ true → is_quota o ≡ false
stack_no_quota (Listing kind.Stack) is = refl
stack_no_quota o is = absurd (let clash : false ≡ true = is in cc)

-- the region into which a stack's root may store capabilities is a stack
carries_stack : (i : Image) (n k : ℕ) (r : Region) → region i k ≡ r → is_stack (root i n).origin ≡ true → Carries i n r → (t : ℕ) × (region i k ≡ Stack t)
carries_stack i n k Fixed is stack h = absurd h
carries_stack i n k (Globals o) is stack h = absurd (let clash : false ≡ true = sym (ap is_stack h.0) ∙ stack in cc)
carries_stack i n k (Shared m) is stack h = absurd (let clash : false ≡ true = sym (ap is_stack h.0) ∙ stack in cc)
carries_stack i n k HeapRam is stack h = absurd h
carries_stack i n k (Stack t) is stack h = (t, is)
carries_stack i n k Bare is stack h = absurd h

stores_in_stack : (i : Image) (x : Cap) (at : ℕ) → Partitioned i → Rooted i x → has x store_local ≡ true → has x store_data ≡ true → has x memory_capability ≡ true → cap_base x ≤ at → at < cap_top x → (t : ℕ) × (region i (granule_of i at) ≡ Stack t)
stores_in_stack i x at parts r local stores carries low high =
    let stack : stack_cap i x ≡ true = r.local local in
    let other : heap_cap i x ≡ false = ap (λ b. b && not (nat_eq x.shadow.source 0)) (stack_no_quota (root i x.shadow.root).origin stack) in
    let range = r.range other in
    let rights = r.rights other in
    let from = range.0 in
    let to = range.1 in
    carries_stack i x.shadow.root (granule_of i at) (region i (granule_of i at)) refl stack
    (parts.carries x.shadow.root at (rights store_data stores) (rights memory_capability carries) (omega (arith, from, low)) (omega (arith, to, high))).1

-- ---- what a step does to granules

abbrev AllLocal : Image → List Granule → Type 0
AllLocal i gs = (k : ℕ) → LocalAt i k (granule_at gs k).cap

words_local : (i : Image) (gs : List Granule) (n : ℕ) (ws : List ℕ) → AllLocal i gs → AllLocal i (words_written gs n ws)
words_local i gs n [] h = h
words_local i gs n (v ∷ vs) h = words_local i (slice_set gs n (record { cap = plain v; mark = (granule_at gs n).mark })) (n + 1) vs
    (λ j. after_set_at (λ m (g : Granule). LocalAt i m g.cap) gs n j (record { cap = plain v; mark = (granule_at gs n).mark }) nothing (bare_at i n (plain v) refl) (h j))

module _ (b : Platform) (s : State) (t : ℕ) (parts : Partitioned b.image) (held : Confined b.image s) (h : LocalsInStacks b.image s) where
  zeroed_local : (high : ℕ) → AllLocal b.image (zeroed_from (stack_base b.image t) high b.image.ram s.granules)
  zeroed_local high k = zeroed_at (stack_base b.image t) high b.image.ram s.granules k (λ g. LocalAt b.image k g.cap) (λ low below. bare_at b.image k (plain 0) refl) (λ outside. h k)

  ended_local : (value : ℕ) (fs : List Frame) → LocalsInStacks b.image (ended_with b.image s t value fs)
  ended_local value [] = h
  ended_local value (f ∷ []) = zeroed_local f.top
  ended_local value (f ∷ g ∷ gs) = zeroed_local f.top

  returned_local : (fs : List Frame) → LocalsInStacks b.image (returned b.image s t fs)
  returned_local [] = h
  returned_local (f ∷ []) = zeroed_local f.top
  returned_local (f ∷ g ∷ gs) = zeroed_local f.top

  gone_local : (r : Object) → LocalsInStacks b.image (let_go b.image s t r)
  gone_local r k = freed_cap (λ c. LocalAt b.image k c) b.image s r k (λ low high. bare_at b.image k (plain 0) refl) (λ outside. h k)

  -- a store
  stored_local : (a : Access) (n m at : ℕ) → 0 < a.width → a.loads ≡ false → AllPass (access_checks a (register (thread s t) n) (register (thread s t) m) at) → AllLocal b.image (ram_stored a (register (thread s t) n) (register (thread s t) m) at b.image.ram s.granules)
  stored_local a n m at some stores passes k =
      let x : Cap = register (thread s t) n in
      let y : Cap = register (thread s t) m in
      let says = store_passes a (register (thread s t) n) at (a.whole && (register (thread s t) m).tag)
      (when_false AllPass a.loads (load_checks a (register (thread s t) n) at) (store_checks a (register (thread s t) n) at (a.whole && (register (thread s t) m).tag)) stores passes) in
      let low = says.low in
      let high = says.high in
      chosen (λ (new : List Granule). LocalAt b.image k (granule_at new k).cap) a.whole (stored_cap s.granules (at - b.image.ram) (stored_through (register (thread s t) n) (register (thread s t) m))) (stored s.granules (at - b.image.ram) a.width (cap_address (register (thread s t) m)))
      (λ whole. after_set_at (λ j (g : Granule). LocalAt b.image j g.cap) s.granules (granule_of b.image at) k _ nothing
      (λ tagged local.
      let through = through_store (register (thread s t) n) (register (thread s t) m) (λ there. says.may_carry (let both : (a.whole && (register (thread s t) m).tag) ≡ true = rw (whole, there) refl in both)) tagged in
      elim through.local [
        | inl is ↦ absurd (let clash : true ≡ false = sym is ∙ local in cc)
        | inr may ↦ stores_in_stack b.image (register (thread s t) n) at parts (in_rooted b.image s.objects t (thread s t).frames (register (thread s t) n) (held.registers t n) says.tagged) may says.stores through.carries low (omega (arith, high, some))
      ])
      (h k))
      (λ part. after_set_at (λ j (g : Granule). LocalAt b.image j g.cap) s.granules (granule_of b.image at) k _ nothing (bare_at b.image (granule_of b.image at) _ refl) (h k))

  accessed_local : (k : Instr) → first_failed (access_checks (access_of k) (operand s t (operands_of k).first) (operand s t (operands_of k).second) (access_address (access_of k) (operand s t (operands_of k).first))) ≡ None
      → AllLocal b.image (accessed (access_of k) (operand s t (operands_of k).first) (operand s t (operands_of k).second) (access_address (access_of k) (operand s t (operands_of k).first)) (space_of b s)).granules
  accessed_local k passes = by_access (λ (m : Accessed). AllLocal b.image m.granules) (access_of k) (operand s t (operands_of k).first) (operand s t (operands_of k).second) (access_address (access_of k) (operand s t (operands_of k).first)) (space_of b s) (record {
    loads = λ ram loads. h;
    stores = λ ram stores. stored_local (access_of k) (operands_of k).first (operands_of k).second (access_address (access_of k) (operand s t (operands_of k).first)) (width_of k).some stores
        (all_pass (access_checks (access_of k) (operand s t (operands_of k).first) (operand s t (operands_of k).second) (access_address (access_of k) (operand s t (operands_of k).first))) passes);
    reads = λ loads. h;
    writes = λ stores. h;
  })

  abbrev IsLeft : Result Effect Trap → Type 0
  IsLeft r = IfDone (λ z. (o : Option Deed) → LocalsInStacks b.image z) s t r

  flows_left : (to : ℕ) (r : Result Flowed Trap) → IsLeft (flows (around b s t) to r)
  flows_left to (Err w) = tt
  flows_left to (Ok j) = λ o. h

  accesses_left : (to : ℕ) (o : Option Trap) (m : Accessed) → (o ≡ None → AllLocal b.image m.granules) → IsLeft (accesses (around b s t) to (unless o m))
  accesses_left to None m f = λ o. f refl
  accesses_left to (Some w) m f = tt

  class_left : (c : Class) (k : Instr) → IsLeft (carried_out c k (operands_of k).to (operand s t (operands_of k).first) (operand s t (operands_of k).second) (named_by b.image (operand s t (operands_of k).first)) (around b s t))
  unfolding access_result
  class_left class.Integer k = λ o. h
  class_left class.Capability k = λ o. h
  class_left class.System k = tt
  class_left class.Jump k = flows_left (operands_of k).to _
  class_left class.Access k = accesses_left (operands_of k).to _ _ (accessed_local k)
  class_left class.Fence k = λ o. h
  class_left class.Call k = tt
  class_left class.Break k = tt

  pub executed_local : LocalsInStacks b.image (executed b s t).0
  executed_local = executed_goes (λ z o. LocalsInStacks b.image z) b s t (record {
    handles = λ why f fs frames is. words_local b.image s.granules ((record_end (register (thread s t) 2) - TRAP_RECORD - b.image.ram) / 8) (record_words (thread s t) why) h;
    ends = λ value o. ended_local value (thread s t).frames;
    back = returned_local (thread s t).frames;
    done = λ k at. class_left (class_of k) k;
    deals = record {
      tells = λ n. h;
      enters = λ none. zeroed_local (high_of b.image s t);
      stops = λ status. h;
      wakes = λ address most. h;
      hands = λ quota size r is o. h;
      frees = λ r is o. gone_local r;
      gives = λ key r is o. gone_local r;
      seals = λ quota size key r is named o. h;
      opens = λ at returns k r key token. h;
    };
  })

-- ---- before a step, and a sweep

pub ready_ram : (b : Platform) (s : State) → (ready b s).granules ≡ s.granules
ready_ram b s = at_pick (preempted (one_more_step s)) (preempted (one_more_step s)).running ∙ at_stop (one_more_step s) (one_more_step s).running
  where
    at_choice : (z : State) (o : Option ℕ) → (picked_as b z o).granules ≡ z.granules
    at_choice z None = refl
    at_choice z (Some t) = refl

    at_pick : (z : State) (o : Option ℕ) → (picked_from b z o).granules ≡ z.granules
    at_pick z None = at_choice z (pick b.image.priorities (statuses_of z.threads) z.picks)
    at_pick z (Some t) = refl

    at_stop : (z : State) (o : Option ℕ) → (preempted_from z o).granules ≡ z.granules
    at_stop z None = refl
    at_stop z (Some t) = chosen (λ (y : State). y.granules ≡ z.granules) (z.pending && not (thread z t).posture.off) (record z { running = None; pending = false }) z (λ is. refl) (λ not. refl)

filtered_local : (i : Image) (s : State) (k : ℕ) (c : Cap) → LocalAt i k c → LocalAt i k (filtered i s c)
filtered_local i s k c h = chosen (LocalAt i k) (c.tag && is_marked_in i.ram s.granules (cap_base c)) (untagged c) c (λ is. bare_at i k (untagged c) refl) (λ not. h)

slice_local : (i : Image) (s : State) (low high : ℕ) → LocalsInStacks i s → LocalsInStacks i (with_slice i s low high)
slice_local i s low high h k = granule_at_slice (λ (g : Granule). LocalAt i k g.cap) i s low high 0 s.granules k (bare_at i k (plain 0) refl)
    (chosen (LocalAt i k) (nat_le low (0 + 8 * k) && nat_lt (0 + 8 * k) high) (filtered i s (granule s k).cap) (granule s k).cap (λ is. filtered_local i s k (granule s k).cap (h k)) (λ not. h k))

over_local : (i : Image) (s : State) → LocalsInStacks i s → LocalsInStacks i (sweep_over i s)
over_local i s h k = subst (LocalAt i k) (sym (unmarked_cap s.objects i.ram s.granules k)) (h k)

swept_local : (i : Image) (s : State) → LocalsInStacks i s → LocalsInStacks i (swept i s)
swept_local i s h = swept_case (LocalsInStacks i) i s
    (λ idle none. h)
    (λ idle begins. sliced_case (LocalsInStacks i) i (begun s) 0
    (λ whole. over_local i (with_slice i (begun s) 0 (slice_end i (begun s) 0)) (slice_local i (begun s) 0 (slice_end i (begun s) 0) h))
    (λ part. slice_local i (begun s) 0 (slice_end i (begun s) 0) h))
    (λ x runs. sliced_case (LocalsInStacks i) i s x
    (λ whole. over_local i (with_slice i s x (slice_end i s x)) (slice_local i s x (slice_end i s x) h))
    (λ part. slice_local i s x (slice_end i s x) h))

interrupted_local : (i : Image) (s : State) (o : Option ℕ) → LocalsInStacks i s → LocalsInStacks i (interrupted s o)
interrupted_local i s None h = h
interrupted_local i s (Some t) h = chosen (LocalsInStacks i) (thread s t).posture.off (record s { pending = true }) (record s { running = None }) (λ is. h) (λ not. h)

-- ---- an event

continued_local : (b : Platform) (s : State) (o : Option ℕ) → Partitioned b.image → Confined b.image s → LocalsInStacks b.image s → LocalsInStacks b.image (continued b s o).0
continued_local b s None parts held h = h
continued_local b s (Some t) parts held h = executed_local b s t parts held h

pub event_local : (b : Platform) (s : State) (e : Event) → Partitioned b.image → Keeps b.image s → LocalsInStacks b.image s → LocalsInStacks b.image (happens b s e).0
event_local b s Step parts k h = continued_local b (ready b s) (ready b s).running parts (ready_keeps b s parts k).confined
    (λ n. subst (λ gs. LocalAt b.image n (granule_at gs n).cap) (sym (ready_ram b s)) (h n))
event_local b s Tick parts k h = interrupted_local b.image _ s.running h
event_local b s (Input n byte) parts k h = h
event_local b s Sweep parts k h = swept_local b.image (record s { counts = record s.counts { sweeps = s.counts.sweeps + 1 } }) h

pub run_local : (b : Platform) (s : State) (es : List Event) → Partitioned b.image → Facts b.image → Wired b → Keeps b.image s → LocalsInStacks b.image s → LocalsInStacks b.image (run b s es)
unfolding run
run_local b s [] parts facts devices k h = h
run_local b s (e ∷ es) parts facts devices k h = run_local b (happens b s e).0 es parts facts devices (event_keeps b s e parts facts devices k) (event_local b s e parts k h)

-- ---- of a sound image's machine

pub image_local : (p : PartsRow) (es : List Event) → Sound p → LocalsInStacks (image_of p) (run (platform_of p) (boot_state p) es)
image_local p es s = run_local (platform_of p) (boot_state p) es (partitioned p s) (holds p s) (wired p s) (keeps p s) (boots_local p s)
