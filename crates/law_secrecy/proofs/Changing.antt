-- A step of another thread, which can reach nothing that a thread sees, leaves what that sees as it was.
use Rattle.std.proofs.Common.{ℕ, zero, suc, ◌≡◌, ◌+◌, ◌-◌, ◌/◌, ◌%◌, ◌<◌, ◌≤◌, ◌⊎◌, ◌&&◌, inl, inr, Bool, true, false, nat_le, nat_lt, List, [], ◌∷◌, Some, refl, sym, ap, ◌∙◌, subst, arith, slice_set}
use Rattle.std.proofs.lemmas.List.{length-set}
use Rattle.law_lists.proofs.Sets.{after_set_at}
use Rattle.law_lists.proofs.Tests.{bool_tells, chosen}
use Rattle.law_granules.proofs.Lists.{marked_length, zeroed_at, zeroed_length}
use Rattle.def_profile.specs.declared.layout.TheConstants.{CHUNK_HEAD}
use Rattle.def_words.specs.declared.Cap.{Cap}
use Rattle.def_words.specs.Authority.{cap_address, cap_base, cap_top}
use Rattle.def_words.specs.Loaded.{stored_through}
use Rattle.def_words.specs.Permissions.{has, load_data, store_data}
use Rattle.def_memory.specs.declared.Granule.{Granule}
use Rattle.def_memory.specs.Accesses.{with_part}
use Rattle.def_memory.specs.Granules.{plain, nothing, granule_at}
use Rattle.def_memory.specs.Ranges.{zeroed_from, marked_from}
use Rattle.def_reach.specs.Roots.{is_owned, is_stack}
use Rattle.def_reach.specs.Sharing.{Reaches}
use Rattle.def_machine.specs.Image.{root, address_of, stack_base, stack_top}
use Rattle.def_machine.specs.Objects.{Any}
use Rattle.def_machine.specs.Platform.{Platform}
use Rattle.def_machine.specs.State.{State, Frame, Object, DeviceState, thread, register}
use Rattle.def_confined.specs.Capabilities.{heap_cap}
use Rattle.def_confined.specs.Confined.{Confined, FramesHold, FrameHolds, ObjectFits}
use Rattle.def_confined.specs.Partitioned.{Partitioned}
use Rattle.def_confined.specs.Places.{LiveCovers}
use Rattle.def_step.specs.declared.Access.{Access}
use Rattle.def_step.specs.Accesses.{ram_stored}
use Rattle.def_step.specs.Devices.{device, found}
use Rattle.def_step.specs.Instructions.{actor_of}
use Rattle.def_secrecy.specs.View.{ReadsObject, InView}
use Rattle.def_secrecy.specs.Agreeing.{SameMemory}
use Rattle.def_secrecy.specs.Others.{MayAccess, MayChange, OutOfReach}
use Rattle.law_moves.proofs.Authorities.{headed}
use Rattle.law_moves.proofs.Deeds.{register_used}
use Rattle.law_moves.proofs.Rows.{any_map, each_take}
use Rattle.law_events.proofs.Accesses.{HasWidth, StorePasses}
use Rattle.law_secrecy.proofs.Unseen.{Hides, kept_or_hidden, part_hidden}

-- ---- lists

marked_cap : (from to : ℕ) (on : Bool) (place : ℕ) (gs : List Granule) (k : ℕ) → (granule_at (marked_from from to on place gs) k).cap ≡ (granule_at gs k).cap
marked_cap from to on place [] k = refl
marked_cap from to on place (g ∷ gs) zero = chosen (λ (h : Granule). h.cap ≡ g.cap) (nat_le from place && nat_lt place to) (record g { mark = on }) g (λ is. refl) (λ not. refl)
marked_cap from to on place (g ∷ gs) (suc k) = marked_cap from to on (place + 8) gs k

pub device_other : (ds : List DeviceState) (i k : ℕ) (x : DeviceState) → (i ≡ k → ⊥) → device ds k ≡ device (slice_set ds i x) k
device_other [] i k x e = refl
device_other (d ∷ ds) zero zero x e = absurd (e refl)
device_other (d ∷ ds) zero (suc k) x e = refl
device_other (d ∷ ds) (suc i) zero x e = refl
device_other (d ∷ ds) (suc i) (suc k) x e = device_other ds i k x (λ is. e (ap (λ n. suc n) is))

-- ---- what a step of thread u changes

module _ (b : Platform) (s : State) (t u : ℕ) (parts : Partitioned b.image) (held : Confined b.image s) (runs : s.running ≡ Some u) (out : OutOfReach b s t u) where
  abbrev sees : ℕ → Type 0
  sees = InView b.image s t

  abbrev changes : ℕ → Type 0
  changes = MayChange b.image s.objects u (thread s u).frames

  -- a granule of which the thread may change each byte
  hides : (k : ℕ) → ((n : ℕ) → n < 8 → changes (address_of b.image k + n)) → Hides b.image sees k
  hides k may n lt seen = out.bytes (address_of b.image k + n) seen (may n lt)

  pub unchanged : SameMemory b.image sees s.granules s.granules
  unchanged = record { size = refl; bytes = λ x above seen. refl; whole = λ k seen. refl }

  -- ---- its own stack

  frame_holds : (f : Frame) (fs : List Frame) → (thread s u).frames ≡ f ∷ fs → FrameHolds b.image s.objects u f fs
  frame_holds f fs frames =
      let below : FramesHold b.image s.objects u (f ∷ fs) = subst (λ (gs : List Frame). FramesHold b.image s.objects u gs) frames (held.frames u) in
      below.0

  pub in_stack : (f : Frame) (fs : List Frame) → (thread s u).frames ≡ f ∷ fs → (k : ℕ) → stack_base b.image u ≤ address_of b.image k → address_of b.image k < f.top → Hides b.image sees k
  in_stack f fs frames k low high =
      let h = frame_holds f fs frames in
      let top = h.high in
      let even = h.even in
      let ram = parts.even.0 in
      hides k (λ n lt. inr (inr (omega (arith, low), omega (arith, high, top, even, ram, lt))))

  pub zeroed_hidden : (f : Frame) (fs : List Frame) (high : ℕ) → (thread s u).frames ≡ f ∷ fs → high ≤ f.top → SameMemory b.image sees s.granules (zeroed_from (stack_base b.image u) high b.image.ram s.granules)
  zeroed_hidden f fs high frames below = kept_or_hidden b.image sees s.granules (zeroed_from (stack_base b.image u) high b.image.ram s.granules) (sym (zeroed_length (stack_base b.image u) high b.image.ram s.granules))
      (λ k. zeroed_at (stack_base b.image u) high b.image.ram s.granules k (λ (g : Granule). (g.cap ≡ (granule_at s.granules k).cap) ⊎ Hides b.image sees k)
      (λ from to. inr (in_stack f fs frames k from (omega (arith, to, below))))
      (λ outside. inl refl))

  -- ---- an object that it gives back

  actor_is : (f : Frame) (fs : List Frame) → (thread s u).frames ≡ f ∷ fs → f.actor ≡ actor_of (thread s u).frames
  actor_is f fs frames = sym (ap actor_of frames)

  pub freed_hidden : (r : Object) → Any (λ q. q ≡ r) s.objects → r.live ≡ true → (register (thread s u) 10).tag ≡ true → r.quota ≡ (register (thread s u) 10).shadow.root
      → SameMemory b.image sees s.granules (marked_from (r.base - CHUNK_HEAD) (r.base + r.length) true b.image.ram (zeroed_from r.base (r.base + r.length) b.image.ram s.granules))
  freed_hidden r there live tagged charged =
      kept_or_hidden b.image sees s.granules _ (sym (marked_length (r.base - CHUNK_HEAD) (r.base + r.length) true b.image.ram (zeroed_from r.base (r.base + r.length) b.image.ram s.granules) ∙ zeroed_length r.base (r.base + r.length) b.image.ram s.granules))
      (λ k. subst (λ c. (c ≡ (granule_at s.granules k).cap) ⊎ Hides b.image sees k) (sym (marked_cap (r.base - CHUNK_HEAD) (r.base + r.length) true b.image.ram (zeroed_from r.base (r.base + r.length) b.image.ram s.granules) k))
      (zeroed_at r.base (r.base + r.length) b.image.ram s.granules k (λ (g : Granule). (g.cap ≡ (granule_at s.granules k).cap) ⊎ Hides b.image sees k)
      (λ from to. inr (hides k (λ n lt. inr (inl (within k n from to lt)))))
      (λ outside. inl refl)))
    where
      whole : (r.base % 8 ≡ 0) × (r.length % 8 ≡ 0)
      whole = each_take (ObjectFits b.image s.next) (λ q. q ≡ r) ((r.base % 8 ≡ 0) × (r.length % 8 ≡ 0)) s.objects (λ q fits is. subst (λ (z : Object). (z.base % 8 ≡ 0) × (z.length % 8 ≡ 0)) is fits.whole) held.fits there

      reached : is_owned (root b.image r.quota).origin ≡ true → Reaches b.image.entries (root b.image r.quota).owner (actor_of (thread s u).frames)
      reached owned =
          let head = headed b.image s.objects u (thread s u).frames (register (thread s u) 10) (held.registers u 10) tagged in
          let use_of = register_used b.image s u 10 head.0 head.1.0 held runs head.1.1 tagged in
          subst (λ d. Reaches b.image.entries (root b.image r.quota).owner d) (actor_is head.0 head.1.0 head.1.1)
          (subst (λ n. Reaches b.image.entries (root b.image n).owner head.0.actor) (sym charged) (use_of.owner (subst (λ n. is_owned (root b.image n).origin ≡ true) charged owned)))

      within : (k n : ℕ) → r.base ≤ address_of b.image k → address_of b.image k < r.base + r.length → n < 8 → Any (ReadsObject b.image (actor_of (thread s u).frames) (address_of b.image k + n)) s.objects
      within k n from to lt =
          let base = whole.0 in
          let long = whole.1 in
          let ram = parts.even.0 in
          any_map (λ q. q ≡ r) (ReadsObject b.image (actor_of (thread s u).frames) (address_of b.image k + n)) s.objects
          (λ q is. subst (λ z. ReadsObject b.image (actor_of (thread s u).frames) (address_of b.image k + n) z) (sym is) (record { live = live; reached = reached; low = omega (arith, from); high = omega (arith, to, base, long, ram, lt) }))
          there

  -- ---- a store

  -- what it may store to through a capability in a register
  may_store : (n : ℕ) → (register (thread s u) n).tag ≡ true → has (register (thread s u) n) store_data ≡ true → (x : ℕ) → cap_base (register (thread s u) n) ≤ x → x < cap_top (register (thread s u) n) → changes x
  may_store n tagged stores x low high =
      let c : Cap = register (thread s u) n in
      let head = headed b.image s.objects u (thread s u).frames (register (thread s u) n) (held.registers u n) tagged in
      let v = register_used b.image s u n head.0 head.1.0 held runs head.1.1 tagged in
      let actor = actor_is head.0 head.1.0 head.1.1 in
      elim (bool_tells (heap_cap b.image (register (thread s u) n))) [
        | inl heap ↦ inr (inl (any_map (LiveCovers (register (thread s u) n)) (ReadsObject b.image (actor_of (thread s u).frames) x) s.objects (λ q k.
            let from = k.1.low in
            let to = k.1.high in
            record {
              live = k.0;
              reached = λ owned. subst (λ d. Reaches b.image.entries (root b.image q.quota).owner d) actor
                  (subst (λ m. Reaches b.image.entries (root b.image m).owner head.0.actor) (sym k.1.quota) (v.owner (subst (λ m. is_owned (root b.image m).origin ≡ true) k.1.quota owned)));
              low = omega (arith, from, low);
              high = omega (arith, to, high);
            })
            (v.live heap (omega (arith, low, high)))))
        | inr other ↦
            let range = v.range other in
            let base = range.0 in
            let top = range.1 in
            elim (bool_tells (is_stack (root b.image c.shadow.root).origin)) [
              | inl stack ↦
                  let from : stack_base b.image u ≤ cap_base c = subst (λ m. (root b.image m).base ≤ cap_base c) (v.own stack) range.0 in
                  let to : cap_top c ≤ stack_top b.image u = subst (λ m. cap_top c ≤ (root b.image m).top) (v.own stack) range.1 in
                  inr (inr (omega (arith, from, low), omega (arith, to, high)))
              | inr no_stack ↦ inl (c.shadow.root, record { no_stack = no_stack; reached = λ owned. subst (λ d. Reaches b.image.entries (root b.image c.shadow.root).owner d) actor (v.owner owned); may = v.rights other store_data stores; low = omega (arith, base, low); high = omega (arith, top, high) })
            ]
      ]

  -- one granule is set, of which the thread may change each byte
  set_hidden : (k : ℕ) (g : Granule) → Hides b.image sees k → SameMemory b.image sees s.granules (slice_set s.granules k g)
  set_hidden k g hidden = kept_or_hidden b.image sees s.granules (slice_set s.granules k g) (sym (length-set s.granules k g))
      (λ j. after_set_at (λ m (h : Granule). m ≡ j → (h.cap ≡ (granule_at s.granules j).cap) ⊎ Hides b.image sees j) s.granules k j g nothing (λ here. inr (subst (λ m. Hides b.image sees m) here hidden)) (λ here. inl refl) refl)

  pub stored_hidden : (n m : ℕ) (a : Access) (at : ℕ) → HasWidth a → b.image.ram ≤ at → StorePasses a (register (thread s u) n) at (a.whole && (register (thread s u) m).tag)
      → SameMemory b.image sees s.granules (ram_stored a (register (thread s u) n) (register (thread s u) m) at b.image.ram s.granules)
  stored_hidden n m a at wide above passes =
      let low = passes.low in
      let high = passes.high in
      let ram = parts.even.0 in
      chosen (λ (gs : List Granule). SameMemory b.image sees s.granules gs) a.whole
      (slice_set s.granules ((at - b.image.ram) / 8) (record { cap = stored_through (register (thread s u) n) (register (thread s u) m); mark = (granule_at s.granules ((at - b.image.ram) / 8)).mark }))
      (slice_set s.granules ((at - b.image.ram) / 8) (record { cap = plain (with_part (granule_at s.granules ((at - b.image.ram) / 8)).cap.word ((at - b.image.ram) % 8) a.width (cap_address (register (thread s u) m))); mark = (granule_at s.granules ((at - b.image.ram) / 8)).mark }))
      (λ is.
      let eight = wide.eight is in
      let even : at % 8 ≡ 0 = subst (λ w. at % w ≡ 0) eight passes.aligned in
      set_hidden ((at - b.image.ram) / 8) _ (hides ((at - b.image.ram) / 8) (λ j lt. may_store n passes.tagged passes.stores (address_of b.image ((at - b.image.ram) / 8) + j) (omega (arith, above, ram, even, low)) (omega (arith, above, ram, even, high, eight, lt)))))
      (λ part. part_hidden b.image sees s.granules at a.width (cap_address (register (thread s u) m)) above wide.some (λ y from to seen. out.bytes y seen (may_store n passes.tagged passes.stores y (omega (arith, low, from)) (omega (arith, high, to)))))

  -- ---- a device

  pub may_access : (n at m : ℕ) → (register (thread s u) n).tag ≡ true → (has (register (thread s u) n) load_data ≡ true) ⊎ (has (register (thread s u) n) store_data ≡ true) → cap_base (register (thread s u) n) ≤ at → at < cap_top (register (thread s u) n) → heap_cap b.image (register (thread s u) n) ≡ false
      → found b.bases at ≡ Some m → MayAccess b (thread s u).frames m
  may_access n at m tagged may low high other here =
      let c : Cap = register (thread s u) n in
      let head = headed b.image s.objects u (thread s u).frames (register (thread s u) n) (held.registers u n) tagged in
      let v = register_used b.image s u n head.0 head.1.0 held runs head.1.1 tagged in
      let actor = actor_is head.0 head.1.0 head.1.1 in
      let range = v.range other in
      let base = range.0 in
      let top = range.1 in
      record {
        entry = c.shadow.root;
        address = at;
        reached = λ owned. subst (λ d. Reaches b.image.entries (root b.image c.shadow.root).owner d) actor (v.owner owned);
        may = elim may [ inl loads ↦ inl (v.rights other load_data loads) | inr stores ↦ inr (v.rights other store_data stores) ];
        low = omega (arith, base, low);
        high = omega (arith, top, high);
        here = here;
      }
