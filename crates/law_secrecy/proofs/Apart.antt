-- Threads that are apart as the report has it are out of one another's reach, whatever state the machine is in.
use Rattle.std.proofs.Common.{ℕ, ◌≡◌, ◌+◌, ◌<◌, ◌≤◌, ◌⊎◌, ◌&&◌, inl, inr, Bool, true, false, cond, nat_eq, List, [], ◌∷◌, refl, sym, ap, ◌∙◌, subst, arith}
use Rattle.std.proofs.lemmas.Bool.{eqb-false}
use Rattle.ct_entry.specs.declared.rows.Kind.{Kind}
use Rattle.ct_entry.specs.declared.rows.Kind.TheVariants as kind
use Rattle.def_words.specs.Permissions.{bit, store_data, memory_capability}
use Rattle.def_reach.specs.Roots.{Listing, is_stack}
use Rattle.def_machine.specs.Image.{Image, Region, Fixed, Globals, Shared, HeapRam, Stack, Bare, root, region, granule_of, stack_entry, stack_base, stack_top}
use Rattle.def_machine.specs.Objects.{Any, Each, charges}
use Rattle.def_machine.specs.Platform.{Platform}
use Rattle.def_machine.specs.State.{State, Frame, Object, thread}
use Rattle.def_confined.specs.Confined.{AllApart, Apart, Confined, FramesHold, ObjectFits}
use Rattle.def_confined.specs.Facts.{Facts, GrantsAccess}
use Rattle.def_confined.specs.Partitioned.{Partitioned, Carries}
use Rattle.def_confined.specs.Places.{WithinRun}
use Rattle.def_step.specs.Instructions.{actor_of}
use Rattle.def_profile.specs.declared.rights.TheConstants.{STACK_RIGHTS}
use Rattle.def_secrecy.specs.View.{ReadsThrough, ReadsObject, InView, SeesDevice}
use Rattle.def_secrecy.specs.Others.{ApartInReport, InStack, MayAccess, MayChange, OutOfReach}
use Rattle.law_moves.proofs.Rows.{each_take}
use Rattle.law_events.proofs.Whole.{stack_stores}

-- ---- objects

no_place : (p l q m y : ℕ) → p ≤ y → y < p + l → q ≤ y → y < q + m → (p + l + 8 ≤ q) ⊎ (q + m + 8 ≤ p) → ⊥
no_place p l q m y a b c e (inl f) = omega (arith, a, b, c, e, f)
no_place p l q m y a b c e (inr f) = omega (arith, a, b, c, e, f)

-- two objects with one address are one
both_read : (i : Image) (d a x : ℕ) (rs : List Object) → AllApart rs → Any (ReadsObject i d x) rs → Any (ReadsObject i a x) rs → Any (λ r. ReadsObject i d x r × ReadsObject i a x r) rs
both_read i d a x [] apart h k = absurd h
both_read i d a x (r ∷ rs) apart (inl h) (inl k) = inl (h, k)
both_read i d a x (r ∷ rs) apart (inr h) (inr k) = inr (both_read i d a x rs apart.1 h k)
both_read i d a x (r ∷ rs) apart (inl h) (inr k) = absurd (each_take (Apart r) (ReadsObject i a x) ⊥ rs (λ q away read. no_place r.base r.length q.base q.length x h.low h.high read.low read.high away.1) apart.0 k)
both_read i d a x (r ∷ rs) apart (inr h) (inl k) = absurd (each_take (Apart r) (ReadsObject i d x) ⊥ rs (λ q away read. no_place r.base r.length q.base q.length x k.low k.high read.low read.high away.1) apart.0 h)

-- a live object is charged to its quota, which so has a limit
charged : (i : Image) (d a x next : ℕ) (rs : List Object) → Each (ObjectFits i next) rs → Any (λ r. ReadsObject i d x r × ReadsObject i a x r) rs → (r : Object) × (0 < charges r.quota rs) × ReadsObject i d x r × ReadsObject i a x r
charged i d a x next [] fits h = absurd h
charged i d a x next (r ∷ rs) fits (inl h) = (r, here (r.live && nat_eq r.quota r.quota) refl, h.0, h.1)
  where
    here : (c : Bool) → (r.live && nat_eq r.quota r.quota) ≡ c → 0 < cond c r.charge 0 + charges r.quota rs
    here true e = (let some = fits.0.charge in omega (arith, some))
    here false e = absurd (eqb-false r.quota r.quota (ap (λ l. l && nat_eq r.quota r.quota) (sym h.0.live) ∙ e) refl)
charged i d a x next (r ∷ rs) fits (inr h) =
    let rest = charged i d a x next rs fits.1 h in
    let some = rest.1 in
    (rest.0, omega (arith, some), rest.2, rest.3)

-- an object lies in the heap
in_heap : (i : Image) (d x next : ℕ) (rs : List Object) → Each (ObjectFits i next) rs → Any (ReadsObject i d x) rs → (i.heap_base ≤ x) × (x < i.heap_end)
in_heap i d x next rs fits h = each_take (ObjectFits i next) (ReadsObject i d x) ((i.heap_base ≤ x) × (x < i.heap_end)) rs
    (λ r f read.
    let low = f.low in
    let high = f.high in
    let from = read.low in
    let to = read.high in
    (omega (arith, low, from), omega (arith, high, to)))
    fits h

-- ---- stacks

-- the run of a thread's frames lies in its stack
run_below : (i : Image) (objects : List Object) (t x : ℕ) (fs : List Frame) → FramesHold i objects t fs → WithinRun i fs x → x ≤ stack_top i t
run_below i objects t x [] holds h = absurd h
run_below i objects t x (f ∷ []) holds h = (let top = holds.0.high in omega (arith, top, h))
run_below i objects t x (f ∷ g ∷ gs) holds (inl h) = (let top = holds.0.high in omega (arith, top, h))
run_below i objects t x (f ∷ g ∷ gs) holds (inr h) = run_below i objects t x (g ∷ gs) holds.1 h.1

no_kind : (k : Kind) → Listing kind.Stack ≡ Listing k → is_stack (Listing k) ≡ false → ⊥
no_kind k e none = let clash : true ≡ false = ap is_stack e ∙ none in cc

-- whose stack a granule is part of
stack_of : (i : Image) (t x : ℕ) (r : Region) → (root i (stack_entry i t)).origin ≡ Listing kind.Stack → Carries i (stack_entry i t) r → (v : ℕ) × (r ≡ Stack v) × (stack_entry i t ≡ stack_entry i v)
stack_of i t x Fixed is h = absurd h
stack_of i t x (Globals o) is h = absurd (no_kind kind.Globals (sym is ∙ h.0) refl)
stack_of i t x (Shared o) is h = absurd (no_kind kind.Shared (sym is ∙ h.0) refl)
stack_of i t x HeapRam is h = absurd h
stack_of i t x (Stack v) is h = (v, refl, h.1)
stack_of i t x Bare is h = absurd h

stack_carries : bit STACK_RIGHTS memory_capability ≡ true
unfolding bit
stack_carries = refl

module _ (i : Image) (parts : Partitioned i) where
  owner_of : (t x : ℕ) → (root i (stack_entry i t)).origin ≡ Listing kind.Stack → InStack i t x → region i (granule_of i x) ≡ Stack t
  owner_of t x is inside =
      let rights = (parts.stacks_are (stack_entry i t) is).0 in
      let carried = parts.carries (stack_entry i t) x (subst (λ r. bit r store_data ≡ true) (sym rights) stack_stores) (subst (λ r. bit r memory_capability ≡ true) (sym rights) stack_carries) inside.0 inside.1 in
      let home = stack_of i t x (region i (granule_of i x)) is carried.1 in
      home.1 ∙ ap Stack (sym (parts.stacks_differ t home.0 is home.2))

  -- no address is of two threads' stacks
  stacks_apart : (t u x : ℕ) → (root i (stack_entry i t)).origin ≡ Listing kind.Stack → (root i (stack_entry i u)).origin ≡ Listing kind.Stack → (t ≡ u → ⊥) → InStack i t x → InStack i u x → ⊥
  stacks_apart t u x one two apart own other = let same : Stack t ≡ Stack u = sym (owner_of t x one own) ∙ owner_of u x two other in apart (cc)

-- ---- whole

module _ (b : Platform) (s : State) (t u : ℕ) (parts : Partitioned b.image) (facts : Facts b.image) (held : Confined b.image s) (differ : t ≡ u → ⊥) (apart : ApartInReport b.image t (actor_of (thread s t).frames) u (actor_of (thread s u).frames)) where
  abbrev own : ℕ
  own = actor_of (thread s t).frames

  abbrev other : ℕ
  other = actor_of (thread s u).frames

  -- what gives access lies away from objects
  away : (n x d : ℕ) → GrantsAccess (root b.image n) → (root b.image n).base ≤ x → x < (root b.image n).top → Any (ReadsObject b.image d x) s.objects → ⊥
  away n x d grants low high object =
      let inside = in_heap b.image d x s.next s.objects held.fits object in
      let from = inside.0 in
      let to = inside.1 in
      elim (facts.heap n x grants (low, high)) [ inl below ↦ omega (arith, below, from) | inr above ↦ omega (arith, above, to) ]

  stack_grants : (v : ℕ) → (root b.image (stack_entry b.image v)).origin ≡ Listing kind.Stack → GrantsAccess (root b.image (stack_entry b.image v))
  stack_grants v is = inr (inl (subst (λ r. bit r store_data ≡ true) (sym (parts.stacks_are (stack_entry b.image v) is).0) stack_stores))

  reads_grant : (n x : ℕ) → ReadsThrough b.image own n x → GrantsAccess (root b.image n)
  reads_grant n x h = elim h.may [ inl loads ↦ inl loads | inr runs_it ↦ inr (inr runs_it) ]

  in_own : (x : ℕ) → (stack_base b.image t ≤ x) × WithinRun b.image (thread s t).frames (x + 1) → InStack b.image t x
  in_own x run =
      let below = run_below b.image s.objects t (x + 1) (thread s t).frames (held.frames t) run.1 in
      (run.0, omega (arith, below))

  no_bytes : (x : ℕ) → InView b.image s t x → MayChange b.image s.objects u (thread s u).frames x → ⊥
  no_bytes x (inl entry) (inl store) = apart.entries entry.0 store.0 x entry.1 store.1
  no_bytes x (inl entry) (inr (inl object)) = away entry.0 x other (reads_grant entry.0 x entry.1) entry.1.low entry.1.high object
  no_bytes x (inl entry) (inr (inr stack)) = apart.other_stack entry.0 x entry.1 stack
  no_bytes x (inr (inl object)) (inl store) = away store.0 x own (inr (inl store.1.may)) store.1.low store.1.high object
  no_bytes x (inr (inl object)) (inr (inl too)) =
      let shared = charged b.image own other x s.next s.objects held.fits (both_read b.image own other x s.objects held.apart object too) in
      let some = shared.1 in
      let limit = held.limits shared.0.quota in
      apart.quotas shared.0.quota (omega (arith, some, limit)) shared.2.reached shared.3.reached
  no_bytes x (inr (inl object)) (inr (inr stack)) = away (stack_entry b.image u) x own (stack_grants u apart.stacks.1) stack.0 stack.1 object
  no_bytes x (inr (inr run)) (inl store) = apart.own_stack store.0 x store.1 (in_own x run)
  no_bytes x (inr (inr run)) (inr (inl object)) = (let inside = in_own x run in away (stack_entry b.image t) x other (stack_grants t apart.stacks.0) inside.0 inside.1 object)
  no_bytes x (inr (inr run)) (inr (inr stack)) = stacks_apart b.image parts t u x apart.stacks.0 apart.stacks.1 differ (in_own x run) stack

  pub out_of_reach : ((m : ℕ) → SeesDevice b (thread s t).frames m → MayAccess b (thread s u).frames m → ⊥) → OutOfReach b s t u
  out_of_reach devices = record { bytes = no_bytes; devices = devices }
