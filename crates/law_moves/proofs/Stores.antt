-- A granule is stored to through a register of the running thread.
use Rattle.std.proofs.Common.{ℕ, ◌≡◌, ◌-◌, ◌%◌, ◌≤◌, ◌<◌, inl, inr, ◌&&◌, Bool, true, false, not, List, ◌∷◌, Some, refl, sym, ap, ◌∙◌, subst, arith}
use Rattle.law_lists.proofs.Tests.{bool_tells, chosen}
use Rattle.def_words.specs.declared.Cap.{Cap}
use Rattle.def_words.specs.Authority.{cap_base, cap_top}
use Rattle.def_words.specs.Capability.{untagged}
use Rattle.def_words.specs.Loaded.{stored_through}
use Rattle.def_words.specs.Permissions.{has, global, store_data, store_local, memory_capability}
use Rattle.def_memory.specs.Granules.{plain}
use Rattle.def_memory.specs.Accesses.{with_part}
use Rattle.ct_entry.specs.declared.rows.Kind.TheVariants as kind
use Rattle.def_reach.specs.Roots.{Listing, is_stack, is_owned}
use Rattle.def_reach.specs.Sharing.{Joined, SharesC}
use Rattle.def_machine.specs.Image.{Image, Region, Fixed, Globals, Shared, HeapRam, Stack, Bare, root, region, granule_of, address_of, stack_entry}
use Rattle.def_machine.specs.State.{State, Frame, Object, thread, register, granule}
use Rattle.def_machine.specs.Memory.{cap_stored, bytes_stored}
use Rattle.def_confined.specs.Capabilities.{Kept, heap_cap, stack_cap}
use Rattle.def_confined.specs.Places.{Placed, InFrames, InRegion, OwnStack, NoStack, HeapDomain, outer}
use Rattle.def_confined.specs.Confined.{Confined, FramesHold}
use Rattle.def_confined.specs.Partitioned.{Partitioned, StoresInto, Carries}
use Rattle.law_reach.proofs.Joins.{joined_sym}
use Rattle.law_moves.proofs.Places.{given, carry, outer_joins}
use Rattle.law_moves.proofs.Puts.{plain_kept, plain_region, put_confined}
use Rattle.law_moves.proofs.Authorities.{Reaching, heap_quota, no_stack_of, owner_joined, whole_granule, domain_there, domain_joined, share_joined, holder, reaching}

-- what is known of a store's two registers, where the value is tagged
pub record Storing (i : Image) (s : State) (t : ℕ) (f : Frame) (gs : List Frame) (by v : Cap) (x : ℕ) : Type 0 where
  pub to : Reaching i s t f gs by x
  pub value : Placed i s.objects (λ d. d ≡ f.actor) (OwnStack i t (f ∷ gs)) v
  pub stacks : stack_cap i v ≡ true → stack_cap i by ≡ true
  pub stores : has by store_data ≡ true

in_heap : (i : Image) (s : State) (t : ℕ) (f : Frame) (gs : List Frame) (by v : Cap) (x : ℕ) (mark : Bool) → Storing i s t f gs by v x → heap_cap i by ≡ true → InRegion i s (granule_of i x) HeapRam (record { cap = v; mark = mark })
in_heap i s t f gs by v x mark w heap = λ tagged.
    let at : address_of i (granule_of i x) ≡ x = whole_granule i x w.to.parts w.to.inside w.to.aligned in
    let some : cap_base by < cap_top by = omega (arith, w.to.low, w.to.high) in
    let P : ℕ → Type 0 = λ n. ((d : ℕ) × HeapDomain i s.objects n d) × Placed i s.objects (HeapDomain i s.objects n) NoStack v in
    subst P (sym at) (
      domain_there i s.objects f.actor x (OwnStack i t (f ∷ gs)) by w.to.parts heap w.to.low w.to.high (w.to.live heap some),
      given i s.objects f.actor (HeapDomain i s.objects x) (OwnStack i t (f ∷ gs)) NoStack v
          (λ d there. joined_sym i.entries d f.actor (domain_joined i s.objects f.actor x d (OwnStack i t (f ∷ gs)) by w.to.parts w.to.held.apart heap w.to.low w.to.high (w.to.live heap some) w.to.authority there))
          (λ stack own. no_stack_of i by (Listing kind.Quota) (heap_quota i by heap) refl (w.stacks stack))
          w.value,
    )

carried : (i : Image) (s : State) (t : ℕ) (f : Frame) (gs : List Frame) (by v : Cap) (x : ℕ) (mark : Bool) (r : Region) → Storing i s t f gs by v x → Carries i by.shadow.root r → InRegion i s (granule_of i x) r (record { cap = v; mark = mark })
carried i s t f gs by v x mark Fixed w h = absurd h
carried i s t f gs by v x mark (Globals o) w h = λ tagged.
    let owned : is_owned (root i by.shadow.root).origin ≡ true = ap is_owned h.0 in
    let joined : Joined i.entries o f.actor = owner_joined i s.objects f.actor o (OwnStack i t (f ∷ gs)) by w.to.parts w.to.authority owned h.1 in
    given i s.objects f.actor (λ d. d ≡ o) (OwnStack i t (f ∷ gs)) NoStack v
    (λ d e. let P : ℕ → Type 0 = λ n. Joined i.entries f.actor n in subst P (sym e) (joined_sym i.entries o f.actor joined))
    (λ stack own. no_stack_of i by (Listing kind.Globals) h.0 refl (w.stacks stack))
    w.value
carried i s t f gs by v x mark (Shared m) w h = λ tagged.
    let owned : is_owned (root i by.shadow.root).origin ≡ true = ap is_owned h.0 in
    let joined : Joined i.entries h.1.0 f.actor = owner_joined i s.objects f.actor h.1.0 (OwnStack i t (f ∷ gs)) by w.to.parts w.to.authority owned h.1.1 in (
      (h.1.0, h.1.2),
      given i s.objects f.actor (SharesC i.entries m) (OwnStack i t (f ∷ gs)) NoStack v
          (λ d shares. share_joined i m h.1.0 d f.actor h.1.2 shares joined)
          (λ stack own. no_stack_of i by (Listing kind.Shared) h.0 refl (w.stacks stack))
          w.value,
    )
carried i s t f gs by v x mark HeapRam w h = absurd h
carried i s t f gs by v x mark (Stack u) w h =
    let own : OwnStack i t (f ∷ gs) by = w.to.authority.own (ap is_stack h.0) in
    let at : address_of i (granule_of i x) ≡ x = whole_granule i x w.to.parts w.to.inside w.to.aligned in
    let kind_is : (root i (stack_entry i t)).origin ≡ Listing kind.Stack = let P : ℕ → Type 0 = λ n. (root i n).origin ≡ Listing kind.Stack in subst P own.0 h.0 in
    let same : t ≡ u = w.to.parts.stacks_differ t u kind_is (sym own.0 ∙ h.1) in
    let whole : InFrames i s.objects t (outer (f ∷ gs) x) v = carry i s.objects t (f ∷ gs) (outer (f ∷ gs) x) v
    (outer_joins i s.objects t (f ∷ gs) (cap_top by) x (subst (λ (fs : List Frame). FramesHold i s.objects t fs) w.to.frames (w.to.held.frames t)) own.1 w.to.high)
    (λ tagged. w.value) in
    let P : ℕ → Type 0 = λ n. InFrames i s.objects n (outer (thread s n).frames (address_of i (granule_of i x))) v in
    let Q : List Frame → Type 0 = λ fs. InFrames i s.objects t (outer fs (address_of i (granule_of i x))) v in
    let R : ℕ → Type 0 = λ n. InFrames i s.objects t (outer (f ∷ gs) n) v in
    subst P same (subst Q (sym w.to.frames) (subst R (sym at) whole))
carried i s t f gs by v x mark Bare w h = absurd h

store_in : (i : Image) (s : State) (t : ℕ) (f : Frame) (gs : List Frame) (by v : Cap) (x : ℕ) (mark : Bool) → Storing i s t f gs by v x → InRegion i s (granule_of i x) (region i (granule_of i x)) (record { cap = v; mark = mark })
store_in i s t f gs by v x mark w = elim (bool_tells (heap_cap i by)) [
  | inl heap ↦
      let place = w.to.authority.rooted.heap heap in
      let is : region i (granule_of i x) ≡ HeapRam = (w.to.parts.heap x (omega (arith, place, w.to.low)) (omega (arith, place, w.to.high))).1 in
      let P : Region → Type 0 = λ r. InRegion i s (granule_of i x) r (record { cap = v; mark = mark }) in
      subst P (sym is) (in_heap i s t f gs by v x mark w heap)
  | inr other ↦
      let range = w.to.authority.rooted.range other in
      carried i s t f gs by v x mark (region i (granule_of i x)) w
      (w.to.parts.carries by.shadow.root x (w.to.authority.rooted.rights other store_data w.stores) (w.to.authority.rooted.rights other memory_capability w.to.carries) (omega (arith, range, w.to.low)) (omega (arith, range, w.to.high))).1
]

-- what is stored to isn't as boot made it
open_there : (i : Image) (objects : List Object) (D : ℕ → Type 0) (S : Cap → Type 0) (by : Cap) (x : ℕ) → Partitioned i → Placed i objects D S by → i.ram ≤ x → has by store_data ≡ true → cap_base by ≤ x → x < cap_top by → region i (granule_of i x) ≡ Fixed → ⊥
open_there i objects D S by x p a inside stores low high fixed = elim (bool_tells (heap_cap i by)) [
  | inl heap ↦
      let place = a.rooted.heap heap in
      let is : region i (granule_of i x) ≡ HeapRam = (p.heap x (omega (arith, place, low)) (omega (arith, place, high))).1 in
      let clash : HeapRam ≡ Fixed = sym is ∙ fixed in cc
  | inr other ↦
      let range = a.rooted.range other in
      let into : StoresInto i by.shadow.root (region i (granule_of i x)) = p.stores by.shadow.root x inside (a.rooted.rights other store_data stores) (omega (arith, range, low)) (omega (arith, range, high)) in
      subst (StoresInto i by.shadow.root) fixed into
]

-- a local value stays tagged only through a stack's capability
pub through_case : (P : Cap → Type 0) (by v : Cap) → P (untagged v) → ((v.tag ≡ true → has v global ≡ false → has by store_local ≡ true) → P v) → P (stored_through by v)
through_case P by v gone stays = chosen P (v.tag && not (has v global) && not (has by store_local)) (untagged v) v
    (λ is. gone)
    (λ other. stays (λ tagged lacks. elim (bool_tells (has by store_local)) [
      | inl there ↦ there
      | inr none ↦
          let all : (v.tag && not (has v global) && not (has by store_local)) ≡ true = ap (λ b. b && not (has v global) && not (has by store_local)) tagged ∙ ap (λ b. not b && not (has by store_local)) lacks ∙ ap (λ b. not b) none in
          absurd (let clash : true ≡ false = sym all ∙ other in cc)
    ]))

pub store_cap_confined : (i : Image) (s : State) (t at from x : ℕ) → Partitioned i → Confined i s → s.running ≡ Some t → i.ram ≤ x → (register (thread s t) at).tag ≡ true → has (register (thread s t) at) store_data ≡ true
    → ((register (thread s t) from).tag ≡ true → has (register (thread s t) at) memory_capability ≡ true) → cap_base (register (thread s t) at) ≤ x → x < cap_top (register (thread s t) at) → x % 8 ≡ 0
    → Confined i (cap_stored i s x (register (thread s t) at) (register (thread s t) from))
store_cap_confined i s t at from x p h runs inside tagged stores carries low high aligned =
    let w = holder i s t at h tagged in
    let closed : region i (granule_of i x) ≡ Fixed → ⊥ = open_there i s.objects (λ d. d ≡ w.frame.actor) (OwnStack i t (w.frame ∷ w.under)) (register (thread s t) at) x p w.placed inside stores low high in
    put_confined i s (granule_of i x) (stored_through (register (thread s t) at) (register (thread s t) from)) h
    (through_case (λ c. InRegion i s (granule_of i x) (region i (granule_of i x)) (record { cap = c; mark = (granule s (granule_of i x)).mark })) (register (thread s t) at) (register (thread s t) from)
    (plain_region i s (granule_of i x) (region i (granule_of i x)) (record { cap = untagged (register (thread s t) from); mark = (granule s (granule_of i x)).mark }) closed refl)
    (λ local. elim (bool_tells (register (thread s t) from).tag) [
      | inl there ↦
          let value : Placed i s.objects (λ d. d ≡ w.frame.actor) (OwnStack i t (w.frame ∷ w.under)) (register (thread s t) from) =
          (subst (λ (fs : List Frame). InFrames i s.objects t fs (register (thread s t) from)) w.frames (h.registers t from)) there in
          store_in i s t w.frame w.under (register (thread s t) at) (register (thread s t) from) x (granule s (granule_of i x)).mark (record {
            to = reaching i s t at x w p h runs tagged (carries there) inside low high aligned;
            value = value;
            stacks = λ stack. w.placed.rooted.local (local there (value.rooted.held stack));
            stores = stores;
          })
      | inr none ↦ plain_region i s (granule_of i x) (region i (granule_of i x)) (record { cap = register (thread s t) from; mark = (granule s (granule_of i x)).mark }) closed none
    ]))
    (through_case (Kept i) (register (thread s t) at) (register (thread s t) from) (plain_kept i (untagged (register (thread s t) from)) refl) (λ local. h.kept.registers t from))

pub store_bytes_confined : (i : Image) (s : State) (t at x width value : ℕ) → Partitioned i → Confined i s → i.ram ≤ x → (register (thread s t) at).tag ≡ true → has (register (thread s t) at) store_data ≡ true → cap_base (register (thread s t) at) ≤ x → x < cap_top (register (thread s t) at)
    → Confined i (bytes_stored i s x width value)
store_bytes_confined i s t at x width value p h inside tagged stores low high =
    let w = holder i s t at h tagged in
    let closed : region i (granule_of i x) ≡ Fixed → ⊥ = open_there i s.objects (λ d. d ≡ w.frame.actor) (OwnStack i t (w.frame ∷ w.under)) (register (thread s t) at) x p w.placed inside stores low high in
    let c : Cap = plain (with_part (granule s (granule_of i x)).cap.word ((x - i.ram) % 8) width value) in
    put_confined i s (granule_of i x) (plain (with_part (granule s (granule_of i x)).cap.word ((x - i.ram) % 8) width value)) h
    (plain_region i s (granule_of i x) (region i (granule_of i x)) (record { cap = plain (with_part (granule s (granule_of i x)).cap.word ((x - i.ram) % 8) width value); mark = (granule s (granule_of i x)).mark }) closed refl)
    (plain_kept i (plain (with_part (granule s (granule_of i x)).cap.word ((x - i.ram) % 8) width value)) refl)
