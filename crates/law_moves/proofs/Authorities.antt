-- What an authorising capability's root says.
use Rattle.std.proofs.Common.{ℕ, ◌≡◌, ◌+◌, ◌%◌, ◌≤◌, ◌<◌, inr, true, false, not, nat_eq, List, [], ◌∷◌, Some, refl, sym, ap, ◌∙◌, subst, arith}
use Rattle.law_lists.proofs.Tests.{both_left}
use Rattle.def_words.specs.declared.Cap.{Cap}
use Rattle.def_words.specs.Authority.{cap_base, cap_top}
use Rattle.def_words.specs.Permissions.{has, memory_capability}
use Rattle.ct_entry.specs.declared.rows.Owner.{Owner}
use Rattle.ct_entry.specs.declared.rows.Owner.TheVariants.{Compartment}
use Rattle.ct_entry.specs.declared.rows.Kind.TheVariants.{Code, Globals, Stack, Device, Shared, Sealed, Call, Library, Service, Quota, Key, Export}
use Rattle.def_reach.specs.Roots.{Origin, Unknown, TrustedPart, Listing, is_quota, is_stack, is_owned}
use Rattle.def_reach.specs.Sharing.{Joined, Reaches, SharesC}
use Rattle.def_machine.specs.Image.{Image, root, granule_of, address_of}
use Rattle.def_machine.specs.State.{State, Frame, Object, thread, register}
use Rattle.def_machine.specs.Objects.{Any}
use Rattle.def_confined.specs.Capabilities.{heap_cap, stack_cap}
use Rattle.def_confined.specs.Places.{Placed, LiveCovers, LiveAt, HeapDomain, InFrames, OwnStack}
use Rattle.def_confined.specs.Confined.{AllApart, Confined}
use Rattle.def_confined.specs.Partitioned.{Partitioned}
use Rattle.law_reach.proofs.Joins.{own_joined, joined_sym, joined_trans, joined_edge}
use Rattle.law_moves.proofs.Rows.{any_map, one_at}

pub quota_is : (o : Origin) → is_quota o ≡ true → o ≡ Listing Quota
quota_is Unknown h = absurd (let clash : false ≡ true = h in cc)
quota_is TrustedPart h = absurd (let clash : false ≡ true = h in cc)
quota_is (Listing Quota) h = refl
quota_is (Listing Service) h = absurd (let clash : false ≡ true = h in cc)
quota_is (Listing Code) h = absurd (let clash : false ≡ true = h in cc)
quota_is (Listing Globals) h = absurd (let clash : false ≡ true = h in cc)
quota_is (Listing Stack) h = absurd (let clash : false ≡ true = h in cc)
quota_is (Listing Device) h = absurd (let clash : false ≡ true = h in cc)
quota_is (Listing Shared) h = absurd (let clash : false ≡ true = h in cc)
quota_is (Listing Sealed) h = absurd (let clash : false ≡ true = h in cc)
quota_is (Listing Call) h = absurd (let clash : false ≡ true = h in cc)
quota_is (Listing Library) h = absurd (let clash : false ≡ true = h in cc)
quota_is (Listing Key) h = absurd (let clash : false ≡ true = h in cc)
quota_is (Listing Export) h = absurd (let clash : false ≡ true = h in cc)

pub heap_quota : (i : Image) (c : Cap) → heap_cap i c ≡ true → (root i c.shadow.root).origin ≡ Listing Quota
heap_quota i c h = quota_is (root i c.shadow.root).origin (both_left (is_quota (root i c.shadow.root).origin) (not (nat_eq c.shadow.source 0)) h)

-- a kind that is no stack's gives no stack capability
pub no_stack_of : (i : Image) (c : Cap) (o : Origin) → (root i c.shadow.root).origin ≡ o → is_stack o ≡ false → stack_cap i c ≡ true → ⊥
no_stack_of i c o is none stack = let clash : true ≡ false = sym stack ∙ ap is_stack is ∙ none in cc

-- the owner of a capability's root, where it is a compartment, is joined to the place's domain
pub owner_joined : (i : Image) (objects : List Object) (f a : ℕ) (S : Cap → Type 0) (c : Cap) → Partitioned i → Placed i objects (λ d. d ≡ f) S c → is_owned (root i c.shadow.root).origin ≡ true → (root i c.shadow.root).owner ≡ Compartment a → Joined i.entries a f
owner_joined i objects f a S c p h owned is =
    let P : Owner → Type 0 = λ o. Reaches i.entries o f in
    own_joined i.entries a f (subst P is (h.owner owned f refl))

pub quota_owned : (o : Origin) → o ≡ Listing Quota → is_owned o ≡ true
quota_owned o e = ap is_owned e

-- an address that is a granule's
pub whole_granule : (i : Image) (x : ℕ) → Partitioned i → i.ram ≤ x → x % 8 ≡ 0 → address_of i (granule_of i x) ≡ x
whole_granule i x p le even = let ram = p.even.0 in omega (arith, le, even, ram)

-- the object that an authorising heap capability covers is the one that is there, and its quota's owner is
-- joined to the holder
pub domain_there : (i : Image) (objects : List Object) (f x : ℕ) (S : Cap → Type 0) (c : Cap) → Partitioned i → heap_cap i c ≡ true → cap_base c ≤ x → x < cap_top c → Any (LiveCovers c) objects → (d : ℕ) × HeapDomain i objects x d
domain_there i objects f x S c p heap low high live =
    let kind : (root i c.shadow.root).origin ≡ Listing Quota = heap_quota i c heap in
    let a = p.quotas c.shadow.root kind in
    let owner : (root i c.shadow.root).owner ≡ Compartment a.0 = a.1 in (
      a.0,
      any_map (LiveCovers c) (LiveAt i x a.0) objects
          (λ r k.
          let P : ℕ → Type 0 = λ n. (root i n).owner ≡ Compartment a.0 in
          let lower : r.base ≤ x = omega (arith, low, k.1.low) in
          let upper : x < r.base + r.length = omega (arith, high, k.1.high) in
          (k.0, lower, upper, subst P (sym k.1.quota) owner))
          live,
    )

pub domain_joined : (i : Image) (objects : List Object) (f x d : ℕ) (S : Cap → Type 0) (c : Cap) → Partitioned i → AllApart objects → heap_cap i c ≡ true → cap_base c ≤ x → x < cap_top c → Any (LiveCovers c) objects
    → Placed i objects (λ y. y ≡ f) S c → HeapDomain i objects x d → Joined i.entries d f
domain_joined i objects f x d S c p apart heap low high live h there =
    let kind : (root i c.shadow.root).origin ≡ Listing Quota = heap_quota i c heap in
    let owner : (root i c.shadow.root).owner ≡ Compartment d = one_at (LiveCovers c) (LiveAt i x d) ((root i c.shadow.root).owner ≡ Compartment d) x objects
    (λ r k. (omega (arith, low, k.1.low), omega (arith, high, k.1.high)))
    (λ r k. (k.1, k.2))
    (λ r k m. let P : ℕ → Type 0 = λ n. (root i n).owner ≡ Compartment d in subst P k.1.quota m.3)
    apart live there in
    owner_joined i objects f d S c p h (quota_owned (root i c.shadow.root).origin kind) owner

-- who shares an object is joined to who shares it
pub share_joined : (i : Image) (object a b f : ℕ) → SharesC i.entries object a → SharesC i.entries object b → Joined i.entries a f → Joined i.entries f b
share_joined i object a b f x y j = joined_trans i.entries f a b (joined_sym i.entries a f j) (joined_edge i.entries a b (inr (inr (object, x, y))))

-- a place of a thread that holds a tagged capability has a frame
pub headed : (i : Image) (objects : List Object) (t : ℕ) (fs : List Frame) (c : Cap) → InFrames i objects t fs c → c.tag ≡ true → (f : Frame) × ((gs : List Frame) × (fs ≡ f ∷ gs))
headed i objects t [] c h tagged = absurd (let clash : true ≡ false = sym tagged ∙ h in cc)
headed i objects t (f ∷ gs) c h tagged = (f, (gs, refl))

-- what is known of a register of the running thread through which a tagged granule is reached
pub record Reaching (i : Image) (s : State) (t : ℕ) (f : Frame) (gs : List Frame) (by : Cap) (x : ℕ) : Type 0 where
  pub parts : Partitioned i
  pub held : Confined i s
  pub frames : (thread s t).frames ≡ f ∷ gs
  pub authority : Placed i s.objects (λ d. d ≡ f.actor) (OwnStack i t (f ∷ gs)) by
  pub live : heap_cap i by ≡ true → cap_base by < cap_top by → Any (LiveCovers by) s.objects
  pub carries : has by memory_capability ≡ true
  pub inside : i.ram ≤ x
  pub low : cap_base by ≤ x
  pub high : x < cap_top by
  pub aligned : x % 8 ≡ 0

-- the frame that holds a tagged register of the running thread, those under it, and what stands there so
pub record Holder (i : Image) (s : State) (t : ℕ) (c : Cap) : Type 0 where
  pub frame : Frame
  pub under : List Frame
  pub frames : (thread s t).frames ≡ frame ∷ under
  pub placed : Placed i s.objects (λ d. d ≡ frame.actor) (OwnStack i t (frame ∷ under)) c

pub holder : (i : Image) (s : State) (t at : ℕ) → Confined i s → (register (thread s t) at).tag ≡ true → Holder i s t (register (thread s t) at)
holder i s t at h tagged =
    let head = headed i s.objects t (thread s t).frames (register (thread s t) at) (h.registers t at) tagged in
    record {
      frame = head.0;
      under = head.1.0;
      frames = head.1.1;
      placed = (subst (λ (fs : List Frame). InFrames i s.objects t fs (register (thread s t) at)) head.1.1 (h.registers t at)) tagged;
    }

-- such a register that authorises the move of a capability
pub reaching : (i : Image) (s : State) (t at x : ℕ) (w : Holder i s t (register (thread s t) at)) → Partitioned i → Confined i s → s.running ≡ Some t → (register (thread s t) at).tag ≡ true → has (register (thread s t) at) memory_capability ≡ true
    → i.ram ≤ x → cap_base (register (thread s t) at) ≤ x → x < cap_top (register (thread s t) at) → x % 8 ≡ 0 → Reaching i s t w.frame w.under (register (thread s t) at) x
reaching i s t at x w p h runs tagged carries inside low high aligned = record {
  parts = p;
  held = h;
  frames = w.frames;
  authority = w.placed;
  live = h.live t runs at tagged;
  carries = carries;
  inside = inside;
  low = low;
  high = high;
  aligned = aligned;
}
