-- An allocation: an object more, and its capability in a register.
use Rattle.std.proofs.Common.{ℕ, ◌≡◌, ◌+◌, ◌≤◌, ◌<◌, inl, inr, ◌&&◌, true, false, nat_eq, List, [], ◌∷◌, refl, sym, ap, ◌∙◌, subst, arith}
use Rattle.law_lists.proofs.Tests.{chosen, both_right}
use Rattle.std.proofs.lemmas.Bool.{eqb-true}
use Rattle.def_words.specs.declared.Cap.{Cap}
use Rattle.ct_entry.specs.declared.rows.Kind.TheVariants as kind
use Rattle.def_reach.specs.Roots.{Listing, TrustedPart, is_owned, is_stack}
use Rattle.def_reach.specs.Sharing.{Reaches}
use Rattle.def_machine.specs.Image.{Image, Region, HeapRam, root, region, granule_of, address_of}
use Rattle.def_machine.specs.State.{State, Frame, Object, thread, register, granule}
use Rattle.def_machine.specs.Objects.{Any, charges, placed_among}
use Rattle.def_machine.specs.Heap.{with_object}
use Rattle.def_machine.specs.Registers.{put_register}
use Rattle.def_confined.specs.Places.{Placed, InFrames, InRegion, OwnStack, HasObject, Covers, LiveAt, LiveCovers, HeapDomain}
use Rattle.def_confined.specs.Confined.{Confined, Apart, ObjectFits, MarksAt}
use Rattle.def_confined.specs.Partitioned.{Partitioned}
use Rattle.def_confined.specs.Made.{IsObjectCap}
use Rattle.def_confined.specs.Changes.{Fades, FramesFade, NewObject, Puts}
use Rattle.law_moves.proofs.Rows.{each_take, each_map, among_any, any_among, among_each, among_apart, among_charges}
use Rattle.law_moves.proofs.Moves.{put_confined}
use Rattle.law_moves.proofs.Fades.{faded_confined}

pub stays_there : (i : Image) (old new : List Object) (c : Cap) → ((d : Cap) → HasObject i old d → HasObject i new d) → Fades i old new c c
stays_there i old new c grow = inr (refl, λ tagged. grow c)

pub frames_stay : (i : Image) (old new : List Object) (fs : List Frame) → ((d : Cap) → HasObject i old d → HasObject i new d) → FramesFade i old new fs fs
frames_stay i old new [] grow = tt
frames_stay i old new (f ∷ fs) grow = (
  record {
    actor = refl;
    export = refl;
    same_top = refl;
    c1 = stays_there i old new f.c1 grow;
    c2 = stays_there i old new f.c2 grow;
    c3 = stays_there i old new f.c3 grow;
    c8 = stays_there i old new f.c8 grow;
    c9 = stays_there i old new f.c9 grow;
    returns = λ tagged is rooted. refl;
  },
  frames_stay i old new fs grow,
)

pub own_granule : (i : Image) (k : ℕ) → granule_of i (address_of i k) ≡ k
own_granule i k = omega arith

-- where a tagged granule of the heap is, there is a live object
pub taken_there : (i : Image) (s : State) (k : ℕ) → Partitioned i → Confined i s → i.heap_base ≤ address_of i k → address_of i k < i.heap_end → (granule s k).cap.tag ≡ true → (d : ℕ) × HeapDomain i s.objects (address_of i k) d
taken_there i s k p h low high tagged =
    let there : region i (granule_of i (address_of i k)) ≡ HeapRam = (p.heap (address_of i k) low high).1 in
    let P : ℕ → Type 0 = λ n. region i n ≡ HeapRam in
    let is : region i k ≡ HeapRam = subst P (own_granule i k) there in
    let Q : Region → Type 0 = λ r. InRegion i s k r (granule s k) in
    (subst Q is (h.granules k) tagged).0

pub add_object_confined : (i : Image) (s : State) (r : Object) → Partitioned i → Confined i s → NewObject i s r → Confined i (with_object s r)
add_object_confined i s r p h n =
    let grow : (d : Cap) → HasObject i s.objects d → HasObject i (placed_among r s.objects) d = λ d has heap some. among_any (Covers d) r s.objects (inr (has heap some)) in
    faded_confined i s (with_object s r) h (record {
      caps = λ k. stays_there i s.objects (placed_among r s.objects) (granule s k).cap grow;
      fixed = λ k is same. refl;
      domains = λ k tagged d. (
        (λ there. among_any (LiveAt i (address_of i k) d) r s.objects (inr there)),
        (λ there. elim (any_among (LiveAt i (address_of i k) d) r s.objects there) [
          | inl here ↦
              let taken = taken_there i s k p h (omega (arith, here.1, n.fits.low)) (omega (arith, here.2, n.fits.high)) tagged in
              absurd (each_take (Apart r) (LiveAt i (address_of i k) taken.0) ⊥ s.objects
              (λ q apart at. elim apart.1 [ inl a ↦ omega (arith, a, here.1, here.2, at.1, at.2) | inr a ↦ omega (arith, a, here.1, here.2, at.1, at.2) ])
              n.apart taken.1)
          | inr more ↦ more
        ]),
      );
      threads = λ t. record {
        pcc = stays_there i s.objects (placed_among r s.objects) (thread s t).pcc grow;
        registers = λ m. stays_there i s.objects (placed_among r s.objects) (register (thread s t) m) grow;
        frames = frames_stay i s.objects (placed_among r s.objects) (thread s t).frames grow;
        posture = refl;
      };
      live = λ t runs m tagged heap some. among_any (LiveCovers (register (thread s t) m)) r s.objects (inr (h.live t runs m tagged heap some));
      apart = among_apart r s.objects n.apart h.apart;
      numbered = omega (arith, h.numbered);
      fits = among_each (ObjectFits i (s.next + 1)) r s.objects n.fits (each_map (ObjectFits i s.next) (ObjectFits i (s.next + 1)) s.objects (λ q f. record { first = f.first; number = omega (arith, f.number); low = f.low; high = f.high; whole = f.whole; charge = f.charge; unpainted = f.unpainted }) h.fits);
      marks = λ k. record {
        why = λ mark. among_any (MarksAt (address_of i k)) r s.objects (inr ((h.marks k).why mark));
        all = λ there. elim (any_among (MarksAt (address_of i k)) r s.objects there) [
          | inl here ↦ absurd (let clash : true ≡ false = sym n.live ∙ here.0 in cc)
          | inr more ↦ (h.marks k).all more
        ];
      };
      limits = λ q. rw (among_charges q r s.objects) (chosen (λ z. z + charges q s.objects ≤ (root i q).limit) (r.live && nat_eq r.quota q) r.charge 0
          (λ is.
          let same : r.quota ≡ q = eqb-true r.quota q (both_right r.live (nat_eq r.quota q) is) in
          let P : ℕ → Type 0 = λ m. r.charge + charges m s.objects ≤ (root i m).limit in
          subst P same n.limit)
          (λ not. omega (arith, h.limits q)));
      size = refl;
    })

object_placed : (i : Image) (objects : List Object) (t : ℕ) (f : Frame) (fs : List Frame) (r : Object) (c quota : Cap) → (root i r.quota).origin ≡ Listing kind.Quota → quota.shadow.root ≡ r.quota → Placed i objects (λ d. d ≡ f.actor) (OwnStack i t (f ∷ fs)) quota → Any (λ q. q ≡ r) objects → IsObjectCap i r c
    → Placed i objects (λ d. d ≡ f.actor) (OwnStack i t (f ∷ fs)) c
object_placed i objects t f fs r c quota kind_is same h there o =
    let root_is : (root i c.shadow.root).origin ≡ Listing kind.Quota = let P : ℕ → Type 0 = λ n. (root i n).origin ≡ Listing kind.Quota in subst P (sym o.from) kind_is in
    let roots : quota.shadow.root ≡ c.shadow.root = same ∙ sym o.from in
    record {
      rooted = o.rooted;
      object = λ heap some. any_as (λ q. q ≡ r) (Covers c) objects
          (λ q e. let P : Object → Type 0 = λ z. Covers c z in subst P (sym e) (record { number = sym o.source; quota = sym o.from; low = omega (arith, o.low); high = omega (arith, o.high) }))
          there;
      owner =
          let P : ℕ → Type 0 = λ n. is_owned (root i n).origin ≡ true → (d : ℕ) → d ≡ f.actor → Reaches i.entries (root i n).owner d in
          subst P roots h.owner;
      own = λ stack. absurd (let clash : true ≡ false = sym stack ∙ ap is_stack root_is in cc);
      source = λ four. absurd (omega (arith, four, o.unsealed));
    }
  where
    any_as : (P Q : Object → Type 0) (xs : List Object) → ((x : Object) → P x → Q x) → Any P xs → Any Q xs
    any_as P Q [] f h = h
    any_as P Q (x ∷ xs) f (inl p) = inl (f x p)
    any_as P Q (x ∷ xs) f (inr h) = inr (any_as P Q xs f h)

-- the capability of a new object may come into a register of the running thread, whose c10 is the quota
pub object_puts : (i : Image) (s : State) (t : ℕ) (r : Object) (c : Cap) → Partitioned i → Confined i s → NewObject i s r → (register (thread s t) 10).tag ≡ true → (register (thread s t) 10).shadow.root ≡ r.quota → (root i r.quota).origin ≡ Listing kind.Quota
    → (c.tag ≡ true → IsObjectCap i r c) → Puts i (with_object s r) t c
object_puts i s t r c p h new tagged same kind_is is = record {
  there = placed (thread s t).frames ((add_object_confined i s r p h new).registers t 10);
  kept = λ there. ((λ service. absurd (let clash : Listing kind.Quota ≡ Listing kind.Service = sym (root_is there) ∙ service in cc)), (λ trusted. absurd (let clash : Listing kind.Quota ≡ TrustedPart = sym (root_is there) ∙ trusted in cc)));
  live = λ there heap some. among_any (LiveCovers c) r s.objects (inl (new.live, record { number = sym (is there).source; quota = sym (is there).from; low = omega (arith, (is there).low); high = omega (arith, (is there).high) }));
}
  where
    root_is : c.tag ≡ true → (root i c.shadow.root).origin ≡ Listing kind.Quota
    root_is there = let P : ℕ → Type 0 = λ m. (root i m).origin ≡ Listing kind.Quota in subst P (sym (is there).from) kind_is

    placed : (fs : List Frame) → InFrames i (placed_among r s.objects) t fs (register (thread s t) 10) → InFrames i (placed_among r s.objects) t fs c
    placed [] none = absurd (let clash : true ≡ false = sym tagged ∙ none in cc)
    placed (f ∷ fs) q = λ there. object_placed i (placed_among r s.objects) t f fs r c (register (thread s t) 10) kind_is same (q tagged) (among_any (λ q. q ≡ r) r s.objects (inl refl)) (is there)

pub allocate_confined : (i : Image) (s : State) (t n : ℕ) (r : Object) (c : Cap) → Partitioned i → Confined i s → NewObject i s r → (register (thread s t) 10).tag ≡ true → (register (thread s t) 10).shadow.root ≡ r.quota → (root i r.quota).origin ≡ Listing kind.Quota
    → (c.tag ≡ true → IsObjectCap i r c) → Confined i (put_register (with_object s r) t n c)
allocate_confined i s t n r c p h new tagged same kind_is is =
    put_confined i (with_object s r) t n c (add_object_confined i s r p h new) (object_puts i s t r c p h new tagged same kind_is is)
