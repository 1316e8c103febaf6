-- Allocations: of two states that agree each makes the same object, which is zero in both; so that where the view
-- grows by it, the states agree again.
use Rattle.std.proofs.Common.{ℕ, ◌≡◌, ◌+◌, ◌-◌, ◌%◌, ◌<◌, ◌≤◌, ◌==◌, ◌&&◌, ◌||◌, ◌⊎◌, inl, inr, Bool, true, false, cond, nat_le, nat_lt, List, [], ◌∷◌, Option, Some, None, refl, sym, ap, ◌∙◌, subst, arith}
use Rattle.law_lists.proofs.Tests.{chosen, le_tells, lt_tells}
use Rattle.def_profile.specs.declared.answers.TheConstants.{PAST_LIMIT, NO_SIZE}
use Rattle.ct_entry.specs.declared.acts.Act.TheVariants as acts
use Rattle.def_words.specs.declared.Cap.{Cap}
use Rattle.def_words.specs.Authority.{cap_address}
use Rattle.def_memory.specs.Accesses.{byte_of}
use Rattle.def_memory.specs.Granules.{plain, cap_in}
use Rattle.def_machine.specs.Heap.{charge_for, length_for, new_object, object_cap, place_of, with_object}
use Rattle.def_machine.specs.Image.{Image, root, address_of, granule_of}
use Rattle.def_machine.specs.Objects.{Any, Each, charges, placed_among}
use Rattle.def_machine.specs.Platform.{Platform}
use Rattle.def_machine.specs.State.{State, Object, Token, thread, register, granule}
use Rattle.def_confined.specs.Changes.{NewObject}
use Rattle.def_confined.specs.Confined.{Confined, Apart}
use Rattle.def_confined.specs.Partitioned.{Partitioned}
use Rattle.def_hidden.specs.Hidden.{Blank, is_live_at}
use Rattle.def_step.specs.Quotas.{Allocation, Refused, Made, allocate, allocated, allocation, at_place, hands_out, quota_in}
use Rattle.def_step.specs.Routines.{code}
use Rattle.def_step.specs.Tokens.{made_token, row_among, sealed_token, token_key, token_new}
use Rattle.def_step.specs.Instructions.{actor_of}
use Rattle.def_safety.specs.Wired.{Wired}
use Rattle.def_secrecy.specs.View.{ReadsObject, Sees, InView}
use Rattle.def_secrecy.specs.Agreeing.{SameMemory, Agree}
use Rattle.law_moves.proofs.Found.{place_found}
use Rattle.law_routines.proofs.Objects.{made_says}
use Rattle.law_routines.proofs.Places as places
use Rattle.law_events.proofs.Handing.{long_enough}
use Rattle.law_events.proofs.Hiding.{heap_zero}
use Rattle.law_secrecy.proofs.Replies.{SameRan, answers_agree, by_key_two, by_quota_two, inside, inside_too, same_key, same_register, tells_two}
use Rattle.law_secrecy.proofs.Views.{same_choice}

-- ---- an object among the others

pub among : (P : Object → Type 0) (r : Object) (qs : List Object) → Any P (placed_among r qs) → P r ⊎ Any P qs
among P r [] (inl h) = inl h
among P r [] (inr h) = absurd h
among P r (q ∷ qs) h = chosen (λ (xs : List Object). Any P xs → P r ⊎ Any P (q ∷ qs)) (nat_lt r.base q.base) (r ∷ q ∷ qs) (q ∷ placed_among r qs)
    (λ is k. k)
    (λ not k. elim k [ inl here ↦ inr (inl here) | inr later ↦ elim (among P r qs later) [ inl new ↦ inl new | inr old ↦ inr (inr old) ] ])
    h

-- no object is live where another's chunk may be put
either : (a b : Bool) → a ≡ false → b ≡ false → (a || b) ≡ false
either true b h k = h
either false b h k = k

outside : (live : Bool) (base length x : ℕ) → (x < base) ⊎ (base + length ≤ x) → (live && nat_le base x && nat_lt x (base + length)) ≡ false
outside live base length x (inl below) = elim (le_tells base x) [ inl a ↦ absurd (let from = a.1 in omega (arith, from, below)) | inr a ↦ rw a.0 (never live (nat_lt x (base + length))) ]
  where
    never : (a b : Bool) → (a && false && b) ≡ false
    never true b = refl
    never false b = refl
outside live base length x (inr above) = elim (lt_tells x (base + length)) [ inl a ↦ absurd (let to = a.1 in omega (arith, to, above)) | inr a ↦ rw a.0 (never live (nat_le base x)) ]
  where
    never : (a b : Bool) → (a && b && false) ≡ false
    never true true = refl
    never true false = refl
    never false b = refl

none_live : (r : Object) (qs : List Object) (x : ℕ) → Each (Apart r) qs → r.base ≤ x → x < r.base + r.length → is_live_at qs x ≡ false
none_live r [] x apart low high = refl
none_live r (q ∷ qs) x apart low high = either (q.live && nat_le q.base x && nat_lt x (q.base + q.length)) (is_live_at qs x)
    (outside q.live q.base q.length x (elim apart.0.1 [ inl below ↦ inl (omega (arith, below, high)) | inr above ↦ inr (omega (arith, above, low)) ]))
    (none_live r qs x apart.1 low high)

-- ---- what an allocation makes

-- where the new object will be the heap is zero
zero_there : (i : Image) (s : State) (r : Object) (k : ℕ) → Blank i s → NewObject i s r → r.base ≤ address_of i k → address_of i k < r.base + r.length → (granule s k).cap ≡ plain 0
zero_there i s r k blank new low high =
    let from = new.fits.low in
    let to = new.fits.high in
    heap_zero i s k blank (omega (arith, from, low)) (omega (arith, to, high)) (none_live r s.objects (address_of i k) new.apart low high)

made_new : (i : Image) (s : State) (quota size : ℕ) (r : Object) → Confined i s → allocation i s quota size ≡ Made r → NewObject i s r
made_new i s quota size r held is =
    let m = made_says i s quota size r is in
    let place = places.place_found i s.objects (length_for size) m.base (long_enough size m.some) m.place in
    let limit = m.limit in
    subst (NewObject i s) (sym m.is) (place_found i s quota size m.base held place.fits (omega (arith, limit)))

-- ---- of two states

module _ (b : Platform) (s z : State) (t : ℕ) (parts : Partitioned b.image) (wired : Wired b) (one : Confined b.image s) (two : Confined b.image z) (runs : s.running ≡ Some t) (agree : Agree b t s z) (tagged : (thread s t).pcc.tag ≡ true) (zeros : Blank b.image s) (zeros_too : Blank b.image z) where
  placed_same : (quota size : ℕ) (o : Option ℕ) → at_place s quota size o ≡ at_place z quota size o
  placed_same quota size None = ap (λ os. at_place (record s { objects = os }) quota size None) agree.public.objects
  placed_same quota size (Some base) = ap (λ n. Made (new_object (record s { next = n }) quota size base)) agree.public.next

  pub same_allocation : (quota size other many : ℕ) → quota ≡ other → size ≡ many → allocation b.image s quota size ≡ allocation b.image z other many
  same_allocation quota size other many same number =
      same_choice ((size == 0) || nat_lt (b.image.heap_end - b.image.heap_base) size) ((size == 0) || nat_lt (b.image.heap_end - b.image.heap_base) size) (Refused NO_SIZE) (Refused NO_SIZE)
      (cond (nat_lt (root b.image quota).limit (charges quota s.objects + charge_for size)) (Refused PAST_LIMIT) (at_place s quota size (place_of b.image s.objects (length_for size))))
      (cond (nat_lt (root b.image quota).limit (charges quota z.objects + charge_for size)) (Refused PAST_LIMIT) (at_place z quota size (place_of b.image z.objects (length_for size))))
      refl (λ is. refl)
      (λ not. same_choice (nat_lt (root b.image quota).limit (charges quota s.objects + charge_for size)) (nat_lt (root b.image quota).limit (charges quota z.objects + charge_for size)) (Refused PAST_LIMIT) (Refused PAST_LIMIT)
      (at_place s quota size (place_of b.image s.objects (length_for size))) (at_place z quota size (place_of b.image z.objects (length_for size)))
      (ap (λ os. nat_lt (root b.image quota).limit (charges quota os + charge_for size)) agree.public.objects)
      (λ is. refl)
      (λ no. placed_same quota size (place_of b.image s.objects (length_for size)) ∙ ap (λ os. at_place z quota size (place_of b.image os (length_for size))) agree.public.objects))
      ∙ ap (λ q. allocation b.image z q size) same ∙ ap (λ n. allocation b.image z other n) number

  module _ (r : Object) (new : NewObject b.image s r) (new_too : NewObject b.image z r) where
    abbrev actor_reads : ℕ → Object → Type 0
    actor_reads x = ReadsObject b.image (actor_of (thread s t).frames) x

    -- what is seen was seen, or is the new object's
    grown : (x : ℕ) → Sees b.image (placed_among r s.objects) t (thread s t).frames x → InView b.image s t x ⊎ ((r.base ≤ x) × (x < r.base + r.length))
    grown x (inl entry) = inl (inl entry)
    grown x (inr (inl object)) = elim (among (actor_reads x) r s.objects object) [ inl here ↦ inr (here.low, here.high) | inr old ↦ inl (inr (inl old)) ]
    grown x (inr (inr own)) = inl (inr (inr own))

    same_zero : (k : ℕ) → r.base ≤ address_of b.image k → address_of b.image k < r.base + r.length → cap_in s.granules k ≡ cap_in z.granules k
    same_zero k low high = zero_there b.image s r k zeros new low high ∙ sym (zero_there b.image z r k zeros_too new_too low high)

    memory_grown : SameMemory b.image (Sees b.image (placed_among r s.objects) t (thread s t).frames) s.granules z.granules
    memory_grown = record {
      size = agree.memory.size;
      bytes = λ x above seen. elim (grown x seen) [
        | inl old ↦ agree.memory.bytes x above old
        | inr inside_it ↦
            let low = inside_it.0 in
            let high = inside_it.1 in
            let ram = parts.even.0 in
            let whole = new.fits.whole in
            let base = whole.0 in
            let long = whole.1 in
            ap (λ (c : Cap). byte_of c.word ((x - b.image.ram) % 8)) (same_zero (granule_of b.image x) (omega (arith, above, low, ram, base)) (omega (arith, above, high, ram, base, long)))
      ];
      whole = λ k seen. elim (le_tells r.base (address_of b.image k)) [
        | inl from ↦ elim (lt_tells (address_of b.image k) (r.base + r.length)) [
          | inl to ↦ same_zero k from.1 to.1
          | inr past ↦ (let after = past.1 in agree.memory.whole k (λ n lt. elim (grown (address_of b.image k + n) (seen n lt)) [ inl old ↦ old | inr there ↦ absurd (let high = there.1 in omega (arith, high, after)) ]))
        ]
        | inr before ↦
            let below = before.1 in
            let ram = parts.even.0 in
            let base = new.fits.whole.0 in
            agree.memory.whole k (λ n lt. elim (grown (address_of b.image k + n) (seen n lt)) [ inl old ↦ old | inr there ↦ absurd (let low = there.0 in omega (arith, low, below, lt, ram, base)) ])
      ];
    }

    -- with rows of tokens too
    pub made_agree : (ks ls : List Token) → ks ≡ ls → Agree b t (with_object (record s { tokens = ks }) r) (with_object (record z { tokens = ls }) r)
    made_agree ks ls e =
        let p = agree.public in
        record {
          public = record { running = p.running; holder = p.holder; pending = p.pending; time = p.time; statuses = p.statuses; picks = p.picks; objects = ap (λ os. placed_among r os) p.objects; next = ap (λ n. n + 1) p.next; tokens = e; front = p.front };
          self = agree.self;
          memory = memory_grown;
          devices = agree.devices;
          banks = agree.banks;
        }

    hands_two : (ks ls : List Token) (c : Cap) → ks ≡ ls → SameRan b s t (hands_out (record s { tokens = ks }) t r c) (hands_out (record z { tokens = ls }) t r c)
    hands_two ks ls c e = (
      ap (λ os. Some (r.quota, acts.Allocate r.number r.base r.length (charges r.quota (placed_among r os)))) agree.public.objects,
      λ stays. answers_agree b t (with_object (record s { tokens = ks }) r) (with_object (record z { tokens = ls }) r) c c (inside b s z t parts wired one two runs agree tagged) (inside_too b s z t parts wired one two runs agree tagged) runs (made_agree ks ls e) refl,
    )

  new_one : (quota size : ℕ) (r : Object) → allocation b.image s quota size ≡ Made r → NewObject b.image s r
  new_one quota size r is = made_new b.image s quota size r one is

  new_two : (quota size : ℕ) (r : Object) → allocation b.image s quota size ≡ Made r → NewObject b.image z r
  new_two quota size r is = made_new b.image z quota size r two (sym (same_allocation quota size quota size refl refl) ∙ is)

  allocated_two : (quota size : ℕ) (a : Allocation) → allocation b.image s quota size ≡ a → SameRan b s t (allocated s t a) (allocated z t a)
  allocated_two quota size (Refused n) is = tells_two b s z t parts wired one two runs agree tagged (code n) (code n) refl
  allocated_two quota size (Made r) is = hands_two r (new_one quota size r is) (new_two quota size r is) s.tokens z.tokens (object_cap r) agree.public.tokens

  made_two : (key : Option ℕ) (quota size : ℕ) (a : Allocation) → allocation b.image s quota size ≡ a → SameRan b s t (made_token s t key a) (made_token z t key a)
  made_two key quota size (Refused n) is = tells_two b s z t parts wired one two runs agree tagged (code n) (code n) refl
  made_two key quota size (Made r) is = hands_two r (new_one quota size r is) (new_two quota size r is) (row_among (record { number = r.number; key = key }) s.tokens) (row_among (record { number = r.number; key = key }) z.tokens) (sealed_token r)
      (ap (λ ts. row_among (record { number = r.number; key = key }) ts) agree.public.tokens)

  charged : quota_in s t ≡ quota_in z t
  charged = ap (λ (c : Cap). c.shadow.root) (same_register b s z t parts wired one two runs agree tagged 10)

  sized : cap_address (register (thread s t) 11) ≡ cap_address (register (thread z t) 11)
  sized = ap cap_address (same_register b s z t parts wired one two runs agree tagged 11)

  pub allocate_two : SameRan b s t (allocate b.image s t) (allocate b.image z t)
  allocate_two = by_quota_two b s z t parts wired one two runs agree tagged _ _
      (subst (λ a. SameRan b s t (allocated s t (allocation b.image s (quota_in s t) (cap_address (register (thread s t) 11)))) (allocated z t a)) (same_allocation _ _ _ _ charged sized)
      (allocated_two (quota_in s t) (cap_address (register (thread s t) 11)) (allocation b.image s (quota_in s t) (cap_address (register (thread s t) 11))) refl))

  pub token_key_two : SameRan b s t (token_key b.image s t) (token_key b.image z t)
  token_key_two = by_quota_two b s z t parts wired one two runs agree tagged _ _
      (subst (λ a. SameRan b s t (made_token s t None (allocation b.image s (quota_in s t) 8)) (made_token z t None a)) (same_allocation _ 8 _ 8 charged refl)
      (made_two None (quota_in s t) 8 (allocation b.image s (quota_in s t) 8) refl))

  pub token_new_two : SameRan b s t (token_new b.image s t) (token_new b.image z t)
  token_new_two = by_quota_two b s z t parts wired one two runs agree tagged _ _
      (by_key_two b s z t parts wired one two runs agree tagged _ _ _ _ (same_key b s z t parts wired one two runs agree tagged _ _ (same_register b s z t parts wired one two runs agree tagged 12))
      (λ key. subst (λ a. SameRan b s t (made_token s t (Some key) (allocation b.image s (quota_in s t) (cap_address (register (thread s t) 11)))) (made_token z t (Some key) a)) (same_allocation _ _ _ _ charged sized)
      (made_two (Some key) (quota_in s t) (cap_address (register (thread s t) 11)) (allocation b.image s (quota_in s t) (cap_address (register (thread s t) 11))) refl)))
