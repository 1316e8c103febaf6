-- A free: the object is zeroed, quarantined and marked, and the running thread's registers pass the filter.
use Rattle.std.proofs.Common.{ℕ, zero, suc, ◌≡◌, ◌+◌, ◌-◌, ◌*◌, ◌≤◌, ◌<◌, ◌⊎◌, inl, inr, ◌&&◌, true, false, nat_le, nat_lt, List, [], ◌∷◌, map, Some, refl, sym, ap, ◌∙◌, subst, arith}
use Rattle.std.proofs.Math.ListN.{get_or}
use Rattle.law_lists.proofs.Sets.{after_set_at, after_set_split}
use Rattle.law_lists.proofs.Tests.{chosen, chosen_in}
use Rattle.law_granules.proofs.Lists.{zeroed_at, zeroed_length, marked_at, marked_length}
use Rattle.def_words.specs.declared.Cap.{Cap}
use Rattle.def_memory.specs.declared.Granule.{Granule}
use Rattle.def_memory.specs.Granules.{plain, granule_at}
use Rattle.def_memory.specs.Ranges.{zeroed_from, marked_from}
use Rattle.def_machine.specs.Image.{Image, Fixed, HeapRam, region, address_of}
use Rattle.def_machine.specs.State.{State, Thread, Object, thread, register, granule, nobody}
use Rattle.def_machine.specs.Memory.{filtered}
use Rattle.def_machine.specs.Objects.{Any, Each, InChunk, quarantine}
use Rattle.def_machine.specs.Heap.{quarantined, freed}
use Rattle.def_confined.specs.Places.{HasObject, HasLive, Covers, LiveAt, HeapDomain}
use Rattle.def_confined.specs.Confined.{Confined, ObjectFits, MarksAt, MarksFit}
use Rattle.def_confined.specs.Partitioned.{Partitioned}
use Rattle.def_confined.specs.Changes.{Fades, ThreadFades, Frees, StateFades}
use Rattle.law_moves.proofs.Rows.{each_take}
use Rattle.law_moves.proofs.Fades.{faded_confined}
use Rattle.law_moves.proofs.Filters.{filter_case, filter_live_at, in_object}
use Rattle.law_lists.proofs.Maps.{at_map}
use Rattle.law_moves.proofs.Quarantines.{gone, quarantine_any, any_quarantine, quarantine_each, quarantine_apart, quarantine_charges, one_there}
use Rattle.law_moves.proofs.Allocates.{stays_there, frames_stay, own_granule}

-- marking leaves capabilities
marked_cap : (from to place : ℕ) (gs : List Granule) (k : ℕ) → (granule_at (marked_from from to true place gs) k).cap ≡ (granule_at gs k).cap
marked_cap from to place [] k = refl
marked_cap from to place (g ∷ gs) zero = chosen (λ (z : Granule). z.cap ≡ g.cap) (nat_le from place && nat_lt place to) (record g { mark = true }) g (λ is. refl) (λ not. refl)
marked_cap from to place (g ∷ gs) (suc k) = marked_cap from to (place + 8) gs k

-- what is marked lies in the range, or was
marked_mark : (from to place : ℕ) (gs : List Granule) (k : ℕ) → (granule_at (marked_from from to true place gs) k).mark ≡ true → ((from ≤ place + 8 * k) × (place + 8 * k < to)) ⊎ ((granule_at gs k).mark ≡ true)
marked_mark from to place [] k h = inr h
marked_mark from to place (g ∷ gs) zero h =
    chosen_in (λ (z : Granule). z.mark ≡ true → ((from ≤ place + 8 * zero) × (place + 8 * zero < to)) ⊎ (g.mark ≡ true)) from to place (record g { mark = true }) g
    (λ a b marked. inl (omega (arith, a), omega (arith, b))) (λ o marked. inr marked) h
marked_mark from to place (g ∷ gs) (suc k) h = elim (marked_mark from to (place + 8) gs k h) [ inl a ↦ inl (omega (arith, a.0), omega (arith, a.1)) | inr b ↦ inr b ]

-- and stays marked
mark_stays : (from to place : ℕ) (gs : List Granule) (k : ℕ) → (granule_at gs k).mark ≡ true → (granule_at (marked_from from to true place gs) k).mark ≡ true
mark_stays from to place [] k h = h
mark_stays from to place (g ∷ gs) zero h = chosen (λ (z : Granule). z.mark ≡ true) (nat_le from place && nat_lt place to) (record g { mark = true }) g (λ is. refl) (λ not. h)
mark_stays from to place (g ∷ gs) (suc k) h = mark_stays from to (place + 8) gs k h

-- a granule's capability is gone, or as it was
pub freed_cap : (P : Cap → Type 0) (i : Image) (s : State) (r : Object) (k : ℕ) → (r.base ≤ address_of i k → address_of i k < r.base + r.length → P (plain 0)) → ((address_of i k < r.base) ⊎ (r.base + r.length ≤ address_of i k) → P (granule s k).cap) → P (granule (quarantined i s r) k).cap
freed_cap P i s r k zeroed stays =
    let same : (granule (quarantined i s r) k).cap ≡ (granule_at (zeroed_from r.base (r.base + r.length) i.ram s.granules) k).cap = marked_cap (r.base - 8) (r.base + r.length) i.ram (zeroed_from r.base (r.base + r.length) i.ram s.granules) k in
    subst P (sym same) (zeroed_at r.base (r.base + r.length) i.ram s.granules k (λ g. P g.cap) zeroed stays)

pub record Freeing (i : Image) (s : State) (t : ℕ) (r : Object) : Type 0 where
  pub parts : Partitioned i
  pub held : Confined i s
  pub frees : Frees s t r
  pub fits : ObjectFits i s.next r
  pub one : Each (λ q. q.number ≡ r.number → q ≡ r) s.objects

grown : (i : Image) (s : State) (r : Object) (c : Cap) → HasObject i s.objects c → HasObject i (quarantine r.number s.objects) c
grown i s r c has heap some = quarantine_any (λ q. Unit {0}) (Covers c) (Covers c) r.number s.objects (λ q any k not. k)
    (λ q any k is. record { number = k.number; quota = k.quota; low = k.low; high = k.high }) (each_unit s.objects) (has heap some)
  where
    each_unit : (rs : List Object) → Each (λ q. Unit {0}) rs
    each_unit [] = tt
    each_unit (x ∷ xs) = (tt, each_unit xs)

-- a live object elsewhere stays
domain_stays : (i : Image) (s : State) (t : ℕ) (r : Object) (x d : ℕ) → Freeing i s t r → (x < r.base) ⊎ (r.base + r.length ≤ x) → HeapDomain i s.objects x d → HeapDomain i (quarantine r.number s.objects) x d
domain_stays i s t r x d w out h = quarantine_any (λ q. q.number ≡ r.number → q ≡ r) (LiveAt i x d) (LiveAt i x d) r.number s.objects (λ q e k not. k)
    (λ q e k is.
    let same : q ≡ r = e is in
    let at : (r.base ≤ x) × (x < r.base + r.length) = let P : Object → Type 0 = λ z. (z.base ≤ x) × (x < z.base + z.length) in subst P same (k.1, k.2) in
    absurd (elim out [ inl a ↦ omega (arith, a, at.0) | inr a ↦ omega (arith, a, at.1) ]))
    w.one h

domain_was : (i : Image) (s : State) (t : ℕ) (r : Object) (x d : ℕ) → Freeing i s t r → HeapDomain i (quarantine r.number s.objects) x d → HeapDomain i s.objects x d
domain_was i s t r x d w h = any_quarantine (λ q. q.number ≡ r.number → q ≡ r) (LiveAt i x d) (LiveAt i x d) r.number s.objects (λ q e k not. k)
    (λ q e k is. absurd (let clash : false ≡ true = k.0 in cc)) w.one h

split_any : (P : Object → Type 0) (G : Type 0) (rs : List Object) → Any (λ q. P q ⊎ G) rs → Any P rs ⊎ G
split_any P G [] h = absurd h
split_any P G (x ∷ xs) (inl h) = elim h [ inl p ↦ inl (inl p) | inr g ↦ inr g ]
split_any P G (x ∷ xs) (inr h) = elim (split_any P G xs h) [ inl p ↦ inl (inr p) | inr g ↦ inr g ]

-- marked are exactly the quarantined granules
marks_fit : (i : Image) (s : State) (t : ℕ) (r : Object) (k : ℕ) → Freeing i s t r → MarksFit i (quarantine r.number s.objects) k (granule (quarantined i s r) k).mark
marks_fit i s t r k w = record {
  why = λ mark. elim (marked_mark (r.base - 8) (r.base + r.length) i.ram (zeroed_from r.base (r.base + r.length) i.ram s.granules) k mark) [
    | inl inside ↦ quarantine_any (λ q. q.number ≡ r.number → q ≡ r) (λ q. q ≡ r) (MarksAt (address_of i k)) r.number s.objects
        (λ q e same other. absurd (other (ap (λ (z : Object). z.number) same)))
        (λ q e same is.
        let P : Object → Type 0 = λ z. InChunk z (address_of i k) in
        let chunk : InChunk r (address_of i k) = (omega (arith, inside.0, w.fits.low), omega (arith, inside.1)) in
        (refl, subst P (sym same) chunk))
        w.one w.frees.there
    | inr was ↦
        let old : (granule s k).mark ≡ true = zeroed_at r.base (r.base + r.length) i.ram s.granules k (λ g. g.mark ≡ true → (granule s k).mark ≡ true) (λ a b m. m) (λ o m. m) was in
        quarantine_any (λ q. q.number ≡ r.number → q ≡ r) (MarksAt (address_of i k)) (MarksAt (address_of i k)) r.number s.objects (λ q e m other. m) (λ q e m is. (refl, m.1)) w.one ((w.held.marks k).why old)
  ];
  all = λ there. elim (split_any (MarksAt (address_of i k)) (InChunk r (address_of i k)) s.objects
      (any_quarantine (λ q. q.number ≡ r.number → q ≡ r) (λ q. MarksAt (address_of i k) q ⊎ InChunk r (address_of i k)) (MarksAt (address_of i k)) r.number s.objects
      (λ q e m other. inl m)
      (λ q e m is. let P : Object → Type 0 = λ z. InChunk z (address_of i k) in inr (subst P (e is) m.1))
      w.one there)) [
        | inl old ↦ mark_stays (r.base - 8) (r.base + r.length) i.ram (zeroed_from r.base (r.base + r.length) i.ram s.granules) k
            (zeroed_at r.base (r.base + r.length) i.ram s.granules k (λ g. g.mark ≡ true) (λ a b. (w.held.marks k).all old) (λ o. (w.held.marks k).all old))
        | inr chunk ↦ marked_at (r.base - 8) (r.base + r.length) true i.ram (zeroed_from r.base (r.base + r.length) i.ram s.granules) k (λ g. g.mark ≡ true)
            (let size = w.held.size in rw (zeroed_length r.base (r.base + r.length) i.ram s.granules) (omega (arith, size, chunk.1, w.fits.high)))
            (λ a b. refl)
            (λ o. absurd (elim o [ inl a ↦ omega (arith, a, chunk.0) | inr b ↦ omega (arith, b, chunk.1) ]))
      ];
}

fits_gone : (i : Image) (next : ℕ) (q : Object) → ObjectFits i next q → ObjectFits i next (gone q)
fits_gone i next q f = record { first = f.first; number = f.number; low = f.low; high = f.high; whole = f.whole; charge = f.charge; unpainted = λ live. absurd (let clash : false ≡ true = live in cc) }

-- what stands in the heap isn't as boot made it
heap_not_fixed : (i : Image) (k : ℕ) → Partitioned i → i.heap_base ≤ address_of i k → address_of i k < i.heap_end → region i k ≡ Fixed → ⊥
heap_not_fixed i k p low high fixed =
    let P : ℕ → Type 0 = λ n. region i n ≡ HeapRam in
    let is : region i k ≡ HeapRam = subst P (own_granule i k) (p.heap (address_of i k) low high).1 in
    let clash : HeapRam ≡ Fixed = sym is ∙ fixed in cc

freed_fades : (i : Image) (s : State) (t : ℕ) (r : Object) → Freeing i s t r → StateFades i s (freed i s t r)
freed_fades i s t r w =
    let grow : (d : Cap) → HasObject i s.objects d → HasObject i (quarantine r.number s.objects) d = grown i s r in
    record {
      caps = λ k. freed_cap (Fades i s.objects (quarantine r.number s.objects) (granule s k).cap) i s r k (λ a b. inl refl) (λ o. stays_there i s.objects (quarantine r.number s.objects) (granule s k).cap grow);
      fixed = λ k is same. freed_cap (λ z. z ≡ (granule s k).cap) i s r k
          (λ a b. absurd (heap_not_fixed i k w.parts (omega (arith, a, w.fits.low)) (omega (arith, b, w.fits.high)) is))
          (λ o. refl);
      domains = λ k tagged d.
          ((λ there. domain_stays i s t r (address_of i k) d w (outside_of k tagged) there), (λ there. domain_was i s t r (address_of i k) d w there));
      threads = λ u. after_set_at (λ n (th : Thread). ThreadFades i s.objects (quarantine r.number s.objects) (thread s n) th) s.threads t u
          (record (thread s t) { registers = map (filtered i (quarantined i s r)) (thread s t).registers }) nobody
          (record {
            pcc = stays_there i s.objects (quarantine r.number s.objects) (thread s t).pcc grow;
            registers = λ n. filtered_register n;
            frames = frames_stay i s.objects (quarantine r.number s.objects) (thread s t).frames grow;
            posture = refl;
          })
          (record {
            pcc = stays_there i s.objects (quarantine r.number s.objects) (thread s u).pcc grow;
            registers = λ n. stays_there i s.objects (quarantine r.number s.objects) (register (thread s u) n) grow;
            frames = frames_stay i s.objects (quarantine r.number s.objects) (thread s u).frames grow;
            posture = refl;
          });
      live = λ u runs n. after_set_split (λ (th : Thread). HasLive i (quarantine r.number s.objects) (register th n)) s.threads t u
          (record (thread s t) { registers = map (filtered i (quarantined i s r)) (thread s t).registers }) nobody
          (λ same. at_map (HasLive i (quarantine r.number s.objects)) (filtered i (quarantined i s r)) (thread s t).registers n (plain 0)
          (λ tagged. absurd (let clash : false ≡ true = tagged in cc))
          (filter_live_at i (quarantined i s r) s.next (register (thread s t) n) w.parts (λ k. marks_fit i s t r k w) fits_after
          (λ tagged. grow (register (thread s t) n) (in_object i s.objects t (thread s t).frames (register (thread s t) n) (w.held.registers t n) tagged))))
          (λ same none tagged. absurd (let clash : false ≡ true = tagged in cc))
          (λ other. absurd (other (let both : Some t ≡ Some u = sym w.frees.running ∙ runs in cc)));
      apart = quarantine_apart r.number s.objects w.held.apart;
      numbered = w.held.numbered;
      fits = fits_after;
      marks = λ k. marks_fit i s t r k w;
      limits = λ n. omega (arith, quarantine_charges n r.number s.objects, w.held.limits n);
      size = marked_length (r.base - 8) (r.base + r.length) true i.ram (zeroed_from r.base (r.base + r.length) i.ram s.granules) ∙ zeroed_length r.base (r.base + r.length) i.ram s.granules;
    }
  where
    fits_after : Each (ObjectFits i s.next) (quarantine r.number s.objects)
    fits_after = quarantine_each (ObjectFits i s.next) (ObjectFits i s.next) r.number s.objects (λ q f. f) (λ q f. fits_gone i s.next q f) w.held.fits

    filtered_register : (n : ℕ) → Fades i s.objects (quarantine r.number s.objects) (register (thread s t) n) (get_or (map (filtered i (quarantined i s r)) (thread s t).registers) n (plain 0))
    filtered_register n = at_map (Fades i s.objects (quarantine r.number s.objects) (register (thread s t) n)) (filtered i (quarantined i s r)) (thread s t).registers n (plain 0) (inl refl)
        (filter_case (Fades i s.objects (quarantine r.number s.objects) (register (thread s t) n)) i (quarantined i s r) (register (thread s t) n) (inl refl)
        (λ not. stays_there i s.objects (quarantine r.number s.objects) (register (thread s t) n) (grown i s r)))

    outside_of : (k : ℕ) → (granule (quarantined i s r) k).cap.tag ≡ true → (address_of i k < r.base) ⊎ (r.base + r.length ≤ address_of i k)
    outside_of k = freed_cap (λ z. z.tag ≡ true → (address_of i k < r.base) ⊎ (r.base + r.length ≤ address_of i k)) i s r k (λ a b tagged. absurd (let clash : false ≡ true = tagged in cc)) (λ o tagged. o)

pub free_confined : (i : Image) (s : State) (t : ℕ) (r : Object) → Partitioned i → Confined i s → Frees s t r → Confined i (freed i s t r)
free_confined i s t r p h f = faded_confined i s (freed i s t r) h (freed_fades i s t r (record {
  parts = p;
  held = h;
  frees = f;
  fits = each_take (ObjectFits i s.next) (λ q. q ≡ r) (ObjectFits i s.next r) s.objects (λ q k e. let P : Object → Type 0 = λ z. ObjectFits i s.next z in subst P e k) h.fits f.there;
  one = one_there r s.objects h.apart f.there;
}))
