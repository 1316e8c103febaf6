-- What events do to live objects of the heap.
use Rattle.std.proofs.Common.{ℕ, ◌≡◌, ◌+◌, ◌≤◌, ◌<◌, ◌⊎◌, not, nat_eq, inl, inr, true, false, List, [], ◌∷◌, refl, sym, ap, ◌∙◌, subst, arith}
use Rattle.std.proofs.lemmas.Bool.{eqb-true}
use Rattle.law_lists.proofs.Tests.{bool_tells, both_left, chosen}
use Rattle.ct_entry.specs.declared.acts.Act.{Act}
use Rattle.ct_entry.specs.declared.acts.Act.TheVariants.{Free}
use Rattle.ct_entry.specs.declared.rows.Kind.TheVariants as kind
use Rattle.def_memory.specs.declared.Granule.{Granule}
use Rattle.def_reach.specs.Roots.{Origin, Listing, is_owned, is_quota}
use Rattle.def_reach.specs.Sharing.{Reaches}
use Rattle.def_machine.specs.Platform.{Platform}
use Rattle.def_machine.specs.Image.{HeapRam, Stack, root, region, address_of}
use Rattle.def_machine.specs.Objects.{Any, InChunk, quarantine, painted, unpainted}
use Rattle.def_machine.specs.State.{State, Object}
use Rattle.def_confined.specs.Capabilities.{heap_cap}
use Rattle.def_confined.specs.Confined.{Confined}
use Rattle.def_confined.specs.Facts.{Facts}
use Rattle.def_confined.specs.Keeps.{Keeps}
use Rattle.def_confined.specs.Licensed.{IsLicensed}
use Rattle.def_confined.specs.Partitioned.{Partitioned, StoresInto}
use Rattle.def_step.specs.declared.Event.{Event}
use Rattle.def_step.specs.Accesses.{access_of}
use Rattle.def_step.specs.Events.{happens, run}
use Rattle.def_safety.specs.Accesses.{SpansLive}
use Rattle.def_safety.specs.Each.{ready}
use Rattle.def_safety.specs.Used.{authority_of, access_start}
use Rattle.def_safety.specs.Wired.{Wired}
use Rattle.def_integrity.specs.Acting.{Acting, TellsAct}
use Rattle.def_integrity.specs.HeapRows.{RowsTouched}
use Rattle.def_integrity.specs.HeapRows as rows
use Rattle.def_integrity.specs.Touched.{IsStored, Touched, as_before, by_store, by_clearing, by_record, by_free, by_sweep}
use Rattle.def_integrity.specs.Homes.{KeepsWord, StoresTo, Frees, ActsOn, LiveOver, ObjectsKept, ObjectsStay}
use Rattle.law_moves.proofs.Rows.{one_row, one_at, one_number, any_map, left_any, among_any}
use Rattle.law_events.proofs.Accesses.{width_of}
use Rattle.law_events.proofs.Events.{ready_keeps, event_keeps, deed_licensed}
use Rattle.law_integrity.proofs.Events.{granules_kept}
use Rattle.law_integrity.proofs.HeapRows.{ready_rows, rows_kept}
use Rattle.law_integrity.proofs.Homes.{own_stack, in_heap, fits_there, unswept, through_root, swept_word}

quota_owned : (o : Origin) → is_quota o ≡ true → is_owned o ≡ true
quota_owned (Listing kind.Quota) e = refl
quota_owned o e = absurd (let clash : false ≡ true = e in cc)

module _ (b : Platform) (s : State) (k : ℕ) (r : Object) (p : Partitioned b.image) (held : Confined b.image s) (there : Any (λ q. q ≡ r) s.objects) (low : r.base ≤ address_of b.image k) (high : address_of b.image k < r.base + r.length) where
  -- it lies in the heap
  heaped : region b.image k ≡ HeapRam
  heaped =
      let fits = fits_there b.image s r held there in
      let from = fits.low in
      let to = fits.high in
      in_heap b.image k p (omega (arith, from, low)) (omega (arith, to, high))

  -- what stores to it is of its quota's owner
  store_reaches : (g : Granule) → (h : IsStored b s k g) → Reaches b.image.entries (root b.image r.quota).owner h.by.frame.actor
  store_reaches g h =
      let some = (width_of h.instruction).some in
      let fits = fits_there b.image s r held there in
      let whole = fits.whole in
      let base_even = whole.0 in
      let length_even = whole.1 in
      let ram = p.even.0 in
      let inside = h.inside in
      let here = h.here in
      let holds : (r.base ≤ access_start s h.by.thread_is h.instruction) × (access_start s h.by.thread_is h.instruction < r.base + r.length) =
      (omega (arith, low, inside, here), omega (arith, high, inside, here, base_even, length_even, ram)) in
      elim (bool_tells (heap_cap b.image (authority_of s h.by.thread_is h.instruction))) [
        | inl heap ↦
            let owned : is_owned (root b.image (authority_of s h.by.thread_is h.instruction).shadow.root).origin ≡ true =
            quota_owned (root b.image (authority_of s h.by.thread_is h.instruction).shadow.root).origin
            (both_left (is_quota (root b.image (authority_of s h.by.thread_is h.instruction).shadow.root).origin) (not (nat_eq (authority_of s h.by.thread_is h.instruction).shadow.source 0)) heap) in
            one_at (λ q. q ≡ r) (SpansLive (authority_of s h.by.thread_is h.instruction) (access_start s h.by.thread_is h.instruction) (access_of h.instruction).width)
            (Reaches b.image.entries (root b.image r.quota).owner h.by.frame.actor) (access_start s h.by.thread_is h.instruction) s.objects
            (λ q same. (let P : Object → Type 0 = λ o. (o.base ≤ access_start s h.by.thread_is h.instruction) × (access_start s h.by.thread_is h.instruction < o.base + o.length) in subst P (sym same) holds))
            (λ q spans. (let from = spans.low in let to = spans.high in (from, omega (arith, to, some))))
            (λ q same spans.
            let quota : r.quota ≡ (authority_of s h.by.thread_is h.instruction).shadow.root = sym (ap (λ (o : Object). o.quota) same) ∙ spans.quota in
            subst (λ n. Reaches b.image.entries (root b.image n).owner h.by.frame.actor) (sym quota) (h.uses.uses.owner owned))
            held.apart there (h.uses.object heap)
        | inr other ↦ absurd (subst (StoresInto b.image (through_root b s k g p held h other).number) heaped (through_root b s k g p held h other).stores)
      ]

  -- what is freed where it lies is it
  same_object : (o : Object) → Any (λ q. q ≡ o) s.objects → InChunk o (address_of b.image k) → o ≡ r
  same_object o is chunk =
      let from = chunk.0 in
      let to = chunk.1 in
      one_row (λ q. q ≡ r) (λ q. q ≡ o) (o ≡ r) s.objects
      (λ x y one two apart. met x y one two apart.1)
      (λ x y one two apart. met_back x y one two apart.1)
      (λ q one two. sym two ∙ one)
      held.apart there is
    where
      met : (x y : Object) → x ≡ r → y ≡ o → (x.base + x.length + 8 ≤ y.base) ⊎ (y.base + y.length + 8 ≤ x.base) → ⊥
      met x y one two apart =
          let P : Object → Object → Type 0 = λ a c. (a.base + a.length + 8 ≤ c.base) ⊎ (c.base + c.length + 8 ≤ a.base) in
          let from = chunk.0 in
          let to = chunk.1 in
          elim (subst (λ c. P r c) two (subst (λ a. P a y) one apart)) [ inl before ↦ omega (arith, before, from, high) | inr after ↦ omega (arith, after, to, low) ]

      met_back : (x y : Object) → x ≡ r → y ≡ o → (y.base + y.length + 8 ≤ x.base) ⊎ (x.base + x.length + 8 ≤ y.base) → ⊥
      met_back x y one two apart = met x y one two (elim apart [ inl a ↦ inr a | inr a ↦ inl a ])

-- a free that is told is of a quota whose owner reaches the actor
free_reaches : (b : Platform) (s : State) (e : Event) (by : Acting (ready b s)) (r : Object) (left : ℕ) → Partitioned b.image → Facts b.image → Wired b → Keeps b.image s
    → (why : TellsAct (ready b s) by (happens b s e).1.deed (Free r.number r.base r.length left)) → why.deed.entry ≡ r.quota → Reaches b.image.entries (root b.image r.quota).owner by.frame.actor
free_reaches b s e by r left p facts wired keeps why quota =
    let licensed = deed_licensed b s e why.deed p facts wired keeps why.is_told in
    let by_quota = subst (λ (a : Act). IsLicensed b.image.entries why.deed a) why.act_is licensed in
    subst (λ n. Reaches b.image.entries (root b.image n).owner by.frame.actor) quota
    (subst (λ d. Reaches b.image.entries (root b.image why.deed.entry).owner d) why.by_actor by_quota.1)

pub objects_kept : (b : Platform) (s : State) (e : Event) → Partitioned b.image → Facts b.image → Wired b → Keeps b.image s → ObjectsKept b s e
objects_kept b s e p facts wired keeps k r over = by (granules_kept b s e p facts wired keeps k)
  where
    held : Confined b.image (ready b s)
    held = (ready_keeps b s p keeps).confined

    here : Any (λ q. q ≡ r) (ready b s).objects
    here = subst (Any (λ q. q ≡ r)) (sym (ready_rows b s).objects) over.there

    is : region b.image k ≡ HeapRam
    is = heaped b (ready b s) k r p held here over.low over.high

    by : Touched b s e k → KeepsWord b s e k ⊎ (ActsOn b s e r.quota × (StoresTo b s e k ⊎ Frees b s e k))
    by (as_before same) = inl (unswept b s (happens b s e).0 k same)
    by (by_store step h) = inr (record { step = step; by = h.by; reached = store_reaches b (ready b s) k r p held here over.low over.high _ h }, inl h)
    by (by_clearing step h) = absurd (let clash : HeapRam ≡ Stack h.by.thread_is = sym is ∙ own_stack b.image (ready b s) h.by.thread_is k h.by.frame h.by.below p held h.by.frames h.low h.high in cc)
    by (by_record step h) = absurd (let clash : HeapRam ≡ Stack h.by.thread_is = sym is ∙ own_stack b.image (ready b s) h.by.thread_is k h.by.frame h.by.below p held h.by.frames h.low h.high in cc)
    by (by_free step h) = inr (
      record {
        step = step;
        by = h.by;
        reached = subst (λ (o : Object). Reaches b.image.entries (root b.image o.quota).owner h.by.frame.actor) (same_object b (ready b s) k r p held here over.low over.high h.object h.there h.chunk)
            (free_reaches b s e h.by h.object h.left p facts wired keeps h.why h.quota);
      },
      inr h,
    )
    by (by_sweep sweep h) = inl h

-- ---- that it stays live

-- where another is quarantined
spared : (n : ℕ) (r : Object) (qs : List Object) → (r.number ≡ n → ⊥) → Any (λ q. q ≡ r) qs → Any (λ q. q ≡ r) (quarantine n qs)
spared n r [] other there = there
spared n r (q ∷ qs) other (inl is) = inl (chosen (λ (z : Object). z ≡ r) (nat_eq q.number n) (record q { live = false }) q
    (λ same. absurd (other (sym (ap (λ (z : Object). z.number) is) ∙ eqb-true q.number n same)))
    (λ not. is))
spared n r (q ∷ qs) other (inr there) = inr (spared n r qs other there)

-- where a sweep paints what is quarantined
unpainted_stays : (r : Object) (qs : List Object) → r.live ≡ true → r.painted ≡ false → Any (λ q. q ≡ r) qs → Any (λ q. q ≡ r) (painted qs)
unpainted_stays r [] live plain there = there
unpainted_stays r (q ∷ qs) live plain (inl is) =
    let same : not r.live ≡ r.painted = ap not live ∙ sym plain in
    inl (ap (λ (z : Object). record z { painted = not z.live }) is ∙ ap (λ on. record r { painted = on }) same)
unpainted_stays r (q ∷ qs) live plain (inr there) = inr (unpainted_stays r qs live plain there)

-- where a sweep lets the painted go
plain_stays : (r : Object) (qs : List Object) → r.painted ≡ false → Any (λ q. q ≡ r) qs → Any (λ q. q ≡ r) (unpainted qs)
plain_stays r qs plain there = left_any (λ q. q ≡ r) qs (any_map (λ q. q ≡ r) (λ q. (q.painted ≡ false) × (q ≡ r)) qs (λ q is. (ap (λ (z : Object). z.painted) is ∙ plain, is)) there)

stays_there : (b : Platform) (s : State) (e : Event) (r : Object) → Partitioned b.image → Facts b.image → Wired b → Keeps b.image s → Any (λ q. q ≡ r) s.objects → r.live ≡ true → (ActsOn b s e r.quota → ⊥)
    → Any (λ q. q ≡ r) (happens b s e).0.objects
stays_there b s e r p facts wired keeps there live none = by (rows_kept b s e p keeps)
  where
    held : Confined b.image (ready b s)
    held = (ready_keeps b s p keeps).confined

    here : Any (λ q. q ≡ r) (ready b s).objects
    here = subst (Any (λ q. q ≡ r)) (sym (ready_rows b s).objects) there

    plain : r.painted ≡ false
    plain = (fits_there b.image s r keeps.confined there).unpainted live

    by : RowsTouched b s e → Any (λ q. q ≡ r) (happens b s e).0.objects
    by (rows.as_before h) = subst (Any (λ q. q ≡ r)) (sym h.objects) there
    by (rows.by_allocation step h) = subst (Any (λ q. q ≡ r)) (sym h.objects) (among_any (λ q. q ≡ r) h.object (ready b s).objects (inr here))
    by (rows.by_free step h) = subst (Any (λ q. q ≡ r)) (sym h.objects) (spared h.object.number r (ready b s).objects
        (λ same. none (record {
          step = step;
          by = h.by;
          reached = subst (λ (o : Object). Reaches b.image.entries (root b.image o.quota).owner h.by.frame.actor) (one_object h.object h.there (sym same)) (free_reaches b s e h.by h.object h.left p facts wired keeps h.why h.quota);
        }))
        here)
      where
        one_object : (o : Object) → Any (λ q. q ≡ o) (ready b s).objects → o.number ≡ r.number → o ≡ r
        one_object o there_too same = one_number (λ q. q ≡ o) (λ q. q ≡ r) (o ≡ r) r.number (ready b s).objects
            (λ q is. ap (λ (z : Object). z.number) is ∙ same)
            (λ q is. ap (λ (z : Object). z.number) is)
            (λ q one two. sym one ∙ two)
            held.apart there_too here
    by (rows.by_sweep sweep h) = elim h.objects [
      | inl same ↦ subst (Any (λ q. q ≡ r)) (sym same) there
      | inr (inl paints) ↦ subst (Any (λ q. q ≡ r)) (sym paints) (unpainted_stays r s.objects live plain there)
      | inr (inr (inl lets)) ↦ subst (Any (λ q. q ≡ r)) (sym lets) (plain_stays r s.objects plain there)
      | inr (inr (inr both)) ↦ subst (Any (λ q. q ≡ r)) (sym both) (plain_stays r (painted s.objects) plain (unpainted_stays r s.objects live plain there))
    ]

pub objects_stay : (b : Platform) (s : State) (es : List Event) → Partitioned b.image → Facts b.image → Wired b → Keeps b.image s → ObjectsStay b s es
unfolding run
objects_stay b s [] p facts wired keeps k r over none = (refl, over)
objects_stay b s (e ∷ es) p facts wired keeps k r over none =
    let next : LiveOver b (happens b s e).0 k r = record { there = stays_there b s e r p facts wired keeps over.there over.live none.0; live = over.live; low = over.low; high = over.high } in
    let rest = objects_stay b (happens b s e).0 es p facts wired (event_keeps b s e p facts wired keeps) k r next none.1 in (
      rest.0
          ∙ elim (objects_kept b s e p facts wired keeps k r over) [
            | inl left ↦ swept_word b s (happens b s e).0 k left
            | inr acts ↦ absurd (none.0 acts.0)
          ],
      rest.1,
    )
