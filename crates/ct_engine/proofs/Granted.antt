-- An allocation, over all that is seen: objects and memory, and the answer, which is the written one.
use Rattle.std.proofs.Common.{ℕ, ◌⊎◌, Result, Ok, Err, MatchResult, OnErr, ◌/◌, ◌≡◌, ◌+◌, ◌-◌, ◌*◌, ◌≤◌, ◌<◌, ◌==◌, ◌&&◌, ◌||◌, not, nat_le, inl, inr, Bool, true, false, nat_lt, List, Some, None, refl, sym, ap, ◌∙◌, subst, arith}
use Rattle.std.proofs.lemmas.Bool.{and_parts, false_from_ne_true, lt-ltb, le-ltb, ne_eqb}
use Rattle.law_lists.proofs.Tests.{lt_tells}
use Rattle.def_memory.specs.declared.Granule.{Granule}
use Rattle.def_machine.specs.Image.{Image, root}
use Rattle.def_machine.specs.State as state
use Rattle.def_machine.specs.State.{State}
use Rattle.def_machine.specs.Objects.{charges, placed_among, has_quarantined}
use Rattle.def_machine.specs.Heap.{length_for, charge_for, Fits, IsPlaceFor, place_of, new_object, with_object}
use Rattle.def_hidden.specs.Hidden.{is_live_at}
use Rattle.def_step.specs.Quotas.{Refused, Made, allocation}
use Rattle.def_hidden.specs.Hiding.{with_hidden}
use Rattle.def_chunks.specs.Heaps.{HeapRow, objects_of, account, Laid, IsHeapOf}
use Rattle.law_routines.proofs.Places.{place_found, place_none}
use Rattle.law_routines.proofs.Leaving.{option_tells}
use Rattle.law_words.proofs.Leasts.{ceil_above}
use Rattle.def_words.specs.LeastBounds.{exponent_for}
use Rattle.def_chunks.specs.Hides.{hides_heap, heap_hides}
use Rattle.def_chunks.specs.LiveObjects.{Appears}
use Rattle.law_hidden.proofs.Objects.{covers_tells, among_live, placed_live, object_appears}
use Rattle.ct_heap.specs.declared.rows.Object as told
use Rattle.ct_heap.specs.declared.rows.HeapRefusal.{HeapRefusal}
use Rattle.ct_heap.specs.declared.rows.HeapRefusal.TheVariants.{Size, Quota, NoGap}
use Rattle.ct_heap.specs.Effects.{Same, Allocates, RefusesSize, made}
use Rattle.ct_engine.specs.declared.rows.Rows.{Rows}
use Rattle.ct_engine.specs.Seen.{EngineRow, region_hides, engine_view}
use Rattle.ct_engine.specs.Kept.{IsClear, IsEngine}
use Rattle.ct_engine.specs.Grants.{AllocatesAsWritten, refusal_code}
use Rattle.ct_engine.specs.Written.{HasQuota, SharesObjects}
use Rattle.ct_engine.proofs.Clear.{clear_tags}
use Rattle.ct_engine.proofs.HiddenTwice.{seen_both}
use Rattle.ct_engine.proofs.HeapTurns.{with_heap, limit_of, HeapTurns, turned_holds, turned_seen}

-- ---- what is hidden

-- a heap that lies where it lay hides by its objects
pub hides_by : (h n : HeapRow) (hs : List Granule) (new : List state.Object) → Same h n → objects_of n hs ≡ new
    → heap_hides n hs ≡ (λ k. hides_heap h.range.ram h.range.base (h.range.base + h.range.length) new k)
hides_by h n hs new same is = rw (is, same.range) refl

-- where more is live, less is hidden
less_hidden : (ram base end : ℕ) (old new : List state.Object) (k : ℕ) → (is_live_at old (ram + 8 * k) ≡ true → is_live_at new (ram + 8 * k) ≡ true) → hides_heap ram base end new k ≡ true → hides_heap ram base end old k ≡ true
less_hidden ram base end old new k stays hid =
    let all = and_parts (nat_le base (ram + 8 * k) && nat_lt (ram + 8 * k) end) (not (is_live_at new (ram + 8 * k))) hid in
    let dead : is_live_at old (ram + 8 * k) ≡ false = false_from_ne_true _ (λ on. let clash : false ≡ true = rw (stays on) at all.1 in cc) in
    rw (all.0, dead) refl

-- ---- what is seen

module _ {h n : HeapRow} {gs hs : List Granule} {quota size number base long live : ℕ} (a : Allocates h n gs hs quota size number base long live) where
  abbrev more : List state.Object
  more = placed_among (made h quota size base) (objects_of h gs)

  -- an allocation's object appears
  allocated_appears : Appears h.range.ram h.range.base (h.range.base + h.range.length) (objects_of h gs) more gs hs base (base + length_for size)
  allocated_appears = record {
    size = a.stays.size;
    marks = a.stays.marks;
    rest = a.stays.rest;
    stays = λ x is. among_live (made h quota size base) (objects_of h gs) x is;
    comes = λ x is. elim (placed_live (made h quota size base) (objects_of h gs) x is) [
      | inl new ↦ inl (covers_tells (made h quota size base) x new)
      | inr old ↦ inr old
    ];
    zero = a.zero;
  }

  -- it keeps clear what it hides
  allocated_clear : IsClear h gs → IsClear n hs
  allocated_clear clear =
      clear_tags h n gs hs clear a.stays.tags
      (λ k hid. less_hidden h.range.ram h.range.base (h.range.base + h.range.length) (objects_of h gs) more k
      (λ is. among_live (made h quota size base) (objects_of h gs) (h.range.ram + 8 * k) is) (sym (ap (λ (p : ℕ → Bool). p k) (hides_by h n hs more a.same a.objects)) ∙ hid))

module _ {gs hs : List Granule} {rows : Rows} {n : HeapRow} {quota size number base long live : ℕ} (holds : IsEngine gs rows)
    (a : Allocates rows.heap n gs hs quota size number base long live) where
  -- outside the heap everything stays
  pub allocated_turns : HeapTurns gs hs rows n
  allocated_turns = record { size = a.stays.size; below = λ k under. ap (λ (g : Granule). g.cap) (a.stays.rest k (inl under)); same = a.same }

  pub allocated_seen : engine_view hs (with_heap rows n rows.front) ≡ record (engine_view gs rows) { state = with_object (engine_view gs rows).state (new_object (engine_view gs rows).state quota size base) }
  allocated_seen =
      let h : HeapRow = rows.heap in
      let region : ℕ → Bool = region_hides rows.region in
      let new : List state.Object = placed_among (made h quota size base) (objects_of h gs) in
      let memory : with_hidden region (with_hidden (heap_hides n hs) hs) ≡ (engine_view gs rows).state.granules =
      ap (λ xs. with_hidden region xs) (ap (λ (p : ℕ → Bool). with_hidden p hs) (hides_by h n hs new a.same a.objects)
      ∙ object_appears h.range.ram h.range.base (h.range.base + h.range.length) (objects_of h gs) new gs hs base (base + length_for size)
      (allocated_appears a)) ∙ sym (seen_both gs rows holds) in
      turned_seen gs hs rows n rows.front holds allocated_turns ∙ rw (memory, a.objects, a.next) refl

-- ---- the place

long_enough : (size : ℕ) → 0 < size → 0 < length_for size
long_enough size some =
    let whole : 0 < (size + 7) / 8 * 8 = omega (arith, some) in
    let above = ceil_above ((size + 7) / 8 * 8) (exponent_for 0 ((size + 7) / 8 * 8)) in
    omega (arith, whole, above)

-- where RAM begins doesn't matter
fits_with : (i : Image) (ram other : ℕ) (os : List state.Object) (long base : ℕ) → Fits (record i { ram = ram }) os long base → Fits (record i { ram = other }) os long base
fits_with i ram other os long base f = record { eight = f.eight; aligned = f.aligned; low = f.low; high = f.high; apart = f.apart }

-- the least lawful place is the one that is written
place_is : (i : Image) (os : List state.Object) (long base : ℕ) → 0 < long → IsPlaceFor i os long base → place_of i os long ≡ Some base
place_is i os long base some p = elim (option_tells (place_of i os long)) [
  | inl none ↦ absurd (place_none i os long base some none p.fits)
  | inr found ↦
      let q = place_found i os long found.0 some found.1 in
      let same : found.0 ≡ base = elim (lt_tells found.0 base) [
        | inl lt ↦ absurd (p.least found.0 lt.1 q.fits)
        | inr ge ↦ elim (lt_tells base found.0) [
          | inl lt ↦ absurd (q.least base lt.1 p.fits)
          | inr le ↦ (let a = ge.1 in let b = le.1 in omega (arith, a, b))
        ]
      ] in
      found.1 ∙ ap (λ b. Some b) same
]

no_place_is : (i : Image) (os : List state.Object) (long : ℕ) → 0 < long → ((b : ℕ) → Fits i os long b → ⊥) → place_of i os long ≡ None
no_place_is i os long some none = elim (option_tells (place_of i os long)) [
  | inl is ↦ is
  | inr found ↦ absurd (none found.0 (place_found i os long found.0 some found.1).fits)
]

-- ---- the answer, as the written allocation asks in turn

module _ (gs : List Granule) (rows : Rows) (quota size : ℕ) (i : Image) (m : State)
    (has : HasQuota i (engine_view gs rows) quota) (shares : SharesObjects m (engine_view gs rows)) where
  abbrev own : List state.Object
  own = objects_of rows.heap gs

  -- the image whose RAM begins where the heap's does
  abbrev here : Image
  here = record i { ram = rows.heap.range.ram }

  heap_here : IsHeapOf here rows.heap.range
  heap_here = record { ram = refl; base = has.base; end = has.end }

  abbrev past_heap : Bool
  past_heap = nat_lt (rows.heap.range.base + rows.heap.range.length - rows.heap.range.base) size

  -- the size is neither zero nor above the heap's length, or it is
  sized : 0 < size → size ≤ rows.heap.range.length → ((size == 0) || nat_lt (i.heap_end - i.heap_base) size) ≡ false
  sized some most =
      let inside : past_heap ≡ false = le-ltb _ size (omega (arith, most)) in
      rw (has.base, has.end, ne_eqb size 0 (λ z. omega (arith, z, some)), inside) refl

  unsized : (size ≡ 0) ⊎ (rows.heap.range.length < size) → ((size == 0) || nat_lt (i.heap_end - i.heap_base) size) ≡ true
  unsized (inl none) = rw none refl
  unsized (inr over) =
      let past : past_heap ≡ true = lt-ltb _ size (omega (arith, over)) in
      rw (has.base, has.end, past, ne_eqb size 0 (λ z. omega (arith, z, over))) refl

  limit_is : (root i quota).limit ≡ (account rows.heap quota).limit
  limit_is = has.limit ∙ limit_of rows.heap.accounts quota

  within : charges quota own + charge_for size ≤ (account rows.heap quota).limit
      → nat_lt (root i quota).limit (charges quota m.objects + charge_for size) ≡ false
  within le = rw (limit_is, shares.objects) (le-ltb _ _ le)

  answer_made : (hs : List Granule) (n : HeapRow) (number base long live : ℕ) → Allocates rows.heap n gs hs quota size number base long live
      → allocation i m quota size ≡ Made (new_object (engine_view gs rows).state quota size base)
  answer_made hs n number base long live a =
      let p = a.place here heap_here in
      let at : IsPlaceFor i own (length_for size) base = record {
        fits = fits_with i rows.heap.range.ram i.ram own (length_for size) base p.fits;
        least = λ b lt fits. p.least b lt (fits_with i i.ram rows.heap.range.ram own (length_for size) b fits);
      } in
      let place : place_of i m.objects (length_for size) ≡ Some base =
      rw shares.objects (place_is i own (length_for size) base (long_enough size a.some) at) in
      rw (sized a.some a.most, within a.within, place, shares.next) refl

  answer_refused : (why : HeapRefusal) → RefusesSize rows.heap gs quota size why
      → allocation i m quota size ≡ Refused (refusal_code why (has_quarantined own))
  answer_refused Size r = rw (unsized r) refl
  answer_refused Quota r =
      let over : nat_lt (root i quota).limit (charges quota m.objects + charge_for size) ≡ true = rw (limit_is, shares.objects) (lt-ltb _ _ r.2) in
      rw (sized r.0 r.1, over) refl
  answer_refused NoGap r =
      let none : place_of i m.objects (length_for size) ≡ None =
      rw shares.objects (no_place_is i own (length_for size) (long_enough size r.0)
      (λ b fits. r.3 here heap_here b (fits_with i i.ram rows.heap.range.ram own (length_for size) b fits))) in
      rw (sized r.0 r.1, within r.2, none, shares.objects) refl

-- ---- the call

-- what was answered, and that a refusal changed nothing
abbrev Answers : HeapRow → HeapRow → List Granule → List Granule → ℕ → ℕ → Result told.Object HeapRefusal → Type 0
Answers h n gs hs quota size result =
    MatchResult result (λ o. Allocates h n gs hs quota size o.number o.base o.length o.live) (λ why. RefusesSize h gs quota size why)

abbrev NothingNew : HeapRow → HeapRow → List Granule → List Granule → Result told.Object HeapRefusal → Type 0
NothingNew h n gs hs result = OnErr result ((n ≡ h) × (hs ≡ gs))

pub holds_after : (gs hs : List Granule) (rows : Rows) (n : HeapRow) (quota size : ℕ) (result : Result told.Object HeapRefusal) → IsEngine gs rows → Laid n hs
    → Answers rows.heap n gs hs quota size result → NothingNew rows.heap n gs hs result → IsEngine hs (with_heap rows n rows.front)
holds_after gs hs rows n quota size (Ok o) holds laid a same =
    turned_holds gs hs rows n rows.front holds (allocated_turns holds a) laid (allocated_clear a holds.heap.clear) holds.heap.within
holds_after gs hs rows n quota size (Err why) holds laid a same =
    subst (λ x. IsEngine hs (with_heap rows x rows.front)) (sym same.0) (subst (λ x. IsEngine x rows) (sym same.1) holds)

-- the written allocation is made, with the rows that there were
pub allocates_so : (gs hs : List Granule) (rows : Rows) (n : HeapRow) (s : EngineRow) (quota size : ℕ) (result : Result told.Object HeapRefusal) → engine_view gs rows ≡ s → IsEngine gs rows
    → Answers rows.heap n gs hs quota size result → NothingNew rows.heap n gs hs result
    → AllocatesAsWritten s (engine_view hs (with_heap rows n rows.front)) quota size s.state.tokens result
allocates_so gs hs rows n s quota size result is holds a same =
    subst (λ x. AllocatesAsWritten x (engine_view hs (with_heap rows n rows.front)) quota size x.state.tokens result) is (of result a same)
  where
    of : (r : Result told.Object HeapRefusal) → Answers rows.heap n gs hs quota size r → NothingNew rows.heap n gs hs r
        → AllocatesAsWritten (engine_view gs rows) (engine_view hs (with_heap rows n rows.front)) quota size rows.tokens.rows r
    of (Ok o) a same = record {
      is = allocated_seen holds a;
      answer = λ i m has shares. answer_made gs rows quota size i m has shares hs n o.number o.base o.length o.live a;
      told = record { number = a.number_is; base = refl; length = a.length_is; live = a.live_is };
    }
    of (Err why) a same = record {
      is = ap (λ x. engine_view hs (with_heap rows x rows.front)) same.0 ∙ ap (λ x. engine_view x rows) same.1;
      answer = λ i m has shares. answer_refused gs rows quota size i m has shares why a;
      told = tt;
    }
