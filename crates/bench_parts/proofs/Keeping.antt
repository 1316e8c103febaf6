-- What each call leaves keeps what the next one asks.
use Rattle.std.proofs.Common.{ℕ, ◌≡◌, ◌+◌, zero, suc, inl, inr, true, false, List, replicate, Result, Ok, Err, MatchResult, OnErr, refl, sym, ap, ◌∙◌, arith, subst}
use Rattle.law_lists.proofs.Tests.{bool_tells}
use Rattle.def_words.specs.declared.Cap.{Cap}
use Rattle.def_memory.specs.declared.Granule.{Granule}
use Rattle.def_memory.specs.Granules.{nothing}
use Rattle.def_memory.specs.Ranges.{is_tagged}
use Rattle.def_chunks.specs.Changes.{NoTagComes}
use Rattle.def_chunks.specs.Heaps.{HeapRow, objects_of, Laid}
use Rattle.ct_heap.specs.declared.rows.Object.{Object}
use Rattle.ct_heap.specs.declared.rows.HeapRefusal.{HeapRefusal}
use Rattle.ct_heap.specs.declared.rows.NotWhole.{NotWhole}
use Rattle.ct_heap.specs.Effects.{Allocates, RefusesSize, Frees, Paints, NoneStale, Flushes}
use Rattle.bench_parts.specs.Laden.{LadenRow, IsLaden}

-- nothing is tagged
abbrev pub NoneTagged : List Granule → Type 0
NoneTagged gs = (k : ℕ) → is_tagged gs k ≡ false

none_on : (gs hs : List Granule) → NoTagComes gs hs → NoneTagged gs → NoneTagged hs
none_on gs hs tags none k = elim (bool_tells (is_tagged hs k)) [
  | inl e ↦ absurd (let clash : true ≡ false = sym e ∙ (ap (λ (c : Cap). c.tag) (tags k e) ∙ none k) in cc)
  | inr e ↦ e
]

none_blank : (n k : ℕ) → is_tagged (replicate n nothing) k ≡ false
none_blank zero k = refl
none_blank (suc n) zero = refl
none_blank (suc n) (suc k) = none_blank n k

pub laid_blank : (n : ℕ) (gs hs : List Granule) → gs ≡ replicate n nothing → NoTagComes gs hs → NoneTagged hs
laid_blank n gs hs blank tags = none_on gs hs tags (λ k. ap (λ l. is_tagged l k) blank ∙ none_blank n k)

same_laden : (l : LadenRow) (n : HeapRow) (hs : List Granule) (count : ℕ) → n ≡ l.heap → hs ≡ l.granules → IsLaden (record l { made = count }) → IsLaden (record l { heap = n; granules = hs; made = count })
same_laden l n hs count heap memory is =
    subst (λ (x : HeapRow). IsLaden (record l { heap = x; granules = hs; made = count })) (sym heap)
    (subst (λ (gs : List Granule). IsLaden (record l { granules = gs; made = count })) (sym memory) is)

pub after_allocate : (l : LadenRow) (n : HeapRow) (hs : List Granule) (quota size : ℕ) (result : Result Object HeapRefusal) → IsLaden l → Laid n hs
    → MatchResult result (λ o. Allocates l.heap n l.granules hs quota size o.number o.base o.length o.live) (λ e. RefusesSize l.heap l.granules quota size e)
    → OnErr result ((n ≡ l.heap) × (hs ≡ l.granules)) → IsLaden (record l { heap = n; granules = hs; made = l.made + 1 })
after_allocate l n hs quota size (Ok o) is laid a refused =
    let most = is.made in
    let next = a.next in
    record { laid = laid; quotas = a.same.quotas ∙ is.quotas; made = omega (arith, most, next); untagged = none_on l.granules hs a.stays.tags is.untagged }
after_allocate l n hs quota size (Err e) is laid answer refused =
    let most = is.made in
    same_laden l n hs (l.made + 1) refused.0 refused.1 (record { laid = is.laid; quotas = is.quotas; made = omega (arith, most); untagged = is.untagged })

pub after_free : (l : LadenRow) (n : HeapRow) (hs : List Granule) (quota base top : ℕ) (P : NotWhole → Type 0) (result : Result Object NotWhole) → IsLaden l → Laid n hs
    → MatchResult result (λ o. Frees l.heap n l.granules hs quota base top o.number o.base o.length o.live) P
    → OnErr result ((n ≡ l.heap) × (hs ≡ l.granules)) → IsLaden (record l { heap = n; granules = hs })
after_free l n hs quota base top P (Ok o) is laid f refused =
    let most = is.made in
    let next = f.next in
    record { laid = laid; quotas = f.same.quotas ∙ is.quotas; made = omega (arith, most, next); untagged = none_on l.granules hs f.tags is.untagged }
after_free l n hs quota base top P (Err e) is laid answer refused = same_laden l n hs l.made refused.0 refused.1 is

pub after_paint : (l : LadenRow) (n : HeapRow) (hs : List Granule) → IsLaden l → n ≡ l.heap → Laid n hs → Paints l.heap l.granules hs → IsLaden (record l { heap = n; granules = hs })
after_paint l n hs is heap laid p =
    subst (λ (x : HeapRow). IsLaden (record l { heap = x; granules = hs })) (sym heap)
    (record { laid = subst (λ (x : HeapRow). Laid x hs) heap laid; quotas = is.quotas; made = is.made; untagged = none_on l.granules hs p.stays.tags is.untagged })

pub none_stale : (l : LadenRow) → IsLaden l → NoneStale (objects_of l.heap l.granules) l.granules
none_stale l is k tagged some = absurd (let clash : true ≡ false = sym tagged ∙ is.untagged k in cc)

pub after_flush : (l : LadenRow) (n : HeapRow) (hs : List Granule) → IsLaden l → Laid n hs → Flushes l.heap n l.granules hs → IsLaden (record l { heap = n; granules = hs })
after_flush l n hs is laid f =
    let most = is.made in
    let next = f.next in
    record { laid = laid; quotas = f.same.quotas ∙ is.quotas; made = omega (arith, most, next); untagged = none_on l.granules hs f.tags is.untagged }
