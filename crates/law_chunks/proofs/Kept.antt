-- What meets no head keeps all that memory stands for, and no head lies in a live object.
use Rattle.std.proofs.Common.{ℕ, ◌≡◌, ◌+◌, ◌-◌, ◌*◌, ◌/◌, ◌%◌, ◌<◌, ◌≤◌, ◌⊎◌, inl, inr, ◌&&◌, ◌||◌, Bool, true, false, not, cond, nat_eq, nat_le, nat_lt, List, [], ◌∷◌, ◌++◌, length, refl, sym, ap, ◌∙◌, arith, subst}
use Rattle.std.proofs.lemmas.List.{length-set}
use Rattle.law_lists.proofs.Tests.{bool_tells, le_tells, lt_tells, both_left, both_right}
use Rattle.def_words.specs.declared.Cap.{Cap}
use Rattle.def_memory.specs.declared.Granule.{Granule}
use Rattle.def_memory.specs.Granules.{plain, granule_at}
use Rattle.def_memory.specs.Accesses.{IsAccess, IsPlace, stored, stored_cap, with_part}
use Rattle.def_memory.specs.Ranges.{IsZeroed, IsMarked}
use Rattle.law_granules.proofs.Lists.{store_rest, cap_rest}
use Rattle.def_machine.specs.Image.{Image, trusted_end}
use Rattle.def_machine.specs.Objects.{Each, charges}
use Rattle.def_hidden.specs.Hidden.{is_live_at, is_hidden_at}
use Rattle.def_chunks.specs.declared.heads.TheConstants.{NO_CHUNK}
use Rattle.def_chunks.specs.declared.rows.Range.{Range}
use Rattle.def_chunks.specs.Chunks.{Chunk, is_free, head_at, Lays, Starts, AreChunks, NoneTouch}
use Rattle.def_chunks.specs.Tiles.{chunks, TiledBy, Tiled, TilesSettled}
use Rattle.def_chunks.specs.Changes.{InUse}
use Rattle.def_chunks.specs.Heaps.{HeapRow, objects_in, object_at, objects_of, quota_named, is_used_at, Distinct, waiting_in, Laid, IsHeapOf}
use Rattle.def_chunks.specs.Kept.{MissesHeads, KeepsHeap, KeepsUntagged}
use Rattle.law_chunks.proofs.Lays.{lays_same, starts_low, starts_high, starts_even}
use Rattle.law_chunks.proofs.Reading.{chunks_are}
use Rattle.law_chunks.proofs.Spares.{head_unused}

-- ---- heads that stay

pub record SameChunks (r : Range) (gs hs : List Granule) : Type 0 where
  pub settled : TilesSettled r hs
  pub chunks_are : chunks r hs ≡ chunks r gs

pub settled_same : (r : Range) (gs hs : List Granule) → TilesSettled r gs → length hs ≡ length gs → ((p : ℕ) → Starts p r.base (chunks r gs) → head_at hs r.ram p ≡ head_at gs r.ram p) → SameChunks r gs hs
settled_same r gs hs h size same =
    let t = h.tiled in
    let inside = t.inside in
    let tiled : TiledBy r hs (chunks r gs) = record {
      even = t.even;
      above = t.above;
      short = t.short;
      small = t.small;
      inside = omega (arith, inside, size);
      lays = lays_same gs hs r.ram r.base r.base (chunks r gs) NO_CHUNK same t.lays;
      are = t.are;
      size = t.size;
      first = t.first;
    } in
    let is = chunks_are r hs (chunks r gs) tiled in
    record { settled = record { tiled = subst (TiledBy r hs) (sym is) tiled; apart = subst NoneTouch (sym is) h.apart }; chunks_are = is }

-- the rows depend on the chunks alone
pub objects_same : (h : HeapRow) (gs hs : List Granule) → chunks h.range hs ≡ chunks h.range gs → objects_of h hs ≡ objects_of h gs
unfolding objects_of
objects_same h gs hs same = ap (λ cs. objects_in h.names h.range.base h.range.base cs) same

pub laid_same : (h : HeapRow) (gs hs : List Granule) → Laid h gs → SameChunks h.range gs hs → KeepsHeap h gs hs
laid_same h gs hs l s =
    let same = objects_same h gs hs s.chunks_are in
    record {
      laid = record {
        settled = s.settled;
        slots = l.slots;
        named = λ o even. l.named o even ∙ ap (λ cs. is_used_at (h.range.base + o) h.range.base cs) (sym s.chunks_are);
        quotas = subst (λ rs. Each (λ r. r.quota < length h.accounts) rs) (sym same) l.quotas;
        few = l.few;
        charged = λ q. l.charged q ∙ ap (λ rs. charges q rs) (sym same);
        within = l.within;
        numbers = subst (λ rs. Each (λ r. r.number < h.next) rs) (sym same) l.numbers;
        distinct = subst Distinct (sym same) l.distinct;
        waiting = l.waiting ∙ ap waiting_in (sym same);
      };
      objects = same;
    }

pub heads_kept : (h : HeapRow) (gs hs : List Granule) → Laid h gs → length hs ≡ length gs → ((p : ℕ) → Starts p h.range.base (chunks h.range gs) → head_at hs h.range.ram p ≡ head_at gs h.range.ram p) → KeepsHeap h gs hs
heads_kept h gs hs l size same = laid_same h gs hs l (settled_same h.range gs hs l.settled size same)

-- where a head is
pub record HeadAt (r : Range) (granules p : ℕ) : Type 0 where
  pub low : r.base ≤ p
  pub over : r.ram ≤ p
  pub even : (p - r.ram) % 8 ≡ 0
  pub fits : p + 8 ≤ r.base + r.length
  pub inside : (p - r.ram) / 8 < granules

pub head_there : (r : Range) (gs : List Granule) (p : ℕ) → Tiled r gs → Starts p r.base (chunks r gs) → HeadAt r (length gs) p
head_there r gs p h s =
    let low = starts_low p r.base (chunks r gs) s in
    let high = starts_high p r.base (chunks r gs) h.are s in
    let e0 = h.even.0 in
    let e1 = h.even.1 in
    let eight = starts_even p r.base (chunks r gs) h.are (omega (arith, e1)) s in
    let size = h.size in
    let above = h.above in
    let inside = h.inside in
    record { low = low; over = omega (arith, low, above); even = omega (arith, eight, e0, low, above); fits = omega (arith, high, size); inside = omega (arith, high, size, inside, low, above) }

-- ---- each change of memory

pub store_keeps : (h : HeapRow) (gs : List Granule) (at width value : ℕ) → Laid h gs → IsAccess (8 * length gs) at width → MissesHeads h.range gs at (at + width) → KeepsHeap h gs (stored gs at width value)
store_keeps h gs at width value l is misses =
    heads_kept h gs (stored gs at width value) l (length-set gs (at / 8) (record { cap = plain (with_part (granule_at gs (at / 8)).cap.word (at % 8) width value); mark = (granule_at gs (at / 8)).mark }))
    (λ p s. let k = head_there h.range gs p l.settled.tiled s in
    let over = k.over in
    let even = k.even in
    let some : 0 < width = elim is.known [ inl e ↦ omega (arith, e) | inr r ↦ elim r [ inl e ↦ omega (arith, e) | inr e ↦ omega (arith, e) ] ] in
    ap (λ (g : Granule). g.cap) (store_rest gs at width value ((p - h.range.ram) / 8) (λ e. elim (misses p s) [ inl a ↦ omega (arith, a, e, over, even) | inr b ↦ omega (arith, b, e, over, even, some) ])))

pub cap_keeps : (h : HeapRow) (gs : List Granule) (at : ℕ) (c : Cap) → Laid h gs → IsPlace (8 * length gs) at → MissesHeads h.range gs at (at + 8) → KeepsHeap h gs (stored_cap gs at c)
cap_keeps h gs at c l is misses =
    heads_kept h gs (stored_cap gs at c) l (length-set gs (at / 8) (record { cap = c; mark = (granule_at gs (at / 8)).mark }))
    (λ p s. let k = head_there h.range gs p l.settled.tiled s in
    let over = k.over in
    let even = k.even in
    let eight = is.aligned in
    ap (λ (g : Granule). g.cap) (cap_rest gs at c ((p - h.range.ram) / 8) (λ e. elim (misses p s) [ inl a ↦ omega (arith, a, e, over, even, eight) | inr b ↦ omega (arith, b, e, over, even, eight) ])))

pub zero_keeps : (h : HeapRow) (gs hs : List Granule) (from to : ℕ) → Laid h gs → IsZeroed from to gs hs → MissesHeads h.range gs from to → KeepsHeap h gs hs
zero_keeps h gs hs from to l is misses =
    heads_kept h gs hs l is.size
    (λ p s. let k = head_there h.range gs p l.settled.tiled s in
    let over = k.over in
    let even = k.even in
    ap (λ (g : Granule). g.cap) (is.rest ((p - h.range.ram) / 8) (elim (misses p s) [ inl a ↦ inl (omega (arith, a, over, even)) | inr b ↦ inr (omega (arith, b, over, even)) ])))

pub mark_caps : (gs hs : List Granule) (from to : ℕ) (on : Bool) (k : ℕ) → IsMarked from to on gs hs → k < length gs → (granule_at hs k).cap ≡ (granule_at gs k).cap
mark_caps gs hs from to on k is inside = elim (le_tells from (8 * k)) [
  | inl a ↦ elim (lt_tells (8 * k) to) [
    | inl b ↦ ap (λ (g : Granule). g.cap) (is.marks k inside (a.1, b.1))
    | inr b ↦ ap (λ (g : Granule). g.cap) (is.rest k (inr b.1))
  ]
  | inr a ↦ ap (λ (g : Granule). g.cap) (is.rest k (inl a.1))
]

pub mark_keeps : (h : HeapRow) (gs hs : List Granule) (from to : ℕ) (on : Bool) → Laid h gs → IsMarked from to on gs hs → KeepsHeap h gs hs
mark_keeps h gs hs from to on l is =
    heads_kept h gs hs l is.size
    (λ p s. let k = head_there h.range gs p l.settled.tiled s in mark_caps gs hs from to on ((p - h.range.ram) / 8) is k.inside)

-- heads are untagged
untagged_head : (gs : List Granule) (ram base at p next : ℕ) (cs : List Chunk) → Lays gs ram base at cs next → Starts p at cs → (head_at gs ram p).tag ≡ false
untagged_head gs ram base at p next [] l s = absurd s
untagged_head gs ram base at p next (c ∷ cs) l (inl e) = rw e (ap (λ (x : Cap). x.tag) l.0)
untagged_head gs ram base at p next (c ∷ cs) l (inr e) = untagged_head gs ram base (at + c.size) p next cs l.1 e

pub untag_keeps : (h : HeapRow) (gs hs : List Granule) → Laid h gs → KeepsUntagged gs hs → KeepsHeap h gs hs
untag_keeps h gs hs l is =
    heads_kept h gs hs l is.size
    (λ p s. is.same ((p - h.range.ram) / 8) (untagged_head gs h.range.ram h.range.base h.range.base p NO_CHUNK (chunks h.range gs) l.settled.tiled.lays s))

-- ---- live objects

-- an address of a live object is in a used chunk, past its head
pub live_in_use : (names : List ℕ) (base p at : ℕ) (cs : List Chunk) → AreChunks cs → is_live_at (objects_in names base at cs) p ≡ true → InUse p at cs
live_in_use names base p at [] are e = absurd (let clash : false ≡ true = e in cc)
live_in_use names base p at (c ∷ cs) are e = elim (bool_tells (is_free c)) [
  | inl free_ ↦ inr (live_in_use names base p (at + c.size) cs are.1 (rw free_ at e))
  | inr used ↦
      let here : ((object_at (quota_named names (at - base)) at c).live && nat_le (at + 8) p && nat_lt p (at + 8 + (c.size - 8)) || is_live_at (objects_in names base (at + c.size) cs) p) ≡ true = rw used at e in
      elim (bool_tells ((object_at (quota_named names (at - base)) at c).live && nat_le (at + 8) p && nat_lt p (at + 8 + (c.size - 8)))) [
        | inl it ↦
            let live : Bool = (object_at (quota_named names (at - base)) at c).live in
            let two : (live && nat_le (at + 8) p) ≡ true = both_left (live && nat_le (at + 8) p) (nat_lt p (at + 8 + (c.size - 8))) it in
            let above : nat_le (at + 8) p ≡ true = both_right live (nat_le (at + 8) p) two in
            let below : nat_lt p (at + 8 + (c.size - 8)) ≡ true = both_right (live && nat_le (at + 8) p) (nat_lt p (at + 8 + (c.size - 8))) it in
            let low : at + 8 ≤ p = elim (le_tells (at + 8) p) [ inl a ↦ a.1 | inr a ↦ absurd (let clash : true ≡ false = sym above ∙ a.0 in cc) ] in
            let high : p < at + 8 + (c.size - 8) = elim (lt_tells p (at + 8 + (c.size - 8))) [ inl a ↦ a.1 | inr a ↦ absurd (let clash : true ≡ false = sym below ∙ a.0 in cc) ] in
            let some = are.0.some in
            inl (used, low, omega (arith, high, some))
        | inr not_it ↦ inr (live_in_use names base p (at + c.size) cs are.1 (sym (ap (λ b. b || is_live_at (objects_in names base (at + c.size) cs) p) not_it) ∙ here))
      ]
]

pub head_not_live : (h : HeapRow) (gs : List Granule) (p : ℕ) → Laid h gs → Starts p h.range.base (chunks h.range gs) → is_live_at (objects_of h gs) p ≡ false
unfolding objects_of
head_not_live h gs p l s =
    let cs = chunks h.range gs in
    let are = l.settled.tiled.are in
    elim (bool_tells (is_live_at (objects_in h.names h.range.base h.range.base (chunks h.range gs)) p)) [
      | inl e ↦ absurd (head_unused p h.range.base cs are s (live_in_use h.names h.range.base p h.range.base (chunks h.range gs) are e))
      | inr e ↦ e
    ]

pub head_hidden : (i : Image) (h : HeapRow) (gs : List Granule) (p : ℕ) → IsHeapOf i h.range → Laid h gs → Starts p h.range.base (chunks h.range gs) → is_hidden_at i (objects_of h gs) p ≡ true
head_hidden i h gs p of l s =
    let k = head_there h.range gs p l.settled.tiled s in
    let base_is = of.base in
    let end_is = of.end in
    let low_ = k.low in
    let fits = k.fits in
    let low : nat_le i.heap_base p ≡ true = elim (le_tells i.heap_base p) [ inl a ↦ a.0 | inr a ↦ absurd (let gt = a.1 in omega (arith, gt, low_, base_is)) ] in
    let high : nat_lt p i.heap_end ≡ true = elim (lt_tells p i.heap_end) [ inl a ↦ a.0 | inr a ↦ absurd (let ge = a.1 in omega (arith, ge, fits, end_is)) ] in
    let live = head_not_live h gs p l s in
    elim (bool_tells (nat_le i.trusted p && nat_lt p (trusted_end i))) [ inl e ↦ rw e refl | inr e ↦ rw (e, low, high, live) refl ]

-- what is seen of a live object is spared
pub live_spared : (h : HeapRow) (gs : List Granule) (p : ℕ) → Laid h gs → is_live_at (objects_of h gs) p ≡ true → InUse p h.range.base (chunks h.range gs)
unfolding objects_of
live_spared h gs p l e = live_in_use h.names h.range.base p h.range.base (chunks h.range gs) l.settled.tiled.are e
