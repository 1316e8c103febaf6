-- What the calls answer, from what their steps did.
use Rattle.std.proofs.Common.{ℕ, zero, suc, ◌≡◌, ◌+◌, ◌-◌, ◌*◌, ◌/◌, ◌%◌, ◌^◌, ◌<◌, ◌≤◌, inl, inr, true, false, List, Some, length, refl, sym, ap, ◌∙◌, arith, subst}
use Rattle.std.proofs.Math.ListN.{set}
use Rattle.law_lists.proofs.Tests.{eq_tells}
use Rattle.def_words.specs.LeastBounds.{alignment_of}
use Rattle.def_memory.specs.declared.Granule.{Granule}
use Rattle.def_memory.specs.Ranges.{IsMarked}
use Rattle.def_machine.specs.Objects.{charges, quarantine, has_quarantined}
use Rattle.def_machine.specs.Heap.{length_for, IsPlaceFor}
use Rattle.def_chunks.specs.declared.rows.Range.{Range}
use Rattle.def_chunks.specs.declared.rows.Gap.{Gap}
use Rattle.def_chunks.specs.declared.rows.Head.{Head}
use Rattle.def_chunks.specs.Tiles.{chunks, Tiled}
use Rattle.def_chunks.specs.Gaps.{IsGap, NoGap}
use Rattle.def_chunks.specs.Heaps.{HeapRow, account, objects_of, IsHeapOf, IsUnit, Laid}
use Rattle.law_chunks.proofs.Reading.{sits}
use Rattle.law_chunks.proofs.Places.{gap_place, no_gap_place}
use Rattle.ct_heap.specs.declared.rows.Found.{Found}
use Rattle.ct_heap.specs.Lookups.{whole_of}
use Rattle.ct_heap.specs.Effects.{Allocates, NoPlace, Frees}
use Rattle.ct_heap.specs.Steps.{Placing, Placed, Freeing, Freed, Tells, waiting_chunks, UnnamesChunk, Unnames}
use Rattle.ct_heap.proofs.Finds.{FoundTells}
use Rattle.ct_heap.proofs.Tables.{charged_after}
use Rattle.ct_heap.proofs.Allocating as placing
use Rattle.ct_heap.proofs.Freeing as freeing
use Rattle.ct_heap.proofs.Flushing.{waiting_rows, none_waiting, some_waiting, unnamed_same}

-- ---- allocate

pub remaining_is : (h : HeapRow) (gs : List Granule) (quota : ℕ) → Laid h gs → (account h quota).limit - (account h quota).charged ≡ (account h quota).limit - charges quota (objects_of h gs)
remaining_is h gs quota l = ap (λ n. (account h quota).limit - n) (l.charged quota)

pub no_place : (h : HeapRow) (gs : List Granule) (size unit : ℕ) → Laid h gs → IsUnit unit (alignment_of (length_for size)) → NoGap h.range gs unit (length_for size) → NoPlace h gs size
unfolding objects_of
no_place h gs size unit l u none = λ i of b fits. no_gap_place i h.range gs h.names unit (length_for size) b of l.settled u none fits

pub placing_of : (h : HeapRow) (gs : List Granule) (quota extent unit : ℕ) (g : Gap) → IsUnit unit (alignment_of extent) → IsGap h.range gs unit extent g → extent % 8 ≡ 0 → 8 ≤ extent → (account h quota).charged + extent + 8 ≤ (account h quota).limit → Placing h gs quota extent g
placing_of h gs quota extent unit g u gap whole some within =
    let each = u.each g.base gap.aligned in
    record {
      linked = gap.linked;
      fitting = record { eight = each.0; whole = whole; some = some; low = gap.low; high = gap.high };
      within = within;
    }

pub place_is : (h : HeapRow) (gs : List Granule) (size unit : ℕ) (g : Gap) → Laid h gs → IsUnit unit (alignment_of (length_for size)) → IsGap h.range gs unit (length_for size) g → (i : _) → IsHeapOf i h.range → IsPlaceFor i (objects_of h gs) (length_for size) g.base
unfolding objects_of
place_is h gs size unit g l u gap i of = gap_place i h.range gs h.names unit (length_for size) g of l.settled u gap

pub allocates : (h n : HeapRow) (gs hs : List Granule) (quota size unit : ℕ) (g : Gap) (number base extent live : ℕ) → Laid h gs → 0 < size → size ≤ h.range.length → (account h quota).charged + length_for size + 8 ≤ (account h quota).limit
    → IsUnit unit (alignment_of (length_for size)) → IsGap h.range gs unit (length_for size) g → Placed h n gs hs quota (length_for size) g.base number base extent live → Allocates h n gs hs quota size number base extent live
allocates h n gs hs quota size unit g number base extent live l some most within u gap p =
    let charged = l.charged quota in
    subst (λ b. Allocates h n gs hs quota size number b extent live) (sym p.tells.base_is) (record {
      some = some;
      most = most;
      within = omega (arith, within, charged);
      place = place_is h gs size unit g l u gap;
      objects = p.objects;
      number_is = p.tells.number_is;
      length_is = p.tells.length_is;
      live_is = p.tells.live_is;
      next = p.next;
      zero = p.zero;
      rest = p.rest;
      stays = p.stays;
      same = p.same;
    })

-- what the steps of placing have to know of the gap
pub record Reach (h : HeapRow) (gs : List Granule) (quota extent : ℕ) (g : Gap) : Type 0 where
  pub below : h.range.base + 8 ≤ g.base
  pub over : h.range.ram ≤ g.base
  pub start : (g.base - h.range.ram) % 8 ≡ 0
  pub finish : (g.base - h.range.ram + extent) % 8 ≡ 0
  pub inside : g.base - h.range.ram + extent ≤ 8 * length gs
  pub slot : (g.base - 8 - h.range.base) / 16 < length h.names
  pub small : extent + 8 < 2 ^ 32

pub reach : (h : HeapRow) (gs : List Granule) (quota extent : ℕ) (g : Gap) → Laid h gs → Placing h gs quota extent g → Reach h gs quota extent g
reach h gs quota extent g l p =
    let s = p.linked.free_stands.stands in
    let size_is = p.linked.free_stands.size_is in
    let k = sits h.range gs g.at l.settled.tiled s in
    let low = p.fitting.low in
    let high = p.fitting.high in
    let eight = p.fitting.eight in
    let whole = p.fitting.whole in
    let some = p.fitting.some in
    let base_low = k.low in
    let fits = k.fits in
    let inside = k.inside in
    let small = k.small in
    let even = l.settled.tiled.even in
    let e0 = even.0 in
    let e2 = even.2 in
    let above = l.settled.tiled.above in
    let slots = l.slots in
    record {
      below = omega (arith, low, base_low);
      over = omega (arith, low, base_low, above);
      start = omega (arith, eight, e0, low, base_low, above);
      finish = omega (arith, eight, whole, e0, low, base_low, above);
      inside = omega (arith, inside, high, size_is, low, base_low, above);
      slot = omega (arith, slots, high, size_is, fits, low, base_low, some, e2);
      small = omega (arith, small, high, size_is, low);
    }

-- ---- free

pub frees : (h n : HeapRow) (gs hs : List Granule) (quota base top : ℕ) (f : Found) (number object_base extent live : ℕ) → FoundTells h gs base top f → f.quota ≡ quota
    → Freed h n gs hs f.object.number f.object.base f.object.length f.quota number object_base extent live → Frees h n gs hs quota base top number object_base extent live
frees h n gs hs quota base top f number object_base extent live t is p =
    let base_is = t.base_is in
    let top_is = t.top_is in
    record {
      object = t.row;
      is = subst (λ q. whole_of q base top (objects_of h gs) ≡ Some t.row) is t.of;
      objects = p.objects ∙ ap (λ m. quarantine m (objects_of h gs)) t.number_is;
      number_is = p.tells.number_is ∙ t.number_is;
      base_is = p.tells.base_is ∙ t.base_row;
      length_is = p.tells.length_is ∙ t.length_is;
      live_is = p.tells.live_is ∙ ap (λ q. charges q (objects_of n hs)) is;
      next = p.next;
      zero = λ k from to. p.zero k (omega (arith, from, base_is)) (omega (arith, to, top_is));
      marks = λ k from to. p.marks k (omega (arith, from, base_is)) (omega (arith, to, top_is));
      tags = p.tags;
      rest = λ k out. p.rest k (elim out [ inl a ↦ inl (omega (arith, a, base_is)) | inr b ↦ inr (omega (arith, b, top_is)) ]);
      size = p.size;
      same = p.same;
    }

-- ---- paint and flush

pub waiting_is : (h : HeapRow) (gs : List Granule) → Laid h gs → h.waiting ≡ waiting_chunks (chunks h.range gs)
unfolding objects_of
waiting_is h gs l = l.waiting ∙ waiting_rows h.names h.range.base h.range.base (chunks h.range gs)

pub none_is : (h : HeapRow) (gs : List Granule) → Laid h gs → h.waiting ≡ 0 → has_quarantined (objects_of h gs) ≡ false
none_is h gs l none = none_waiting (objects_of h gs) (sym l.waiting ∙ none)

pub some_is : (h : HeapRow) (gs : List Granule) → Laid h gs → (h.waiting ≡ 0 → ⊥) → has_quarantined (objects_of h gs) ≡ true
some_is h gs l some = some_waiting (objects_of h gs) (λ none. some (l.waiting ∙ none))

pub unnamed_tiled : (h : HeapRow) (gs ms : List Granule) (more : List ℕ) (left : ℕ) → Laid h gs → Unnames h.range gs ms h.names more left → Tiled h.range ms
unnamed_tiled h gs ms more left l u = (unnamed_same h gs ms more left l u).settled.tiled

-- ---- numbers

pub positive : (n : ℕ) → (n ≡ 0 → ⊥) → 0 < n
positive zero other = absurd (other refl)
positive (suc n) other = omega arith

-- ---- the table

pub stays_named : (r : Range) (gs : List Granule) (names : List ℕ) (at : ℕ) (head : Head) → (head.state ≡ 3 → ⊥) → UnnamesChunk r gs gs names names at 0 head
stays_named r gs names at head other = record {
  painted = λ e. absurd (elim (eq_tells head.state 3) [ inl x ↦ other x.1 | inr x ↦ (let clash : true ≡ false = sym e ∙ x.0 in cc) ]);
  others = λ e. (refl, refl, refl);
}

pub loses_name : (r : Range) (gs hs : List Granule) (names more : List ℕ) (at : ℕ) (head : Head) → head.state ≡ 3 → IsMarked (at - r.ram) (at - r.ram + head.size) false gs hs → more ≡ set names ((at - r.base) / 16) 0 → UnnamesChunk r gs hs names more at 1 head
loses_name r gs hs names more at head is marked entry = record {
  painted = λ e. (marked, entry, refl);
  others = λ e. absurd (elim (eq_tells head.state 3) [ inl x ↦ (let clash : true ≡ false = sym x.0 ∙ e in cc) | inr x ↦ x.1 is ]);
}

-- ---- the steps' ends

-- the object is told as it is, and its quota is charged with so much from now on
tells_so : (h n : HeapRow) (hs : List Granule) (quota number base extent charged live : ℕ) → quota < length h.accounts
    → n.accounts ≡ set h.accounts quota (record { limit = (account h quota).limit; charged = charged }) → (account n quota).charged ≡ charges quota (objects_of n hs) → live ≡ charged
    → Tells n hs quota number base extent number base extent live
tells_so h n hs quota number base extent charged live quota_in accounts charges_are live_is = record {
  number_is = refl;
  base_is = refl;
  length_is = refl;
  live_is = live_is ∙ sym (charged_after h n quota charged quota_in accounts) ∙ charges_are;
}

pub record PlacedEnds (h n : HeapRow) (gs hs : List Granule) (quota extent : ℕ) (g : Gap) (live : ℕ) : Type 0 where
  pub laid : Laid n hs
  pub placed : Placed h n gs hs quota extent g.base h.next g.base extent live

pub placed_ends : (h n : HeapRow) (gs ms hs : List Granule) (quota extent : ℕ) (g : Gap) (live : ℕ) → Laid h gs → quota < length h.accounts → h.next ≤ 4000000000 → Placing h gs quota extent g → placing.Left h n gs ms hs quota extent g
    → live ≡ (account h quota).charged + (extent + 8) → PlacedEnds h n gs hs quota extent g live
placed_ends h n gs ms hs quota extent g live l quota_in few p left live_is =
    let d = placing.place_done h n gs ms hs quota extent g l quota_in few p left in
    record {
      laid = d.laid;
      placed = record {
        objects = d.objects;
        tells = tells_so h n hs quota h.next g.base extent ((account h quota).charged + (extent + 8)) live quota_in left.accounts d.charged live_is;
        next = left.next;
        zero = d.zero;
        rest = d.rest;
        stays = d.stays;
        same = d.same;
      };
    }

pub record FreedEnds (h n : HeapRow) (gs hs : List Granule) (number base extent quota live : ℕ) : Type 0 where
  pub laid : Laid n hs
  pub freed : Freed h n gs hs number base extent quota number base extent live

pub freed_ends : (h n : HeapRow) (gs ms ns hs : List Granule) (number base extent quota live : ℕ) → Laid h gs → Freeing h gs number base extent quota → freeing.Left h n gs ms ns hs base extent quota
    → live ≡ (account h quota).charged - (extent + 8) → FreedEnds h n gs hs number base extent quota live
freed_ends h n gs ms ns hs number base extent quota live l f left live_is =
    let d = freeing.free_done h n gs ms ns hs number base extent quota l f left in
    let w = freeing.row_of h gs number base extent quota l f in
    record {
      laid = d.laid;
      freed = record {
        objects = d.objects;
        tells = tells_so h n hs quota number base extent ((account h quota).charged - (extent + 8)) live w.quota_in left.accounts d.charged live_is;
        next = left.next;
        zero = d.zero;
        marks = d.marks;
        tags = d.tags;
        rest = d.rest;
        size = d.size;
        same = d.same;
      };
    }
