-- Objects are found by their bounds.
use Rattle.std.proofs.Common.{ℕ, ◌≡◌, ◌+◌, ◌-◌, ◌*◌, ◌%◌, ◌^◌, ◌<◌, ◌≤◌, inl, inr, ◌==◌, ◌&&◌, Bool, true, false, cond, nat_eq, nat_le, nat_lt, List, [], ◌∷◌, ◌++◌, Option, Some, None, length, refl, sym, ap, ◌∙◌, arith, subst}
use Rattle.law_lists.proofs.Tests.{bool_tells, eq_tells, le_tells, lt_tells, both_left, both_right}
use Rattle.def_memory.specs.declared.Granule.{Granule}
use Rattle.def_machine.specs.State.{Object}
use Rattle.def_machine.specs.Objects.{Each, charges}
use Rattle.def_chunks.specs.declared.rows.Head.{Head}
use Rattle.def_chunks.specs.Chunks.{Chunk, is_free, total_size, head_at, head_in, IsChunk, AreChunks}
use Rattle.def_chunks.specs.Tiles.{chunks}
use Rattle.def_chunks.specs.Gaps.{ChunkStands, UsedStands}
use Rattle.def_chunks.specs.Heaps.{HeapRow, object_at, objects_in, objects_of, quota_named, begins_used_chunk, is_used_at, account, Laid}
use Rattle.law_chunks.proofs.Reading.{sits}
use Rattle.law_chunks.proofs.Rows.{objects_both, UsedStarts, each_split}
use Rattle.ct_chunks.proofs.Painting.{tells}
use Rattle.ct_heap.specs.declared.rows.Found.{Found}
use Rattle.ct_heap.specs.Steps.{Freeing}
use Rattle.ct_heap.specs.Told.{object_row, found}
use Rattle.ct_heap.specs.Table.{owner_at}
use Rattle.ct_heap.specs.Lookups.{spans, whole_at, spans_of, whole_of, found_as, may_begin, owner_of}
use Rattle.ct_heap.proofs.Named.{used_low, used_high, used_even, used_test, used_says, used_chunk}

-- ---- a list of rows

abbrev NotAt : ℕ → List Object → Type 0
NotAt base rs = Each (λ q. q.base ≡ base → ⊥) rs

not_span : (base top : ℕ) (r : Object) → (r.base ≡ base → ⊥) → spans base top r ≡ false
not_span base top r other = elim (eq_tells r.base base) [
  | inl e ↦ absurd (other e.1)
  | inr e ↦ elim (bool_tells r.live) [ inl l ↦ rw (l, e.0) refl | inr l ↦ rw l refl ]
]

pub none_at : (base top : ℕ) (rs : List Object) → NotAt base rs → whole_at base top rs ≡ None
none_at base top [] h = refl
none_at base top (r ∷ rs) h = rw (not_span base top r h.0) (none_at base top rs h.1)

pub only_at : (base top : ℕ) (rs : List Object) (r : Object) (qs : List Object) → NotAt base rs → NotAt base qs → whole_at base top (rs ++ r ∷ qs) ≡ cond (spans base top r) (Some r) None
only_at base top [] r qs a b = elim (bool_tells (spans base top r)) [ inl e ↦ rw e refl | inr e ↦ rw e (none_at base top qs b) ]
only_at base top (p ∷ rs) r qs a b = rw (not_span base top p a.0) (only_at base top rs r qs a.1 b)

-- of one quota: the one that is found, where it is of that quota
spans_both : (quota base top : ℕ) (r : Object) → spans_of quota base top r ≡ (spans base top r && (r.quota == quota))
spans_both quota base top r = elim (bool_tells r.live) [
  | inr e ↦ rw e refl
  | inl e ↦ elim (bool_tells (r.quota == quota)) [
    | inl q ↦ elim (bool_tells (r.base == base)) [
      | inl b ↦ elim (bool_tells (r.base + r.length == top)) [ inl t ↦ rw (e, q, b, t) refl | inr t ↦ rw (e, q, b, t) refl ]
      | inr b ↦ rw (e, q, b) refl
    ]
    | inr q ↦ elim (bool_tells (r.base == base)) [
      | inl b ↦ elim (bool_tells (r.base + r.length == top)) [ inl t ↦ rw (e, q, b, t) refl | inr t ↦ rw (e, q, b, t) refl ]
      | inr b ↦ rw (e, q, b) refl
    ]
  ]
]

pub none_of : (quota base top : ℕ) (rs : List Object) → NotAt base rs → whole_of quota base top rs ≡ None
none_of quota base top [] h = refl
none_of quota base top (r ∷ rs) h =
    let no_ : spans_of quota base top r ≡ false = spans_both quota base top r ∙ ap (λ b. b && (r.quota == quota)) (not_span base top r h.0) in
    rw no_ (none_of quota base top rs h.1)

pub only_of : (quota base top : ℕ) (rs : List Object) (r : Object) (qs : List Object) → NotAt base rs → NotAt base qs → whole_of quota base top (rs ++ r ∷ qs) ≡ cond (spans_of quota base top r) (Some r) None
only_of quota base top [] r qs a b = elim (bool_tells (spans_of quota base top r)) [ inl e ↦ rw e refl | inr e ↦ rw e (none_of quota base top qs b) ]
only_of quota base top (p ∷ rs) r qs a b =
    let no_ : spans_of quota base top p ≡ false = spans_both quota base top p ∙ ap (λ x. x && (p.quota == quota)) (not_span base top p a.0) in
    rw no_ (only_of quota base top rs r qs a.1 b)

-- ---- rows of chunks

-- where no used chunk begins there is no object
pub rows_not_at : (names : List ℕ) (low base at : ℕ) (cs : List Chunk) → ((p : ℕ) → UsedStarts p at cs → p + 8 ≡ base → ⊥) → NotAt base (objects_in names low at cs)
rows_not_at names low base at [] none = tt
rows_not_at names low base at (c ∷ cs) none = elim (bool_tells (is_free c)) [
  | inl e ↦ rw e (rows_not_at names low base (at + c.size) cs (λ p s. none p (inr s)))
  | inr e ↦ rw e ((λ is. none at (inl (e, refl)) is, rows_not_at names low base (at + c.size) cs (λ p s. none p (inr s))))
]

-- the rows before and behind the chunk of a row
pub record Around (names : List ℕ) (low at : ℕ) (above : List Chunk) (c : Chunk) (below : List Chunk) : Type 0 where
  pub rows : objects_in names low low (above ++ c ∷ below) ≡ objects_in names low low above ++ object_at (quota_named names (at - low)) at c ∷ objects_in names low (at + c.size) below
  pub before : NotAt (at + 8) (objects_in names low low above)
  pub behind : NotAt (at + 8) (objects_in names low (at + c.size) below)

pub around : (names : List ℕ) (low at : ℕ) (above : List Chunk) (c : Chunk) (below : List Chunk) → AreChunks above → IsChunk c → at ≡ low + total_size above → is_free c ≡ false → Around names low at above c below
around names low at above c below are shape place used = record {
  rows = objects_both names low low above (c ∷ below) ∙ rw (← place) (ap (λ l. objects_in names low low above ++ l) (used_rows used));
  before = rows_not_at names low (at + 8) low above (λ p s is. (let high = used_high p low above are s in omega (arith, high, is, place)));
  behind = rows_not_at names low (at + 8) (at + c.size) below (λ p s is. (let lo = used_low p (at + c.size) below s in let some = shape.some in omega (arith, lo, is, some)));
}
  where
    used_rows : is_free c ≡ false → objects_in names low at (c ∷ below) ≡ object_at (quota_named names (at - low)) at c ∷ objects_in names low (at + c.size) below
    used_rows e = rw e refl

-- ---- what the table and a head tell

-- the object whose chunk stands at an address
pub record Owned (h : HeapRow) (gs : List Granule) (base quota : ℕ) : Type 0 where
  pub stands : ChunkStands h.range gs (base - 8)
  pub used : is_free stands.chunk ≡ false
  pub quota_is : quota ≡ quota_named h.names (base - 8 - h.range.base)
  pub low : h.range.base + 8 ≤ base
  pub eight : base % 8 ≡ 0

may : (h : HeapRow) (base : ℕ) → may_begin h base ≡ true → (base % 8 ≡ 0) × (8 ≤ base) × (h.range.base ≤ base - 8) × (base - 8 - h.range.base < h.range.length)
may h base e =
    let a : Bool = base % 8 == 0 in
    let b : Bool = nat_le 8 base in
    let c : Bool = nat_le h.range.base (base - 8) in
    let d : Bool = nat_lt (base - 8 - h.range.base) h.range.length in
    let three : (a && b && c) ≡ true = both_left (a && b && c) d e in
    let two : (a && b) ≡ true = both_left (a && b) c three in
    let first : (base % 8 == 0) ≡ true = both_left a b two in
    let second : nat_le 8 base ≡ true = both_right a b two in
    let third : nat_le h.range.base (base - 8) ≡ true = both_right (a && b) c three in
    let fourth : nat_lt (base - 8 - h.range.base) h.range.length ≡ true = both_right (a && b && c) d e in (
      elim (eq_tells (base % 8) 0) [ inl x ↦ x.1 | inr x ↦ absurd (let clash : true ≡ false = sym first ∙ x.0 in cc) ],
      elim (le_tells 8 base) [ inl x ↦ x.1 | inr x ↦ absurd (let clash : true ≡ false = sym second ∙ x.0 in cc) ],
      elim (le_tells h.range.base (base - 8)) [ inl x ↦ x.1 | inr x ↦ absurd (let clash : true ≡ false = sym third ∙ x.0 in cc) ],
      elim (lt_tells (base - 8 - h.range.base) h.range.length) [ inl x ↦ x.1 | inr x ↦ absurd (let clash : true ≡ false = sym fourth ∙ x.0 in cc) ],
    )

may_is : (h : HeapRow) (base : ℕ) → base % 8 ≡ 0 → 8 ≤ base → h.range.base ≤ base - 8 → base - 8 - h.range.base < h.range.length → may_begin h base ≡ true
may_is h base a b c d =
    let a_ : nat_eq (base % 8) 0 ≡ true = elim (eq_tells (base % 8) 0) [ inl e ↦ e.0 | inr e ↦ absurd (e.1 a) ] in
    let b_ : nat_le 8 base ≡ true = elim (le_tells 8 base) [ inl e ↦ e.0 | inr e ↦ absurd (let lt = e.1 in omega (arith, lt, b)) ] in
    let c_ : nat_le h.range.base (base - 8) ≡ true = elim (le_tells h.range.base (base - 8)) [ inl e ↦ e.0 | inr e ↦ absurd (let lt = e.1 in omega (arith, lt, c)) ] in
    let d_ : nat_lt (base - 8 - h.range.base) h.range.length ≡ true = elim (lt_tells (base - 8 - h.range.base) h.range.length) [ inl e ↦ e.0 | inr e ↦ absurd (let ge = e.1 in omega (arith, ge, d)) ] in
    rw (a_, b_, c_, d_) refl

-- where no object may begin none is told, and elsewhere the table tells
pub not_begins : (h : HeapRow) (base : ℕ) → ((base % 8 ≡ 0) × (8 ≤ base) × (h.range.base ≤ base - 8) × (base - 8 - h.range.base < h.range.length) → ⊥) → owner_of h base ≡ None
not_begins h base no_ = elim (bool_tells (may_begin h base)) [ inl e ↦ absurd (no_ (may h base e)) | inr e ↦ rw e refl ]

pub begins : (h : HeapRow) (base : ℕ) → base % 8 ≡ 0 → h.range.base + 8 ≤ base → base - 8 - h.range.base < h.range.length → owner_of h base ≡ owner_at h.names (base - 8 - h.range.base)
begins h base even low high = rw (may_is h base even (omega (arith, low)) (omega (arith, low)) high) refl

-- a quota that is told owns a chunk
pub owned : (h : HeapRow) (gs : List Granule) (base quota : ℕ) → Laid h gs → owner_of h base ≡ Some quota → Owned h gs base quota
owned h gs base quota l e = elim (bool_tells (may_begin h base)) [
  | inr not_ ↦ absurd (let clash : None ≡ Some quota = rw not_ at e in cc)
  | inl is ↦
      let m = may h base is in
      let told_ : owner_at h.names (base - 8 - h.range.base) ≡ Some quota = rw is at e in
      elim (bool_tells (begins_used_chunk h.names (base - 8 - h.range.base))) [
        | inr not_ ↦ absurd (let clash : None ≡ Some quota = rw not_ at told_ in cc)
        | inl named ↦
            let is_quota : Some (quota_named h.names (base - 8 - h.range.base)) ≡ Some quota = rw named at told_ in
            let e1 = l.settled.tiled.even.1 in
            let m0 = m.0 in
            let m1 = m.1 in
            let m2 = m.2 in
            let used : is_used_at (h.range.base + (base - 8 - h.range.base)) h.range.base (chunks h.range gs) ≡ true = sym (l.named (base - 8 - h.range.base) (omega (arith, m0, m1, m2, e1))) ∙ named in
            let u = used_chunk (h.range.base + (base - 8 - h.range.base)) h.range.base (chunks h.range gs) (used_says (h.range.base + (base - 8 - h.range.base)) h.range.base (chunks h.range gs) used) in
            let place = u.place in
            record {
              stands = record { above = u.above; chunk = u.chunk; below = u.below; whole = u.whole; place = omega (arith, place, m2) };
              used = u.is;
              quota_is = cc;
              low = omega (arith, m1, m2);
              eight = m0;
            }
      ]
]

-- and where none is told no object begins
pub unowned : (h : HeapRow) (gs : List Granule) (base : ℕ) → Laid h gs → owner_of h base ≡ None → NotAt base (objects_of h gs)
unfolding objects_of
unowned h gs base l e = rows_not_at h.names h.range.base base h.range.base (chunks h.range gs)
    (λ p s is.
    let are = l.settled.tiled.are in
    let low = used_low p h.range.base (chunks h.range gs) s in
    let high = used_high p h.range.base (chunks h.range gs) are s in
    let e1 = l.settled.tiled.even.1 in
    let even = used_even p h.range.base (chunks h.range gs) are (omega (arith, e1)) s in
    let size = l.settled.tiled.size in
    let offset : base - 8 - h.range.base ≡ p - h.range.base = omega (arith, is) in
    let there : h.range.base + (p - h.range.base) ≡ p = omega (arith, low) in
    let begins = may_is h base (omega (arith, is, even)) (omega (arith, is)) (omega (arith, is, low)) (omega (arith, is, low, high, size)) in
    let used : is_used_at (h.range.base + (p - h.range.base)) h.range.base (chunks h.range gs) ≡ true = rw there (used_test p h.range.base (chunks h.range gs) are s) in
    let named : begins_used_chunk h.names (p - h.range.base) ≡ true = l.named (p - h.range.base) (omega (arith, low, even, e1)) ∙ used in
    let clash : Some (quota_named h.names (p - h.range.base)) ≡ None = sym (rw (begins, offset, named) refl) ∙ e in
    absurd (cc))

-- ---- find

pub record FoundRow (h : HeapRow) (gs : List Granule) (base top quota : ℕ) (o : Owned h gs base quota) : Type 0 where
  pub is : whole_at base top (objects_of h gs) ≡ cond (spans base top (object_at quota (base - 8) o.stands.chunk)) (Some (object_at quota (base - 8) o.stands.chunk)) None
  pub of : (q : ℕ) → whole_of q base top (objects_of h gs) ≡ cond (spans_of q base top (object_at quota (base - 8) o.stands.chunk)) (Some (object_at quota (base - 8) o.stands.chunk)) None

pub found_row : (h : HeapRow) (gs : List Granule) (base top quota : ℕ) → Laid h gs → (o : Owned h gs base quota) → FoundRow h gs base top quota o
unfolding objects_of
found_row h gs base top quota l o =
    let s = o.stands in
    let k = sits h.range gs (base - 8) l.settled.tiled s in
    let low = o.low in
    let a = around h.names h.range.base (base - 8) s.above s.chunk s.below k.above_are k.shape s.place o.used in
    let back : base - 8 + 8 ≡ base = omega (arith, low) in
    let rows = ap (λ cs. objects_in h.names h.range.base h.range.base cs) s.whole ∙ a.rows in
    let before : NotAt base (objects_in h.names h.range.base h.range.base s.above) = subst (λ b. NotAt b (objects_in h.names h.range.base h.range.base s.above)) back a.before in
    let behind : NotAt base (objects_in h.names h.range.base (base - 8 + s.chunk.size) s.below) = subst (λ b. NotAt b (objects_in h.names h.range.base (base - 8 + s.chunk.size) s.below)) back a.behind in
    let quota_is = sym o.quota_is in
    record {
      is = ap (λ rs. whole_at base top rs) rows ∙ only_at base top (objects_in h.names h.range.base h.range.base s.above) (object_at (quota_named h.names (base - 8 - h.range.base)) (base - 8) s.chunk) (objects_in h.names h.range.base (base - 8 + s.chunk.size) s.below) before behind ∙ ap (λ q. cond (spans base top (object_at q (base - 8) s.chunk)) (Some (object_at q (base - 8) s.chunk)) None) quota_is;
      of = λ q. ap (λ rs. whole_of q base top rs) rows ∙ only_of q base top (objects_in h.names h.range.base h.range.base s.above) (object_at (quota_named h.names (base - 8 - h.range.base)) (base - 8) s.chunk) (objects_in h.names h.range.base (base - 8 + s.chunk.size) s.below) before behind ∙ ap (λ m. cond (spans_of q base top (object_at m (base - 8) s.chunk)) (Some (object_at m (base - 8) s.chunk)) None) quota_is;
    }

-- ---- what `find` answers

-- what the code has to know of the chunk that the table names
pub record Known (h : HeapRow) (gs : List Granule) (base quota : ℕ) : Type 0 where
  pub low : h.range.base + 8 ≤ base
  pub over : h.range.ram ≤ base - 8
  pub even : (base - 8 - h.range.ram) % 8 ≡ 0
  pub inside : base - 8 - h.range.ram + 8 ≤ 8 * length gs
  pub quota_in : quota < length h.accounts
  pub size : 16 ≤ (head_in (head_at gs h.range.ram (base - 8))).size
  pub number : (head_in (head_at gs h.range.ram (base - 8))).rest < 2 ^ 32

quota_of : (h : HeapRow) (gs : List Granule) (base quota : ℕ) → Laid h gs → Owned h gs base quota → quota < length h.accounts
unfolding objects_of
quota_of h gs base quota l o =
    let s = o.stands in
    let k = sits h.range gs (base - 8) l.settled.tiled s in
    let a = around h.names h.range.base (base - 8) s.above s.chunk s.below k.above_are k.shape s.place o.used in
    let rows = ap (λ cs. objects_in h.names h.range.base h.range.base cs) s.whole ∙ a.rows in
    let each = each_split (λ r. r.quota < length h.accounts) (objects_in h.names h.range.base h.range.base s.above) (object_at (quota_named h.names (base - 8 - h.range.base)) (base - 8) s.chunk ∷ objects_in h.names h.range.base (base - 8 + s.chunk.size) s.below) (subst (λ x. Each (λ r. r.quota < length h.accounts) x) rows l.quotas) in
    let here = each.1.0 in
    let is = o.quota_is in
    omega (arith, here, is)

pub known : (h : HeapRow) (gs : List Granule) (base quota : ℕ) → Laid h gs → owner_of h base ≡ Some quota → Known h gs base quota
known h gs base quota l e =
    let o = owned h gs base quota l e in
    let s = o.stands in
    let k = sits h.range gs (base - 8) l.settled.tiled s in
    let t = tells h.range gs (base - 8) s l.settled.tiled in
    let over = k.over in
    let inside = k.inside in
    let some = k.shape.some in
    let wide = k.shape.used o.used in
    let size = t.size in
    let number_is = t.number o.used in
    let number = k.shape.number in
    record {
      low = o.low;
      over = over;
      even = k.even;
      inside = omega (arith, inside, over, some);
      quota_in = quota_of h gs base quota l o;
      size = omega (arith, size, wide);
      number = omega (arith, number_is, number);
    }

pub find_none : (h : HeapRow) (gs : List Granule) (base top : ℕ) → Laid h gs → owner_of h base ≡ None → found_as (objects_of h gs) (whole_at base top (objects_of h gs)) ≡ None
find_none h gs base top l e = ap (found_as (objects_of h gs)) (none_at base top (objects_of h gs) (unowned h gs base l e))

-- the test of the row, by what the head says
spans_is : (base top quota : ℕ) (c : Chunk) → 8 ≤ base → 8 ≤ c.size → spans base top (object_at quota (base - 8) c) ≡ (nat_eq c.state 1 && nat_eq (base - 8 + c.size) top)
spans_is base top quota c low some =
    let here : nat_eq (base - 8 + 8) base ≡ true = elim (eq_tells (base - 8 + 8) base) [ inl e ↦ e.0 | inr e ↦ absurd (e.1 (omega (arith, low))) ] in
    let end : base - 8 + 8 + (c.size - 8) ≡ base - 8 + c.size = omega (arith, some) in
    elim (bool_tells (nat_eq c.state 1)) [
      | inl e ↦ rw (e, here) (ap (λ n. nat_eq n top) end)
      | inr e ↦ rw e refl
    ]

pub record Spans (h : HeapRow) (gs : List Granule) (base top quota : ℕ) (head : Head) (o : Owned h gs base quota) : Type 0 where
  pub is : spans base top (object_at quota (base - 8) o.stands.chunk) ≡ (nat_eq head.state 1 && nat_eq (base - 8 + head.size) top)
  pub size : head.size ≡ o.stands.chunk.size
  pub state : head.state ≡ o.stands.chunk.state
  pub number : head.rest ≡ o.stands.chunk.number

pub spans_by : (h : HeapRow) (gs : List Granule) (base top quota : ℕ) (head : Head) → Laid h gs → (o : Owned h gs base quota) → head ≡ head_in (head_at gs h.range.ram (base - 8)) → Spans h gs base top quota head o
spans_by h gs base top quota head l o is =
    let s = o.stands in
    let k = sits h.range gs (base - 8) l.settled.tiled s in
    let t = tells h.range gs (base - 8) s l.settled.tiled in
    let low = o.low in
    let size : head.size ≡ s.chunk.size = ap (λ (x : Head). x.size) is ∙ t.size in
    let state : head.state ≡ s.chunk.state = ap (λ (x : Head). x.state) is ∙ t.state in
    record {
      is = spans_is base top quota s.chunk (omega (arith, low)) k.shape.some ∙ ap (λ x. nat_eq x 1 && nat_eq (base - 8 + s.chunk.size) top) (sym state) ∙ ap (λ x. nat_eq head.state 1 && nat_eq (base - 8 + x) top) (sym size);
      size = size;
      state = state;
      number = ap (λ (x : Head). x.rest) is ∙ t.number o.used;
    }

-- another state, or another end
pub find_other : (h : HeapRow) (gs : List Granule) (base top quota : ℕ) (head : Head) → Laid h gs → owner_of h base ≡ Some quota → head ≡ head_in (head_at gs h.range.ram (base - 8))
    → (nat_eq head.state 1 && nat_eq (base - 8 + head.size) top) ≡ false → found_as (objects_of h gs) (whole_at base top (objects_of h gs)) ≡ None
find_other h gs base top quota head l e is no_ =
    let o = owned h gs base quota l e in
    let f = found_row h gs base top quota l o in
    let p = spans_by h gs base top quota head l o is in
    ap (found_as (objects_of h gs)) (f.is ∙ ap (λ b. cond b (Some (object_at quota (base - 8) o.stands.chunk)) None) (p.is ∙ no_))

pub find_some : (h : HeapRow) (gs : List Granule) (base top quota : ℕ) (head : Head) → Laid h gs → owner_of h base ≡ Some quota → head ≡ head_in (head_at gs h.range.ram (base - 8))
    → (nat_eq head.state 1 && nat_eq (base - 8 + head.size) top) ≡ true → found_as (objects_of h gs) (whole_at base top (objects_of h gs)) ≡ Some (found (object_row head.rest base (head.size - 8) (account h quota).charged) quota)
find_some h gs base top quota head l e is yes_ =
    let o = owned h gs base quota l e in
    let f = found_row h gs base top quota l o in
    let p = spans_by h gs base top quota head l o is in
    let low = o.low in
    let c : Chunk = o.stands.chunk in
    let row : whole_at base top (objects_of h gs) ≡ Some (object_at quota (base - 8) c) = f.is ∙ ap (λ b. cond b (Some (object_at quota (base - 8) c)) None) (p.is ∙ yes_) in
    ap (found_as (objects_of h gs)) row
    ∙ ap (λ n. Some (found (object_row n (base - 8 + 8) (c.size - 8) (charges quota (objects_of h gs))) quota)) (sym p.number)
    ∙ ap (λ b. Some (found (object_row head.rest b (c.size - 8) (charges quota (objects_of h gs))) quota)) (omega (arith, low))
    ∙ ap (λ n. Some (found (object_row head.rest base (n - 8) (charges quota (objects_of h gs))) quota)) (sym p.size)
    ∙ ap (λ n. Some (found (object_row head.rest base (head.size - 8) n) quota)) (sym (l.charged quota))

-- the three ends of `find`
pub other_state : (h : HeapRow) (gs : List Granule) (base top quota : ℕ) (head : Head) → Laid h gs → owner_of h base ≡ Some quota → head ≡ head_in (head_at gs h.range.ram (base - 8)) → (head.state ≡ 1 → ⊥) → found_as (objects_of h gs) (whole_at base top (objects_of h gs)) ≡ None
other_state h gs base top quota head l e is other = find_other h gs base top quota head l e is (elim (eq_tells head.state 1) [ inl x ↦ absurd (other x.1) | inr x ↦ rw x.0 refl ])

pub other_end : (h : HeapRow) (gs : List Granule) (base top quota : ℕ) (head : Head) → Laid h gs → owner_of h base ≡ Some quota → head ≡ head_in (head_at gs h.range.ram (base - 8)) → (base - 8 + head.size ≡ top → ⊥) → found_as (objects_of h gs) (whole_at base top (objects_of h gs)) ≡ None
other_end h gs base top quota head l e is other = find_other h gs base top quota head l e is (elim (eq_tells (base - 8 + head.size) top) [
  | inl x ↦ absurd (other x.1)
  | inr x ↦ elim (bool_tells (nat_eq head.state 1)) [ inl y ↦ rw (y, x.0) refl | inr y ↦ rw y refl ]
])

pub is_found : (h : HeapRow) (gs : List Granule) (base top quota : ℕ) (head : Head) → Laid h gs → owner_of h base ≡ Some quota → head ≡ head_in (head_at gs h.range.ram (base - 8)) → head.state ≡ 1 → base - 8 + head.size ≡ top → found_as (objects_of h gs) (whole_at base top (objects_of h gs)) ≡ Some (found (object_row head.rest base (head.size - 8) (account h quota).charged) quota)
is_found h gs base top quota head l e is live ends =
    let a : nat_eq head.state 1 ≡ true = elim (eq_tells head.state 1) [ inl x ↦ x.0 | inr x ↦ absurd (x.1 live) ] in
    let b : nat_eq (base - 8 + head.size) top ≡ true = elim (eq_tells (base - 8 + head.size) top) [ inl x ↦ x.0 | inr x ↦ absurd (x.1 ends) ] in
    find_some h gs base top quota head l e is (rw (a, b) refl)

-- ---- what `free` knows of what was found

pub record FoundTells (h : HeapRow) (gs : List Granule) (base top : ℕ) (f : Found) : Type 0 where
  pub row : Object
  pub freeing : Freeing h gs f.object.number f.object.base f.object.length f.quota
  pub of : whole_of f.quota base top (objects_of h gs) ≡ Some row
  pub others : (q : ℕ) → (f.quota ≡ q → ⊥) → whole_of q base top (objects_of h gs) ≡ None
  pub number_is : f.object.number ≡ row.number
  pub base_row : f.object.base ≡ row.base
  pub length_is : f.object.length ≡ row.length
  pub base_is : f.object.base ≡ base
  pub top_is : f.object.base + f.object.length ≡ top

-- of the row of a chunk
row_tells : (h : HeapRow) (gs : List Granule) (base top quota : ℕ) → Laid h gs → owner_of h base ≡ Some quota → (o : Owned h gs base quota) → spans base top (object_at quota (base - 8) o.stands.chunk) ≡ true
    → FoundTells h gs base top (found (object_row o.stands.chunk.number (base - 8 + 8) (o.stands.chunk.size - 8) (charges quota (objects_of h gs))) quota)
row_tells h gs base top quota l e o yes_ =
    let c : Chunk = o.stands.chunk in
    let row : Object = object_at quota (base - 8) c in
    let fr = found_row h gs base top quota l o in
    let k = sits h.range gs (base - 8) l.settled.tiled o.stands in
    let low = o.low in
    let some = k.shape.some in
    let live : Bool = nat_eq c.state 1 in
    let starts : Bool = base - 8 + 8 == base in
    let ends : Bool = base - 8 + 8 + (c.size - 8) == top in
    let two : (live && starts) ≡ true = both_left (live && starts) ends yes_ in
    let is_live : nat_eq c.state 1 ≡ true = both_left live starts two in
    let is_end : (base - 8 + 8 + (c.size - 8) == top) ≡ true = both_right (live && starts) ends yes_ in
    let state : c.state ≡ 1 = elim (eq_tells c.state 1) [ inl x ↦ x.1 | inr x ↦ absurd (let clash : true ≡ false = sym is_live ∙ x.0 in cc) ] in
    let top_is : base - 8 + 8 + (c.size - 8) ≡ top = elim (eq_tells (base - 8 + 8 + (c.size - 8)) top) [ inl x ↦ x.1 | inr x ↦ absurd (let clash : true ≡ false = sym is_end ∙ x.0 in cc) ] in
    let back : base - 8 + 8 ≡ base = omega (arith, low) in
    let at : base - 8 + 8 - 8 ≡ base - 8 = omega arith in
    let size : c.size ≡ c.size - 8 + 8 = omega (arith, some) in
    let mine : spans_of quota base top row ≡ true = spans_both quota base top row ∙ rw yes_ (elim (eq_tells quota quota) [ inl x ↦ x.0 | inr x ↦ absurd (x.1 refl) ]) in
    let used : UsedStands h.range gs (base - 8) (c.size - 8 + 8) c.number = record { stands = o.stands; is = o.used; size_is = size; number_is = refl } in
    let at_base : Freeing h gs c.number base (c.size - 8) quota = record { stands = used; live = state; quota_is = o.quota_is; low = low } in
    record {
      row = row;
      freeing = subst (λ b. Freeing h gs c.number b (c.size - 8) quota) (sym back) at_base;
      of = fr.of quota ∙ ap (λ b. cond b (Some row) None) mine;
      others = λ q other. fr.of q ∙ (
          let not_mine : spans_of q base top row ≡ false = spans_both q base top row ∙ rw yes_ (elim (eq_tells quota q) [ inl x ↦ absurd (other x.1) | inr x ↦ x.0 ]) in
          ap (λ b. cond b (Some row) None) not_mine
          );
      number_is = refl;
      base_row = refl;
      length_is = refl;
      base_is = back;
      top_is = top_is;
    }

pub found_tells : (h : HeapRow) (gs : List Granule) (base top : ℕ) (f : Found) → Laid h gs → Some f ≡ found_as (objects_of h gs) (whole_at base top (objects_of h gs)) → FoundTells h gs base top f
found_tells h gs base top f l is = by_owner (owner_of h base) refl
  where
    by_owner : (w : Option ℕ) → owner_of h base ≡ w → FoundTells h gs base top f
    by_owner None e = absurd (let clash : Some f ≡ None = is ∙ find_none h gs base top l e in cc)
    by_owner (Some quota) e =
        let o = owned h gs base quota l e in
        let c : Chunk = o.stands.chunk in
        let row : Object = object_at quota (base - 8) c in
        let fr = found_row h gs base top quota l o in
        elim (bool_tells (spans base top row)) [
          | inr no_ ↦ absurd (let clash : Some f ≡ None = is ∙ ap (found_as (objects_of h gs)) (fr.is ∙ ap (λ b. cond b (Some row) None) no_) in cc)
          | inl yes_ ↦
              let made : Found = found (object_row c.number (base - 8 + 8) (c.size - 8) (charges quota (objects_of h gs))) quota in
              let all : Some f ≡ Some made = is ∙ ap (found_as (objects_of h gs)) (fr.is ∙ ap (λ b. cond b (Some row) None) yes_) in
              let same : made ≡ f = cc in
              subst (FoundTells h gs base top) same (row_tells h gs base top quota l e o yes_)
        ]

-- where nothing was found there is nothing of any quota
pub found_nothing : (h : HeapRow) (gs : List Granule) (base top quota : ℕ) → Laid h gs → None ≡ found_as (objects_of h gs) (whole_at base top (objects_of h gs)) → whole_of quota base top (objects_of h gs) ≡ None
found_nothing h gs base top quota l is = by_owner (owner_of h base) refl
  where
    by_owner : (w : Option ℕ) → owner_of h base ≡ w → whole_of quota base top (objects_of h gs) ≡ None
    by_owner None e = none_of quota base top (objects_of h gs) (unowned h gs base l e)
    by_owner (Some q) e =
        let o = owned h gs base q l e in
        let c : Chunk = o.stands.chunk in
        let row : Object = object_at q (base - 8) c in
        let fr = found_row h gs base top q l o in
        elim (bool_tells (spans base top row)) [
          | inl yes_ ↦ absurd (
              let made : Found = found (object_row c.number (base - 8 + 8) (c.size - 8) (charges q (objects_of h gs))) q in
              let clash : None ≡ Some made = is ∙ ap (found_as (objects_of h gs)) (fr.is ∙ ap (λ b. cond b (Some row) None) yes_) in cc)
          | inr no_ ↦ fr.of quota ∙ ap (λ b. cond b (Some row) None) (spans_both quota base top row ∙ ap (λ b. b && (q == quota)) no_)
        ]
