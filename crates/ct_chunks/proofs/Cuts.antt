-- A gap's chunk is cut, and the object's part taken.
use Rattle.std.proofs.Common.{ℕ, ◌≡◌, ◌+◌, ◌-◌, ◌*◌, ◌%◌, ◌^◌, ◌<◌, ◌≤◌, inl, inr, true, false, nat_eq, List, [], ◌∷◌, ◌++◌, length, refl, sym, ap, ◌∙◌, arith, subst}
use Rattle.std.proofs.lemmas.List.{append_assoc}
use Rattle.law_lists.proofs.Tests.{bool_tells, eq_tells}
use Rattle.def_memory.specs.declared.Granule.{Granule}
use Rattle.def_memory.specs.Granules.{plain}
use Rattle.def_memory.specs.Accesses.{stored_cap}
use Rattle.def_chunks.specs.declared.heads.TheConstants.{NO_CHUNK}
use Rattle.def_chunks.specs.declared.rows.Range.{Range}
use Rattle.def_chunks.specs.declared.rows.Gap.{Gap}
use Rattle.def_chunks.specs.Chunks.{Chunk, is_free, total_size, first_free, Starts, IsChunk, AreChunks, NoneTouch}
use Rattle.def_chunks.specs.Tiles.{chunks, Tiled, TilesSettled}
use Rattle.def_chunks.specs.Changes.{replaced, parts, taken, free_chunk, gap, with_link, InUse, KeepsRest, OnlyHeads}
use Rattle.def_chunks.specs.Gaps.{ChunkStands, FreeStands, FreeLinked, carved}
use Rattle.law_chunks.proofs.Lays.{total_both, are_split, are_join}
use Rattle.law_chunks.proofs.Reading.{sits, replaced_is}
use Rattle.law_chunks.proofs.Carves.{free_state, sat, not_none}
use Rattle.law_chunks.proofs.Joins.{gap_are, gap_total, carved_apart}
use Rattle.law_chunks.proofs.Spares.{in_use_split, in_use_first, in_use_second, free_unused, keeps_same, keeps_then, keeps_store, loose, spared_more, starts_split, starts_first, starts_second, starts_there, heads_same, heads_then, heads_store}
use Rattle.ct_chunks.specs.Cuts.{CutBack, CutFront, Fitting}
use Rattle.ct_chunks.specs.Writes.{Linkable}
use Rattle.ct_chunks.proofs.Walks.{last_free}

-- ---- what a free chunk is

pub free_is : (c : Chunk) (n : ℕ) → IsChunk c → is_free c ≡ true → c.size ≡ n → c ≡ free_chunk n
free_is c n shape free_ size =
    let made : ℕ → ℕ → ℕ → Chunk = λ s t m. record { size = s; state = t; number = m } in
    ap (λ s. made s c.state c.number) size ∙ ap (λ t. made n t c.number) (free_state c free_) ∙ ap (λ m. made n 0 m) (shape.blank free_)

free_sized : (c : Chunk) (n m : ℕ) → IsChunk c → is_free c ≡ true → m ≡ n → record c { size = m } ≡ free_chunk n
free_sized c n m shape free_ size =
    let made : ℕ → ℕ → ℕ → Chunk = λ s t k. record { size = s; state = t; number = k } in
    ap (λ s. made s c.state c.number) size ∙ ap (λ t. made n t c.number) (free_state c free_) ∙ ap (λ k. made n 0 k) (shape.blank free_)

pub gap_none : gap 0 ≡ []
gap_none = refl

pub gap_some : (n : ℕ) → (n ≡ 0 → ⊥) → gap n ≡ free_chunk n ∷ []
gap_some n other = elim (eq_tells n 0) [ inl e ↦ absurd (other e.1) | inr e ↦ rw e.0 refl ]

-- ---- splitting and taking leave other chunks alone

-- what a plain word does that is written inside a free chunk
pub free_keeps : (r : Range) (gs ms hs : List Granule) (at size next p word : ℕ) → Tiled r gs → FreeStands r gs at size next → at ≤ p → p < at + size → (p - at) % 8 ≡ 0
    → hs ≡ stored_cap ms (p - r.ram) (plain word) → KeepsRest r (chunks r gs) ms hs
free_keeps r gs ms hs at size next p word h f from to eight is =
    let s = f.stands in
    let k = sits r gs at h s in
    let low = k.low in
    let over = k.over in
    let even = k.even in
    let high = k.fits in
    let size_is = f.size_is in
    let place = s.place in
    let unused : InUse p r.base (chunks r gs) → ⊥ = λ used. free_unused p r.base s.above s.chunk s.below f.is (omega (arith, place, from)) (omega (arith, place, to, size_is)) (subst (InUse p r.base) s.whole used) in
    keeps_store r (chunks r gs) ms hs p (plain word) refl (omega (arith, over, from)) (omega (arith, even, over, from, eight))
    (loose r (chunks r gs) p (omega (arith, low, from)) (omega (arith, high, to, size_is)) unused) is

pub split_keeps : (r : Range) (gs ms hs : List Granule) (at size first next one two : ℕ) → Tiled r gs → FreeStands r gs at size next → first % 8 ≡ 0 → 8 ≤ first → first + 8 ≤ size
    → ms ≡ stored_cap gs (at + first - r.ram) (plain one) → hs ≡ stored_cap ms (at - r.ram) (plain two) → KeepsRest r (chunks r gs) gs hs
split_keeps r gs ms hs at size first next one two h f whole some fits is_one is_two =
    keeps_then r (chunks r gs) (chunks r gs) gs ms hs (λ p spared. spared)
    (free_keeps r gs gs ms at size next (at + first) one h f (omega arith) (omega (arith, fits)) (omega (arith, whole)) is_one)
    (free_keeps r gs ms hs at size next at two h f (omega arith) (omega (arith, fits, some)) (omega arith) is_two)

-- where the last free chunk is
record LastAt (r : Range) (cs : List Chunk) (before : ℕ) : Type 0 where
  pub unused : InUse (r.base + before) r.base cs → ⊥

last_at : (r : Range) (gs : List Granule) (at size next before bsize : ℕ) → Tiled r gs → FreeLinked r gs at size next before bsize → (before ≡ NO_CHUNK → ⊥) → LastAt r (chunks r gs) before
last_at r gs at size next before bsize h t some = elim t.last [
  | inl none ↦ absurd (some none.0)
  | inr l ↦
      let s = t.free_stands.stands in
      let k = sits r gs at h s in
      let ks = are_split l.above (l.chunk ∷ l.used) (subst AreChunks l.whole k.above_are) in
      let b_some = ks.1.0.some in
      let la = l.link in
      let whole : chunks r gs ≡ l.above ++ l.chunk ∷ (l.used ++ s.chunk ∷ s.below) = s.whole ∙ ap (λ (x : List Chunk). x ++ s.chunk ∷ s.below) l.whole ∙ append_assoc l.above (l.chunk ∷ l.used) (s.chunk ∷ s.below) in
      record { unused = λ used. free_unused (r.base + before) r.base l.above l.chunk (l.used ++ s.chunk ∷ s.below) l.is (omega (arith, la)) (omega (arith, la, b_some)) (subst (InUse (r.base + before) r.base) whole used) }
]

pub take_keeps : (r : Range) (gs ms hs : List Granule) (at size next before bsize two : ℕ) → Tiled r gs → FreeLinked r gs at size next before bsize
    → ms ≡ with_link gs r.ram r.base before bsize next → hs ≡ stored_cap ms (at - r.ram) (plain two) → KeepsRest r (chunks r gs) gs hs
take_keeps r gs ms hs at size next before bsize two h t is_one is_two =
    let f = t.free_stands in
    let k = sits r gs at h f.stands in
    let high = k.fits in
    let some = k.shape.some in
    let size_is = f.size_is in
    let ram_low = h.above in
    let first : KeepsRest r (chunks r gs) gs ms = elim (eq_tells before NO_CHUNK) [
      | inl e ↦ keeps_same r (chunks r gs) gs ms (is_one ∙ rw e.0 refl)
      | inr e ↦
          let b = sat r gs at size next before bsize h t e.1 in
          let fits = b.fits in
          keeps_store r (chunks r gs) gs ms (r.base + before) (plain (bsize + next * 2 ^ 32)) refl (omega (arith, ram_low)) b.even
          (loose r (chunks r gs) (r.base + before) (omega arith) (omega (arith, fits, high, some)) (last_at r gs at size next before bsize h t e.1).unused)
          (is_one ∙ rw e.0 refl)
    ] in
    keeps_then r (chunks r gs) (chunks r gs) gs ms hs (λ p spared. spared) first
    (free_keeps r gs ms hs at size next at two h f (omega arith) (omega (arith, some, size_is)) (omega arith) is_two)

-- ---- and write heads alone

pub become : (r : Range) (gs : List Granule) (at : ℕ) (s : ChunkStands r gs at) (f : Chunk → List Chunk) → Tiled r gs → replaced at f r.base (chunks r gs) ≡ s.above ++ (f s.chunk ++ s.below)
become r gs at s f h = let k = sits r gs at h s in ap (replaced at f r.base) s.whole ∙ replaced_is f at r.base s.above s.chunk s.below k.above_are s.place

pub split_heads : (r : Range) (gs ms hs : List Granule) (ds : List Chunk) (at size first next one two : ℕ) → Tiled r gs → FreeStands r gs at size next → first % 8 ≡ 0
    → ms ≡ stored_cap gs (at + first - r.ram) (plain one) → hs ≡ stored_cap ms (at - r.ram) (plain two) → ds ≡ replaced at (parts first) r.base (chunks r gs) → OnlyHeads r ds gs hs
split_heads r gs ms hs ds at size first next one two h f whole is_one is_two is =
    let s = f.stands in
    let k = sits r gs at h s in
    let over = k.over in
    let even = k.even in
    let place = s.place in
    let list : ds ≡ s.above ++ (parts first s.chunk ++ s.below) = is ∙ become r gs at s (parts first) h in
    let here : Starts at r.base ds = subst (Starts at r.base) (sym list) (starts_second at r.base s.above (parts first s.chunk ++ s.below) (inl place)) in
    let there : Starts (at + first) r.base ds = subst (Starts (at + first) r.base) (sym list) (starts_second (at + first) r.base s.above (parts first s.chunk ++ s.below) (inr (inl (omega (arith, place))))) in
    heads_then r ds ds gs ms hs (λ p s. s)
    (heads_store r ds gs ms (at + first) (plain one) (omega (arith, over)) (omega (arith, even, over, whole)) there is_one)
    (heads_store r ds ms hs at (plain two) over even here is_two)

pub take_heads : (r : Range) (gs ms hs : List Granule) (ds : List Chunk) (at size next before bsize number two : ℕ) → Tiled r gs → FreeLinked r gs at size next before bsize
    → ms ≡ with_link gs r.ram r.base before bsize next → hs ≡ stored_cap ms (at - r.ram) (plain two) → ds ≡ replaced at (taken number) r.base (chunks r gs) → OnlyHeads r ds gs hs
take_heads r gs ms hs ds at size next before bsize number two h t is_one is_two is =
    let s = t.free_stands.stands in
    let k = sits r gs at h s in
    let ram_low = h.above in
    let list : ds ≡ s.above ++ (taken number s.chunk ++ s.below) = is ∙ become r gs at s (taken number) h in
    let here : Starts at r.base ds = subst (Starts at r.base) (sym list) (starts_second at r.base s.above (taken number s.chunk ++ s.below) (inl s.place)) in
    let first : OnlyHeads r ds gs ms = elim (eq_tells before NO_CHUNK) [
      | inl e ↦ heads_same r ds gs ms (is_one ∙ rw e.0 refl)
      | inr e ↦ elim t.last [
        | inl none ↦ absurd (e.1 none.0)
        | inr l ↦
            let link = l.link in
            let above : Starts (r.base + before) r.base s.above = subst (Starts (r.base + before) r.base) (sym l.whole) (starts_there (r.base + before) r.base l.above l.chunk l.used (omega (arith, link))) in
            heads_store r ds gs ms (r.base + before) (plain (bsize + next * 2 ^ 32)) (omega (arith, ram_low)) (sat r gs at size next before bsize h t e.1).even
            (subst (Starts (r.base + before) r.base) (sym list) (starts_first (r.base + before) r.base s.above (taken number s.chunk ++ s.below) above))
            (is_one ∙ rw e.0 refl)
      ]
    ] in
    heads_then r ds ds gs ms hs (λ p s. s) first (heads_store r ds ms hs at (plain two) k.over k.even here is_two)

pub linkable : (r : Range) (gs : List Granule) (at size next before bsize : ℕ) → Tiled r gs → FreeLinked r gs at size next before bsize → Linkable r (length gs) before
linkable r gs at size next before bsize h t =
    let k = sits r gs at h t.free_stands.stands in
    let inside = k.inside in
    let high = k.fits in
    let small = h.small in
    let some = k.shape.some in
    record {
      above = h.above;
      even = λ e. (sat r gs at size next before bsize h t (not_none before e)).even;
      inside = λ e. (let fits = (sat r gs at size next before bsize h t (not_none before e)).fits in omega (arith, inside, fits));
      small = λ e. (let fits = (sat r gs at size next before bsize h t (not_none before e)).fits in omega (arith, fits, high, small, some));
    }

-- ---- the end is cut off

-- what the code has to know of a gap's chunk
pub record Sized (r : Range) (granules at size : ℕ) : Type 0 where
  pub low : r.base ≤ at
  pub over : r.ram ≤ at
  pub even : (at - r.ram) % 8 ≡ 0
  pub eight : at % 8 ≡ 0
  pub fits : at + size ≤ r.base + r.length
  pub small : r.base + r.length ≤ 2 ^ 32
  pub inside : at + size ≤ r.ram + 8 * granules
  pub whole : size % 8 ≡ 0
  pub some : 8 ≤ size

pub sized : (r : Range) (gs : List Granule) (at size next : ℕ) → Tiled r gs → FreeStands r gs at size next → Sized r (length gs) at size
sized r gs at size next h f =
    let k = sits r gs at h f.stands in
    let size_is = f.size_is in
    let fits = k.fits in
    let inside = k.inside in
    let whole = k.shape.whole in
    let some = k.shape.some in
    record { low = k.low; over = k.over; even = k.even; eight = k.eight; fits = omega (arith, fits, size_is); small = h.small; inside = omega (arith, inside, size_is); whole = omega (arith, whole, size_is); some = omega (arith, some, size_is) }

pub back_none : (r : Range) (gs hs : List Granule) (g : Gap) (back : ℕ) → Tiled r gs → FreeLinked r gs g.at g.size g.next g.before g.before_size → back ≡ 0 → hs ≡ gs → CutBack r gs hs g back g.next
back_none r gs hs g back h t zero_ same =
    let f = t.free_stands in
    let s = f.stands in
    let k = sits r gs g.at h s in
    let whole_size : g.size ≡ g.size - back = omega (arith, zero_) in
    let none : s.chunk.size ≡ s.chunk.size - back = omega (arith, zero_) in
    let part : free_chunk (s.chunk.size - back) ∷ gap back ≡ s.chunk ∷ [] = ap (λ n. free_chunk (s.chunk.size - back) ∷ gap n) zero_ ∙ ap (λ (c : Chunk). c ∷ []) (sym (free_is s.chunk (s.chunk.size - back) k.shape f.is none)) in
    let is : replaced g.at (λ c. free_chunk (c.size - back) ∷ gap back) r.base (chunks r gs) ≡ chunks r gs =
    ap (replaced g.at (λ c. free_chunk (c.size - back) ∷ gap back) r.base) s.whole ∙ replaced_is (λ c. free_chunk (c.size - back) ∷ gap back) g.at r.base s.above s.chunk s.below k.above_are s.place
    ∙ ap (λ (l : List Chunk). s.above ++ (l ++ s.below)) part ∙ sym s.whole in
    let made : CutBack r gs gs g back g.next = record {
      tiled = h;
      linked = subst (λ n. FreeLinked r gs g.at n g.next g.before g.before_size) whole_size t;
      chunks_are = sym is;
      keeps = keeps_same r (chunks r gs) gs gs refl;
      heads = heads_same r (chunks r gs) gs gs refl;
    } in
    subst (λ l. CutBack r gs l g back g.next) (sym same) made

pub back_some : (r : Range) (gs hs : List Granule) (g : Gap) (back next : ℕ) → Tiled r gs → FreeLinked r gs g.at g.size g.next g.before g.before_size → (back ≡ 0 → ⊥) → back + 8 ≤ g.size
    → Tiled r hs → chunks r hs ≡ replaced g.at (parts (g.size - back)) r.base (chunks r gs) → KeepsRest r (chunks r gs) gs hs → OnlyHeads r (chunks r hs) gs hs → next ≡ g.at + (g.size - back) - r.base → CutBack r gs hs g back next
back_some r gs hs g back next h t other fits tiled is keeps heads next_is =
    let f = t.free_stands in
    let s = f.stands in
    let k = sits r gs g.at h s in
    let size_is = f.size_is in
    let one : record s.chunk { size = g.size - back } ≡ free_chunk (s.chunk.size - back) = free_sized s.chunk (s.chunk.size - back) (g.size - back) k.shape f.is (omega (arith, size_is)) in
    let two : record s.chunk { size = s.chunk.size - (g.size - back) } ≡ free_chunk back = free_sized s.chunk back (s.chunk.size - (g.size - back)) k.shape f.is (omega (arith, size_is, fits)) in
    let part : parts (g.size - back) s.chunk ≡ free_chunk (s.chunk.size - back) ∷ gap back =
    ap (λ (c : Chunk). c ∷ record s.chunk { size = s.chunk.size - (g.size - back) } ∷ []) one ∙ ap (λ (c : Chunk). free_chunk (s.chunk.size - back) ∷ c ∷ []) two ∙ ap (λ (l : List Chunk). free_chunk (s.chunk.size - back) ∷ l) (sym (gap_some back other)) in
    let split_is : replaced g.at (parts (g.size - back)) r.base (chunks r gs) ≡ s.above ++ (parts (g.size - back) s.chunk ++ s.below) =
    ap (replaced g.at (parts (g.size - back)) r.base) s.whole ∙ replaced_is (parts (g.size - back)) g.at r.base s.above s.chunk s.below k.above_are s.place in
    let want : replaced g.at (λ c. free_chunk (c.size - back) ∷ gap back) r.base (chunks r gs) ≡ s.above ++ ((free_chunk (s.chunk.size - back) ∷ gap back) ++ s.below) =
    ap (replaced g.at (λ c. free_chunk (c.size - back) ∷ gap back) r.base) s.whole ∙ replaced_is (λ c. free_chunk (c.size - back) ∷ gap back) g.at r.base s.above s.chunk s.below k.above_are s.place in
    let now : chunks r hs ≡ s.above ++ free_chunk (s.chunk.size - back) ∷ (gap back ++ s.below) = is ∙ split_is ∙ ap (λ (l : List Chunk). s.above ++ (l ++ s.below)) part in
    let low = k.low in
    let begins : first_free r.base (g.at + (g.size - back)) (gap back ++ s.below) NO_CHUNK ≡ g.at + (g.size - back) - r.base = rw (gap_some back other) refl in
    record {
      tiled = tiled;
      linked = record {
        free_stands = record {
          stands = record { above = s.above; chunk = free_chunk (s.chunk.size - back); below = gap back ++ s.below; whole = now; place = s.place };
          is = refl;
          size_is = omega (arith, size_is);
          link = next_is ∙ sym begins;
        };
        last = t.last;
      };
      chunks_are = now ∙ sym want;
      keeps = keeps;
      heads = heads;
    }

-- ---- the begin is cut off

pub front_none : (r : Range) (gs hs : List Granule) (g : Gap) (size next front : ℕ) → Tiled r gs → FreeLinked r gs g.at size next g.before g.before_size → front ≡ 0 → hs ≡ gs → CutFront r gs hs g size next front g.before g.before_size
front_none r gs hs g size next front h t zero_ same =
    let f = t.free_stands in
    let s = f.stands in
    let k = sits r gs g.at h s in
    let at_same : g.at ≡ g.at + front = omega (arith, zero_) in
    let whole_size : size ≡ size - front = omega (arith, zero_) in
    let none : s.chunk.size ≡ s.chunk.size - front = omega (arith, zero_) in
    let part : gap front ++ free_chunk (s.chunk.size - front) ∷ [] ≡ s.chunk ∷ [] = ap (λ n. gap n ++ free_chunk (s.chunk.size - front) ∷ []) zero_ ∙ ap (λ (c : Chunk). c ∷ []) (sym (free_is s.chunk (s.chunk.size - front) k.shape f.is none)) in
    let is : replaced g.at (λ c. gap front ++ free_chunk (c.size - front) ∷ []) r.base (chunks r gs) ≡ chunks r gs =
    ap (replaced g.at (λ c. gap front ++ free_chunk (c.size - front) ∷ []) r.base) s.whole ∙ replaced_is (λ c. gap front ++ free_chunk (c.size - front) ∷ []) g.at r.base s.above s.chunk s.below k.above_are s.place
    ∙ ap (λ (l : List Chunk). s.above ++ (l ++ s.below)) part ∙ sym s.whole in
    let made : CutFront r gs gs g size next front g.before g.before_size = record {
      tiled = h;
      linked = subst (λ a. FreeLinked r gs a (size - front) next g.before g.before_size) at_same (subst (λ n. FreeLinked r gs g.at n next g.before g.before_size) whole_size t);
      chunks_are = sym is;
      keeps = keeps_same r (chunks r gs) gs gs refl;
      heads = heads_same r (chunks r gs) gs gs refl;
    } in
    subst (λ l. CutFront r gs l g size next front g.before g.before_size) (sym same) made

pub front_some : (r : Range) (gs hs : List Granule) (g : Gap) (size next front before bsize : ℕ) → Tiled r gs → FreeLinked r gs g.at size next g.before g.before_size → (front ≡ 0 → ⊥) → front + 8 ≤ size
    → Tiled r hs → chunks r hs ≡ replaced g.at (parts front) r.base (chunks r gs) → KeepsRest r (chunks r gs) gs hs → OnlyHeads r (chunks r hs) gs hs → before ≡ g.at - r.base → bsize ≡ front → CutFront r gs hs g size next front before bsize
front_some r gs hs g size next front before bsize h t other fits tiled is keeps heads before_is bsize_is =
    let f = t.free_stands in
    let s = f.stands in
    let k = sits r gs g.at h s in
    let size_is = f.size_is in
    let place = s.place in
    let one : record s.chunk { size = front } ≡ free_chunk front = free_sized s.chunk front front k.shape f.is refl in
    let two : record s.chunk { size = s.chunk.size - front } ≡ free_chunk (s.chunk.size - front) = free_sized s.chunk (s.chunk.size - front) (s.chunk.size - front) k.shape f.is refl in
    let part : parts front s.chunk ≡ gap front ++ free_chunk (s.chunk.size - front) ∷ [] =
    ap (λ (c : Chunk). c ∷ record s.chunk { size = s.chunk.size - front } ∷ []) one ∙ ap (λ (c : Chunk). free_chunk front ∷ c ∷ []) two ∙ ap (λ (l : List Chunk). l ++ free_chunk (s.chunk.size - front) ∷ []) (sym (gap_some front other)) in
    let split_is : replaced g.at (parts front) r.base (chunks r gs) ≡ s.above ++ (parts front s.chunk ++ s.below) =
    ap (replaced g.at (parts front) r.base) s.whole ∙ replaced_is (parts front) g.at r.base s.above s.chunk s.below k.above_are s.place in
    let want : replaced g.at (λ c. gap front ++ free_chunk (c.size - front) ∷ []) r.base (chunks r gs) ≡ s.above ++ ((gap front ++ free_chunk (s.chunk.size - front) ∷ []) ++ s.below) =
    ap (replaced g.at (λ c. gap front ++ free_chunk (c.size - front) ∷ []) r.base) s.whole ∙ replaced_is (λ c. gap front ++ free_chunk (c.size - front) ∷ []) g.at r.base s.above s.chunk s.below k.above_are s.place in
    let now : chunks r hs ≡ s.above ++ free_chunk front ∷ free_chunk (s.chunk.size - front) ∷ s.below = is ∙ split_is ∙ ap (λ (c : Chunk). s.above ++ c ∷ record s.chunk { size = s.chunk.size - front } ∷ s.below) one ∙ ap (λ (c : Chunk). s.above ++ free_chunk front ∷ c ∷ s.below) two in
    let apart : chunks r hs ≡ (s.above ++ free_chunk front ∷ []) ++ free_chunk (s.chunk.size - front) ∷ s.below = now ∙ sym (append_assoc s.above (free_chunk front ∷ []) (free_chunk (s.chunk.size - front) ∷ s.below)) in
    let more : total_size (s.above ++ free_chunk front ∷ []) ≡ total_size s.above + front = total_both s.above (free_chunk front ∷ []) ∙ omega arith in
    record {
      tiled = tiled;
      linked = record {
        free_stands = record {
          stands = record { above = s.above ++ free_chunk front ∷ []; chunk = free_chunk (s.chunk.size - front); below = s.below; whole = apart; place = omega (arith, place, more) };
          is = refl;
          size_is = omega (arith, size_is);
          link = f.link ∙ ap (λ n. first_free r.base n s.below NO_CHUNK) (omega (arith, fits));
        };
        last = last_free s.above (free_chunk front) before bsize refl (omega (arith, before_is, place)) bsize_is;
      };
      chunks_are = is ∙ split_is ∙ ap (λ (l : List Chunk). s.above ++ (l ++ s.below)) part ∙ sym want;
      keeps = keeps;
      heads = heads;
    }

-- ---- all together

-- the numbers of a gap
pub record Carving (r : Range) (g : Gap) (length : ℕ) : Type 0 where
  pub front : (g.base - 8 - g.at) % 8 ≡ 0
  pub back : (g.size - (g.base - 8 - g.at) - (length + 8)) % 8 ≡ 0
  pub back_fits : g.size - (g.base - 8 - g.at) - (length + 8) + 8 ≤ g.size
  pub front_fits : g.base - 8 - g.at + 8 ≤ g.size - (g.size - (g.base - 8 - g.at) - (length + 8))
  pub used : length + 8 ≡ g.size - (g.size - (g.base - 8 - g.at) - (length + 8)) - (g.base - 8 - g.at)
  pub below : 8 ≤ g.base
  pub room : g.base - 8 - g.at + (length + 8) ≤ g.size
  pub ends : g.at + g.size ≤ 2 ^ 32

pub carving : (r : Range) (gs : List Granule) (g : Gap) (length : ℕ) → Tiled r gs → FreeLinked r gs g.at g.size g.next g.before g.before_size → Fitting g length → Carving r g length
carving r gs g length h t f =
    let k = sized r gs g.at g.size g.next h t.free_stands in
    let eight = f.eight in
    let whole = f.whole in
    let some = f.some in
    let low = f.low in
    let high = f.high in
    let at_eight = k.eight in
    let size_whole = k.whole in
    let fits = k.fits in
    let small = k.small in
    record {
      front = omega (arith, eight, at_eight, low);
      back = omega (arith, eight, at_eight, low, whole, size_whole, high);
      back_fits = omega (arith, low, high, some);
      front_fits = omega (arith, low, high);
      used = omega (arith, low, high);
      below = omega (arith, low);
      room = omega (arith, low, high);
      ends = omega (arith, fits, small);
    }

pub carve_done : (r q : Range) (gs ms ns hs : List Granule) (g : Gap) (length number next before bsize : ℕ) → TilesSettled r gs → FreeLinked r gs g.at g.size g.next g.before g.before_size → Fitting g length
    → CutBack r gs ms g (g.size - (g.base - 8 - g.at) - (length + 8)) next
    → CutFront r ms ns g (g.size - (g.size - (g.base - 8 - g.at) - (length + 8))) next (g.base - 8 - g.at) before bsize
    → chunks q hs ≡ replaced (g.at + (g.base - 8 - g.at)) (taken number) r.base (chunks r ns)
    → chunks q hs ≡ replaced g.at (carved (g.base - 8 - g.at) length number) r.base (chunks r gs)
carve_done r q gs ms ns hs g length number next before bsize h t fit back front took =
    let f : ℕ = g.base - 8 - g.at in
    let b : ℕ = g.size - f - (length + 8) in
    let n = carving r gs g length h.tiled t fit in
    let s = t.free_stands.stands in
    let size_is = t.free_stands.size_is in
    let k = sits r gs g.at h.tiled s in
    let place = s.place in
    let one : chunks r ms ≡ s.above ++ free_chunk (s.chunk.size - b) ∷ (gap b ++ s.below) =
    back.chunks_are ∙ ap (replaced g.at (λ c. free_chunk (c.size - b) ∷ gap b) r.base) s.whole ∙ replaced_is (λ c. free_chunk (c.size - b) ∷ gap b) g.at r.base s.above s.chunk s.below k.above_are place in
    let two : chunks r ns ≡ s.above ++ ((gap f ++ free_chunk (s.chunk.size - b - f) ∷ []) ++ (gap b ++ s.below)) =
    front.chunks_are ∙ ap (replaced g.at (λ c. gap f ++ free_chunk (c.size - f) ∷ []) r.base) one ∙ replaced_is (λ c. gap f ++ free_chunk (c.size - f) ∷ []) g.at r.base s.above (free_chunk (s.chunk.size - b)) (gap b ++ s.below) k.above_are place in
    let parted : chunks r ns ≡ (s.above ++ gap f) ++ free_chunk (s.chunk.size - b - f) ∷ (gap b ++ s.below) =
    two ∙ ap (λ (l : List Chunk). s.above ++ l) (append_assoc (gap f) (free_chunk (s.chunk.size - b - f) ∷ []) (gap b ++ s.below)) ∙ sym (append_assoc s.above (gap f) (free_chunk (s.chunk.size - b - f) ∷ (gap b ++ s.below))) in
    let front_even = n.front in
    let more : total_size (s.above ++ gap f) ≡ total_size s.above + f = total_both s.above (gap f) ∙ ap (λ m. total_size s.above + m) (gap_total f) in
    let three : chunks q hs ≡ (s.above ++ gap f) ++ (taken number (free_chunk (s.chunk.size - b - f)) ++ (gap b ++ s.below)) =
    took ∙ ap (replaced (g.at + f) (taken number) r.base) parted
    ∙ replaced_is (taken number) (g.at + f) r.base (s.above ++ gap f) (free_chunk (s.chunk.size - b - f)) (gap b ++ s.below) (are_join s.above (gap f) k.above_are (gap_are f front_even)) (omega (arith, place, more)) in
    let used = n.used in
    let mid : s.chunk.size - b - f ≡ length + 8 = omega (arith, used, size_is) in
    let behind : b ≡ s.chunk.size - f - (length + 8) = omega (arith, size_is) in
    let made : ℕ → ℕ → List Chunk = λ m e. gap f ++ record { size = m; state = 1; number = number } ∷ gap e in
    let want : replaced g.at (carved f length number) r.base (chunks r gs) ≡ s.above ++ (carved f length number s.chunk ++ s.below) =
    ap (replaced g.at (carved f length number) r.base) s.whole ∙ replaced_is (carved f length number) g.at r.base s.above s.chunk s.below k.above_are place in
    three
    ∙ append_assoc s.above (gap f) (record { size = s.chunk.size - b - f; state = 1; number = number } ∷ (gap b ++ s.below))
    ∙ ap (λ (l : List Chunk). s.above ++ l) (sym (append_assoc (gap f) (record { size = s.chunk.size - b - f; state = 1; number = number } ∷ gap b) s.below))
    ∙ ap (λ m. s.above ++ (made m b ++ s.below)) mid ∙ ap (λ e. s.above ++ (made (length + 8) e ++ s.below)) behind
    ∙ sym want

pub carve_apart : (r q : Range) (gs hs : List Granule) (g : Gap) (front length number : ℕ) → TilesSettled r gs → FreeStands r gs g.at g.size g.next → Tiled q hs → chunks q hs ≡ replaced g.at (carved front length number) r.base (chunks r gs) → TilesSettled q hs
carve_apart r q gs hs g front length number h t tiled is =
    let s = t.stands in
    let k = sits r gs g.at h.tiled s in
    let back : ℕ = s.chunk.size - front - (length + 8) in
    let d : Chunk = record { size = length + 8; state = 1; number = number } in
    let list : chunks q hs ≡ s.above ++ (gap front ++ d ∷ (gap back ++ s.below)) =
    is ∙ ap (replaced g.at (carved front length number) r.base) s.whole ∙ replaced_is (carved front length number) g.at r.base s.above s.chunk s.below k.above_are s.place
    ∙ ap (λ (l : List Chunk). s.above ++ l) (append_assoc (gap front) (d ∷ gap back) s.below) in
    record { tiled = tiled; apart = subst NoneTouch (sym list) (carved_apart s.above s.chunk d s.below front back t.is refl (subst NoneTouch s.whole h.apart)) }

-- a free chunk's place is no used chunk's, whatever becomes of it
use_stays : (r : Range) (gs : List Granule) (at : ℕ) (s : ChunkStands r gs at) (f : Chunk → List Chunk) (p : ℕ) → Tiled r gs → is_free s.chunk ≡ true → total_size (f s.chunk) ≡ s.chunk.size → InUse p r.base (chunks r gs) → InUse p r.base (replaced at f r.base (chunks r gs))
use_stays r gs at s f p h free_ size used =
    let k = sits r gs at h s in
    let is : replaced at f r.base (chunks r gs) ≡ s.above ++ (f s.chunk ++ s.below) = ap (replaced at f r.base) s.whole ∙ replaced_is f at r.base s.above s.chunk s.below k.above_are s.place in
    let now : InUse p r.base (s.above ++ (f s.chunk ++ s.below)) = elim (in_use_split p r.base s.above (s.chunk ∷ s.below) (subst (InUse p r.base) s.whole used)) [
      | inl a ↦ in_use_first p r.base s.above (f s.chunk ++ s.below) a
      | inr b ↦ elim b [
        | inl m ↦ absurd (let u = m.0 in let clash : true ≡ false = sym free_ ∙ u in cc)
        | inr m ↦ in_use_second p r.base s.above (f s.chunk ++ s.below) (in_use_second p (r.base + total_size s.above) (f s.chunk) s.below (rw size m))
      ]
    ] in
    subst (InUse p r.base) (sym is) now

pub carve_keeps : (r : Range) (gs ms ns hs : List Granule) (g : Gap) (length next before bsize : ℕ) → TilesSettled r gs → FreeLinked r gs g.at g.size g.next g.before g.before_size → Fitting g length
    → CutBack r gs ms g (g.size - (g.base - 8 - g.at) - (length + 8)) next
    → CutFront r ms ns g (g.size - (g.size - (g.base - 8 - g.at) - (length + 8))) next (g.base - 8 - g.at) before bsize
    → KeepsRest r (chunks r ns) ns hs → KeepsRest r (chunks r gs) gs hs
carve_keeps r gs ms ns hs g length next before bsize h t fit back front last =
    let f : ℕ = g.base - 8 - g.at in
    let b : ℕ = g.size - f - (length + 8) in
    let n = carving r gs g length h.tiled t fit in
    let s = t.free_stands.stands in
    let size_is = t.free_stands.size_is in
    let fits = n.back_fits in
    let b_size : total_size (free_chunk (s.chunk.size - b) ∷ gap b) ≡ s.chunk.size = (let one = gap_total b in omega (arith, one, fits, size_is)) in
    let more_one : (p : ℕ) → InUse p r.base (chunks r gs) → InUse p r.base (chunks r ms) = λ p used. subst (InUse p r.base) (sym back.chunks_are) (use_stays r gs g.at s (λ c. free_chunk (c.size - b) ∷ gap b) p h.tiled t.free_stands.is b_size used) in
    let m = back.linked.free_stands in
    let m_size = m.size_is in
    let f_fits = n.front_fits in
    let f_size : total_size (gap f ++ free_chunk (m.stands.chunk.size - f) ∷ []) ≡ m.stands.chunk.size = total_both (gap f) (free_chunk (m.stands.chunk.size - f) ∷ []) ∙ (let one = gap_total f in omega (arith, one, f_fits, m_size)) in
    let more_two : (p : ℕ) → InUse p r.base (chunks r ms) → InUse p r.base (chunks r ns) = λ p used. subst (InUse p r.base) (sym front.chunks_are) (use_stays r ms g.at m.stands (λ c. gap f ++ free_chunk (c.size - f) ∷ []) p back.tiled m.is f_size used) in
    keeps_then r (chunks r gs) (chunks r ms) gs ms hs (spared_more r (chunks r gs) (chunks r ms) more_one) back.keeps
    (keeps_then r (chunks r ms) (chunks r ns) ms ns hs (spared_more r (chunks r ms) (chunks r ns) more_two) front.keeps last)

-- a head is one still, whatever becomes of a chunk
heads_stay : (r : Range) (gs : List Granule) (at : ℕ) (s : ChunkStands r gs at) (f : Chunk → List Chunk) (p : ℕ) → Tiled r gs → total_size (f s.chunk) ≡ s.chunk.size → ((q : ℕ) → Starts q q (f s.chunk)) → Starts p r.base (chunks r gs) → Starts p r.base (replaced at f r.base (chunks r gs))
heads_stay r gs at s f p h size begins head =
    let now : Starts p r.base (s.above ++ (f s.chunk ++ s.below)) = elim (starts_split p r.base s.above (s.chunk ∷ s.below) (subst (Starts p r.base) s.whole head)) [
      | inl a ↦ starts_first p r.base s.above (f s.chunk ++ s.below) a
      | inr b ↦ starts_second p r.base s.above (f s.chunk ++ s.below) (elim b [
        | inl m ↦ starts_first p (r.base + total_size s.above) (f s.chunk) s.below (subst (λ x. Starts x (r.base + total_size s.above) (f s.chunk)) (sym m) (begins (r.base + total_size s.above)))
        | inr m ↦ starts_second p (r.base + total_size s.above) (f s.chunk) s.below (rw size m)
      ])
    ] in
    subst (Starts p r.base) (sym (become r gs at s f h)) now

front_begins : (n m q : ℕ) → Starts q q (gap n ++ free_chunk m ∷ [])
front_begins n m q = elim (bool_tells (nat_eq n 0)) [ inl e ↦ rw e (inl refl) | inr e ↦ rw e (inl refl) ]

pub carve_heads : (r q : Range) (gs ms ns hs : List Granule) (g : Gap) (length number next before bsize : ℕ) → TilesSettled r gs → FreeLinked r gs g.at g.size g.next g.before g.before_size → Fitting g length
    → CutBack r gs ms g (g.size - (g.base - 8 - g.at) - (length + 8)) next
    → CutFront r ms ns g (g.size - (g.size - (g.base - 8 - g.at) - (length + 8))) next (g.base - 8 - g.at) before bsize
    → chunks q hs ≡ replaced (g.at + (g.base - 8 - g.at)) (taken number) r.base (chunks r ns)
    → OnlyHeads r (chunks q hs) ns hs → OnlyHeads r (chunks q hs) gs hs
carve_heads r q gs ms ns hs g length number next before bsize h t fit back front took last =
    let f : ℕ = g.base - 8 - g.at in
    let n = carving r gs g length h.tiled t fit in
    let m = back.linked.free_stands in
    let m_size = m.size_is in
    let f_fits = n.front_fits in
    let f_size : total_size (gap f ++ free_chunk (m.stands.chunk.size - f) ∷ []) ≡ m.stands.chunk.size = total_both (gap f) (free_chunk (m.stands.chunk.size - f) ∷ []) ∙ (let one = gap_total f in omega (arith, one, f_fits, m_size)) in
    let l = front.linked.free_stands.stands in
    let more_one : (p : ℕ) → Starts p r.base (chunks r ms) → Starts p r.base (chunks r ns) = λ p head. subst (Starts p r.base) (sym front.chunks_are) (heads_stay r ms g.at m.stands (λ c. gap f ++ free_chunk (c.size - f) ∷ []) p back.tiled f_size (front_begins f (m.stands.chunk.size - f)) head) in
    let more_two : (p : ℕ) → Starts p r.base (chunks r ns) → Starts p r.base (chunks q hs) = λ p head. subst (Starts p r.base) (sym took) (heads_stay r ns (g.at + f) l (taken number) p front.tiled (omega arith) (λ x. inl refl) head) in
    heads_then r (chunks r ns) (chunks q hs) gs ns hs more_two (heads_then r (chunks r ms) (chunks r ns) gs ms ns more_one back.heads front.heads) last
