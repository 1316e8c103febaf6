-- Joining, chunk by chunk.
use Rattle.std.proofs.Common.{ℕ, ◌≡◌, ◌+◌, ◌-◌, ◌*◌, ◌/◌, ◌%◌, ◌^◌, ◌<◌, ◌≤◌, ◌⊎◌, inl, inr, ◌&&◌, ◌||◌, Bool, true, false, cond, nat_eq, List, [], ◌∷◌, ◌++◌, length, refl, sym, ap, ◌∙◌, arith, subst}
use Rattle.std.proofs.lemmas.List.{append_assoc, append-nil}
use Rattle.law_lists.proofs.Tests.{bool_tells, eq_tells}
use Rattle.def_words.specs.declared.Cap.{Cap}
use Rattle.def_memory.specs.declared.Granule.{Granule}
use Rattle.def_memory.specs.Granules.{plain}
use Rattle.def_memory.specs.Accesses.{stored_cap}
use Rattle.def_chunks.specs.declared.heads.TheConstants.{NO_CHUNK}
use Rattle.def_chunks.specs.declared.rows.Range.{Range}
use Rattle.def_chunks.specs.declared.rows.Head.{Head}
use Rattle.def_chunks.specs.Chunks.{Chunk, total_size, first_free, head_of, head_at, head_in, Lays, Starts, IsChunk, AreChunks, NoneTouch}
use Rattle.def_chunks.specs.Tiles.{chunks, TiledBy, Tiled, TilesSettled}
use Rattle.def_chunks.specs.Changes.{free_chunk, leaves, gap, joined, released, with_link, KeepsRest, OnlyHeads}
use Rattle.def_chunks.specs.Gaps.{NoFree, LastFree}
use Rattle.law_chunks.proofs.Lays.{lays_same, lays_both, lays_join, free_both, none_first, unlinked, relinked, total_both, first_stays, are_split, are_join, total_even, starts_low, starts_high, starts_even}
use Rattle.law_chunks.proofs.Reading.{chunks_are, head_tells}
use Rattle.law_chunks.proofs.Carves.{head_other, head_same, store_length, free_state, not_none}
use Rattle.law_chunks.proofs.Joins.{gap_total, joined_apart, stays_used}
use Rattle.law_chunks.proofs.Spares.{starts_second, starts_first, starts_split, starts_there, keeps_same, keeps_then, keeps_store, head_loose, heads_same, heads_then, heads_store}
use Rattle.ct_chunks.specs.declared.joining.Last.{Last}
use Rattle.ct_chunks.specs.Joins.{goes, touches, absorbed, last_after, first_after, Absorbs, Visits}
use Rattle.ct_chunks.proofs.Walks.{last_used, last_free}
use Rattle.ct_chunks.proofs.Cuts.{gap_some}

-- ---- what joining has come to

-- `done` are the chunks that were joined, of which the last is free and may still grow by `pending` bytes of its own;
-- together they are `xs`, which lie in memory as if no chunk came after them, and the rest lies as it did
pub record Joining (r : Range) (gs : List Granule) (q : Range) (hs : List Granule) (last : Last) (left : ℕ) : Type 0 where
  pub above : List Chunk
  pub rest : List Chunk
  pub whole : chunks r gs ≡ above ++ rest
  pub left_is : left ≡ total_size rest
  pub front : List Chunk
  pub pending : ℕ
  pub xs : List Chunk
  pub xs_is : xs ≡ front ++ gap pending
  pub target : front ++ joined pending rest ≡ released (chunks r gs)
  pub size : total_size xs ≡ total_size above
  pub are : AreChunks xs
  pub lays : Lays hs r.ram r.base r.base xs NO_CHUNK
  pub rest_lays : Lays hs r.ram r.base (r.base + total_size xs) rest NO_CHUNK
  pub first : q.first ≡ first_free r.base r.base xs NO_CHUNK
  pub range : q ≡ record r { first = q.first }
  pub last_free : LastFree xs last.offset last.size
  pub touch : ((pending ≡ 0) × ((last.offset ≡ NO_CHUNK) ⊎ (last.offset + last.size < total_size xs))) ⊎ ((last.offset ≡ total_size front) × (last.size ≡ pending) × (8 ≤ pending))
  pub start : (last.offset ≡ NO_CHUNK → ⊥) → Starts (r.base + last.offset) r.base (chunks r gs)
  pub keeps : KeepsRest r (chunks r gs) gs hs
  pub heads : OnlyHeads r (released (chunks r gs)) gs hs

pub joining_starts : (r : Range) (gs : List Granule) (q : Range) (last : Last) → Tiled r gs → q ≡ record r { first = NO_CHUNK } → last ≡ record { offset = NO_CHUNK; size = 0 } → Joining r gs q gs last r.length
joining_starts r gs q last h is last_is = record {
  above = [];
  rest = chunks r gs;
  whole = refl;
  left_is = sym h.size;
  front = [];
  pending = 0;
  xs = [];
  xs_is = refl;
  target = refl;
  size = refl;
  are = tt;
  lays = tt;
  rest_lays = let same : r.base + 0 ≡ r.base = omega arith in rw same h.lays;
  first = rw is refl;
  range = rw is refl;
  last_free = inl (ap (λ (x : Last). x.offset) last_is, tt);
  touch = inl (refl, inl (ap (λ (x : Last). x.offset) last_is));
  start = λ some. absurd (some (ap (λ (x : Last). x.offset) last_is));
  keeps = keeps_same r (chunks r gs) gs gs refl;
  heads = heads_same r (released (chunks r gs)) gs gs refl;
}

-- ---- heads that are left

joined_begins : (n at : ℕ) (cs : List Chunk) → (n ≡ 0 → ⊥) → Starts at at (joined n cs)
joined_begins n at [] some = subst (Starts at at) (sym (gap_some n some)) (inl refl)
joined_begins n at (c ∷ cs) some = elim (bool_tells (leaves c)) [
  | inl e ↦ rw e (joined_begins (n + c.size) at cs (λ none. some (omega (arith, none))))
  | inr e ↦ rw e (starts_first at at (gap n) (c ∷ joined 0 cs) (subst (Starts at at) (sym (gap_some n some)) (inl refl)))
]

gap_begins : (p n at : ℕ) (cs : List Chunk) → Starts p at (gap n) → Starts p at (joined n cs)
gap_begins p n at cs head = elim (eq_tells n 0) [
  | inl e ↦ absurd (let none : Starts p at [] = rw e.0 at head in none)
  | inr e ↦ (let one : Starts p at (free_chunk n ∷ []) = subst (Starts p at) (gap_some n e.1) head in elim one [
    | inl is ↦ subst (λ x. Starts x at (joined n cs)) (sym is) (joined_begins n at cs e.1)
    | inr none ↦ absurd none
  ])
]

-- those of the chunks that were joined
xs_left : (r : Range) (gs : List Granule) (q : Range) (hs : List Granule) (last : Last) (left p : ℕ) → (w : Joining r gs q hs last left) → Starts p r.base w.xs → Starts p r.base (released (chunks r gs))
xs_left r gs q hs last left p w head = subst (Starts p r.base) w.target (elim (starts_split p r.base w.front (gap w.pending) (subst (Starts p r.base) w.xs_is head)) [
  | inl a ↦ starts_first p r.base w.front (joined w.pending w.rest) a
  | inr b ↦ starts_second p r.base w.front (joined w.pending w.rest) (gap_begins p w.pending (r.base + total_size w.front) w.rest b)
])

-- ---- where the next chunk stands

pub record Next (r : Range) (gs : List Granule) (q : Range) (hs : List Granule) (last : Last) (left : ℕ) (w : Joining r gs q hs last left) : Type 0 where
  pub chunk : Chunk
  pub others : List Chunk
  pub rest_is : w.rest ≡ chunk ∷ others
  pub shape : IsChunk chunk
  pub others_are : AreChunks others
  pub place : r.base + total_size w.xs ≡ r.base + (r.length - left)
  pub sum : total_size w.xs + (chunk.size + total_size others) ≡ r.length
  pub sum_left : left ≡ chunk.size + total_size others
  pub lays : Lays hs r.ram r.base (r.base + total_size w.xs) (chunk ∷ others) NO_CHUNK
  pub starts : Starts (r.base + total_size w.xs) r.base (chunks r gs)

pub next : (r : Range) (gs : List Granule) (q : Range) (hs : List Granule) (last : Last) (left : ℕ) → Tiled r gs → (w : Joining r gs q hs last left) → (left ≡ 0 → ⊥) → Next r gs q hs last left w
next r gs q hs last left h w some = first w.rest refl
  where
    first : (rest : List Chunk) → w.rest ≡ rest → Next r gs q hs last left w
    first [] is = absurd (some (w.left_is ∙ ap total_size is))
    first (c ∷ cs) is =
        let whole : chunks r gs ≡ w.above ++ c ∷ cs = w.whole ∙ ap (λ (l : List Chunk). w.above ++ l) is in
        let kinds = are_split w.above (c ∷ cs) (subst AreChunks whole h.are) in
        let both = total_both w.above (c ∷ cs) in
        let sum = sym (ap total_size whole) ∙ h.size in
        let size = w.size in
        let left_is : left ≡ c.size + total_size cs = w.left_is ∙ ap total_size is in
        record {
          chunk = c;
          others = cs;
          rest_is = is;
          shape = kinds.1.0;
          others_are = kinds.1.1;
          place = omega (arith, both, sum, size, left_is);
          sum = omega (arith, both, sum, size);
          sum_left = left_is;
          lays = subst (λ (l : List Chunk). Lays hs r.ram r.base (r.base + total_size w.xs) l NO_CHUNK) is w.rest_lays;
          starts = subst (Starts (r.base + total_size w.xs) r.base) (sym whole) (rw size (starts_second (r.base + total_size w.above) r.base w.above (c ∷ cs) (inl refl)));
        }

-- where the last free one is
record Behind (r : Range) (xs : List Chunk) (last : Last) : Type 0 where
  pub even : (r.base + last.offset - r.ram) % 8 ≡ 0
  pub some : 8 ≤ last.size
  pub fits : last.offset + last.size ≤ total_size xs

behind : (r : Range) (gs : List Granule) (xs : List Chunk) (last : Last) → Tiled r gs → AreChunks xs → LastFree xs last.offset last.size → (last.offset ≡ NO_CHUNK → ⊥) → Behind r xs last
behind r gs xs last h are l some = elim l [
  | inl n ↦ absurd (some n.0)
  | inr f ↦
      let ks = are_split f.above (f.chunk ∷ f.used) (subst AreChunks f.whole are) in
      let wide = ks.1.0.some in
      let even = total_even f.above ks.0 in
      let e0 = h.even.0 in
      let e1 = h.even.1 in
      let above = h.above in
      let link = f.link in
      let size = f.size_is in
      let lw = ap total_size f.whole ∙ total_both f.above (f.chunk ∷ f.used) in
      record { even = omega (arith, link, even, e0, e1, above); some = omega (arith, size, wide); fits = omega (arith, link, size, lw) }
]

-- what the code has to know
pub record Reach (r : Range) (granules left : ℕ) (last : Last) (size : ℕ) : Type 0 where
  pub most : left ≤ r.length
  pub at_small : r.base + (r.length - left) < 2 ^ 32
  pub absorbs : Absorbs r granules last (r.base + (r.length - left)) size
  pub size_most : size ≤ left
  pub size_some : 8 ≤ size

pub reach : (r : Range) (gs : List Granule) (q : Range) (hs : List Granule) (last : Last) (left : ℕ) → Tiled r gs → (w : Joining r gs q hs last left) → (left ≡ 0 → ⊥) → Reach q (length hs) left last (head_in (head_at hs q.ram (q.base + (q.length - left)))).size
reach r gs q hs last left h w some =
    let n = next r gs q hs last left h w some in
    let c : Chunk = n.chunk in
    let place = n.place in
    let sum = n.sum in
    let wide = n.shape.some in
    let c_whole = n.shape.whole in
    let short = h.short in
    let small = h.small in
    let above = h.above in
    let e0 = h.even.0 in
    let e1 = h.even.1 in
    let e2 = h.even.2 in
    let xs_even = total_even w.xs w.are in
    let inside = h.inside in
    let sizes = w.keeps.size in
    let left_is = n.sum_left in
    let told = head_tells c (first_free r.base (r.base + total_size w.xs + c.size) n.others NO_CHUNK) n.shape (omega (arith, sum, short, e2)) in
    let head : head_at hs r.ram (r.base + (r.length - left)) ≡ head_of c (first_free r.base (r.base + total_size w.xs + c.size) n.others NO_CHUNK) = rw (← place) n.lays.0 in
    let size_r : (head_in (head_at hs r.ram (r.base + (r.length - left)))).size ≡ c.size = ap (λ (x : Cap). (head_in x).size) head ∙ told.size in
    let made : Reach r (length hs) left last (head_in (head_at hs r.ram (r.base + (r.length - left)))).size = record {
      most = omega (arith, left_is, sum);
      at_small = omega (arith, place, sum, wide, small);
      absorbs = record {
        above = above;
        low = omega arith;
        even = omega (arith, place, e0, e1, above, xs_even);
        some = omega (arith, size_r, wide);
        fits = omega (arith, size_r, place, sum);
        short = short;
        small = small;
        inside = omega (arith, inside, sizes);
        last_even = λ e. (behind r gs w.xs last h w.are w.last_free (not_none last.offset e)).even;
        last_some = λ e. (behind r gs w.xs last h w.are w.last_free (not_none last.offset e)).some;
        last_fits = λ e. (let fits = (behind r gs w.xs last h w.are w.last_free (not_none last.offset e)).fits in omega (arith, fits, place));
      };
      size_most = omega (arith, size_r, left_is);
      size_some = omega (arith, size_r, wide);
    } in
    reach_of r q w.range (length hs) left last hs made
  where
    reach_of : (r q : Range) → q ≡ record r { first = q.first } → (granules left : ℕ) (last : Last) (hs : List Granule) → Reach r granules left last (head_in (head_at hs r.ram (r.base + (r.length - left)))).size → Reach q granules left last (head_in (head_at hs q.ram (q.base + (q.length - left)))).size
    reach_of r q is granules left last hs m =
        let k : Reach (record r { first = q.first }) granules left last (head_in (head_at hs r.ram (r.base + (r.length - left)))).size = record {
          most = m.most;
          at_small = m.at_small;
          absorbs = record { above = m.absorbs.above; low = m.absorbs.low; even = m.absorbs.even; some = m.absorbs.some; fits = m.absorbs.fits; short = m.absorbs.short; small = m.absorbs.small; inside = m.absorbs.inside; last_even = m.absorbs.last_even; last_some = m.absorbs.last_some; last_fits = m.absorbs.last_fits };
          size_most = m.size_most;
          size_some = m.size_some;
        } in
        subst (λ (x : Range). Reach x granules left last (head_in (head_at hs x.ram (x.base + (x.length - left)))).size) (sym is) k

-- ---- one step

-- a chunk that stays
stays : (r : Range) (gs : List Granule) (q : Range) (hs : List Granule) (last : Last) (left : ℕ) → Tiled r gs → (w : Joining r gs q hs last left) → (n : Next r gs q hs last left w) → leaves n.chunk ≡ false → Joining r gs q hs last (left - n.chunk.size)
stays r gs q hs last left h w n staying =
    let c : Chunk = n.chunk in
    let used = stays_used c staying in
    let left_is = n.sum_left in
    let more : total_size (w.xs ++ c ∷ []) ≡ total_size w.xs + c.size = total_both w.xs (c ∷ []) ∙ omega arith in
    let above_more : total_size (w.above ++ c ∷ []) ≡ total_size w.above + c.size = total_both w.above (c ∷ []) ∙ omega arith in
    let size = w.size in
    let there : r.base + total_size w.xs + c.size ≡ r.base + total_size (w.xs ++ c ∷ []) = omega (arith, more) in
    let alone : first_free r.base (r.base + total_size w.xs) (c ∷ []) NO_CHUNK ≡ NO_CHUNK = rw used refl in
    let one : Lays hs r.ram r.base (r.base + total_size w.xs) (c ∷ []) NO_CHUNK = unlinked hs r.ram r.base (r.base + total_size w.xs) (c ∷ []) (first_free r.base (r.base + total_size w.xs + c.size) n.others NO_CHUNK) NO_CHUNK (used, tt) (n.lays.0, tt) in
    let wide = n.shape.used used in
    let old_target : w.front ++ joined w.pending (c ∷ n.others) ≡ released (chunks r gs) = ap (λ (l : List Chunk). w.front ++ joined w.pending l) (sym n.rest_is) ∙ w.target in
    let open_ : joined w.pending (c ∷ n.others) ≡ gap w.pending ++ c ∷ joined 0 n.others = rw staying refl in
    record {
      above = w.above ++ c ∷ [];
      rest = n.others;
      whole = w.whole ∙ ap (λ (l : List Chunk). w.above ++ l) n.rest_is ∙ sym (append_assoc w.above (c ∷ []) n.others);
      left_is = omega (arith, left_is);
      front = w.xs ++ c ∷ [];
      pending = 0;
      xs = w.xs ++ c ∷ [];
      xs_is = sym (append-nil (w.xs ++ c ∷ []));
      target = append_assoc w.xs (c ∷ []) (joined 0 n.others) ∙ ap (λ (l : List Chunk). l ++ c ∷ joined 0 n.others) w.xs_is ∙ append_assoc w.front (gap w.pending) (c ∷ joined 0 n.others) ∙ ap (λ (l : List Chunk). w.front ++ l) (sym open_) ∙ old_target;
      size = omega (arith, more, above_more, size);
      are = are_join w.xs (c ∷ []) w.are (n.shape, tt);
      lays = lays_join hs r.ram r.base r.base w.xs (c ∷ []) NO_CHUNK (rw alone w.lays) one;
      rest_lays = rw (← there) n.lays.1;
      first = w.first ∙ ap (λ k. first_free r.base r.base w.xs k) (sym alone) ∙ sym (free_both r.base r.base w.xs (c ∷ []) NO_CHUNK);
      range = w.range;
      last_free = last_used w.xs c last.offset last.size w.last_free used;
      touch = inl (
        refl,
        elim (eq_tells last.offset NO_CHUNK) [
          | inl e ↦ inl e.1
          | inr e ↦ (let fits = (behind r gs w.xs last h w.are w.last_free e.1).fits in inr (omega (arith, fits, more, wide)))
        ],
      );
      start = w.start;
      keeps = w.keeps;
      heads = w.heads;
    }

-- heads elsewhere stay where one granule is written
others_same : (r : Range) (gs : List Granule) (hs ks : List Granule) (place : ℕ) (c : Cap) → Tiled r gs → r.ram ≤ place → (place - r.ram) % 8 ≡ 0 → ks ≡ stored_cap hs (place - r.ram) c → (p : ℕ) → r.base ≤ p → p % 8 ≡ 0 → (p ≡ place → ⊥) → head_at ks r.ram p ≡ head_at hs r.ram p
others_same r gs hs ks place c h over even is p low eight other =
    let above = h.above in
    let e0 = h.even.0 in
    ap (λ l. head_at l r.ram p) is ∙ head_other hs r.ram p place c (omega (arith, low, above)) over (omega (arith, eight, e0, low, above)) even other

-- a chunk that joins the last free one
grows : (r : Range) (gs : List Granule) (q : Range) (hs ks : List Granule) (last : Last) (left : ℕ) → Tiled r gs → (w : Joining r gs q hs last left) → (n : Next r gs q hs last left w) → leaves n.chunk ≡ true → last.offset ≡ total_size w.front → last.size ≡ w.pending → 8 ≤ w.pending
    → ks ≡ stored_cap hs (r.base + last.offset - r.ram) (plain (last.size + n.chunk.size + NO_CHUNK * 2 ^ 32)) → Joining r gs q ks (record { offset = last.offset; size = last.size + n.chunk.size }) (left - n.chunk.size)
grows r gs q hs ks last left h w n going offset_is size_is some is =
    let c : Chunk = n.chunk in
    let left_is = n.sum_left in
    let old_gap : gap w.pending ≡ free_chunk w.pending ∷ [] = gap_some w.pending (λ e. omega (arith, e, some)) in
    let new_gap : gap (w.pending + c.size) ≡ free_chunk (w.pending + c.size) ∷ [] = gap_some (w.pending + c.size) (λ e. omega (arith, e, some)) in
    let xs_is : w.xs ≡ w.front ++ free_chunk w.pending ∷ [] = w.xs_is ∙ ap (λ (l : List Chunk). w.front ++ l) old_gap in
    let kinds = are_split w.front (free_chunk w.pending ∷ []) (subst AreChunks xs_is w.are) in
    let old_total : total_size w.xs ≡ total_size w.front + w.pending = ap total_size xs_is ∙ total_both w.front (free_chunk w.pending ∷ []) ∙ omega arith in
    let zs : List Chunk = w.front ++ free_chunk (w.pending + c.size) ∷ [] in
    let new_total : total_size zs ≡ total_size w.front + (w.pending + c.size) = total_both w.front (free_chunk (w.pending + c.size) ∷ []) ∙ omega arith in
    let size = w.size in
    let above_more : total_size (w.above ++ c ∷ []) ≡ total_size w.above + c.size = total_both w.above (c ∷ []) ∙ omega arith in
    let sum = n.sum in
    let short = h.short in
    let wide = n.shape.some in
    let some_last : last.offset ≡ NO_CHUNK → ⊥ = λ e. omega (arith, e, offset_is, sum, old_total, short) in
    let b = behind r gs w.xs last h w.are w.last_free some_last in
    let ram_low = h.above in
    let base_even = h.even.1 in
    let inside = h.inside in
    let sizes = w.keeps.size in
    let place : ℕ = r.base + last.offset in
    let word : Cap = plain (last.size + c.size + NO_CHUNK * 2 ^ 32) in
    let same = others_same r gs hs ks place word h (omega (arith, ram_low)) b.even is in
    let wrote : head_at ks r.ram place ≡ word = ap (λ l. head_at l r.ram place) is ∙ head_same hs r.ram place word (omega (arith, ram_low)) b.even (omega (arith, inside, sizes, sum, old_total, offset_is, some)) in
    let parts = lays_both hs r.ram r.base r.base w.front (free_chunk w.pending ∷ []) NO_CHUNK (subst (λ (l : List Chunk). Lays hs r.ram r.base r.base l NO_CHUNK) xs_is w.lays) in
    let front_lays : Lays ks r.ram r.base r.base w.front (first_free r.base (r.base + total_size w.front) (free_chunk (w.pending + c.size) ∷ []) NO_CHUNK) =
    lays_same hs ks r.ram r.base r.base w.front (first_free r.base (r.base + total_size w.front) (free_chunk (w.pending + c.size) ∷ []) NO_CHUNK)
    (λ p s. let hi = starts_high p r.base w.front kinds.0 s in same p (starts_low p r.base w.front s) (starts_even p r.base w.front kinds.0 (omega (arith, base_even)) s) (λ e. omega (arith, e, hi, offset_is)))
    parts.0 in
    let whole_c = n.shape.whole in
    let pending_whole = kinds.1.0.whole in
    let xs_even = total_even w.xs w.are in
    let there : r.base + total_size w.xs + c.size ≡ r.base + total_size zs = omega (arith, old_total, new_total) in
    let rest_lays : Lays ks r.ram r.base (r.base + total_size w.xs + c.size) n.others NO_CHUNK = lays_same hs ks r.ram r.base (r.base + total_size w.xs + c.size) n.others NO_CHUNK
    (λ p s. let lo = starts_low p (r.base + total_size w.xs + c.size) n.others s in same p (omega (arith, lo)) (starts_even p (r.base + total_size w.xs + c.size) n.others n.others_are (omega (arith, base_even, xs_even, whole_c)) s) (λ e. omega (arith, e, lo, old_total, offset_is, some)))
    n.lays.1 in
    let sum_word : last.size + c.size + NO_CHUNK * 2 ^ 32 ≡ w.pending + c.size + 0 + NO_CHUNK * 2 ^ 32 = omega (arith, size_is) in
    let head : head_at ks r.ram (r.base + total_size w.front) ≡ plain (w.pending + c.size + 0 + NO_CHUNK * 2 ^ 32) = ap (λ m. head_at ks r.ram (r.base + m)) (sym offset_is) ∙ wrote ∙ ap plain sum_word in
    let old_target : w.front ++ joined w.pending (c ∷ n.others) ≡ released (chunks r gs) = ap (λ (l : List Chunk). w.front ++ joined w.pending l) (sym n.rest_is) ∙ w.target in
    let open_ : joined w.pending (c ∷ n.others) ≡ joined (w.pending + c.size) n.others = rw going refl in
    record {
      above = w.above ++ c ∷ [];
      rest = n.others;
      whole = w.whole ∙ ap (λ (l : List Chunk). w.above ++ l) n.rest_is ∙ sym (append_assoc w.above (c ∷ []) n.others);
      left_is = omega (arith, left_is);
      front = w.front;
      pending = w.pending + c.size;
      xs = zs;
      xs_is = ap (λ (l : List Chunk). w.front ++ l) (sym new_gap);
      target = ap (λ (l : List Chunk). w.front ++ l) (sym open_) ∙ old_target;
      size = omega (arith, old_total, new_total, above_more, size);
      are = are_join w.front (free_chunk (w.pending + c.size) ∷ []) kinds.0 ((
        record {
          whole = omega (arith, pending_whole, whole_c);
          some = omega (arith, some);
          used = λ u. absurd (let clash : true ≡ false = u in cc);
          states = omega arith;
          number = omega arith;
          blank = λ f. refl;
        },
        tt,
      ));
      lays = lays_join ks r.ram r.base r.base w.front (free_chunk (w.pending + c.size) ∷ []) NO_CHUNK front_lays (head, tt);
      rest_lays = rw (← there) rest_lays;
      first = w.first ∙ ap (λ (l : List Chunk). first_free r.base r.base l NO_CHUNK) xs_is ∙ free_both r.base r.base w.front (free_chunk w.pending ∷ []) NO_CHUNK ∙ sym (free_both r.base r.base w.front (free_chunk (w.pending + c.size) ∷ []) NO_CHUNK);
      range = w.range;
      last_free = last_free w.front (free_chunk (w.pending + c.size)) last.offset (last.size + c.size) refl offset_is (omega (arith, size_is));
      touch = inr (offset_is, omega (arith, size_is), omega (arith, some));
      start = w.start;
      keeps = keeps_then r (chunks r gs) (chunks r gs) gs hs ks (λ p spared. spared) w.keeps (keeps_store r (chunks r gs) hs ks place word refl (omega (arith, ram_low)) b.even (head_loose r gs (chunks r gs) place h (w.start some_last)) is);
      heads = heads_then r (released (chunks r gs)) (released (chunks r gs)) gs hs ks (λ p s. s) w.heads
          (heads_store r (released (chunks r gs)) hs ks place word (omega (arith, ram_low)) b.even (xs_left r gs q hs last left place w (subst (Starts place r.base) (sym xs_is) (starts_there place r.base w.front (free_chunk w.pending) [] (omega (arith, offset_is))))) is);
    }

-- what the two writes of a new last free chunk leave
record Written (r : Range) (ks : List Granule) (xs : List Chunk) (at size : ℕ) (last : Last) (old_first new_first offset : ℕ) (word : Cap) (others : List Chunk) (gs : List Granule) : Type 0 where
  pub lays : Lays ks r.ram r.base r.base xs offset
  pub head : head_at ks r.ram at ≡ word
  pub rest : Lays ks r.ram r.base (at + size) others NO_CHUNK
  pub first : new_first ≡ first_free r.base r.base xs offset
  pub keeps : KeepsRest r (chunks r gs) gs ks
  pub heads : OnlyHeads r (released (chunks r gs)) gs ks

-- a chunk that is the last free one from then on
begins : (r : Range) (gs : List Granule) (q p_ : Range) (hs ks : List Granule) (last : Last) (left : ℕ) → Tiled r gs → (w : Joining r gs q hs last left) → (n : Next r gs q hs last left w) → leaves n.chunk ≡ true → w.pending ≡ 0
    → ks ≡ with_link (stored_cap hs (r.base + total_size w.xs - r.ram) (plain (n.chunk.size + NO_CHUNK * 2 ^ 32))) r.ram r.base last.offset last.size (total_size w.xs)
    → p_ ≡ record r { first = cond (nat_eq last.offset NO_CHUNK) (total_size w.xs) q.first }
    → Joining r gs p_ ks (record { offset = total_size w.xs; size = n.chunk.size }) (left - n.chunk.size)
begins r gs q p_ hs ks last left h w n going zero_ is range_is =
    let c : Chunk = n.chunk in
    let at : ℕ = r.base + total_size w.xs in
    let left_is = n.sum_left in
    let wide = n.shape.some in
    let c_whole = n.shape.whole in
    let new_gap : gap c.size ≡ free_chunk c.size ∷ [] = gap_some c.size (λ e. omega (arith, e, wide)) in
    let zs : List Chunk = w.xs ++ free_chunk c.size ∷ [] in
    let new_total : total_size zs ≡ total_size w.xs + c.size = total_both w.xs (free_chunk c.size ∷ []) ∙ omega arith in
    let size = w.size in
    let above_more : total_size (w.above ++ c ∷ []) ≡ total_size w.above + c.size = total_both w.above (c ∷ []) ∙ omega arith in
    let sum = n.sum in
    let short = h.short in
    let ram_low = h.above in
    let e0 = h.even.0 in
    let base_even = h.even.1 in
    let inside = h.inside in
    let sizes = w.keeps.size in
    let xs_even = total_even w.xs w.are in
    let word : Cap = plain (c.size + NO_CHUNK * 2 ^ 32) in
    let link_word : Cap = plain (last.size + total_size w.xs * 2 ^ 32) in
    let ms : List Granule = stored_cap hs (at - r.ram) word in
    let at_even : (at - r.ram) % 8 ≡ 0 = omega (arith, xs_even, base_even, e0, ram_low) in
    let same = others_same r gs hs ms at word h (omega (arith, ram_low)) at_even refl in
    let wrote : head_at ms r.ram at ≡ word = head_same hs r.ram at word (omega (arith, ram_low)) at_even (omega (arith, inside, sizes, sum, wide)) in
    let keeps_one : KeepsRest r (chunks r gs) gs ms = keeps_then r (chunks r gs) (chunks r gs) gs hs ms (λ p spared. spared) w.keeps (keeps_store r (chunks r gs) hs ms at word refl (omega (arith, ram_low)) at_even (head_loose r gs (chunks r gs) at h n.starts) refl) in
    let there : at + c.size ≡ r.base + total_size zs = omega (arith, new_total) in
    let mine : first_free r.base at (free_chunk c.size ∷ []) NO_CHUNK ≡ total_size w.xs = omega arith in
    let old_target : w.front ++ joined w.pending (c ∷ n.others) ≡ released (chunks r gs) = ap (λ (l : List Chunk). w.front ++ joined w.pending l) (sym n.rest_is) ∙ w.target in
    let open_ : joined w.pending (c ∷ n.others) ≡ joined c.size n.others = rw going (ap (λ m. joined m n.others) (omega (arith, zero_))) in
    let front_is : w.xs ≡ w.front = w.xs_is ∙ ap (λ m. w.front ++ gap m) zero_ ∙ append-nil w.front in
    let sum_word : c.size + NO_CHUNK * 2 ^ 32 ≡ c.size + 0 + NO_CHUNK * 2 ^ 32 = omega arith in
    let target : w.xs ++ joined c.size n.others ≡ released (chunks r gs) = ap (λ (l : List Chunk). l ++ joined c.size n.others) front_is ∙ ap (λ (l : List Chunk). w.front ++ l) (sym open_) ∙ old_target in
    let at_left : Starts at r.base (released (chunks r gs)) = subst (Starts at r.base) target (starts_second at r.base w.xs (joined c.size n.others) (joined_begins c.size at n.others (λ e. omega (arith, e, wide)))) in
    let heads_one : OnlyHeads r (released (chunks r gs)) gs ms = heads_then r (released (chunks r gs)) (released (chunks r gs)) gs hs ms (λ p s. s) w.heads (heads_store r (released (chunks r gs)) hs ms at word (omega (arith, ram_low)) at_even at_left refl) in
    let written : Written r ks w.xs at c.size last q.first p_.first (total_size w.xs) word n.others gs = elim (eq_tells last.offset NO_CHUNK) [
      | inl e ↦
          let is_ms : ks ≡ ms = is ∙ rw e.0 refl in
          let none : NoFree w.xs = elim w.last_free [ inl l ↦ l.1 | inr l ↦ absurd (let link = l.link in let lw = ap total_size l.whole ∙ total_both l.above (l.chunk ∷ l.used) in let is_none = e.1 in omega (arith, link, lw, is_none, sum, short)) ] in
          record {
            lays = rw is_ms (lays_same hs ms r.ram r.base r.base w.xs (total_size w.xs)
                (λ p s. let hi = starts_high p r.base w.xs w.are s in same p (starts_low p r.base w.xs s) (starts_even p r.base w.xs w.are (omega (arith, base_even)) s) (λ x. omega (arith, x, hi)))
                (unlinked hs r.ram r.base r.base w.xs NO_CHUNK (total_size w.xs) none w.lays));
            head = rw is_ms wrote;
            rest = rw is_ms (lays_same hs ms r.ram r.base (at + c.size) n.others NO_CHUNK
                (λ p s. let lo = starts_low p (at + c.size) n.others s in same p (omega (arith, lo)) (starts_even p (at + c.size) n.others n.others_are (omega (arith, base_even, xs_even, c_whole)) s) (λ x. omega (arith, x, lo, wide)))
                n.lays.1);
            first = ap (λ (x : Range). x.first) range_is ∙ rw e.0 (sym (none_first r.base r.base w.xs (total_size w.xs) none));
            keeps = rw is_ms keeps_one;
            heads = rw is_ms heads_one;
          }
      | inr e ↦
          let is_ks : ks ≡ stored_cap ms (r.base + last.offset - r.ram) link_word = is ∙ rw e.0 refl in
          let b = behind r gs w.xs last h w.are w.last_free e.1 in
          let b_fits = b.fits in
          let b_some = b.some in
          let link_at : ℕ = r.base + last.offset in
          let again = others_same r gs ms ks link_at link_word h (omega (arith, ram_low)) b.even is_ks in
          let ms_size : length ms ≡ length hs = store_length hs (at - r.ram) word in
          let wrote_link : head_at ks r.ram link_at ≡ link_word = ap (λ l. head_at l r.ram link_at) is_ks ∙ head_same ms r.ram link_at link_word (omega (arith, ram_low)) b.even (omega (arith, inside, sizes, ms_size, sum, b_fits, b_some)) in
          elim w.last_free [
            | inl l ↦ absurd (e.1 l.0)
            | inr l ↦
                let link = l.link in
                let lw = ap total_size l.whole ∙ total_both l.above (l.chunk ∷ l.used) in
                let ks_ = are_split l.above (l.chunk ∷ l.used) (subst AreChunks l.whole w.are) in
                let l_some = ks_.1.0.some in
                let l_whole = ks_.1.0.whole in
                let l_even = total_even l.above ks_.0 in
                let l_state : l.chunk.state ≡ 0 = free_state l.chunk l.is in
                let l_size = l.size_is in
                let here_ : r.base + total_size l.above ≡ link_at = omega (arith, link) in
                let l_head : head_at ks r.ram (r.base + total_size l.above) ≡ head_of l.chunk (total_size w.xs) = rw here_ (wrote_link ∙ rw (l_size, l.is, l_state) (ap plain (omega arith))) in
                let both : (p : ℕ) → r.base ≤ p → p % 8 ≡ 0 → (p ≡ at → ⊥) → (p ≡ link_at → ⊥) → head_at ks r.ram p ≡ head_at hs r.ram p = λ p lo ev a b. again p lo ev b ∙ same p lo ev a in
                let lays_l : Lays ks r.ram r.base r.base (l.above ++ l.chunk ∷ l.used) (total_size w.xs) = relinked hs ks r.ram r.base r.base l.above l.chunk l.used NO_CHUNK (total_size w.xs) l.is l.others (subst (λ (k : List Chunk). Lays hs r.ram r.base r.base k NO_CHUNK) l.whole w.lays) l_head
                (λ p s. let hi = starts_high p r.base l.above ks_.0 s in both p (starts_low p r.base l.above s) (starts_even p r.base l.above ks_.0 (omega (arith, base_even)) s) (λ x. omega (arith, x, hi, lw)) (λ x. omega (arith, x, hi, link)))
                (λ p s. let lo = starts_low p (r.base + total_size l.above + l.chunk.size) l.used s in let hi = starts_high p (r.base + total_size l.above + l.chunk.size) l.used ks_.1.1 s in
                both p (omega (arith, lo)) (starts_even p (r.base + total_size l.above + l.chunk.size) l.used ks_.1.1 (omega (arith, base_even, l_even, l_whole)) s) (λ x. omega (arith, x, hi, lw)) (λ x. omega (arith, x, lo, link, l_some))) in
                record {
                  lays = subst (λ (k : List Chunk). Lays ks r.ram r.base r.base k (total_size w.xs)) (sym l.whole) lays_l;
                  head = again at (omega arith) (omega (arith, base_even, xs_even)) (λ x. omega (arith, x, b_fits, b_some)) ∙ wrote;
                  rest = lays_same hs ks r.ram r.base (at + c.size) n.others NO_CHUNK
                      (λ p s. let lo = starts_low p (at + c.size) n.others s in both p (omega (arith, lo)) (starts_even p (at + c.size) n.others n.others_are (omega (arith, base_even, xs_even, c_whole)) s) (λ x. omega (arith, x, lo, wide)) (λ x. omega (arith, x, lo, b_fits, b_some)))
                      n.lays.1;
                  first = ap (λ (x : Range). x.first) range_is ∙ rw e.0 (w.first ∙ ap (λ (k : List Chunk). first_free r.base r.base k NO_CHUNK) l.whole ∙ first_stays r.base r.base l.above l.chunk l.used NO_CHUNK (total_size w.xs) l.is ∙ ap (λ (k : List Chunk). first_free r.base r.base k (total_size w.xs)) (sym l.whole));
                  keeps = keeps_then r (chunks r gs) (chunks r gs) gs ms ks (λ p spared. spared) keeps_one (keeps_store r (chunks r gs) ms ks link_at link_word refl (omega (arith, ram_low)) b.even (head_loose r gs (chunks r gs) link_at h (w.start e.1)) is_ks);
                  heads = heads_then r (released (chunks r gs)) (released (chunks r gs)) gs ms ks (λ p s. s) heads_one
                      (heads_store r (released (chunks r gs)) ms ks link_at link_word (omega (arith, ram_low)) b.even (xs_left r gs q hs last left link_at w (subst (Starts link_at r.base) (sym l.whole) (starts_there link_at r.base l.above l.chunk l.used (omega (arith, link))))) is_ks);
                }
          ]
    ] in
    record {
      above = w.above ++ c ∷ [];
      rest = n.others;
      whole = w.whole ∙ ap (λ (l : List Chunk). w.above ++ l) n.rest_is ∙ sym (append_assoc w.above (c ∷ []) n.others);
      left_is = omega (arith, left_is);
      front = w.xs;
      pending = c.size;
      xs = zs;
      xs_is = ap (λ (l : List Chunk). w.xs ++ l) (sym new_gap);
      target = target;
      size = omega (arith, new_total, above_more, size);
      are = are_join w.xs (free_chunk c.size ∷ []) w.are ((
        record {
          whole = c_whole;
          some = wide;
          used = λ u. absurd (let clash : true ≡ false = u in cc);
          states = omega arith;
          number = omega arith;
          blank = λ f. refl;
        },
        tt,
      ));
      lays = lays_join ks r.ram r.base r.base w.xs (free_chunk c.size ∷ []) NO_CHUNK (rw mine written.lays) (written.head ∙ ap plain sum_word, tt);
      rest_lays = rw (← there) written.rest;
      first = written.first ∙ ap (λ k. first_free r.base r.base w.xs k) (sym mine) ∙ sym (free_both r.base r.base w.xs (free_chunk c.size ∷ []) NO_CHUNK);
      range = range_is ∙ ap (λ k. let x : Range = record r { first = k } in x) (sym (ap (λ (x : Range). x.first) range_is));
      last_free = last_free w.xs (free_chunk c.size) (total_size w.xs) c.size refl refl refl;
      touch = inr (refl, refl, wide);
      start = λ some. n.starts;
      keeps = written.keeps;
      heads = written.heads;
    }

-- ---- the step of the code

carried : (r : Range) (gs : List Granule) (q p_ : Range) (hs ks : List Granule) (last new : Last) (left size other : ℕ) → p_ ≡ q → ks ≡ hs → new ≡ last → size ≡ other → Joining r gs q hs last (left - other) → Joining r gs p_ ks new (left - size)
carried r gs q p_ hs ks last new left size other a b c d j =
    subst (λ (n : ℕ). Joining r gs p_ ks new (left - n)) (sym d)
    (subst (λ (x : Last). Joining r gs p_ ks x (left - other)) (sym c)
    (subst (λ (l : List Granule). Joining r gs p_ l last (left - other)) (sym b)
    (subst (λ (x : Range). Joining r gs x hs last (left - other)) (sym a) j)))

pub step : (r : Range) (gs : List Granule) (q p_ : Range) (hs ks : List Granule) (last new : Last) (left size : ℕ) → Tiled r gs → (w : Joining r gs q hs last left) → (left ≡ 0 → ⊥)
    → size ≡ (head_in (head_at hs q.ram (q.base + (q.length - left)))).size
    → Visits q p_ hs ks last new (q.base + (q.length - left)) (head_in (head_at hs q.ram (q.base + (q.length - left))))
    → Joining r gs p_ ks new (left - size)
step r gs q p_ hs ks last new left size h w some size_given v =
    let n = next r gs q hs last left h w some in
    let c : Chunk = n.chunk in
    let e_ram : q.ram ≡ r.ram = ap (λ (x : Range). x.ram) w.range in
    let e_base : q.base ≡ r.base = ap (λ (x : Range). x.base) w.range in
    let e_length : q.length ≡ r.length = ap (λ (x : Range). x.length) w.range in
    let place = n.place in
    let sum = n.sum in
    let short = h.short in
    let e2 = h.even.2 in
    let at_is : q.base + (q.length - left) ≡ r.base + total_size w.xs = omega (arith, e_base, e_length, place) in
    let told = head_tells c (first_free r.base (r.base + total_size w.xs + c.size) n.others NO_CHUNK) n.shape (omega (arith, sum, short, e2)) in
    let head : Head = head_in (head_at hs q.ram (q.base + (q.length - left))) in
    let head_is : head_in (head_at hs q.ram (q.base + (q.length - left))) ≡ head_in (head_of c (first_free r.base (r.base + total_size w.xs + c.size) n.others NO_CHUNK)) = ap (λ a. head_in (head_at hs q.ram a)) at_is ∙ ap (λ a. head_in (head_at hs a (r.base + total_size w.xs))) e_ram ∙ ap head_in n.lays.0 in
    let head_size : (head_in (head_at hs q.ram (q.base + (q.length - left)))).size ≡ c.size = ap (λ (x : Head). x.size) head_is ∙ told.size in
    let head_state : (head_in (head_at hs q.ram (q.base + (q.length - left)))).state ≡ c.state = ap (λ (x : Head). x.state) head_is ∙ told.state in
    let goes_is : goes (head_in (head_at hs q.ram (q.base + (q.length - left)))) ≡ leaves c = ap (λ s. nat_eq s 0 || nat_eq s 3) head_state in
    let size_is : size ≡ c.size = size_given ∙ head_size in
    elim (bool_tells (leaves c)) [
      | inr staying ↦
          let none = goes_is ∙ staying in
          carried r gs q p_ hs ks last new left size c.size
          (v.range ∙ ap (λ b. cond b (record q { first = first_after q last (q.base + (q.length - left)) }) q) none)
          (v.memory ∙ ap (λ b. cond b (absorbed hs q last (q.base + (q.length - left)) (head_in (head_at hs q.ram (q.base + (q.length - left)))).size) hs) none)
          (v.last_is ∙ ap (λ b. cond b (last_after q last (q.base + (q.length - left)) (head_in (head_at hs q.ram (q.base + (q.length - left)))).size) last) none)
          size_is (stays r gs q hs last left h w n staying)
      | inl going ↦
          let all = goes_is ∙ going in
          let memory : ks ≡ absorbed hs q last (q.base + (q.length - left)) (head_in (head_at hs q.ram (q.base + (q.length - left)))).size = v.memory ∙ ap (λ b. cond b (absorbed hs q last (q.base + (q.length - left)) (head_in (head_at hs q.ram (q.base + (q.length - left)))).size) hs) all in
          let memory_c : ks ≡ absorbed hs q last (q.base + (q.length - left)) c.size = memory ∙ ap (λ m. absorbed hs q last (q.base + (q.length - left)) m) head_size in
          let memory_r : ks ≡ absorbed hs (record r { first = q.first }) last (r.base + total_size w.xs) c.size = memory_c ∙ ap (λ a. absorbed hs q last a c.size) at_is ∙ ap (λ (x : Range). absorbed hs x last (r.base + total_size w.xs) c.size) w.range in
          let last_c : new ≡ last_after (record r { first = q.first }) last (r.base + total_size w.xs) c.size =
          v.last_is ∙ ap (λ b. cond b (last_after q last (q.base + (q.length - left)) (head_in (head_at hs q.ram (q.base + (q.length - left)))).size) last) all
          ∙ ap (λ m. last_after q last (q.base + (q.length - left)) m) head_size ∙ ap (λ a. last_after q last a c.size) at_is ∙ ap (λ (x : Range). last_after x last (r.base + total_size w.xs) c.size) w.range in
          let range_c : p_ ≡ record r { first = first_after (record r { first = q.first }) last (r.base + total_size w.xs) } =
          v.range ∙ ap (λ b. cond b (record q { first = first_after q last (q.base + (q.length - left)) }) q) all
          ∙ ap (λ a. let x : Range = record q { first = first_after q last a } in x) at_is ∙ ap (λ (y : Range). let x : Range = record y { first = first_after y last (r.base + total_size w.xs) } in x) w.range in
          let offset : r.base + total_size w.xs - r.base ≡ total_size w.xs = omega arith in
          elim w.touch [
            | inr t ↦
                let offset_is = t.0 in
                let last_size = t.1 in
                let wide = t.2 in
                let old_total : total_size w.xs ≡ total_size w.front + w.pending = ap total_size w.xs_is ∙ total_both w.front (gap w.pending) ∙ ap (λ m. total_size w.front + m) (gap_total w.pending) in
                let some_last : nat_eq last.offset NO_CHUNK ≡ false = elim (eq_tells last.offset NO_CHUNK) [ inl e ↦ absurd (let is = e.1 in omega (arith, is, offset_is, old_total, sum, short)) | inr e ↦ e.0 ] in
                let ends : nat_eq (last.offset + last.size) (r.base + total_size w.xs - r.base) ≡ true = elim (eq_tells (last.offset + last.size) (r.base + total_size w.xs - r.base)) [ inl e ↦ e.0 | inr e ↦ absurd (e.1 (omega (arith, offset_is, last_size, old_total))) ] in
                let touching : touches (record r { first = q.first }) last (r.base + total_size w.xs) ≡ true = rw (some_last, ends) refl in
                carried r gs q p_ ks ks (record { offset = last.offset; size = last.size + c.size }) new left size c.size
                (range_c ∙ ap (λ b. let x : Range = record r { first = cond b q.first (cond (nat_eq last.offset NO_CHUNK) (r.base + total_size w.xs - r.base) q.first) } in x) touching ∙ sym w.range)
                refl
                (last_c ∙ ap (λ b. cond b (let x : Last = record { offset = last.offset; size = last.size + c.size } in x) (record { offset = r.base + total_size w.xs - r.base; size = c.size })) touching)
                size_is
                (grows r gs q hs ks last left h w n going offset_is last_size wide
                (memory_r ∙ ap (λ b. cond b (stored_cap hs (r.base + last.offset - r.ram) (plain (last.size + c.size + NO_CHUNK * 2 ^ 32))) (with_link (stored_cap hs (r.base + total_size w.xs - r.ram) (plain (c.size + NO_CHUNK * 2 ^ 32))) r.ram r.base last.offset last.size (r.base + total_size w.xs - r.base))) touching))
            | inl t ↦
                let touching : touches (record r { first = q.first }) last (r.base + total_size w.xs) ≡ false = elim t.1 [
                  | inl none ↦ (let is : nat_eq last.offset NO_CHUNK ≡ true = elim (eq_tells last.offset NO_CHUNK) [ inl e ↦ e.0 | inr e ↦ absurd (e.1 none) ] in rw is refl)
                  | inr before ↦
                      let ends : nat_eq (last.offset + last.size) (r.base + total_size w.xs - r.base) ≡ false = elim (eq_tells (last.offset + last.size) (r.base + total_size w.xs - r.base)) [ inl e ↦ absurd (let is = e.1 in omega (arith, is, before)) | inr e ↦ e.0 ] in
                      elim (bool_tells (nat_eq last.offset NO_CHUNK)) [ inl e ↦ rw e refl | inr e ↦ rw (e, ends) refl ]
                ] in
                carried r gs p_ p_ ks ks (record { offset = total_size w.xs; size = c.size }) new left size c.size
                refl refl
                (last_c ∙ ap (λ b. cond b (let x : Last = record { offset = last.offset; size = last.size + c.size } in x) (record { offset = r.base + total_size w.xs - r.base; size = c.size })) touching ∙ ap (λ o. let x : Last = record { offset = o; size = c.size } in x) offset)
                size_is
                (begins r gs q p_ hs ks last left h w n going t.0
                (memory_r ∙ ap (λ b. cond b (stored_cap hs (r.base + last.offset - r.ram) (plain (last.size + c.size + NO_CHUNK * 2 ^ 32))) (with_link (stored_cap hs (r.base + total_size w.xs - r.ram) (plain (c.size + NO_CHUNK * 2 ^ 32))) r.ram r.base last.offset last.size (r.base + total_size w.xs - r.base))) touching
                ∙ ap (λ o. with_link (stored_cap hs (r.base + total_size w.xs - r.ram) (plain (c.size + NO_CHUNK * 2 ^ 32))) r.ram r.base last.offset last.size o) offset)
                (range_c ∙ ap (λ b. let x : Range = record r { first = cond b q.first (cond (nat_eq last.offset NO_CHUNK) (r.base + total_size w.xs - r.base) q.first) } in x) touching
                ∙ ap (λ o. let x : Range = record r { first = cond (nat_eq last.offset NO_CHUNK) o q.first } in x) offset))
          ]
    ]

-- ---- the end

pub record AllJoined (r : Range) (gs : List Granule) (q : Range) (hs : List Granule) : Type 0 where
  pub settled : TilesSettled q hs
  pub chunks_are : chunks q hs ≡ released (chunks r gs)
  pub keeps : KeepsRest r (chunks r gs) gs hs
  pub heads : OnlyHeads r (chunks q hs) gs hs
  pub range : q ≡ record r { first = q.first }

pub ends : (r : Range) (gs : List Granule) (q : Range) (hs : List Granule) (last : Last) (left : ℕ) → Tiled r gs → (w : Joining r gs q hs last left) → left ≡ 0 → AllJoined r gs q hs
ends r gs q hs last left h w none = all w.rest w.whole w.left_is w.target (are_split w.above w.rest (subst AreChunks w.whole h.are)).1
  where
    all : (rest : List Chunk) → chunks r gs ≡ w.above ++ rest → left ≡ total_size rest → w.front ++ joined w.pending rest ≡ released (chunks r gs) → AreChunks rest → AllJoined r gs q hs
    all (c ∷ cs) whole is target are = absurd (let wide = are.0.some in omega (arith, is, none, wide))
    all [] whole is target are =
        let xs_are : w.xs ≡ released (chunks r gs) = w.xs_is ∙ target in
        let old : chunks r gs ≡ w.above = whole ∙ append-nil w.above in
        let size : total_size w.xs ≡ r.length = w.size ∙ sym (ap total_size old) ∙ h.size in
        let sizes = w.keeps.size in
        let inside = h.inside in
        let tiled : TiledBy (record r { first = q.first }) hs w.xs = record {
          even = h.even;
          above = h.above;
          short = h.short;
          small = h.small;
          inside = omega (arith, inside, sizes);
          lays = w.lays;
          are = w.are;
          size = size;
          first = w.first;
        } in
        let here : TiledBy q hs w.xs = subst (λ (x : Range). TiledBy x hs w.xs) (sym w.range) tiled in
        let is_xs : chunks q hs ≡ w.xs = chunks_are q hs w.xs here in
        record {
          settled = record {
            tiled = subst (TiledBy q hs) (sym is_xs) here;
            apart = subst NoneTouch (sym (is_xs ∙ xs_are)) (joined_apart 0 (chunks r gs));
          };
          chunks_are = is_xs ∙ xs_are;
          keeps = w.keeps;
          heads = subst (λ (l : List Chunk). OnlyHeads r l gs hs) (sym (is_xs ∙ xs_are)) w.heads;
          range = w.range;
        }
