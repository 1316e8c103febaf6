-- The chunks that lie in memory are read from it, and no others.
use Rattle.std.proofs.Common.{ℕ, zero, suc, ◌≡◌, ◌+◌, ◌-◌, ◌*◌, ◌/◌, ◌%◌, ◌^◌, ◌<◌, ◌≤◌, ◌⊎◌, inl, inr, Bool, true, false, cond, nat_lt, nat_eq, List, [], ◌∷◌, ◌++◌, length, refl, sym, ap, ◌∙◌, arith, subst}
use Rattle.law_lists.proofs.Tests.{lt_tells, eq_tells}
use Rattle.def_words.specs.declared.Cap.{Cap}
use Rattle.def_memory.specs.declared.Granule.{Granule}
use Rattle.def_chunks.specs.declared.heads.TheConstants.{NO_CHUNK}
use Rattle.def_chunks.specs.declared.rows.Range.{Range}
use Rattle.def_chunks.specs.declared.rows.Head.{Head}
use Rattle.def_chunks.specs.Chunks.{Chunk, is_free, total_size, first_free, head_of, head_at, head_in, Lays, IsChunk, AreChunks}
use Rattle.def_chunks.specs.Tiles.{chunk_of, read, chunks, TiledBy, Tiled}
use Rattle.def_chunks.specs.Changes.{replaced}
use Rattle.def_chunks.specs.Gaps.{ChunkStands}
use Rattle.law_chunks.proofs.Lays.{total_both, lays_both, are_split, total_even}

-- ---- a head tells its chunk

pub record Told (c : Chunk) (next : ℕ) : Type 0 where
  pub size : (head_in (head_of c next)).size ≡ c.size
  pub state : (head_in (head_of c next)).state ≡ c.state
  pub rest : (head_in (head_of c next)).rest ≡ cond (is_free c) next c.number

pub head_tells : (c : Chunk) (next : ℕ) → IsChunk c → c.size + 8 < 2 ^ 32 → Told c next
head_tells c next shape small =
    let whole = shape.whole in
    let state = shape.states in
    let more : ℕ = cond (is_free c) next c.number in
    let low : (c.size + c.state + more * 2 ^ 32) % 2 ^ 32 ≡ c.size + c.state = omega (arith, small, state) in
    let high : (c.size + c.state + more * 2 ^ 32) / 2 ^ 32 ≡ more = omega (arith, small, state) in
    let size : (c.size + c.state) / 8 * 8 ≡ c.size = omega (arith, whole, state) in
    let kind : (c.size + c.state) % 8 ≡ c.state = omega (arith, whole, state) in
    record { size = rw low size; state = rw low kind; rest = high }

pub chunk_back : (c : Chunk) (next : ℕ) → IsChunk c → c.size + 8 < 2 ^ 32 → chunk_of (head_of c next) ≡ c
chunk_back c next shape small =
    let told = head_tells c next shape small in
    let made : ℕ → ℕ → ℕ → Chunk = λ size state number. record { size = size; state = state; number = number } in
    let number : cond (nat_eq c.state 0) 0 (cond (is_free c) next c.number) ≡ c.number = elim (eq_tells c.state 0) [
      | inl e ↦ (let blank = shape.blank e.0 in rw e.0 (sym blank))
      | inr e ↦ rw e.0 refl
    ] in
    let head : Head = head_in (head_of c next) in
    ap (λ n. made n head.state (cond (nat_eq head.state 0) 0 head.rest)) told.size
    ∙ ap (λ n. made c.size n (cond (nat_eq n 0) 0 head.rest)) told.state
    ∙ ap (λ n. made c.size c.state (cond (nat_eq c.state 0) 0 n)) told.rest
    ∙ ap (made c.size c.state) number

pub read_is : (gs : List Granule) (ram base end n at : ℕ) (cs : List Chunk) (next : ℕ) → Lays gs ram base at cs next → AreChunks cs → at + total_size cs ≡ end → total_size cs + 8 < 2 ^ 32 → total_size cs ≤ n → read gs ram end n at ≡ cs
read_is gs ram base end zero at [] next h are size small fuel = refl
read_is gs ram base end (suc n) at [] next h are size small fuel = elim (lt_tells at end) [ inl e ↦ absurd (let lt = e.1 in omega (arith, lt, size)) | inr e ↦ rw e.0 refl ]
read_is gs ram base end zero at (c ∷ cs) next h are size small fuel = absurd (let some = are.0.some in omega (arith, fuel, some))
read_is gs ram base end (suc n) at (c ∷ cs) next h are size small fuel =
    let some = are.0.some in
    let here : chunk_of (head_at gs ram at) ≡ c = ap chunk_of h.0 ∙ chunk_back c (first_free base (at + c.size) cs next) are.0 (omega (arith, small)) in
    let rest : read gs ram end n (at + c.size) ≡ cs = read_is gs ram base end n (at + c.size) cs next h.1 are.1 (omega (arith, size)) (omega (arith, small)) (omega (arith, fuel, some)) in
    let test : nat_lt at end ≡ true = elim (lt_tells at end) [ inl e ↦ e.0 | inr e ↦ absurd (let ge = e.1 in omega (arith, ge, size, some)) ] in
    rw test (ap (λ (k : Chunk). k ∷ read gs ram end n (at + k.size)) here ∙ ap (λ r. c ∷ r) rest)

pub chunks_are : (r : Range) (gs : List Granule) (cs : List Chunk) → TiledBy r gs cs → chunks r gs ≡ cs
unfolding chunks
chunks_are r gs cs h =
    let size = h.size in
    let short = h.short in
    let even = h.even.2 in
    read_is gs r.ram r.base (r.base + r.length) r.length r.base cs NO_CHUNK h.lays h.are (omega (arith, size)) (omega (arith, size, short, even)) (omega (arith, size))

pub record Done (r : Range) (hs : List Granule) (cs : List Chunk) : Type 0 where
  pub tiled : Tiled r hs
  pub chunks_are : chunks r hs ≡ cs

pub done : (r : Range) (hs : List Granule) (cs : List Chunk) → TiledBy r hs cs → Done r hs cs
done r hs cs h = let is = chunks_are r hs cs h in record { tiled = subst (TiledBy r hs) (sym is) h; chunks_are = is }

-- ---- the chunk at an address

pub replaced_is : (f : Chunk → List Chunk) (p at : ℕ) (xs : List Chunk) (c : Chunk) (ys : List Chunk) → AreChunks xs → p ≡ at + total_size xs → replaced p f at (xs ++ c ∷ ys) ≡ xs ++ (f c ++ ys)
replaced_is f p at [] c ys are is = let here : nat_eq at p ≡ true = elim (eq_tells at p) [ inl e ↦ e.0 | inr e ↦ absurd (e.1 (omega (arith, is))) ] in rw here refl
replaced_is f p at (x ∷ xs) c ys are is =
    let some = are.0.some in
    let other : nat_eq at p ≡ false = elim (eq_tells at p) [ inl e ↦ absurd (let same = e.1 in omega (arith, is, same, some)) | inr e ↦ e.0 ] in
    rw other (ap (λ r. x ∷ r) (replaced_is f p (at + x.size) xs c ys are.1 (omega (arith, is))))

-- what is known of the chunk between these
pub record Sits (r : Range) (gs : List Granule) (at : ℕ) (above : List Chunk) (c : Chunk) (below : List Chunk) : Type 0 where
  pub head : head_at gs r.ram at ≡ head_of c (first_free r.base (at + c.size) below NO_CHUNK)
  pub shape : IsChunk c
  pub above_are : AreChunks above
  pub below_are : AreChunks below
  pub low : r.base ≤ at
  pub over : r.ram ≤ at
  pub eight : at % 8 ≡ 0
  pub even : (at - r.ram) % 8 ≡ 0
  pub sum : total_size above + (c.size + total_size below) ≡ r.length
  pub fits : at + c.size ≤ r.base + r.length
  pub inside : at + c.size ≤ r.ram + 8 * length gs
  pub small : c.size + 8 < 2 ^ 32

pub sits_by : (r : Range) (gs : List Granule) (at : ℕ) (above : List Chunk) (c : Chunk) (below : List Chunk) → TiledBy r gs (above ++ c ∷ below) → at ≡ r.base + total_size above → Sits r gs at above c below
sits_by r gs at above c below h place =
    let kinds = are_split above (c ∷ below) h.are in
    let both : total_size (above ++ c ∷ below) ≡ total_size above + (c.size + total_size below) = total_both above (c ∷ below) in
    let size = h.size in
    let e0 = h.even.0 in
    let e1 = h.even.1 in
    let e2 = h.even.2 in
    let over = h.above in
    let inside = h.inside in
    let short = h.short in
    let above_even = total_even above kinds.0 in
    let laid = lays_both gs r.ram r.base r.base above (c ∷ below) NO_CHUNK h.lays in
    record {
      head = rw place laid.1.0;
      shape = kinds.1.0;
      above_are = kinds.0;
      below_are = kinds.1.1;
      low = omega (arith, place);
      over = omega (arith, place, over);
      eight = omega (arith, place, above_even, e1);
      even = omega (arith, place, above_even, e0, e1, over);
      sum = omega (arith, both, size);
      fits = omega (arith, place, both, size);
      inside = omega (arith, place, both, size, inside);
      small = omega (arith, both, size, short, e2);
    }

pub sits : (r : Range) (gs : List Granule) (at : ℕ) → Tiled r gs → (s : ChunkStands r gs at) → Sits r gs at s.above s.chunk s.below
sits r gs at h s = sits_by r gs at s.above s.chunk s.below (subst (TiledBy r gs) s.whole h) s.place
