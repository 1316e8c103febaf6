-- Painting, chunk by chunk.
use Rattle.std.proofs.Common.{ℕ, ◌≡◌, ◌+◌, ◌-◌, ◌*◌, ◌/◌, ◌%◌, ◌^◌, ◌<◌, ◌≤◌, ◌⊎◌, inl, inr, Bool, true, false, nat_eq, List, [], ◌∷◌, ◌++◌, length, refl, sym, ap, ◌∙◌, arith, subst}
use Rattle.std.proofs.lemmas.List.{append_assoc, append-nil}
use Rattle.law_lists.proofs.Tests.{eq_tells}
use Rattle.def_memory.specs.declared.Granule.{Granule}
use Rattle.def_memory.specs.Granules.{plain, granule_at}
use Rattle.law_granules.proofs.Lists.{cap_rest}
use Rattle.def_memory.specs.Accesses.{stored_cap}
use Rattle.def_chunks.specs.declared.rows.Range.{Range}
use Rattle.def_chunks.specs.declared.rows.Head.{Head}
use Rattle.def_chunks.specs.Chunks.{Chunk, is_free, total_size, first_free, head_at, head_in, Starts, AreChunks, NoneTouch}
use Rattle.def_chunks.specs.Tiles.{chunks, Tiled, TilesSettled}
use Rattle.def_chunks.specs.Changes.{replaced, in_state, painted_chunk, all_painted, InUse, KeepsRest, OnlyHeads}
use Rattle.def_chunks.specs.Gaps.{ChunkStands, UsedStands}
use Rattle.def_chunks.specs.declared.heads.TheConstants.{NO_CHUNK}
use Rattle.law_chunks.proofs.Lays.{total_both, are_split}
use Rattle.law_chunks.proofs.Reading.{sits, head_tells}
use Rattle.law_chunks.proofs.Joins.{painted_free, painted_size, all_painted_apart}
use Rattle.law_chunks.proofs.Spares.{in_use_split, in_use_first, in_use_second, starts_second, starts_there, keeps_same, keeps_then, keeps_store, head_loose, spared_more, heads_same}
use Rattle.ct_chunks.proofs.Cuts.{become}

-- ---- one head

-- what is read of the chunk at an address
pub record Tells (r : Range) (gs : List Granule) (at : ℕ) (s : ChunkStands r gs at) : Type 0 where
  pub size : (head_in (head_at gs r.ram at)).size ≡ s.chunk.size
  pub state : (head_in (head_at gs r.ram at)).state ≡ s.chunk.state
  pub number : is_free s.chunk ≡ false → (head_in (head_at gs r.ram at)).rest ≡ s.chunk.number

pub tells : (r : Range) (gs : List Granule) (at : ℕ) (s : ChunkStands r gs at) → Tiled r gs → Tells r gs at s
tells r gs at s h =
    let k = sits r gs at h s in
    let told = head_tells s.chunk (first_free r.base (at + s.chunk.size) s.below NO_CHUNK) k.shape k.small in
    let same = ap head_in k.head in
    record {
      size = ap (λ (x : Head). x.size) same ∙ told.size;
      state = ap (λ (x : Head). x.state) same ∙ told.state;
      number = λ used. ap (λ (x : Head). x.rest) same ∙ told.rest ∙ rw used refl;
    }

pub size_told : (r : Range) (gs : List Granule) (at : ℕ) (x : Head) (s : ChunkStands r gs at) → Tiled r gs → x ≡ head_in (head_at gs r.ram at) → x.size ≡ s.chunk.size
size_told r gs at x s h is = ap (λ (y : Head). y.size) is ∙ (tells r gs at s h).size

-- a used chunk's head is written
pub state_keeps : (r : Range) (gs hs : List Granule) (at size number word : ℕ) → Tiled r gs → UsedStands r gs at size number → hs ≡ stored_cap gs (at - r.ram) (plain word) → KeepsRest r (chunks r gs) gs hs
state_keeps r gs hs at size number word h u is =
    let s = u.stands in
    let k = sits r gs at h s in
    let place = s.place in
    let starts : Starts at r.base (chunks r gs) = subst (Starts at r.base) (sym s.whole) (starts_second at r.base s.above (s.chunk ∷ s.below) (inl place)) in
    keeps_store r (chunks r gs) gs hs at (plain word) refl k.over k.even (head_loose r gs (chunks r gs) at h starts) is

pub state_elsewhere : (r : Range) (gs hs : List Granule) (at size number word : ℕ) → Tiled r gs → UsedStands r gs at size number → hs ≡ stored_cap gs (at - r.ram) (plain word) → (k : ℕ) → (r.ram + 8 * k ≡ at → ⊥) → granule_at hs k ≡ granule_at gs k
state_elsewhere r gs hs at size number word h u is k other =
    let s = sits r gs at h u.stands in
    let over = s.over in
    let even = s.even in
    ap (λ l. granule_at l k) is ∙ cap_rest gs (at - r.ram) (plain word) k (λ e. other (omega (arith, e, over, even)))

-- the quarantined chunk of a head
pub quarantined_stands : (r : Range) (gs : List Granule) (at : ℕ) (s : ChunkStands r gs at) → Tiled r gs → (head_in (head_at gs r.ram at)).state ≡ 2 → UsedStands r gs at (head_in (head_at gs r.ram at)).size (head_in (head_at gs r.ram at)).rest
quarantined_stands r gs at s h is =
    let t = tells r gs at s h in
    let state : s.chunk.state ≡ 2 = sym t.state ∙ is in
    let used : is_free s.chunk ≡ false = ap (λ n. nat_eq n 0) state in
    record { stands = s; is = used; size_is = sym t.size; number_is = sym (t.number used) }

-- ---- one chunk

-- a chunk was painted where it was quarantined
pub record Paints (r : Range) (gs hs : List Granule) (at : ℕ) : Type 0 where
  pub tiled : Tiled r hs
  pub chunks_are : chunks r hs ≡ replaced at (λ c. painted_chunk c ∷ []) r.base (chunks r gs)
  pub keeps : KeepsRest r (chunks r gs) gs hs

pub paints_it : (r : Range) (gs hs : List Granule) (at : ℕ) → Tiled r gs → ChunkStands r gs at → (head_in (head_at gs r.ram at)).state ≡ 2 → Tiled r hs → chunks r hs ≡ replaced at (in_state 3) r.base (chunks r gs) → KeepsRest r (chunks r gs) gs hs → Paints r gs hs at
paints_it r gs hs at h s is tiled now keeps =
    let t = tells r gs at s h in
    let state : s.chunk.state ≡ 2 = sym t.state ∙ is in
    let test : nat_eq s.chunk.state 2 ≡ true = ap (λ n. nat_eq n 2) state in
    let same : in_state 3 s.chunk ≡ painted_chunk s.chunk ∷ [] = rw test refl in
    record {
      tiled = tiled;
      chunks_are = now ∙ become r gs at s (in_state 3) h ∙ ap (λ (l : List Chunk). s.above ++ (l ++ s.below)) same ∙ sym (become r gs at s (λ c. painted_chunk c ∷ []) h);
      keeps = keeps;
    }

pub paints_none : (r : Range) (gs : List Granule) (at : ℕ) → Tiled r gs → ChunkStands r gs at → ((head_in (head_at gs r.ram at)).state ≡ 2 → ⊥) → Paints r gs gs at
paints_none r gs at h s not =
    let t = tells r gs at s h in
    let test : nat_eq s.chunk.state 2 ≡ false = elim (eq_tells s.chunk.state 2) [ inl e ↦ absurd (not (t.state ∙ e.1)) | inr e ↦ e.0 ] in
    let same : s.chunk ∷ [] ≡ painted_chunk s.chunk ∷ [] = rw test refl in
    record {
      tiled = h;
      chunks_are = s.whole ∙ ap (λ (l : List Chunk). s.above ++ (l ++ s.below)) same ∙ sym (become r gs at s (λ c. painted_chunk c ∷ []) h);
      keeps = keeps_same r (chunks r gs) gs gs refl;
    }

-- ---- all chunks

map_both : (xs ys : List Chunk) → all_painted (xs ++ ys) ≡ all_painted xs ++ all_painted ys
map_both [] ys = refl
map_both (x ∷ xs) ys = ap (λ l. painted_chunk x ∷ l) (map_both xs ys)

painted_total : (xs : List Chunk) → total_size (all_painted xs) ≡ total_size xs
painted_total [] = refl
painted_total (x ∷ xs) = let first = painted_size x in let rest = painted_total xs in omega (arith, first, rest)

use_painted : (p at : ℕ) (xs : List Chunk) → InUse p at xs → InUse p at (all_painted xs)
use_painted p at [] h = absurd h
use_painted p at (x ∷ xs) (inl h) = let size = painted_size x in let high = h.2 in inl (painted_free x ∙ h.0, h.1, omega (arith, size, high))
use_painted p at (x ∷ xs) (inr h) = let size = painted_size x in inr (rw size (use_painted p (at + x.size) xs h))

starts_painted : (p at : ℕ) (xs : List Chunk) → Starts p at xs → Starts p at (all_painted xs)
starts_painted p at [] h = absurd h
starts_painted p at (x ∷ xs) (inl h) = inl h
starts_painted p at (x ∷ xs) (inr h) = let size = painted_size x in inr (rw size (starts_painted p (at + x.size) xs h))

-- so much is left to be painted
pub record Painting (r : Range) (gs hs : List Granule) (left : ℕ) : Type 0 where
  pub above : List Chunk
  pub rest : List Chunk
  pub whole : chunks r gs ≡ above ++ rest
  pub left_is : left ≡ total_size rest
  pub tiled : Tiled r hs
  pub now : chunks r hs ≡ all_painted above ++ rest
  pub keeps : KeepsRest r (chunks r gs) gs hs
  pub heads : OnlyHeads r (chunks r gs) gs hs

pub painting_starts : (r : Range) (gs : List Granule) → Tiled r gs → Painting r gs gs r.length
painting_starts r gs h = record { above = []; rest = chunks r gs; whole = refl; left_is = sym h.size; tiled = h; now = refl; keeps = keeps_same r (chunks r gs) gs gs refl; heads = heads_same r (chunks r gs) gs gs refl }

-- where the next one stands
pub painting_stands : (r : Range) (gs hs : List Granule) (left : ℕ) → Painting r gs hs left → (left ≡ 0 → ⊥) → ChunkStands r hs (r.base + (r.length - left))
painting_stands r gs hs left w some = first w.rest w.now w.left_is
  where
    first : (rest : List Chunk) → chunks r hs ≡ all_painted w.above ++ rest → left ≡ total_size rest → ChunkStands r hs (r.base + (r.length - left))
    first [] now is = absurd (some is)
    first (c ∷ cs) now is =
        let both = total_both (all_painted w.above) (c ∷ cs) in
        let sum = sym (ap total_size now) ∙ w.tiled.size in
        record { above = all_painted w.above; chunk = c; below = cs; whole = now; place = omega (arith, both, sum, is) }

-- what the code has to know of it
pub record Ahead (r : Range) (left : ℕ) : Type 0 where
  pub most : left ≤ r.length
  pub fits : r.base + (r.length - left) < 2 ^ 32

pub painting_ahead : (r : Range) (gs hs : List Granule) (left : ℕ) → Painting r gs hs left → (left ≡ 0 → ⊥) → Ahead r left
painting_ahead r gs hs left w some =
    let s = painting_stands r gs hs left w some in
    let k = sits r hs (r.base + (r.length - left)) w.tiled s in
    let fits = k.fits in
    let wide = k.shape.some in
    let small = w.tiled.small in
    let both = total_both (all_painted w.above) w.rest in
    let sum = sym (ap total_size w.now) ∙ w.tiled.size in
    let is = w.left_is in
    record { most = omega (arith, both, sum, is); fits = omega (arith, fits, small, wide) }

-- one more
pub record Painted (r : Range) (gs ks : List Granule) (left size : ℕ) : Type 0 where
  pub most : size ≤ left
  pub some : 8 ≤ size
  pub goes_on : Painting r gs ks (left - size)

pub painting_step : (r : Range) (gs hs ks : List Granule) (left size : ℕ) → Painting r gs hs left → (left ≡ 0 → ⊥) → size ≡ (head_in (head_at hs r.ram (r.base + (r.length - left)))).size
    → Tiled r ks → chunks r ks ≡ replaced (r.base + (r.length - left)) (λ c. painted_chunk c ∷ []) r.base (chunks r hs) → KeepsRest r (chunks r hs) hs ks → ((k : ℕ) → (r.ram + 8 * k ≡ r.base + (r.length - left) → ⊥) → granule_at ks k ≡ granule_at hs k) → Painted r gs ks left size
painting_step r gs hs ks left size w some size_is tiled is keeps elsewhere = step w.rest w.whole w.now w.left_is
  where
    step : (rest : List Chunk) → chunks r gs ≡ w.above ++ rest → chunks r hs ≡ all_painted w.above ++ rest → left ≡ total_size rest → Painted r gs ks left size
    step [] whole now left_is = absurd (some left_is)
    step (c ∷ cs) whole now left_is =
        let both = total_both (all_painted w.above) (c ∷ cs) in
        let sum = sym (ap total_size now) ∙ w.tiled.size in
        let at : ℕ = r.base + (r.length - left) in
        let s : ChunkStands r hs at = record { above = all_painted w.above; chunk = c; below = cs; whole = now; place = omega (arith, both, sum, left_is) } in
        let k = sits r hs at w.tiled s in
        let size_c : size ≡ c.size = size_is ∙ (tells r hs at s w.tiled).size in
        let wide = k.shape.some in
        let next : chunks r ks ≡ all_painted (w.above ++ c ∷ []) ++ cs =
        is ∙ become r hs at s (λ x. painted_chunk x ∷ []) w.tiled
        ∙ sym (append_assoc (all_painted w.above) (painted_chunk c ∷ []) cs) ∙ ap (λ (l : List Chunk). l ++ cs) (sym (map_both w.above (c ∷ []))) in
        let more : (p : ℕ) → InUse p r.base (chunks r gs) → InUse p r.base (chunks r hs) = λ p used.
        subst (InUse p r.base) (sym now) (elim (in_use_split p r.base w.above (c ∷ cs) (subst (InUse p r.base) whole used)) [
          | inl a ↦ in_use_first p r.base (all_painted w.above) (c ∷ cs) (use_painted p r.base w.above a)
          | inr b ↦ in_use_second p r.base (all_painted w.above) (c ∷ cs) (rw (painted_total w.above) b)
        ]) in
        record {
          most = omega (arith, size_c, left_is);
          some = omega (arith, size_c, wide);
          goes_on = record {
            above = w.above ++ c ∷ [];
            rest = cs;
            whole = whole ∙ sym (append_assoc w.above (c ∷ []) cs);
            left_is = omega (arith, left_is, size_c);
            tiled = tiled;
            now = next;
            keeps = keeps_then r (chunks r gs) (chunks r hs) gs hs ks (spared_more r (chunks r gs) (chunks r hs) more) w.keeps keeps;
            heads = λ k away. elsewhere k (λ here. away (subst (Starts (r.ram + 8 * k) r.base) (sym whole) (starts_there (r.ram + 8 * k) r.base w.above c cs (let same = painted_total w.above in omega (arith, here, both, sum, left_is, same))))) ∙ w.heads k away;
          };
        }

-- all of them
pub record AllPainted (r : Range) (gs hs : List Granule) : Type 0 where
  pub settled : TilesSettled r hs
  pub chunks_are : chunks r hs ≡ all_painted (chunks r gs)
  pub keeps : KeepsRest r (chunks r gs) gs hs
  pub heads : OnlyHeads r (chunks r hs) gs hs

pub painting_ends : (r : Range) (gs hs : List Granule) (left : ℕ) → TilesSettled r gs → Painting r gs hs left → left ≡ 0 → AllPainted r gs hs
painting_ends r gs hs left h w none = all w.rest w.whole w.now w.left_is (are_split w.above w.rest (subst AreChunks w.whole h.tiled.are)).1
  where
    all : (rest : List Chunk) → chunks r gs ≡ w.above ++ rest → chunks r hs ≡ all_painted w.above ++ rest → left ≡ total_size rest → AreChunks rest → AllPainted r gs hs
    all [] whole now is are =
        let old : chunks r gs ≡ w.above = whole ∙ append-nil w.above in
        let new : chunks r hs ≡ all_painted (chunks r gs) = now ∙ append-nil (all_painted w.above) ∙ ap all_painted (sym old) in
        record { settled = record { tiled = w.tiled; apart = subst NoneTouch (sym new) (all_painted_apart (chunks r gs) h.apart) }; chunks_are = new; keeps = w.keeps; heads = λ k away. w.heads k (λ head. away (subst (Starts (r.ram + 8 * k) r.base) (sym new) (starts_painted (r.ram + 8 * k) r.base (chunks r gs) head))) }
    all (c ∷ cs) whole now is are = absurd (let wide = are.0.some in omega (arith, is, none, wide))
