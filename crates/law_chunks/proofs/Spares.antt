-- What a change of heads and free chunks leaves alone.
use Rattle.std.proofs.Common.{ℕ, zero, suc, ◌≡◌, ◌+◌, ◌-◌, ◌*◌, ◌/◌, ◌%◌, ◌^◌, ◌<◌, ◌≤◌, ◌⊎◌, inl, inr, Bool, true, false, cond, nat_eq, List, [], ◌∷◌, ◌++◌, length, refl, sym, ap, ◌∙◌, arith, subst}
use Rattle.std.proofs.lemmas.Bool.{cases_eq}
use Rattle.law_lists.proofs.Sets.{after_set_at}
use Rattle.law_lists.proofs.Tests.{lt_tells, le_tells}
use Rattle.def_words.specs.declared.Cap.{Cap}
use Rattle.def_memory.specs.declared.Granule.{Granule}
use Rattle.def_memory.specs.Granules.{nothing, granule_at}
use Rattle.def_memory.specs.Accesses.{stored_cap}
use Rattle.def_memory.specs.Ranges.{IsZeroed}
use Rattle.law_granules.proofs.Lists.{cap_rest, cap_marks}
use Rattle.def_chunks.specs.declared.rows.Range.{Range}
use Rattle.def_chunks.specs.Chunks.{Chunk, is_free, total_size, Starts, AreChunks}
use Rattle.def_chunks.specs.Tiles.{TiledBy}
use Rattle.def_chunks.specs.Changes.{InUse, Spared, KeepsRest, NoTagComes, OnlyHeads}
use Rattle.law_chunks.proofs.Lays.{starts_low, starts_high}
use Rattle.law_chunks.proofs.Carves.{store_length}

-- ---- addresses in use

pub in_use_low : (p at : ℕ) (cs : List Chunk) → InUse p at cs → at + 8 ≤ p
in_use_low p at [] h = absurd h
in_use_low p at (c ∷ cs) (inl h) = h.1
in_use_low p at (c ∷ cs) (inr h) = let rest = in_use_low p (at + c.size) cs h in omega (arith, rest)

pub in_use_high : (p at : ℕ) (cs : List Chunk) → InUse p at cs → p < at + total_size cs
in_use_high p at [] h = absurd h
in_use_high p at (c ∷ cs) (inl h) = let here = h.2 in omega (arith, here)
in_use_high p at (c ∷ cs) (inr h) = let rest = in_use_high p (at + c.size) cs h in omega (arith, rest)

pub in_use_split : (p at : ℕ) (xs ys : List Chunk) → InUse p at (xs ++ ys) → InUse p at xs ⊎ InUse p (at + total_size xs) ys
in_use_split p at [] ys h = let here : at + 0 ≡ at = omega arith in inr (rw here h)
in_use_split p at (x ∷ xs) ys (inl h) = inl (inl h)
in_use_split p at (x ∷ xs) ys (inr h) =
    let there : at + (x.size + total_size xs) ≡ at + x.size + total_size xs = omega arith in
    elim (in_use_split p (at + x.size) xs ys h) [ inl k ↦ inl (inr k) | inr k ↦ inr (rw there k) ]

pub in_use_first : (p at : ℕ) (xs ys : List Chunk) → InUse p at xs → InUse p at (xs ++ ys)
in_use_first p at [] ys h = absurd h
in_use_first p at (x ∷ xs) ys (inl h) = inl h
in_use_first p at (x ∷ xs) ys (inr h) = inr (in_use_first p (at + x.size) xs ys h)

pub in_use_second : (p at : ℕ) (xs ys : List Chunk) → InUse p (at + total_size xs) ys → InUse p at (xs ++ ys)
in_use_second p at [] ys h = let here : at + 0 ≡ at = omega arith in rw here at h
in_use_second p at (x ∷ xs) ys h =
    let there : at + (x.size + total_size xs) ≡ at + x.size + total_size xs = omega arith in
    inr (in_use_second p (at + x.size) xs ys (rw there at h))

-- ---- and those that aren't

-- a head
pub head_unused : (p at : ℕ) (cs : List Chunk) → AreChunks cs → Starts p at cs → InUse p at cs → ⊥
head_unused p at [] are s h = absurd s
head_unused p at (c ∷ cs) are (inl s) (inl h) = let low = h.1 in omega (arith, s, low)
head_unused p at (c ∷ cs) are (inl s) (inr h) = let low = in_use_low p (at + c.size) cs h in omega (arith, s, low)
head_unused p at (c ∷ cs) are (inr s) (inl h) = let low = starts_low p (at + c.size) cs s in let high = h.2 in omega (arith, low, high)
head_unused p at (c ∷ cs) are (inr s) (inr h) = head_unused p (at + c.size) cs are.1 s h

pub starts_first : (p at : ℕ) (xs ys : List Chunk) → Starts p at xs → Starts p at (xs ++ ys)
starts_first p at [] ys h = absurd h
starts_first p at (x ∷ xs) ys (inl h) = inl h
starts_first p at (x ∷ xs) ys (inr h) = inr (starts_first p (at + x.size) xs ys h)

pub starts_second : (p at : ℕ) (xs ys : List Chunk) → Starts p (at + total_size xs) ys → Starts p at (xs ++ ys)
starts_second p at [] ys h = let here : at + 0 ≡ at = omega arith in rw here at h
starts_second p at (x ∷ xs) ys h =
    let there : at + (x.size + total_size xs) ≡ at + x.size + total_size xs = omega arith in
    inr (starts_second p (at + x.size) xs ys (rw there at h))

pub starts_split : (p at : ℕ) (xs ys : List Chunk) → Starts p at (xs ++ ys) → Starts p at xs ⊎ Starts p (at + total_size xs) ys
starts_split p at [] ys h = let here : at + 0 ≡ at = omega arith in inr (rw here h)
starts_split p at (x ∷ xs) ys (inl h) = inl (inl h)
starts_split p at (x ∷ xs) ys (inr h) =
    let there : at + (x.size + total_size xs) ≡ at + x.size + total_size xs = omega arith in
    elim (starts_split p (at + x.size) xs ys h) [ inl k ↦ inl (inr k) | inr k ↦ inr (rw there k) ]

-- the chunk after these
pub starts_there : (p at : ℕ) (xs : List Chunk) (c : Chunk) (ys : List Chunk) → p ≡ at + total_size xs → Starts p at (xs ++ c ∷ ys)
starts_there p at xs c ys is = starts_second p at xs (c ∷ ys) (inl is)

-- a granule of a free chunk
pub free_unused : (p at : ℕ) (xs : List Chunk) (c : Chunk) (ys : List Chunk) → is_free c ≡ true → at + total_size xs ≤ p → p < at + total_size xs + c.size → InUse p at (xs ++ c ∷ ys) → ⊥
free_unused p at xs c ys free_ low high h = elim (in_use_split p at xs (c ∷ ys) h) [
  | inl k ↦ (let below = in_use_high p at xs k in omega (arith, below, low))
  | inr k ↦ elim k [
    | inl here ↦ (let used = here.0 in let clash : true ≡ false = sym free_ ∙ used in cc)
    | inr later ↦ (let over = in_use_low p (at + total_size xs + c.size) ys later in omega (arith, over, high))
  ]
]

-- ---- changes

pub no_tag_then : (gs ms hs : List Granule) → NoTagComes gs ms → NoTagComes ms hs → NoTagComes gs hs
no_tag_then gs ms hs a b = λ k tagged. (let same = b k tagged in same ∙ a k (ap (λ (c : Cap). c.tag) (sym same) ∙ tagged))

pub zeroed_tags : (from to : ℕ) (gs hs : List Granule) → IsZeroed from to gs hs → NoTagComes gs hs
zeroed_tags from to gs hs z = λ k tagged. elim (le_tells from (8 * k)) [
  | inl a ↦ elim (lt_tells (8 * k) to) [
    | inl b ↦ absurd (let blank_ = ap (λ (g : Granule). g.cap.tag) (z.zero k (a.1, b.1)) in let clash : true ≡ false = sym tagged ∙ blank_ in cc)
    | inr b ↦ ap (λ (g : Granule). g.cap) (z.rest k (inr b.1))
  ]
  | inr a ↦ ap (λ (g : Granule). g.cap) (z.rest k (inl a.1))
]

plain_stored : (gs : List Granule) (at : ℕ) (c : Cap) → c.tag ≡ false → NoTagComes gs (stored_cap gs at c)
plain_stored gs at c untagged = λ k.
    let P : ℕ → Granule → Type 0 = λ n g. g.cap.tag ≡ true → g.cap ≡ (granule_at gs n).cap in
    after_set_at P gs (at / 8) k (record { cap = c; mark = (granule_at gs (at / 8)).mark }) nothing (λ tagged. absurd (let clash : true ≡ false = sym tagged ∙ untagged in cc)) (λ tagged. refl)

pub keeps_same : (r : Range) (cs : List Chunk) (gs hs : List Granule) → hs ≡ gs → KeepsRest r cs gs hs
keeps_same r cs gs hs same = record { size = ap length same; marks = λ k. ap (λ l. (granule_at l k).mark) same; tags = λ k tagged. ap (λ l. (granule_at l k).cap) same; rest = λ k spared. ap (λ l. granule_at l k) same }

pub keeps_then : (r : Range) (cs ds : List Chunk) (gs ms hs : List Granule) → ((p : ℕ) → Spared r cs p → Spared r ds p) → KeepsRest r cs gs ms → KeepsRest r ds ms hs → KeepsRest r cs gs hs
keeps_then r cs ds gs ms hs spared a b = record {
  size = b.size ∙ a.size;
  marks = λ k. b.marks k ∙ a.marks k;
  tags = no_tag_then gs ms hs a.tags b.tags;
  rest = λ k s. b.rest k (spared (r.ram + 8 * k) s) ∙ a.rest k s;
}

-- a plain word is written in a granule that isn't spared
pub keeps_store : (r : Range) (cs : List Chunk) (gs hs : List Granule) (at : ℕ) (c : Cap) → c.tag ≡ false → r.ram ≤ at → (at - r.ram) % 8 ≡ 0 → (Spared r cs at → ⊥) → hs ≡ stored_cap gs (at - r.ram) c → KeepsRest r cs gs hs
keeps_store r cs gs hs at c untagged over even loose is = record {
  size = ap length is ∙ store_length gs (at - r.ram) c;
  marks = λ k. ap (λ l. (granule_at l k).mark) is ∙ cap_marks gs (at - r.ram) c k;
  tags = subst (NoTagComes gs) (sym is) (plain_stored gs (at - r.ram) c untagged);
  rest = λ k s. ap (λ l. granule_at l k) is ∙ cap_rest gs (at - r.ram) c k (λ e. loose (let same : r.ram + 8 * k ≡ at = omega (arith, e, over, even) in subst (Spared r cs) same s));
}

-- an address in the heap that is not in use isn't spared
pub loose : (r : Range) (cs : List Chunk) (p : ℕ) → r.base ≤ p → p < r.base + r.length → (InUse p r.base cs → ⊥) → Spared r cs p → ⊥
loose r cs p low high unused s = elim s [
  | inl a ↦ omega (arith, a, low)
  | inr (inl b) ↦ omega (arith, b, high)
  | inr (inr k) ↦ unused k
]

pub head_loose : (r : Range) (gs : List Granule) (cs : List Chunk) (p : ℕ) → TiledBy r gs cs → Starts p r.base cs → Spared r cs p → ⊥
head_loose r gs cs p h s =
    let low = starts_low p r.base cs s in
    let high = starts_high p r.base cs h.are s in
    let size = h.size in
    loose r cs p (omega (arith, low)) (omega (arith, high, size)) (head_unused p r.base cs h.are s)

-- what is spared of these chunks is spared of those
pub spared_more : (r : Range) (cs ds : List Chunk) → ((p : ℕ) → InUse p r.base cs → InUse p r.base ds) → (p : ℕ) → Spared r cs p → Spared r ds p
spared_more r cs ds more p s = elim s [ inl a ↦ inl a | inr (inl b) ↦ inr (inl b) | inr (inr k) ↦ inr (inr (more p k)) ]

-- ---- heads alone

pub heads_same : (r : Range) (cs : List Chunk) (gs hs : List Granule) → hs ≡ gs → OnlyHeads r cs gs hs
heads_same r cs gs hs same = λ k away. ap (λ l. granule_at l k) same

-- the heads of these are heads of those
pub heads_then : (r : Range) (cs ds : List Chunk) (gs ms hs : List Granule) → ((p : ℕ) → Starts p r.base cs → Starts p r.base ds) → OnlyHeads r cs gs ms → OnlyHeads r ds ms hs → OnlyHeads r ds gs hs
heads_then r cs ds gs ms hs more a b = λ k away. b k away ∙ a k (λ s. away (more (r.ram + 8 * k) s))

-- a head is written
pub heads_store : (r : Range) (cs : List Chunk) (gs hs : List Granule) (at : ℕ) (c : Cap) → r.ram ≤ at → (at - r.ram) % 8 ≡ 0 → Starts at r.base cs → hs ≡ stored_cap gs (at - r.ram) c → OnlyHeads r cs gs hs
heads_store r cs gs hs at c over even starts is = λ k away.
    ap (λ l. granule_at l k) is ∙ cap_rest gs (at - r.ram) c k (λ e. away (let same : at ≡ r.ram + 8 * k = omega (arith, e, over, even) in subst (λ p. Starts p r.base cs) same starts))
