-- The first chunk.
use Rattle.std.proofs.Common.{ℕ, zero, suc, ◌≡◌, ◌+◌, ◌-◌, ◌*◌, ◌/◌, ◌%◌, ◌^◌, ◌<◌, ◌≤◌, inl, inr, true, false, nat_eq, List, [], ◌∷◌, length, replicate, refl, sym, ap, ◌∙◌, arith, subst}
use Rattle.std.proofs.Math.ListN.{get_or}
use Rattle.std.proofs.lemmas.List.{get_or-replicate, length-replicate, length-map}
use Rattle.law_lists.proofs.Tests.{bool_tells, lt_tells}
use Rattle.def_memory.specs.declared.Granule.{Granule}
use Rattle.def_memory.specs.Granules.{plain}
use Rattle.def_memory.specs.Accesses.{stored_cap}
use Rattle.def_machine.specs.Objects.{charges}
use Rattle.def_chunks.specs.declared.heads.TheConstants.{NO_CHUNK}
use Rattle.def_chunks.specs.declared.rows.Range.{Range}
use Rattle.def_chunks.specs.declared.rows.Account.{Account}
use Rattle.def_chunks.specs.Chunks.{Chunk, total_size, head_at, Starts, NoneTouch}
use Rattle.def_chunks.specs.Tiles.{chunks, TiledBy, TilesSettled}
use Rattle.def_chunks.specs.Changes.{free_chunk, KeepsRest, OnlyHeads}
use Rattle.def_chunks.specs.Heaps.{HeapRow, account, no_account, begins_used_chunk, object_name_at, is_used_at, objects_in, objects_of, Laid}
use Rattle.law_chunks.proofs.Reading.{chunks_are}
use Rattle.law_chunks.proofs.Carves.{head_same, store_length}
use Rattle.law_chunks.proofs.Spares.{keeps_store, loose, heads_store}
use Rattle.ct_heap.specs.Effects.{Empty, accounts_for, Stays, Same}

-- ---- what an empty heap keeps

none_charged : (limits : List ℕ) (q : ℕ) → (get_or (accounts_for limits) q no_account).charged ≡ 0
none_charged [] q = refl
none_charged (x ∷ xs) zero = refl
none_charged (x ∷ xs) (suc q) = none_charged xs q

zeros : (z n k : ℕ) → get_or (replicate n z) k z ≡ z
zeros z n k = elim (lt_tells k n) [
  | inl e ↦ get_or-replicate n k z z e.1
  | inr e ↦ past (replicate n z) k (let le = e.1 in let size : length (replicate n z) ≡ n = length-replicate n z in omega (arith, le, size))
]
  where
    past : (xs : List ℕ) (k : ℕ) → length xs ≤ k → get_or xs k z ≡ z
    past [] k le = refl
    past (x ∷ xs) zero le = absurd (omega (arith, le))
    past (x ∷ xs) (suc k) le = past xs k (omega (arith, le))

-- a heap over chunks of which none is used
pub record Bare (h n : HeapRow) (hs : List Granule) (cs : List Chunk) : Type 0 where
  pub settled : TilesSettled n.range hs
  pub chunks_are : chunks n.range hs ≡ cs
  pub rows : objects_in n.names n.range.base n.range.base cs ≡ []
  pub unused : (p : ℕ) → is_used_at p n.range.base cs ≡ false
  pub length_is : n.range.length ≡ h.range.length
  pub names : n.names ≡ h.names
  pub accounts : n.accounts ≡ h.accounts
  pub next : n.next ≡ h.next
  pub waiting : n.waiting ≡ h.waiting

pub record LayDone (n : HeapRow) (hs : List Granule) : Type 0 where
  pub laid : Laid n hs
  pub objects : objects_of n hs ≡ []

bare_laid : (h n : HeapRow) (hs : List Granule) (cs : List Chunk) → Empty h → Bare h n hs cs → LayDone n hs
unfolding objects_of
bare_laid h n hs cs e b =
    let rows : objects_in n.names n.range.base n.range.base (chunks n.range hs) ≡ [] = ap (λ x. objects_in n.names n.range.base n.range.base x) b.chunks_are ∙ b.rows in
    let names : n.names ≡ replicate (h.range.length / 16) 0 = b.names ∙ ap (λ (x : HeapRow). x.names) e.is in
    let accounts : n.accounts ≡ accounts_for e.limits = b.accounts ∙ ap (λ (x : HeapRow). x.accounts) e.is in
    let waiting : n.waiting ≡ 0 = b.waiting ∙ ap (λ (x : HeapRow). x.waiting) e.is in
    let charged : (q : ℕ) → (account n q).charged ≡ 0 = λ q. ap (λ a. (get_or a q no_account).charged) accounts ∙ none_charged e.limits q in
    record {
      laid = record {
        settled = b.settled;
        slots = ap length names ∙ length-replicate (h.range.length / 16) 0 ∙ ap (λ x. x / 16) (sym b.length_is);
        named = λ o even. (
            let none : object_name_at n.names o ≡ 0 = ap (λ x. get_or x (o / 16) 0) names ∙ zeros 0 (h.range.length / 16) (o / 16) in
            let not_named : begins_used_chunk n.names o ≡ false = rw none refl in
            not_named ∙ sym (ap (λ x. is_used_at (n.range.base + o) n.range.base x) b.chunks_are ∙ b.unused (n.range.base + o))
            );
        quotas = rw rows tt;
        few = (let few = e.few in let size : length n.accounts ≡ length e.limits = ap length accounts ∙ length-map e.limits (λ limit. let a : Account = record { limit = limit; charged = 0 } in a) in omega (arith, few, size));
        charged = λ q. charged q ∙ ap (charges q) (sym rows);
        within = λ q. (let none = charged q in omega (arith, none));
        numbers = rw rows tt;
        distinct = rw rows tt;
        waiting = waiting ∙ rw rows refl;
      };
      objects = rows;
    }

-- ---- one free chunk

pub lay_some : (h n : HeapRow) (gs hs : List Granule) → Empty h → (h.range.length ≡ 0 → ⊥) → h.range.base + h.range.length ≤ h.range.ram + 8 * length gs
    → hs ≡ stored_cap gs (h.range.base - h.range.ram) (plain (h.range.length + NO_CHUNK * 2 ^ 32)) → n ≡ record h { range = record h.range { first = 0 } } → LayDone n hs
lay_some h n gs hs e some inside is n_is =
    let q : Range = record h.range { first = 0 } in
    let bytes : ℕ = h.range.length in
    let c : Chunk = free_chunk bytes in
    let even = e.even in
    let e0 = even.0 in
    let e1 = even.1 in
    let e2 = even.2 in
    let above = e.above in
    let short = e.short in
    let size : length hs ≡ length gs = ap length is ∙ store_length gs (h.range.base - h.range.ram) (plain (bytes + NO_CHUNK * 2 ^ 32)) in
    let wide : 16 ≤ bytes = sixteen bytes e2 some in
    let sum : bytes + NO_CHUNK * 2 ^ 32 ≡ bytes + 0 + NO_CHUNK * 2 ^ 32 = omega arith in
    let head : head_at hs h.range.ram h.range.base ≡ plain (bytes + 0 + NO_CHUNK * 2 ^ 32) =
    ap (λ l. head_at l h.range.ram h.range.base) is ∙ head_same gs h.range.ram h.range.base (plain (bytes + NO_CHUNK * 2 ^ 32)) above (omega (arith, e0, e1, above)) (omega (arith, inside, wide)) ∙ ap plain sum in
    let tiled : TiledBy q hs (c ∷ []) = record {
      even = even;
      above = above;
      short = short;
      small = e.small;
      inside = omega (arith, inside, size);
      lays = (head, tt);
      are = (record { whole = omega (arith, e2); some = omega (arith, wide); used = λ u. absurd (let clash : true ≡ false = u in cc); states = omega arith; number = omega arith; blank = λ f. refl }, tt);
      size = omega arith;
      first = omega arith;
    } in
    let list : chunks q hs ≡ c ∷ [] = chunks_are q hs (c ∷ []) tiled in
    let settled : TilesSettled q hs = record { tiled = subst (TiledBy q hs) (sym list) tiled; apart = subst NoneTouch (sym list) ((λ f. tt, tt)) } in
    let range : n.range ≡ q = ap (λ (x : HeapRow). x.range) n_is in
    bare_laid h n hs (c ∷ []) e (record {
      settled = subst (λ (x : Range). TilesSettled x hs) (sym range) settled;
      chunks_are = ap (λ (x : Range). chunks x hs) range ∙ list;
      rows = refl;
      unused = λ p. elim (bool_tells (nat_eq n.range.base p)) [ inl x ↦ rw x refl | inr x ↦ rw x refl ];
      length_is = ap (λ (x : Range). x.length) range;
      names = ap (λ (x : HeapRow). x.names) n_is;
      accounts = ap (λ (x : HeapRow). x.accounts) n_is;
      next = ap (λ (x : HeapRow). x.next) n_is;
      waiting = ap (λ (x : HeapRow). x.waiting) n_is;
    })
  where
    sixteen : (n : ℕ) → n % 16 ≡ 0 → (n ≡ 0 → ⊥) → 16 ≤ n
    sixteen n even other = elim (lt_tells n 16) [
      | inr a ↦ a.1
      | inl a ↦ absurd (other (let lt = a.1 in omega (arith, lt, even)))
    ]

pub lay_none : (h n : HeapRow) (gs hs : List Granule) → Empty h → h.range.length ≡ 0 → h.range.base + h.range.length ≤ h.range.ram + 8 * length gs → hs ≡ gs → n ≡ h → LayDone n hs
lay_none h n gs hs e none inside is n_is =
    let q : Range = h.range in
    let size : length hs ≡ length gs = ap length is in
    let first : q.first ≡ NO_CHUNK = e.first in
    let tiled : TiledBy q hs [] = record {
      even = e.even;
      above = e.above;
      short = e.short;
      small = e.small;
      inside = omega (arith, inside, size);
      lays = tt;
      are = tt;
      size = sym none;
      first = first;
    } in
    let list : chunks q hs ≡ [] = chunks_are q hs [] tiled in
    let settled : TilesSettled q hs = record { tiled = subst (TiledBy q hs) (sym list) tiled; apart = subst NoneTouch (sym list) tt } in
    let range : n.range ≡ q = ap (λ (x : HeapRow). x.range) n_is in
    bare_laid h n hs [] e (record {
      settled = subst (λ (x : Range). TilesSettled x hs) (sym range) settled;
      chunks_are = ap (λ (x : Range). chunks x hs) range ∙ list;
      rows = refl;
      unused = λ p. refl;
      length_is = ap (λ (x : Range). x.length) range;
      names = ap (λ (x : HeapRow). x.names) n_is;
      accounts = ap (λ (x : HeapRow). x.accounts) n_is;
      next = ap (λ (x : HeapRow). x.next) n_is;
      waiting = ap (λ (x : HeapRow). x.waiting) n_is;
    })

-- ---- what else stays

pub lay_stays : (h : HeapRow) (gs hs : List Granule) → Empty h → (h.range.length ≡ 0 → ⊥)
    → hs ≡ stored_cap gs (h.range.base - h.range.ram) (plain (h.range.length + NO_CHUNK * 2 ^ 32)) → Stays h.range [] gs hs
lay_stays h gs hs e some is =
    let e0 = e.even.0 in
    let e1 = e.even.1 in
    let above = e.above in
    let keeps : KeepsRest h.range [] gs hs = keeps_store h.range [] gs hs h.range.base (plain (h.range.length + NO_CHUNK * 2 ^ 32)) refl above (omega (arith, e0, e1, above))
    (loose h.range [] h.range.base (omega arith) (more h.range.length h.range.base some) (λ u. absurd u)) is in
    record {
      size = keeps.size;
      marks = keeps.marks;
      tags = keeps.tags;
      rest = λ k s. keeps.rest k (elim s [ inl a ↦ inl a | inr (inl b) ↦ inr (inl b) | inr (inr x) ↦ absurd (let clash : false ≡ true = x in cc) ]);
    }
  where
    more : (n base : ℕ) → (n ≡ 0 → ⊥) → base < base + n
    more zero base other = absurd (other refl)
    more (suc n) base other = omega arith

pub lay_heads : (h n : HeapRow) (gs hs : List Granule) → Empty h → (h.range.length ≡ 0 → ⊥)
    → hs ≡ stored_cap gs (h.range.base - h.range.ram) (plain (h.range.length + NO_CHUNK * 2 ^ 32)) → n.range.length ≡ h.range.length → Laid n hs → OnlyHeads h.range (chunks n.range hs) gs hs
lay_heads h n gs hs e some is length_is l =
    let e0 = e.even.0 in
    let e1 = e.even.1 in
    let above = e.above in
    let size = l.settled.tiled.size in
    heads_store h.range (chunks n.range hs) gs hs h.range.base (plain (h.range.length + NO_CHUNK * 2 ^ 32)) above (omega (arith, e0, e1, above)) (begins h.range.base (chunks n.range hs) (λ none. some (sym (size ∙ length_is) ∙ none))) is
  where
    begins : (at : ℕ) (cs : List Chunk) → (total_size cs ≡ 0 → ⊥) → Starts at at cs
    begins at [] other = absurd (other refl)
    begins at (c ∷ cs) other = inl refl

-- ---- the whole

pub record LayAll (h n : HeapRow) (gs hs : List Granule) : Type 0 where
  pub laid : Laid n hs
  pub objects : objects_of n hs ≡ []
  pub heads : OnlyHeads h.range (chunks n.range hs) gs hs
  pub stays : Stays h.range [] gs hs
  pub same : Same h n
  pub next : n.next ≡ 1

-- where the head has to stand
pub record LayRoom (h : HeapRow) (gs : List Granule) : Type 0 where
  pub above : h.range.ram ≤ h.range.base
  pub even : (h.range.base - h.range.ram) % 8 ≡ 0
  pub inside : h.range.base - h.range.ram + 8 ≤ 8 * length gs

pub lay_room : (h row : HeapRow) (gs : List Granule) → row ≡ h → Empty h → (h.range.length ≡ 0 → ⊥) → h.range.base + h.range.length ≤ h.range.ram + 8 * length gs → LayRoom row gs
lay_room h row gs is e some inside =
    let e0 = e.even.0 in
    let e1 = e.even.1 in
    let e2 = e.even.2 in
    let above = e.above in
    let wide : 16 ≤ h.range.length = elim (lt_tells h.range.length 16) [ inr a ↦ a.1 | inl a ↦ absurd (let lt = a.1 in some (omega (arith, lt, e2))) ] in
    subst (λ (x : HeapRow). LayRoom x gs) (sym is) (record { above = above; even = omega (arith, e0, e1, above); inside = omega (arith, inside, wide, above) })

next_is : (h : HeapRow) → Empty h → h.next ≡ 1
next_is h e = ap (λ (x : HeapRow). x.next) e.is

first_moved : (h n : HeapRow) (first : ℕ) → n ≡ record h { range = record h.range { first = first } } → Same h n
first_moved h n first is =
    let range : n.range ≡ record h.range { first = first } = ap (λ (x : HeapRow). x.range) is in
    record {
      range = range ∙ ap (λ m. let y : Range = record h.range { first = m } in y) (ap (λ (y : Range). y.first) (sym range));
      limits = λ q. ap (λ (x : HeapRow). (account x q).limit) is;
      quotas = ap (λ (x : HeapRow). length x.accounts) is;
    }

pub lay_wrote : (h row n : HeapRow) (gs hs : List Granule) → row ≡ h → Empty h → (h.range.length ≡ 0 → ⊥) → h.range.base + h.range.length ≤ h.range.ram + 8 * length gs
    → hs ≡ stored_cap gs (row.range.base - row.range.ram) (plain (row.range.length + NO_CHUNK * 2 ^ 32)) → n ≡ record row { range = record row.range { first = 0 } } → LayAll h n gs hs
lay_wrote h row n gs hs same e some inside is n_is =
    let wrote : hs ≡ stored_cap gs (h.range.base - h.range.ram) (plain (h.range.length + NO_CHUNK * 2 ^ 32)) = is ∙ ap (λ (x : HeapRow). stored_cap gs (x.range.base - x.range.ram) (plain (x.range.length + NO_CHUNK * 2 ^ 32))) same in
    let new : n ≡ record h { range = record h.range { first = 0 } } = n_is ∙ ap (λ (x : HeapRow). let y : HeapRow = record x { range = record x.range { first = 0 } } in y) same in
    let d = lay_some h n gs hs e some inside wrote new in
    record {
      laid = d.laid;
      objects = d.objects;
      heads = lay_heads h n gs hs e some wrote (ap (λ (x : HeapRow). x.range.length) new) d.laid;
      stays = lay_stays h gs hs e some wrote;
      same = first_moved h n 0 new;
      next = ap (λ (x : HeapRow). x.next) new ∙ next_is h e;
    }

pub lay_left : (h row : HeapRow) (gs : List Granule) → row ≡ h → Empty h → h.range.length ≡ 0 → h.range.base + h.range.length ≤ h.range.ram + 8 * length gs → LayAll h row gs gs
lay_left h row gs same e none inside =
    let d = lay_none h row gs gs e none inside refl same in
    record {
      laid = d.laid;
      objects = d.objects;
      heads = λ k away. refl;
      stays = record { size = refl; marks = λ k. refl; tags = λ k tagged. refl; rest = λ k s. refl };
      same = record { range = subst (λ (x : HeapRow). x.range ≡ record h.range { first = x.range.first }) (sym same) refl; limits = λ q. ap (λ (x : HeapRow). (account x q).limit) same; quotas = ap (λ (x : HeapRow). length x.accounts) same };
      next = ap (λ (x : HeapRow). x.next) same ∙ next_is h e;
    }
