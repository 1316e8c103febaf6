-- One chunk becomes two; a free chunk becomes an object's; a used one gets another state.
use Rattle.std.proofs.Common.{ℕ, zero, suc, ◌≡◌, ◌+◌, ◌-◌, ◌*◌, ◌/◌, ◌%◌, ◌^◌, ◌<◌, ◌≤◌, ◌⊎◌, inl, inr, Bool, true, false, cond, nat_eq, List, [], ◌∷◌, ◌++◌, length, refl, sym, ap, ◌∙◌, arith, subst}
use Rattle.law_lists.proofs.Tests.{bool_tells, eq_tells}
use Rattle.def_words.specs.declared.Cap.{Cap}
use Rattle.def_memory.specs.declared.Granule.{Granule}
use Rattle.def_memory.specs.Granules.{plain, granule_at}
use Rattle.def_memory.specs.Accesses.{stored_cap}
use Rattle.law_granules.proofs.Lists.{cap_back, cap_rest}
use Rattle.std.proofs.lemmas.List.{length-set}
use Rattle.def_chunks.specs.declared.heads.TheConstants.{NO_CHUNK}
use Rattle.def_chunks.specs.declared.rows.Range.{Range}
use Rattle.def_chunks.specs.Chunks.{Chunk, is_free, total_size, first_free, head_of, head_at, Lays, IsChunk, AreChunks}
use Rattle.def_chunks.specs.Tiles.{chunks, TiledBy, Tiled}
use Rattle.def_chunks.specs.Changes.{replaced, parts, taken, in_state, with_link}
use Rattle.def_chunks.specs.Gaps.{LastFree, FreeStands, UsedStands, FreeLinked}
use Rattle.law_chunks.proofs.Lays.{lays_same, lays_both, lays_join, free_both, none_first, unlinked, relinked, total_both, first_stays, are_split, are_join, total_even, starts_low, starts_high, starts_even}
use Rattle.law_chunks.proofs.Reading.{Done, done, sits, sits_by, replaced_is}

-- ---- heads at other addresses stay

pub head_other : (gs : List Granule) (ram p q : ℕ) (c : Cap) → ram ≤ p → ram ≤ q → (p - ram) % 8 ≡ 0 → (q - ram) % 8 ≡ 0 → (p ≡ q → ⊥) → head_at (stored_cap gs (q - ram) c) ram p ≡ head_at gs ram p
head_other gs ram p q c a b even odd other = ap (λ (g : Granule). g.cap) (cap_rest gs (q - ram) c ((p - ram) / 8) (λ e. other (omega (arith, e, a, b, even, odd))))

pub head_same : (gs : List Granule) (ram p : ℕ) (c : Cap) → ram ≤ p → (p - ram) % 8 ≡ 0 → p + 8 ≤ ram + 8 * length gs → head_at (stored_cap gs (p - ram) c) ram p ≡ c
head_same gs ram p c above even inside = cap_back gs (p - ram) c (omega (arith, above, even, inside))

pub store_length : (gs : List Granule) (at : ℕ) (c : Cap) → length (stored_cap gs at c) ≡ length gs
store_length gs at c = length-set gs (at / 8) (record { cap = c; mark = (granule_at gs (at / 8)).mark })

-- a number is not the one that stands for none
pub not_none : (n : ℕ) → nat_eq n NO_CHUNK ≡ false → n ≡ NO_CHUNK → ⊥
not_none n e is = let clash : nat_eq NO_CHUNK NO_CHUNK ≡ false = ap (λ m. nat_eq m NO_CHUNK) (sym is) ∙ e in absurd (let c : true ≡ false = clash in cc)

pub free_state : (c : Chunk) → is_free c ≡ true → c.state ≡ 0
free_state c free_ = elim (eq_tells c.state 0) [ inl e ↦ e.1 | inr e ↦ absurd (let clash : true ≡ false = sym free_ ∙ e.0 in cc) ]

-- ---- a free chunk splits

free_part : (c : Chunk) (n : ℕ) → IsChunk c → is_free c ≡ true → n % 8 ≡ 0 → 8 ≤ n → IsChunk (record c { size = n })
free_part c n shape free_ whole some = record {
  whole = whole;
  some = some;
  used = λ used. absurd (let clash : true ≡ false = sym free_ ∙ used in cc);
  states = shape.states;
  number = shape.number;
  blank = shape.blank;
}

-- what a split leaves
split_tiles : (r : Range) (gs hs : List Granule) (xs : List Chunk) (c : Chunk) (ys : List Chunk) (at first : ℕ) → TiledBy r gs (xs ++ c ∷ ys) → at ≡ r.base + total_size xs → is_free c ≡ true → first % 8 ≡ 0 → 8 ≤ first → first + 8 ≤ c.size → length hs ≡ length gs
    → head_at hs r.ram at ≡ plain (first + (at + first - r.base) * 2 ^ 32)
    → head_at hs r.ram (at + first) ≡ plain (c.size - first + first_free r.base (at + c.size) ys NO_CHUNK * 2 ^ 32)
    → ((p : ℕ) → r.base ≤ p → p % 8 ≡ 0 → (p ≡ at → ⊥) → (p ≡ at + first → ⊥) → head_at hs r.ram p ≡ head_at gs r.ram p)
    → TiledBy r hs (xs ++ (parts first c ++ ys))
split_tiles r gs hs xs c ys at first h place free_ whole some fits size one two rest =
    let k = sits_by r gs at xs c ys h place in
    let shape = k.shape in
    let c_whole = shape.whole in
    let state : c.state ≡ 0 = free_state c free_ in
    let base_even = h.even.1 in
    let eight = k.eight in
    let low = k.low in
    let sum = k.sum in
    let old = lays_both gs r.ram r.base r.base xs (c ∷ ys) NO_CHUNK h.lays in
    let old_xs : Lays gs r.ram r.base r.base xs (first_free r.base at (c ∷ ys) NO_CHUNK) = rw place old.0 in
    let old_ys : Lays gs r.ram r.base (at + c.size) ys NO_CHUNK = rw place old.1.1 in
    let n_old : first_free r.base at (c ∷ ys) NO_CHUNK ≡ at - r.base = rw free_ refl in
    let n_new : first_free r.base at (parts first c ++ ys) NO_CHUNK ≡ at - r.base = rw free_ refl in
    let below : Lays hs r.ram r.base r.base xs (first_free r.base at (parts first c ++ ys) NO_CHUNK) =
    lays_same gs hs r.ram r.base r.base xs (first_free r.base at (parts first c ++ ys) NO_CHUNK)
    (λ p s. let hi = starts_high p r.base xs k.above_are s in rest p (starts_low p r.base xs s) (starts_even p r.base xs k.above_are (omega (arith, base_even)) s) (λ e. omega (arith, e, hi, place)) (λ e. omega (arith, e, hi, place)))
    (rw (n_new ∙ sym n_old) old_xs) in
    let end : at + first + (c.size - first) ≡ at + c.size = omega (arith, fits) in
    let beyond : Lays hs r.ram r.base (at + c.size) ys NO_CHUNK = lays_same gs hs r.ram r.base (at + c.size) ys NO_CHUNK
    (λ p s. let lo = starts_low p (at + c.size) ys s in rest p (omega (arith, lo, low)) (starts_even p (at + c.size) ys k.below_are (omega (arith, eight, c_whole)) s) (λ e. omega (arith, e, lo, some, fits)) (λ e. omega (arith, e, lo, fits))) old_ys in
    let head_one : head_at hs r.ram at ≡ head_of (record c { size = first }) (at + first - r.base) = let none_ : first + 0 + (at + first - r.base) * 2 ^ 32 ≡ first + (at + first - r.base) * 2 ^ 32 = omega arith in rw (free_, state, none_) one in
    let head_two : head_at hs r.ram (at + first) ≡ head_of (record c { size = c.size - first }) (first_free r.base (at + c.size) ys NO_CHUNK) = let none_ : c.size - first + 0 + first_free r.base (at + c.size) ys NO_CHUNK * 2 ^ 32 ≡ c.size - first + first_free r.base (at + c.size) ys NO_CHUNK * 2 ^ 32 = omega arith in rw (free_, state, none_) two in
    let next_one : first_free r.base (at + first) (record c { size = c.size - first } ∷ ys) NO_CHUNK ≡ at + first - r.base = rw free_ refl in
    let heads : Lays hs r.ram r.base at (parts first c ++ ys) NO_CHUNK = (
      rw next_one head_one,
      (rw end head_two, rw end beyond),
    ) in
    record {
      even = h.even;
      above = h.above;
      short = h.short;
      small = h.small;
      inside = rw size (h.inside);
      lays = lays_join hs r.ram r.base r.base xs (parts first c ++ ys) NO_CHUNK (rw (← place) below) (rw (← place) heads);
      are = are_join xs (parts first c ++ ys) k.above_are ((free_part c first shape free_ whole some, (free_part c (c.size - first) shape free_ (omega (arith, c_whole, whole, fits)) (omega (arith, fits)), k.below_are)));
      size = total_both xs (parts first c ++ ys) ∙ omega (arith, sum, fits);
      first = h.first ∙ free_both r.base r.base xs (c ∷ ys) NO_CHUNK ∙ ap (λ n. first_free r.base r.base xs n) (rw (← place) (n_old ∙ sym n_new)) ∙ sym (free_both r.base r.base xs (parts first c ++ ys) NO_CHUNK);
    }

pub split_done : (r : Range) (gs ms hs : List Granule) (at size first next : ℕ) → Tiled r gs → FreeStands r gs at size next → first % 8 ≡ 0 → 8 ≤ first → first + 8 ≤ size
    → ms ≡ stored_cap gs (at + first - r.ram) (plain (size - first + next * 2 ^ 32)) → hs ≡ stored_cap ms (at - r.ram) (plain (first + (at + first - r.base) * 2 ^ 32))
    → Done r hs (replaced at (parts first) r.base (chunks r gs))
split_done r gs ms hs at size first next h f whole some fits one two =
    let s = f.stands in
    let k = sits r gs at h s in
    let over = k.over in
    let even = k.even in
    let inside = k.inside in
    let size_is = f.size_is in
    let ram_low = h.above in
    let e0 = h.even.0 in
    let put_one : Cap = plain (size - first + next * 2 ^ 32) in
    let put_two : Cap = plain (first + (at + first - r.base) * 2 ^ 32) in
    let ms_size : length ms ≡ length gs = ap length one ∙ store_length gs (at + first - r.ram) put_one in
    let hs_size : length hs ≡ length gs = ap length two ∙ store_length ms (at - r.ram) put_two ∙ ms_size in
    let at_even : (at + first - r.ram) % 8 ≡ 0 = omega (arith, even, whole, over) in
    let here : head_at hs r.ram at ≡ put_two = ap (λ l. head_at l r.ram at) two ∙ head_same ms r.ram at put_two over even (omega (arith, inside, ms_size, fits, some, size_is)) in
    let there : head_at hs r.ram (at + first) ≡ put_one =
    ap (λ l. head_at l r.ram (at + first)) two ∙ head_other ms r.ram (at + first) at put_two (omega (arith, over)) over at_even even (λ e. omega (arith, e, some))
    ∙ ap (λ l. head_at l r.ram (at + first)) one ∙ head_same gs r.ram (at + first) put_one (omega (arith, over)) at_even (omega (arith, inside, fits, size_is)) in
    let others : (p : ℕ) → r.base ≤ p → p % 8 ≡ 0 → (p ≡ at → ⊥) → (p ≡ at + first → ⊥) → head_at hs r.ram p ≡ head_at gs r.ram p = λ p lo ev no_ not.
    ap (λ l. head_at l r.ram p) two ∙ head_other ms r.ram p at put_two (omega (arith, lo, ram_low)) over (omega (arith, ev, e0, lo, ram_low)) even no_
    ∙ ap (λ l. head_at l r.ram p) one ∙ head_other gs r.ram p (at + first) put_one (omega (arith, lo, ram_low)) (omega (arith, over)) (omega (arith, ev, e0, lo, ram_low)) at_even not in
    let list : TiledBy r gs (s.above ++ s.chunk ∷ s.below) = subst (TiledBy r gs) s.whole h in
    let second : head_at hs r.ram (at + first) ≡ plain (s.chunk.size - first + first_free r.base (at + s.chunk.size) s.below NO_CHUNK * 2 ^ 32) = rw size_is (rw (← f.link) there) in
    let split_ = split_tiles r gs hs s.above s.chunk s.below at first list s.place f.is whole some (omega (arith, fits, size_is)) hs_size here second others in
    let is : replaced at (parts first) r.base (chunks r gs) ≡ s.above ++ (parts first s.chunk ++ s.below) =
    ap (replaced at (parts first) r.base) s.whole ∙ replaced_is (parts first) at r.base s.above s.chunk s.below k.above_are s.place in
    subst (Done r hs) (sym is) (done r hs (s.above ++ (parts first s.chunk ++ s.below)) split_)

-- ---- a free chunk is taken

-- what the writes leave of the link to it
record Links (r q : Range) (gs hs : List Granule) (xs : List Chunk) (before bsize next at : ℕ) : Type 0 where
  pub same : (q.ram ≡ r.ram) × (q.base ≡ r.base) × (q.length ≡ r.length)
  pub first : before ≡ NO_CHUNK → q.first ≡ next
  pub kept : (before ≡ NO_CHUNK → ⊥) → q.first ≡ r.first
  pub link : (before ≡ NO_CHUNK → ⊥) → head_at hs r.ram (r.base + before) ≡ plain (bsize + next * 2 ^ 32)
  pub rest : (p : ℕ) → r.base ≤ p → p % 8 ≡ 0 → (p ≡ at → ⊥) → ((before ≡ NO_CHUNK → ⊥) → p ≡ r.base + before → ⊥) → head_at hs r.ram p ≡ head_at gs r.ram p

record LiesRest (r q : Range) (hs : List Granule) (xs zs : List Chunk) (at : ℕ) : Type 0 where
  pub lays : Lays hs r.ram r.base r.base xs (first_free r.base at zs NO_CHUNK)
  pub head : q.first ≡ first_free r.base r.base xs (first_free r.base at zs NO_CHUNK)

take_tiles : (r q : Range) (gs hs : List Granule) (xs : List Chunk) (c : Chunk) (ys : List Chunk) (at before bsize number : ℕ) → TiledBy r gs (xs ++ c ∷ ys) → at ≡ r.base + total_size xs → is_free c ≡ true → 16 ≤ c.size → number < 2 ^ 32 → LastFree xs before bsize → length hs ≡ length gs
    → head_at hs r.ram at ≡ plain (c.size + 1 + number * 2 ^ 32)
    → Links r q gs hs xs before bsize (first_free r.base (at + c.size) ys NO_CHUNK) at
    → TiledBy q hs (xs ++ (taken number c ++ ys))
take_tiles r q gs hs xs c ys at before bsize number h place free_ wide small where_ size mine links =
    let next : ℕ = first_free r.base (at + c.size) ys NO_CHUNK in
    let k = sits_by r gs at xs c ys h place in
    let shape = k.shape in
    let base_even = h.even.1 in
    let eight = k.eight in
    let low = k.low in
    let sum = k.sum in
    let c_whole = shape.whole in
    let bound = h.short in
    let old = lays_both gs r.ram r.base r.base xs (c ∷ ys) NO_CHUNK h.lays in
    let old_xs : Lays gs r.ram r.base r.base xs (first_free r.base at (c ∷ ys) NO_CHUNK) = rw place old.0 in
    let old_ys : Lays gs r.ram r.base (at + c.size) ys NO_CHUNK = rw place old.1.1 in
    let beyond : Lays hs r.ram r.base (at + c.size) ys NO_CHUNK = lays_same gs hs r.ram r.base (at + c.size) ys NO_CHUNK
    (λ p s. let lo = starts_low p (at + c.size) ys s in
    links.rest p (omega (arith, lo, low)) (starts_even p (at + c.size) ys k.below_are (omega (arith, eight, c_whole)) s) (λ e. omega (arith, e, lo, wide)) (λ some e. elim where_ [ inl no_one ↦ some no_one.0 | inr l ↦ (let la = l.link in let lw = ap total_size l.whole ∙ total_both l.above (l.chunk ∷ l.used) in omega (arith, e, lo, la, lw, place)) ])) old_ys in
    let whole_rest : LiesRest r q hs xs (taken number c ++ ys) at = elim where_ [
      | inl no_one ↦ record {
        lays = lays_same gs hs r.ram r.base r.base xs next
            (λ p s. let hi = starts_high p r.base xs k.above_are s in links.rest p (starts_low p r.base xs s) (starts_even p r.base xs k.above_are (omega (arith, base_even)) s) (λ e. omega (arith, e, hi, place)) (λ some e. some no_one.0))
            (unlinked gs r.ram r.base r.base xs (first_free r.base at (c ∷ ys) NO_CHUNK) next no_one.1 old_xs);
        head = links.first no_one.0 ∙ sym (none_first r.base r.base xs next no_one.1);
      }
      | inr l ↦
          let la = l.link in
          let lw = ap total_size l.whole ∙ total_both l.above (l.chunk ∷ l.used) in
          let ls = l.size_is in
          let ks = are_split l.above (l.chunk ∷ l.used) (rw l.whole at k.above_are) in
          let b_some = ks.1.0.some in
          let b_state : l.chunk.state ≡ 0 = free_state l.chunk l.is in
          let some : before ≡ NO_CHUNK → ⊥ = λ e. omega (arith, e, la, lw, sum, bound, b_some) in
          let there : r.base + before ≡ r.base + total_size l.above = omega (arith, la) in
          let wrote : head_at hs r.ram (r.base + total_size l.above) ≡ head_of l.chunk next = rw there at (links.link some) ∙ rw (ls, l.is, b_state) (ap plain (omega arith)) in
          let b_whole = ks.1.0.whole in
          let above_even = total_even l.above ks.0 in
          record {
            lays = subst (λ (k : List Chunk). Lays hs r.ram r.base r.base k next) (sym l.whole) (relinked gs hs r.ram r.base r.base l.above l.chunk l.used (first_free r.base at (c ∷ ys) NO_CHUNK) next l.is l.others (subst (λ (k : List Chunk). Lays gs r.ram r.base r.base k (first_free r.base at (c ∷ ys) NO_CHUNK)) l.whole old_xs) wrote
                (λ p s. let hi = starts_high p r.base l.above ks.0 s in links.rest p (starts_low p r.base l.above s) (starts_even p r.base l.above ks.0 (omega (arith, base_even)) s) (λ e. omega (arith, e, hi, lw, place)) (λ some_ e. omega (arith, e, hi, la)))
                (λ p s. let lo = starts_low p (r.base + total_size l.above + l.chunk.size) l.used s in let hi = starts_high p (r.base + total_size l.above + l.chunk.size) l.used ks.1.1 s in
                links.rest p (omega (arith, lo)) (starts_even p (r.base + total_size l.above + l.chunk.size) l.used ks.1.1 (omega (arith, base_even, above_even, b_whole)) s) (λ e. omega (arith, e, hi, lw, place)) (λ some_ e. omega (arith, e, lo, la, b_some))));
            head = links.kept some ∙ h.first ∙ free_both r.base r.base xs (c ∷ ys) NO_CHUNK ∙ ap (λ (k : List Chunk). first_free r.base r.base k (first_free r.base (r.base + total_size xs) (c ∷ ys) NO_CHUNK)) l.whole ∙ first_stays r.base r.base l.above l.chunk l.used (first_free r.base (r.base + total_size xs) (c ∷ ys) NO_CHUNK) next l.is ∙ ap (λ (k : List Chunk). first_free r.base r.base k next) (sym l.whole);
          }
    ] in
    let first_is : q.first ≡ first_free r.base r.base (xs ++ (taken number c ++ ys)) NO_CHUNK = whole_rest.head ∙ (rw place (sym (free_both r.base r.base xs (taken number c ++ ys) NO_CHUNK))) in
    let mine_ : Lays hs r.ram r.base at (taken number c ++ ys) NO_CHUNK = (mine, beyond) in
    let all_lays : Lays hs r.ram r.base r.base (xs ++ (taken number c ++ ys)) NO_CHUNK = lays_join hs r.ram r.base r.base xs (taken number c ++ ys) NO_CHUNK (rw (← place) whole_rest.lays) (rw (← place) mine_) in
    let shapes : AreChunks (xs ++ (taken number c ++ ys)) = are_join xs (taken number c ++ ys) k.above_are ((record { whole = shape.whole; some = shape.some; used = λ u. wide; states = omega arith; number = small; blank = λ f. absurd (let clash : true ≡ false = sym f in cc) }, k.below_are)) in
    let all : total_size (xs ++ (taken number c ++ ys)) ≡ r.length = total_both xs (taken number c ++ ys) ∙ omega (arith, sum) in
    let inside = h.inside in
    let s0 = links.same.0 in
    let s1 = links.same.1 in
    let s2 = links.same.2 in
    record {
      even = rw (s0, s1, s2) h.even;
      above = rw (s0, s1) h.above;
      short = rw s2 h.short;
      small = rw (s1, s2) h.small;
      inside = omega (arith, inside, s0, s1, s2, size);
      lays = rw (s0, s1) all_lays;
      are = shapes;
      size = rw s2 all;
      first = rw s1 first_is;
    }

-- where the free chunk before stands
pub record Sat (r : Range) (before bsize at : ℕ) : Type 0 where
  pub even : (r.base + before - r.ram) % 8 ≡ 0
  pub fits : r.base + before + 8 ≤ at
  pub size : bsize + 8 < 2 ^ 32

pub sat : (r : Range) (gs : List Granule) (at size next before bsize : ℕ) → Tiled r gs → FreeLinked r gs at size next before bsize → (before ≡ NO_CHUNK → ⊥) → Sat r before bsize at
sat r gs at size next before bsize h t some = elim t.last [
  | inl no_one ↦ absurd (some no_one.0)
  | inr l ↦
      let s = t.free_stands.stands in
      let k = sits r gs at h s in
      let ks = are_split l.above (l.chunk ∷ l.used) (subst AreChunks l.whole k.above_are) in
      let la = l.link in
      let lw = ap total_size l.whole ∙ total_both l.above (l.chunk ∷ l.used) in
      let b_some = ks.1.0.some in
      let even = total_even l.above ks.0 in
      let e0 = h.even.0 in
      let e1 = h.even.1 in
      let above = h.above in
      let place = s.place in
      let short = h.short in
      let c_some = k.shape.some in
      let sum = k.sum in
      let ls = l.size_is in
      record { even = omega (arith, la, even, e0, e1, above); fits = omega (arith, place, lw, la, b_some); size = omega (arith, ls, lw, sum, short, c_some, e_length r h) }
]
  where
    e_length : (r : Range) → Tiled r gs → r.length % 16 ≡ 0
    e_length r h = h.even.2

pub take_done : (r q : Range) (gs ms hs : List Granule) (at size number before bsize next : ℕ) → Tiled r gs → FreeLinked r gs at size next before bsize → 16 ≤ size → number < 2 ^ 32
    → ms ≡ with_link gs r.ram r.base before bsize next → hs ≡ stored_cap ms (at - r.ram) (plain (size + 1 + number * 2 ^ 32))
    → q ≡ record r { first = cond (nat_eq before NO_CHUNK) next r.first }
    → Done q hs (replaced at (taken number) r.base (chunks r gs))
take_done r q gs ms hs at size number before bsize next h t wide small one two is_q =
    let f = t.free_stands in
    let s = f.stands in
    let k = sits r gs at h s in
    let over = k.over in
    let even = k.even in
    let inside = k.inside in
    let ram_low = h.above in
    let e0 = h.even.0 in
    let size_is = f.size_is in
    let put_link : Cap = plain (bsize + next * 2 ^ 32) in
    let put_head : Cap = plain (size + 1 + number * 2 ^ 32) in
    let ms_size : length ms ≡ length gs = ap length one ∙ elim (bool_tells (nat_eq before NO_CHUNK)) [ inl e ↦ rw e refl | inr e ↦ rw e (store_length gs (r.base + before - r.ram) put_link) ] in
    let hs_size : length hs ≡ length gs = ap length two ∙ store_length ms (at - r.ram) put_head ∙ ms_size in
    let here : head_at hs r.ram at ≡ put_head = ap (λ l. head_at l r.ram at) two ∙ head_same ms r.ram at put_head over even (omega (arith, inside, ms_size, wide, size_is)) in
    let list : TiledBy r gs (s.above ++ s.chunk ∷ s.below) = subst (TiledBy r gs) s.whole h in
    let links : Links r q gs hs s.above before bsize next at = elim (eq_tells before NO_CHUNK) [
      | inl e ↦ record {
        same = rw is_q (refl, refl, refl);
        first = λ no_one. rw (is_q, e.0) refl;
        kept = λ some. absurd (some e.1);
        link = λ some. absurd (some e.1);
        rest = λ p lo ev no_ not. ap (λ l. head_at l r.ram p) two ∙ head_other ms r.ram p at put_head (omega (arith, lo, ram_low)) over (omega (arith, ev, e0, lo, ram_low)) even no_
            ∙ ap (λ l. head_at l r.ram p) one ∙ rw e.0 refl;
      }
      | inr e ↦
          let b = sat r gs at size next before bsize h t e.1 in
          let b_even = b.even in
          let b_fits = b.fits in
          record {
            same = rw is_q (refl, refl, refl);
            first = λ no_one. absurd (e.1 no_one);
            kept = λ some. rw (is_q, e.0) refl;
            link = λ some.
                ap (λ l. head_at l r.ram (r.base + before)) two ∙ head_other ms r.ram (r.base + before) at put_head (omega (arith, ram_low)) over b_even even (λ x. omega (arith, x, b_fits))
                ∙ ap (λ l. head_at l r.ram (r.base + before)) one ∙ rw e.0 (head_same gs r.ram (r.base + before) put_link (omega (arith, ram_low)) b_even (omega (arith, b_fits, inside, wide, size_is)));
            rest = λ p lo ev no_ not. ap (λ l. head_at l r.ram p) two ∙ head_other ms r.ram p at put_head (omega (arith, lo, ram_low)) over (omega (arith, ev, e0, lo, ram_low)) even no_
                ∙ ap (λ l. head_at l r.ram p) one ∙ rw e.0 (head_other gs r.ram p (r.base + before) put_link (omega (arith, lo, ram_low)) (omega (arith, ram_low)) (omega (arith, ev, e0, lo, ram_low)) b_even (not e.1));
          }
    ] in
    let next_is : next ≡ first_free r.base (at + s.chunk.size) s.below NO_CHUNK = f.link ∙ rw size_is refl in
    let there : Links r q gs hs s.above before bsize (first_free r.base (at + s.chunk.size) s.below NO_CHUNK) at = subst (λ n. Links r q gs hs s.above before bsize n at) next_is links in
    let mine : head_at hs r.ram at ≡ plain (s.chunk.size + 1 + number * 2 ^ 32) = rw size_is here in
    let took = take_tiles r q gs hs s.above s.chunk s.below at before bsize number list s.place f.is (omega (arith, wide, size_is)) small t.last hs_size mine there in
    let is : replaced at (taken number) r.base (chunks r gs) ≡ s.above ++ (taken number s.chunk ++ s.below) =
    ap (replaced at (taken number) r.base) s.whole ∙ replaced_is (taken number) at r.base s.above s.chunk s.below k.above_are s.place in
    subst (Done q hs) (sym is) (done q hs (s.above ++ (taken number s.chunk ++ s.below)) took)

-- ---- a used chunk gets another state

pub state_done : (r : Range) (gs hs : List Granule) (at size number state : ℕ) → Tiled r gs → UsedStands r gs at size number → 1 ≤ state → state ≤ 3
    → hs ≡ stored_cap gs (at - r.ram) (plain (size + state + number * 2 ^ 32))
    → Done r hs (replaced at (in_state state) r.base (chunks r gs))
state_done r gs hs at size number state h u some most two =
    let s = u.stands in
    let k = sits r gs at h s in
    let c : Chunk = s.chunk in
    let shape = k.shape in
    let over = k.over in
    let even = k.even in
    let inside = k.inside in
    let eight = k.eight in
    let low = k.low in
    let sum = k.sum in
    let ram_low = h.above in
    let e0 = h.even.0 in
    let base_even = h.even.1 in
    let c_some = shape.some in
    let c_whole = shape.whole in
    let place = s.place in
    let put_head : Cap = plain (size + state + number * 2 ^ 32) in
    let hs_size : length hs ≡ length gs = ap length two ∙ store_length gs (at - r.ram) put_head in
    let here : head_at hs r.ram at ≡ put_head = ap (λ l. head_at l r.ram at) two ∙ head_same gs r.ram at put_head over even (omega (arith, inside, c_some)) in
    let others : (p : ℕ) → r.base ≤ p → p % 8 ≡ 0 → (p ≡ at → ⊥) → head_at hs r.ram p ≡ head_at gs r.ram p = λ p lo ev no_.
    ap (λ l. head_at l r.ram p) two ∙ head_other gs r.ram p at put_head (omega (arith, lo, ram_low)) over (omega (arith, ev, e0, lo, ram_low)) even no_ in
    let list : TiledBy r gs (s.above ++ c ∷ s.below) = subst (TiledBy r gs) s.whole h in
    let used_now : nat_eq state 0 ≡ false = elim (eq_tells state 0) [ inl e ↦ absurd (let z = e.1 in omega (arith, z, some)) | inr e ↦ e.0 ] in
    let ys : List Chunk = s.below in
    let old = lays_both gs r.ram r.base r.base s.above (c ∷ ys) NO_CHUNK list.lays in
    let old_xs : Lays gs r.ram r.base r.base s.above (first_free r.base at (c ∷ ys) NO_CHUNK) = rw place old.0 in
    let old_ys : Lays gs r.ram r.base (at + c.size) ys NO_CHUNK = rw place old.1.1 in
    let n_old : first_free r.base at (c ∷ ys) NO_CHUNK ≡ first_free r.base (at + c.size) ys NO_CHUNK = rw u.is refl in
    let n_new : first_free r.base at (in_state state c ++ ys) NO_CHUNK ≡ first_free r.base (at + c.size) ys NO_CHUNK = rw used_now refl in
    let below : Lays hs r.ram r.base r.base s.above (first_free r.base at (in_state state c ++ ys) NO_CHUNK) =
    lays_same gs hs r.ram r.base r.base s.above (first_free r.base at (in_state state c ++ ys) NO_CHUNK)
    (λ p st. let hi = starts_high p r.base s.above k.above_are st in others p (starts_low p r.base s.above st) (starts_even p r.base s.above k.above_are (omega (arith, base_even)) st) (λ e. omega (arith, e, hi, place)))
    (rw (n_new ∙ sym n_old) old_xs) in
    let beyond : Lays hs r.ram r.base (at + c.size) ys NO_CHUNK = lays_same gs hs r.ram r.base (at + c.size) ys NO_CHUNK
    (λ p st. let lo = starts_low p (at + c.size) ys st in others p (omega (arith, lo, low)) (starts_even p (at + c.size) ys k.below_are (omega (arith, eight, c_whole)) st) (λ e. omega (arith, e, lo, c_some))) old_ys in
    let head_is : head_at hs r.ram at ≡ head_of (record c { state = state }) (first_free r.base (at + c.size) ys NO_CHUNK) = rw used_now (rw (u.size_is, u.number_is) here) in
    let heads : Lays hs r.ram r.base at (in_state state c ++ ys) NO_CHUNK = (head_is, beyond) in
    let shape_now : IsChunk (record c { state = state }) = record {
      whole = shape.whole;
      some = shape.some;
      used = λ used. shape.used u.is;
      states = most;
      number = shape.number;
      blank = λ f. absurd (let clash : true ≡ false = sym f ∙ used_now in cc);
    } in
    let first_is : r.first ≡ first_free r.base r.base (s.above ++ (in_state state c ++ ys)) NO_CHUNK =
    list.first ∙ free_both r.base r.base s.above (c ∷ ys) NO_CHUNK ∙ ap (λ n. first_free r.base r.base s.above n) (rw (← place) (n_old ∙ sym n_new)) ∙ sym (free_both r.base r.base s.above (in_state state c ++ ys) NO_CHUNK) in
    let tiles : TiledBy r hs (s.above ++ (in_state state c ++ ys)) = record {
      even = h.even;
      above = h.above;
      short = h.short;
      small = h.small;
      inside = rw hs_size (h.inside);
      lays = lays_join hs r.ram r.base r.base s.above (in_state state c ++ ys) NO_CHUNK (rw (← place) below) (rw (← place) heads);
      are = are_join s.above (in_state state c ++ ys) k.above_are (shape_now, k.below_are);
      size = total_both s.above (in_state state c ++ ys) ∙ omega (arith, sum);
      first = first_is;
    } in
    let is : replaced at (in_state state) r.base (chunks r gs) ≡ s.above ++ (in_state state c ++ ys) =
    ap (replaced at (in_state state) r.base) s.whole ∙ replaced_is (in_state state) at r.base s.above c ys k.above_are place in
    subst (Done r hs) (sym is) (done r hs (s.above ++ (in_state state c ++ ys)) tiles)
