-- An object is quarantined: what becomes of chunks, accounts and rows.
use Rattle.std.proofs.Common.{ℕ, ◌≡◌, ◌+◌, ◌-◌, ◌*◌, ◌/◌, ◌%◌, ◌^◌, ◌<◌, ◌≤◌, ◌⊎◌, inl, inr, Bool, true, false, cond, nat_eq, List, [], ◌∷◌, ◌++◌, length, refl, sym, ap, ◌∙◌, arith, subst}
use Rattle.std.proofs.Math.ListN.{set}
use Rattle.std.proofs.lemmas.List.{length-set}
use Rattle.law_lists.proofs.Tests.{bool_tells, eq_tells, le_tells, lt_tells}
use Rattle.def_memory.specs.declared.Granule.{Granule}
use Rattle.def_memory.specs.Granules.{plain, granule_at}
use Rattle.def_memory.specs.Ranges.{IsZeroed, IsMarked}
use Rattle.def_machine.specs.State.{Object}
use Rattle.def_machine.specs.Objects.{Each, charges, quarantine}
use Rattle.def_chunks.specs.declared.rows.Range.{Range}
use Rattle.def_chunks.specs.declared.rows.Account.{Account}
use Rattle.def_chunks.specs.Chunks.{Chunk, is_free, total_size, Starts, AreChunks, NoneTouch}
use Rattle.def_chunks.specs.Tiles.{chunks, Tiled, TilesSettled}
use Rattle.def_chunks.specs.Changes.{replaced, in_state, InUse, NoTagComes, KeepsRest}
use Rattle.def_chunks.specs.Heaps.{HeapRow, account, begins_used_chunk, quota_named, is_used_at, object_at, objects_in, objects_of, Distinct, waiting_in, Laid}
use Rattle.law_chunks.proofs.Reading.{sits, replaced_is}
use Rattle.law_chunks.proofs.Joins.{state_apart}
use Rattle.law_chunks.proofs.Rows.{UsedStarts, objects_both, each_both, each_split, charges_both, waiting_both, distinct_around, distinct_same, quarantine_between}
use Rattle.law_chunks.proofs.Spares.{in_use_second, head_unused, no_tag_then, zeroed_tags}
use Rattle.law_chunks.proofs.Kept.{SameChunks, settled_same, head_there, mark_caps}
use Rattle.ct_heap.specs.Effects.{Same}
use Rattle.ct_heap.specs.Steps.{Freeing}
use Rattle.ct_heap.proofs.Named.{used_split, used_first, used_second, tests_same}
use Rattle.ct_heap.proofs.Tables.{account_after, limit_after, within_after}

-- ---- what is known of the object

-- at most so many objects can wait
pub waiting_few : (names : List ℕ) (base at : ℕ) (cs : List Chunk) → AreChunks cs → 16 * waiting_in (objects_in names base at cs) ≤ total_size cs
waiting_few names base at [] are = omega arith
waiting_few names base at (c ∷ cs) are =
    let rest = waiting_few names base (at + c.size) cs are.1 in
    elim (bool_tells (is_free c)) [
      | inl e ↦ rw e (omega (arith, rest))
      | inr e ↦ (let wide = are.0.used e in rw e (elim (bool_tells (nat_eq c.state 1)) [ inl l ↦ rw l (omega (arith, rest)) | inr l ↦ rw l (omega (arith, rest, wide)) ]))
    ]

-- the row of the object among the others
pub record Row (h : HeapRow) (gs : List Granule) (number base extent quota : ℕ) : Type 0 where
  pub rs : List Object
  pub qs : List Object
  pub rows : objects_of h gs ≡ rs ++ record { number = number; quota = quota; base = base; length = extent; charge = extent + 8; live = true; painted = false } ∷ qs
  pub charged : extent + 8 ≤ (account h quota).charged
  pub quota_in : quota < length h.accounts
  pub waiting : h.waiting + 1 < 2 ^ 32
  pub low : h.range.base + 8 ≤ base
  pub over : h.range.ram + 8 ≤ base
  pub even : (base - h.range.ram) % 8 ≡ 0
  pub extent_even : extent % 8 ≡ 0
  pub inside : base - h.range.ram + extent ≤ 8 * length gs
  pub fits : base + extent ≤ h.range.base + h.range.length
  pub small : extent + 16 < 2 ^ 32

row_is : (number quota base extent state : ℕ) (c : Chunk) → state ≡ c.state → c.state ≡ 1 → c.size ≡ extent + 8 → c.number ≡ number → 8 ≤ base → object_at quota (base - 8) c ≡ record { number = number; quota = quota; base = base; length = extent; charge = extent + 8; live = true; painted = false }
row_is number quota base extent state c same is size number_is low =
    let made : ℕ → ℕ → ℕ → ℕ → Bool → Bool → Object = λ n b s t l p. record { number = n; quota = quota; base = b; length = t; charge = s; live = l; painted = p } in
    ap (λ n. made n (base - 8 + 8) c.size (c.size - 8) (nat_eq c.state 1) (nat_eq c.state 3)) number_is
    ∙ ap (λ b. made number b c.size (c.size - 8) (nat_eq c.state 1) (nat_eq c.state 3)) (omega (arith, low))
    ∙ ap (λ s. made number base s (s - 8) (nat_eq c.state 1) (nat_eq c.state 3)) size
    ∙ ap (λ t. made number base (extent + 8) t (nat_eq c.state 1) (nat_eq c.state 3)) (omega arith)
    ∙ ap (λ s. made number base (extent + 8) extent (nat_eq s 1) (nat_eq s 3)) is

pub row_of : (h : HeapRow) (gs : List Granule) (number base extent quota : ℕ) → Laid h gs → Freeing h gs number base extent quota → Row h gs number base extent quota
unfolding objects_of
row_of h gs number base extent quota l f =
    let s = f.stands.stands in
    let c : Chunk = s.chunk in
    let k = sits h.range gs (base - 8) l.settled.tiled s in
    let low = f.low in
    let used = f.stands.is in
    let size_is = f.stands.size_is in
    let place = s.place in
    let names : List ℕ = h.names in
    let lo : ℕ = h.range.base in
    let o : Object = record { number = number; quota = quota; base = base; length = extent; charge = extent + 8; live = true; painted = false } in
    let used_rows : objects_in names lo (lo + total_size s.above) (c ∷ s.below) ≡ object_at (quota_named names (lo + total_size s.above - lo)) (lo + total_size s.above) c ∷ objects_in names lo (lo + total_size s.above + c.size) s.below = rw used refl in
    let rs : List Object = objects_in names lo lo s.above in
    let qs : List Object = objects_in names lo (lo + total_size s.above + c.size) s.below in
    let quota_is : quota_named names (lo + total_size s.above - lo) ≡ quota = ap (λ a. quota_named names (a - lo)) (sym place) ∙ sym f.quota_is in
    let row : object_at (quota_named names (lo + total_size s.above - lo)) (lo + total_size s.above) c ≡ o =
    ap (λ q. object_at q (lo + total_size s.above) c) quota_is ∙ ap (λ a. object_at quota a c) (sym place) ∙ row_is number quota base extent c.state c refl f.live size_is f.stands.number_is (omega (arith, low)) in
    let rows : objects_in names lo lo (chunks h.range gs) ≡ rs ++ o ∷ qs =
    ap (λ cs. objects_in names lo lo cs) s.whole ∙ objects_both names lo lo s.above (c ∷ s.below) ∙ ap (λ x. rs ++ x) used_rows ∙ ap (λ x. rs ++ x ∷ qs) row in
    let charge_is = l.charged quota ∙ ap (charges quota) rows ∙ charges_both quota rs (o ∷ qs) in
    let mine : cond (nat_eq quota quota) (extent + 8) 0 ≡ extent + 8 = elim (eq_tells quota quota) [ inl e ↦ rw e.0 refl | inr e ↦ absurd (e.1 refl) ] in
    let total_is : (account h quota).charged ≡ charges quota rs + (extent + 8 + charges quota qs) = rw mine at charge_is in
    let few = waiting_few names lo lo (chunks h.range gs) l.settled.tiled.are in
    let all = l.settled.tiled.size in
    let short = l.settled.tiled.short in
    let waiting = l.waiting in
    let e0 = l.settled.tiled.even.0 in
    let over = k.over in
    let even = k.even in
    let inside = k.inside in
    let fits = k.fits in
    let whole = k.shape.whole in
    let small = k.small in
    let ram_low = l.settled.tiled.above in
    record {
      rs = rs;
      qs = qs;
      rows = rows;
      charged = omega (arith, total_is);
      quota_in = (each_split (λ x. x.quota < length h.accounts) rs (o ∷ qs) (subst (λ x. Each (λ y. y.quota < length h.accounts) x) rows l.quotas)).1.0;
      waiting = omega (arith, few, all, short, waiting);
      low = low;
      over = omega (arith, low, ram_low);
      even = omega (arith, even, low, ram_low);
      extent_even = omega (arith, whole, size_is);
      inside = omega (arith, inside, size_is, low, ram_low);
      fits = omega (arith, fits, size_is, low);
      small = omega (arith, small, size_is);
    }

-- the same of the heap as its fields have it
pub row_in : (h x : HeapRow) (gs : List Granule) (number base extent quota : ℕ) → x ≡ h → Laid h gs → Freeing h gs number base extent quota → Row x gs number base extent quota
row_in h x gs number base extent quota is l f = subst (λ (y : HeapRow). Row y gs number base extent quota) (sym is) (row_of h gs number base extent quota l f)

-- ---- the whole

pub record Left (h n : HeapRow) (gs ms ns hs : List Granule) (base extent quota : ℕ) : Type 0 where
  pub tiled : Tiled h.range ms
  pub chunks_are : chunks h.range ms ≡ replaced (base - 8) (in_state 2) h.range.base (chunks h.range gs)
  pub keeps : KeepsRest h.range (chunks h.range gs) gs ms
  pub elsewhere : (k : ℕ) → (h.range.ram + 8 * k ≡ base - 8 → ⊥) → granule_at ms k ≡ granule_at gs k
  pub zeroed : IsZeroed (base - h.range.ram) (base - h.range.ram + extent) ms ns
  pub marked : IsMarked (base - 8 - h.range.ram) (base - 8 - h.range.ram + (extent + 8)) true ns hs
  pub range : n.range ≡ h.range
  pub names : n.names ≡ h.names
  pub accounts : n.accounts ≡ set h.accounts quota (record { limit = (account h quota).limit; charged = (account h quota).charged - (extent + 8) })
  pub next : n.next ≡ h.next
  pub waiting : n.waiting ≡ h.waiting + 1

pub record Done (h n : HeapRow) (gs hs : List Granule) (number base extent quota : ℕ) : Type 0 where
  pub laid : Laid n hs
  pub objects : objects_of n hs ≡ quarantine number (objects_of h gs)
  pub charged : (account n quota).charged ≡ charges quota (objects_of n hs)
  pub zero : (k : ℕ) → base ≤ h.range.ram + 8 * k → h.range.ram + 8 * k < base + extent → (granule_at hs k).cap ≡ plain 0
  pub marks : (k : ℕ) → base ≤ h.range.ram + 8 * k + 8 → h.range.ram + 8 * k < base + extent → (granule_at hs k).mark ≡ true
  pub tags : NoTagComes gs hs
  pub rest : (k : ℕ) → (h.range.ram + 8 * k + 8 < base) ⊎ (base + extent ≤ h.range.ram + 8 * k) → granule_at hs k ≡ granule_at gs k
  pub size : length hs ≡ length gs
  pub same : Same h n

pub free_done : (h n : HeapRow) (gs ms ns hs : List Granule) (number base extent quota : ℕ) → Laid h gs → Freeing h gs number base extent quota → Left h n gs ms ns hs base extent quota → Done h n gs hs number base extent quota
unfolding objects_of
free_done h n gs ms ns hs number base extent quota l f left =
    let w = row_of h gs number base extent quota l f in
    let s = f.stands.stands in
    let c : Chunk = s.chunk in
    let d : Chunk = record c { state = 2 } in
    let r : Range = h.range in
    let lo : ℕ = r.base in
    let names : List ℕ = h.names in
    let k = sits r gs (base - 8) l.settled.tiled s in
    let low = f.low in
    let used = f.stands.is in
    let size_is = f.stands.size_is in
    let place = s.place in
    let ds : List Chunk = s.above ++ d ∷ s.below in
    let list : chunks r ms ≡ ds = left.chunks_are ∙ ap (replaced (base - 8) (in_state 2) lo) s.whole ∙ replaced_is (in_state 2) (base - 8) lo s.above c s.below k.above_are place in
    let settled : TilesSettled r ms = record { tiled = left.tiled; apart = subst NoneTouch (sym list) (state_apart s.above c d s.below used (subst NoneTouch s.whole l.settled.apart)) } in
    let ds_are : AreChunks ds = subst AreChunks list left.tiled.are in
    let over = w.over in
    let even = w.even in
    let extent_even = w.extent_even in
    let e0 = l.settled.tiled.even.0 in
    let ram_low = l.settled.tiled.above in
    let in_use : (q : ℕ) → base ≤ q → q < base + extent → InUse q lo ds = λ q from to. in_use_second q lo s.above (d ∷ s.below) (inl (refl, omega (arith, from, place), omega (arith, to, place, size_is, low))) in
    let first : SameChunks r ms ns = settled_same r ms ns settled left.zeroed.size
    (λ q st.
    let head = head_there r ms q settled.tiled st in
    let q_over = head.over in
    let q_even = head.even in
    let st_ds : Starts q lo ds = subst (Starts q lo) list st in
    ap (λ (x : Granule). x.cap) (left.zeroed.rest ((q - r.ram) / 8) (elim (le_tells base q) [
      | inr a ↦ inl (let lt = a.1 in omega (arith, lt, q_over, q_even, over, even))
      | inl a ↦ elim (lt_tells q (base + extent)) [
        | inl b ↦ absurd (head_unused q lo ds ds_are st_ds (in_use q a.1 b.1))
        | inr b ↦ inr (let ge = b.1 in omega (arith, ge, q_over, q_even, over))
      ]
    ]))) in
    let second : SameChunks r ns hs = settled_same r ns hs first.settled left.marked.size
    (λ q st. let head = head_there r ns q first.settled.tiled st in mark_caps ns hs (base - 8 - r.ram) (base - 8 - r.ram + (extent + 8)) true ((q - r.ram) / 8) left.marked head.inside) in
    let list_hs : chunks r hs ≡ ds = second.chunks_are ∙ first.chunks_are ∙ list in
    let o : Object = record { number = number; quota = quota; base = base; length = extent; charge = extent + 8; live = true; painted = false } in
    let gone : Object = record o { live = false } in
    let rs : List Object = objects_in names lo lo s.above in
    let qs : List Object = objects_in names lo (lo + total_size s.above + c.size) s.below in
    let quota_is : quota_named names (lo + total_size s.above - lo) ≡ quota = ap (λ a. quota_named names (a - lo)) (sym place) ∙ sym f.quota_is in
    let used_rows : (b : Bool) → b ≡ false → (x : Chunk) → objects_in names lo (lo + total_size s.above) (x ∷ s.below) ≡ cond (is_free x) (objects_in names lo (lo + total_size s.above + x.size) s.below) (object_at (quota_named names (lo + total_size s.above - lo)) (lo + total_size s.above) x ∷ objects_in names lo (lo + total_size s.above + x.size) s.below) = λ b e x. refl in
    let old_row : object_at (quota_named names (lo + total_size s.above - lo)) (lo + total_size s.above) c ≡ o =
    ap (λ q. object_at q (lo + total_size s.above) c) quota_is ∙ ap (λ a. object_at quota a c) (sym place) ∙ row_is number quota base extent c.state c refl f.live size_is f.stands.number_is (omega (arith, low)) in
    let old_rows : objects_in names lo lo (chunks r gs) ≡ rs ++ o ∷ qs =
    ap (λ cs. objects_in names lo lo cs) s.whole ∙ objects_both names lo lo s.above (c ∷ s.below) ∙ ap (λ x. rs ++ x) (rw used refl) ∙ ap (λ x. rs ++ x ∷ qs) old_row in
    let parts : ℕ → ℕ → ℕ → ℕ → Object = λ m b e t. record { number = m; quota = quota; base = b; length = t; charge = e; live = false; painted = false } in
    let new_row : object_at (quota_named names (lo + total_size s.above - lo)) (lo + total_size s.above) d ≡ gone =
    ap (λ q. object_at q (lo + total_size s.above) d) quota_is ∙ ap (λ a. object_at quota a d) (sym place)
    ∙ ap (λ m. parts m (base - 8 + 8) c.size (c.size - 8)) f.stands.number_is ∙ ap (λ b. parts number b c.size (c.size - 8)) (omega (arith, low)) ∙ ap (λ e. parts number base e (e - 8)) size_is ∙ ap (λ t. parts number base (extent + 8) t) (omega arith) in
    let new_rows : objects_in n.names n.range.base n.range.base (chunks n.range hs) ≡ rs ++ gone ∷ qs =
    ap (λ (x : Range). objects_in n.names x.base x.base (chunks x hs)) left.range ∙ ap (λ t. objects_in t lo lo (chunks r hs)) left.names ∙ ap (λ cs. objects_in names lo lo cs) list_hs
    ∙ objects_both names lo lo s.above (d ∷ s.below) ∙ ap (λ x. rs ++ x ∷ qs) new_row in
    let around = distinct_around o rs qs (subst Distinct old_rows l.distinct) in
    let became : rs ++ gone ∷ qs ≡ quarantine number (objects_in names lo lo (chunks r gs)) = sym (quarantine_between o rs qs around.0 around.1) ∙ ap (quarantine number) (sym old_rows) in
    let quotas_old = each_split (λ x. x.quota < length h.accounts) rs (o ∷ qs) (subst (λ x. Each (λ y. y.quota < length h.accounts) x) old_rows l.quotas) in
    let numbers_old = each_split (λ x. x.number < h.next) rs (o ∷ qs) (subst (λ x. Each (λ y. y.number < h.next) x) old_rows l.numbers) in
    let new_account : Account = record { limit = (account h quota).limit; charged = (account h quota).charged - (extent + 8) } in
    let accounts_length : length n.accounts ≡ length h.accounts = ap length left.accounts ∙ length-set h.accounts quota new_account in
    let account_is : (q : ℕ) → account n q ≡ cond (nat_eq quota q) (record { limit = (account h quota).limit; charged = (account h quota).charged - (extent + 8) }) (account h q) =
    account_after h n quota ((account h quota).charged - (extent + 8)) w.quota_in left.accounts in
    let charged_now : (q : ℕ) → (account n q).charged ≡ charges q (rs ++ gone ∷ qs) = λ q. (
    let was : (account h q).charged ≡ charges q rs + (cond (nat_eq quota q) (extent + 8) 0 + charges q qs) = l.charged q ∙ ap (charges q) old_rows ∙ charges_both q rs (o ∷ qs) in
    let now : charges q (rs ++ gone ∷ qs) ≡ charges q rs + (0 + charges q qs) = charges_both q rs (gone ∷ qs) in
    elim (eq_tells quota q) [
      | inl e ↦
          let mine : (account n q).charged ≡ (account h quota).charged - (extent + 8) = ap (λ (a : Account). a.charged) (account_is q) ∙ rw e.0 refl in
          let was_ : (account h q).charged ≡ charges q rs + (extent + 8 + charges q qs) = rw e.0 at was in
          let was_quota : (account h quota).charged ≡ charges q rs + (extent + 8 + charges q qs) = ap (λ t. (account h t).charged) e.1 ∙ was_ in
          omega (arith, mine, was_quota, now)
      | inr e ↦
          let mine : (account n q).charged ≡ (account h q).charged = ap (λ (a : Account). a.charged) (account_is q) ∙ rw e.0 refl in
          let was_ : (account h q).charged ≡ charges q rs + (0 + charges q qs) = rw e.0 at was in
          omega (arith, mine, was_, now)
    ]
    ) in
    let within_old = l.within quota in
    let within_now : (q : ℕ) → (account n q).charged ≤ (account n q).limit =
    within_after h n quota ((account h quota).charged - (extent + 8)) w.quota_in left.accounts (omega (arith, within_old)) l.within in
    let to_new : (q : ℕ) → UsedStarts q lo (s.above ++ c ∷ s.below) → UsedStarts q lo ds = λ q x. elim (used_split q lo s.above (c ∷ s.below) x) [
      | inl a ↦ used_first q lo s.above (d ∷ s.below) a
      | inr b ↦ elim b [ inl z ↦ used_second q lo s.above (d ∷ s.below) (inl (refl, z.1)) | inr z ↦ used_second q lo s.above (d ∷ s.below) (inr z) ]
    ] in
    let to_old : (q : ℕ) → UsedStarts q lo ds → UsedStarts q lo (s.above ++ c ∷ s.below) = λ q x. elim (used_split q lo s.above (d ∷ s.below) x) [
      | inl a ↦ used_first q lo s.above (c ∷ s.below) a
      | inr b ↦ elim b [ inl z ↦ used_second q lo s.above (c ∷ s.below) (inl (used, z.1)) | inr z ↦ used_second q lo s.above (c ∷ s.below) (inr z) ]
    ] in
    let old_are : AreChunks (s.above ++ c ∷ s.below) = subst AreChunks s.whole l.settled.tiled.are in
    let named_now : (x : ℕ) → x % 8 ≡ 0 → begins_used_chunk n.names x ≡ is_used_at (n.range.base + x) n.range.base (chunks n.range hs) = λ x x_even.
    ap (λ t. begins_used_chunk t x) left.names ∙ l.named x x_even ∙ ap (λ cs. is_used_at (lo + x) lo cs) s.whole
    ∙ tests_same (lo + x) lo (s.above ++ c ∷ s.below) ds old_are ds_are (to_new (lo + x)) (to_old (lo + x)) ∙ ap (λ cs. is_used_at (lo + x) lo cs) (sym list_hs)
    ∙ ap (λ (y : Range). is_used_at (y.base + x) y.base (chunks y hs)) (sym left.range) in
    let waiting_was = waiting_both rs (o ∷ qs) in
    let waiting_is = waiting_both rs (gone ∷ qs) in
    let waiting_old : h.waiting ≡ waiting_in (rs ++ o ∷ qs) = l.waiting ∙ ap waiting_in old_rows in
    let waiting_same = left.waiting in
    let waiting_all : n.waiting ≡ waiting_in (rs ++ gone ∷ qs) = omega (arith, waiting_was, waiting_is, waiting_old, waiting_same) in
    let next = left.next in
    record {
      laid = record {
        settled = subst (λ (y : Range). TilesSettled y hs) (sym left.range) second.settled;
        slots = ap length left.names ∙ l.slots ∙ ap (λ (y : Range). y.length / 16) (sym left.range);
        named = named_now;
        quotas = subst (λ x. Each (λ y. y.quota < length n.accounts) x) (sym new_rows) (subst (λ m. Each (λ y. y.quota < m) (rs ++ gone ∷ qs)) (sym accounts_length) (each_both (λ y. y.quota < length h.accounts) rs (gone ∷ qs) quotas_old.0 (quotas_old.1.0, quotas_old.1.1)));
        few = (let few_ = l.few in omega (arith, few_, accounts_length));
        charged = λ q. charged_now q ∙ ap (charges q) (sym new_rows);
        within = within_now;
        numbers = subst (λ x. Each (λ y. y.number < n.next) x) (sym new_rows) (subst (λ m. Each (λ y. y.number < m) (rs ++ gone ∷ qs)) (sym next) (each_both (λ y. y.number < h.next) rs (gone ∷ qs) numbers_old.0 (numbers_old.1.0, numbers_old.1.1)));
        distinct = subst Distinct (sym new_rows) (distinct_same o gone rs qs refl (subst Distinct old_rows l.distinct));
        waiting = waiting_all ∙ ap waiting_in (sym new_rows);
      };
      objects = new_rows ∙ became;
      charged = charged_now quota ∙ ap (charges quota) (sym new_rows);
      zero = λ j from to. mark_caps ns hs (base - 8 - r.ram) (base - 8 - r.ram + (extent + 8)) true j left.marked (inside_zeroed j to) ∙ ap (λ (x : Granule). x.cap) (left.zeroed.zero j (omega (arith, from), omega (arith, to, over)));
      marks = λ j from to. ap (λ (x : Granule). x.mark) (left.marked.marks j (inside_zeroed j to) (omega (arith, from, over), omega (arith, to, over)));
      tags = no_tag_then gs ms hs left.keeps.tags (no_tag_then ms ns hs (zeroed_tags (base - r.ram) (base - r.ram + extent) ms ns left.zeroed) (λ j tagged. (elim (lt_tells (r.ram + 8 * j) (base + extent)) [
        | inl a ↦ mark_caps ns hs (base - 8 - r.ram) (base - 8 - r.ram + (extent + 8)) true j left.marked (inside_zeroed j a.1)
        | inr a ↦ ap (λ (x : Granule). x.cap) (left.marked.rest j (inr (let past = a.1 in omega (arith, past, over))))
      ])));
      rest = λ j out. left.marked.rest j (elim out [ inl a ↦ inl (omega (arith, a, over)) | inr b ↦ inr (omega (arith, b, over)) ])
          ∙ left.zeroed.rest j (elim out [ inl a ↦ inl (omega (arith, a, over)) | inr b ↦ inr (omega (arith, b, over)) ])
          ∙ left.elsewhere j (λ is. elim out [ inl a ↦ omega (arith, a, is, over) | inr b ↦ omega (arith, b, is, over) ]);
      size = left.marked.size ∙ left.zeroed.size ∙ left.keeps.size;
      same = record { range = left.range ∙ ap (λ m. let y : Range = record r { first = m } in y) (ap (λ (y : Range). y.first) (sym left.range)); limits = limit_after h n quota ((account h quota).charged - (extent + 8)) w.quota_in left.accounts; quotas = accounts_length };
    }
  where
    inside_zeroed : (j : ℕ) → h.range.ram + 8 * j < base + extent → j < length ns
    inside_zeroed j to =
        let w = row_of h gs number base extent quota l f in
        let inside = w.inside in
        let over = w.over in
        let a = left.zeroed.size in
        let b = left.keeps.size in
        omega (arith, inside, over, to, a, b)
