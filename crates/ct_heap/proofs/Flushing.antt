-- Painting and flushing: what becomes of table, rows and marks.
use Rattle.std.proofs.Common.{ℕ, zero, suc, ◌≡◌, ◌+◌, ◌-◌, ◌*◌, ◌/◌, ◌%◌, ◌<◌, ◌≤◌, inl, inr, ◌&&◌, ◌||◌, true, false, not, cond, nat_eq, nat_le, nat_lt, List, [], ◌∷◌, ◌++◌, map, length, refl, sym, ap, ◌∙◌, arith, subst}
use Rattle.std.proofs.Math.ListN.{get_or}
use Rattle.law_lists.proofs.Tests.{bool_tells, eq_tells, le_tells, chosen}
use Rattle.def_memory.specs.declared.Granule.{Granule}
use Rattle.def_memory.specs.Granules.{granule_at}
use Rattle.def_machine.specs.State.{Object}
use Rattle.def_machine.specs.Objects.{Each, charges, has_quarantined, painted, unpainted, is_painted_at}
use Rattle.def_chunks.specs.declared.rows.Range.{Range}
use Rattle.def_chunks.specs.declared.rows.Account.{Account}
use Rattle.def_chunks.specs.Chunks.{Chunk, is_free, AreChunks}
use Rattle.def_chunks.specs.Tiles.{chunks, TilesSettled}
use Rattle.def_chunks.specs.Changes.{all_painted, leaves, gap, joined, released, Spared, KeepsRest, OnlyHeads}
use Rattle.def_chunks.specs.Heaps.{HeapRow, account, no_account, begins_used_chunk, quota_named, is_used_at, objects_in, objects_of, Distinct, waiting_in, Laid}
use Rattle.law_chunks.proofs.Joins.{stays_used, joined_are, painted_free, painted_size}
use Rattle.law_chunks.proofs.Rows.{UsedStarts, painted_rows, joined_rows}
use Rattle.law_chunks.proofs.Kept.{SameChunks, settled_same, live_spared}
use Rattle.ct_heap.specs.Effects.{Seen, Paints, Flushes}
use Rattle.ct_heap.specs.Steps.{waiting_chunks, staying_chunks, let_go, is_painted_in, Unnames}
use Rattle.ct_heap.proofs.Named.{used_low, used_even, used_test}
use Rattle.ct_heap.proofs.Unnaming.{let_go_are, let_go_size}

-- ---- how many wait

pub waiting_rows : (names : List ℕ) (base at : ℕ) (cs : List Chunk) → waiting_in (objects_in names base at cs) ≡ waiting_chunks cs
waiting_rows names base at [] = refl
waiting_rows names base at (c ∷ cs) =
    let rest = waiting_rows names base (at + c.size) cs in
    elim (bool_tells (is_free c)) [
      | inl e ↦ rw e (omega (arith, rest))
      | inr e ↦ rw e (elim (bool_tells (nat_eq c.state 1)) [ inl l ↦ rw l (omega (arith, rest)) | inr l ↦ rw l (omega (arith, rest)) ])
    ]

pub staying_rows : (names : List ℕ) (base at : ℕ) (cs : List Chunk) → waiting_in (unpainted (objects_in names base at cs)) ≡ staying_chunks cs
staying_rows names base at [] = refl
staying_rows names base at (c ∷ cs) =
    let rest = staying_rows names base (at + c.size) cs in
    elim (bool_tells (is_free c)) [
      | inl e ↦ rw e (omega (arith, rest))
      | inr e ↦ elim (eq_tells c.state 3) [
        | inl p ↦ (let live : nat_eq c.state 1 ≡ false = ap (λ n. nat_eq n 1) p.1 in rw (e, p.0, live) (omega (arith, rest)))
        | inr p ↦ elim (bool_tells (nat_eq c.state 1)) [ inl l ↦ rw (e, p.0, l) (omega (arith, rest)) | inr l ↦ rw (e, p.0, l) (omega (arith, rest)) ]
      ]
    ]

pub none_waiting : (rs : List Object) → waiting_in rs ≡ 0 → has_quarantined rs ≡ false
none_waiting [] e = refl
none_waiting (r ∷ rs) e = elim (bool_tells r.live) [
  | inl l ↦ (let rest : 0 + waiting_in rs ≡ 0 = rw l at e in rw l (none_waiting rs (omega (arith, rest))))
  | inr l ↦ absurd (let one : 1 + waiting_in rs ≡ 0 = rw l at e in omega (arith, one))
]

pub some_waiting : (rs : List Object) → (waiting_in rs ≡ 0 → ⊥) → has_quarantined rs ≡ true
some_waiting [] e = absurd (e refl)
some_waiting (r ∷ rs) e = elim (bool_tells r.live) [
  | inl l ↦ rw l (some_waiting rs (λ z. e (rw l (omega (arith, z)))))
  | inr l ↦ rw l refl
]

pub waiting_tells : (h : HeapRow) (gs : List Granule) → Laid h gs → not (nat_eq h.waiting 0) ≡ has_quarantined (objects_of h gs)
waiting_tells h gs l = elim (eq_tells h.waiting 0) [
  | inl e ↦ rw e.0 (sym (none_waiting (objects_of h gs) (sym l.waiting ∙ e.1)))
  | inr e ↦ rw e.0 (sym (some_waiting (objects_of h gs) (λ z. e.1 (l.waiting ∙ z))))
]

-- ---- painting

-- where none is quarantined nothing is painted
none_painted : (names : List ℕ) (base at : ℕ) (cs : List Chunk) → AreChunks cs → has_quarantined (objects_in names base at cs) ≡ false → painted (objects_in names base at cs) ≡ objects_in names base at cs
none_painted names base at [] are e = refl
none_painted names base at (c ∷ cs) are e = elim (bool_tells (is_free c)) [
  | inl f ↦ (let rest : has_quarantined (objects_in names base (at + c.size) cs) ≡ false = rw f at e in rw f (none_painted names base (at + c.size) cs are.1 rest))
  | inr f ↦ elim (eq_tells c.state 1) [
    | inl l ↦
        let rest : has_quarantined (objects_in names base (at + c.size) cs) ≡ false = rw (f, l.0) at e in
        let plain_ : nat_eq c.state 3 ≡ false = ap (λ n. nat_eq n 3) l.1 in
        rw (f, l.0, plain_) (ap (λ x. (let o : Object = record { number = c.number; quota = quota_named names (at - base); base = at + 8; length = c.size - 8; charge = c.size; live = true; painted = false } in o) ∷ x) (none_painted names base (at + c.size) cs are.1 rest))
    | inr l ↦ absurd (let clash : true ≡ false = rw (f, l.0) at e in cc)
  ]
]

pub paints_none : (h : HeapRow) (gs : List Granule) → Laid h gs → h.waiting ≡ 0 → Paints h gs gs
unfolding objects_of
paints_none h gs l none = record {
  objects = sym (none_painted h.names h.range.base h.range.base (chunks h.range gs) l.settled.tiled.are (none_waiting (objects_in h.names h.range.base h.range.base (chunks h.range gs)) (sym l.waiting ∙ none)));
  heads = λ k away. refl;
  stays = record { size = refl; marks = λ k. refl; tags = λ k tagged. refl; rest = λ k s. refl };
}

-- what is seen is spared
pub seen_spared : (h : HeapRow) (gs : List Granule) (p : ℕ) → Laid h gs → Seen h.range (objects_of h gs) p → Spared h.range (chunks h.range gs) p
seen_spared h gs p l s = elim s [ inl a ↦ inl a | inr (inl b) ↦ inr (inl b) | inr (inr e) ↦ inr (inr (live_spared h gs p l e)) ]

painted_used : (p at : ℕ) (cs : List Chunk) → is_used_at p at (all_painted cs) ≡ is_used_at p at cs
painted_used p at [] = refl
painted_used p at (c ∷ cs) =
    let rest = painted_used p (at + c.size) cs in
    let size = painted_size c in
    elim (bool_tells (nat_eq at p)) [
      | inl e ↦ rw e (ap not (painted_free c))
      | inr e ↦ rw e (ap (λ n. is_used_at p (at + n) (all_painted cs)) size ∙ rest)
    ]

painted_charges : (q : ℕ) (rs : List Object) → charges q (painted rs) ≡ charges q rs
painted_charges q [] = refl
painted_charges q (r ∷ rs) = ap (λ n. cond (r.live && nat_eq r.quota q) r.charge 0 + n) (painted_charges q rs)

painted_each : (P : ℕ → Type 0) (f : Object → ℕ) (rs : List Object) → ((r : Object) → f (record r { painted = not r.live }) ≡ f r) → Each (λ r. P (f r)) rs → Each (λ r. P (f r)) (painted rs)
painted_each P f [] same h = tt
painted_each P f (r ∷ rs) same h = (subst P (sym (same r)) h.0, painted_each P f rs same h.1)

painted_distinct : (rs : List Object) → Distinct rs → Distinct (painted rs)
painted_distinct [] h = tt
painted_distinct (r ∷ rs) h = (painted_each (λ n. n ≡ r.number → ⊥) (λ (q : Object). q.number) rs (λ q. refl) h.0, painted_distinct rs h.1)

painted_waiting : (rs : List Object) → waiting_in (painted rs) ≡ waiting_in rs
painted_waiting [] = refl
painted_waiting (r ∷ rs) = ap (λ n. cond r.live 0 1 + n) (painted_waiting rs)

pub record PaintDone (h : HeapRow) (gs hs : List Granule) : Type 0 where
  pub laid : Laid h hs
  pub paints : Paints h gs hs

pub paint_done : (h : HeapRow) (gs hs : List Granule) → Laid h gs → TilesSettled h.range hs → chunks h.range hs ≡ all_painted (chunks h.range gs) → KeepsRest h.range (chunks h.range gs) gs hs → OnlyHeads h.range (chunks h.range hs) gs hs → PaintDone h gs hs
unfolding objects_of
paint_done h gs hs l settled is keeps heads =
    let base : ℕ = h.range.base in
    let old : List Object = objects_in h.names base base (chunks h.range gs) in
    let rows : objects_in h.names base base (chunks h.range hs) ≡ painted (objects_in h.names base base (chunks h.range gs)) = ap (λ cs. objects_in h.names base base cs) is ∙ painted_rows h.names base base (chunks h.range gs) l.settled.tiled.are in
    record {
      laid = record {
        settled = settled;
        slots = l.slots;
        named = λ o even. l.named o even ∙ sym (painted_used (base + o) base (chunks h.range gs)) ∙ ap (λ cs. is_used_at (base + o) base cs) (sym is);
        quotas = subst (λ x. Each (λ r. r.quota < length h.accounts) x) (sym rows) (painted_each (λ n. n < length h.accounts) (λ (q : Object). q.quota) old (λ q. refl) l.quotas);
        few = l.few;
        charged = λ q. l.charged q ∙ sym (painted_charges q old) ∙ ap (charges q) (sym rows);
        within = l.within;
        numbers = subst (λ x. Each (λ r. r.number < h.next) x) (sym rows) (painted_each (λ n. n < h.next) (λ (q : Object). q.number) old (λ q. refl) l.numbers);
        distinct = subst Distinct (sym rows) (painted_distinct old l.distinct);
        waiting = l.waiting ∙ sym (painted_waiting old) ∙ ap waiting_in (sym rows);
      };
      paints = record {
        objects = rows;
        heads = heads;
        stays = record { size = keeps.size; marks = keeps.marks; tags = keeps.tags; rest = λ k s. keeps.rest k (seen_spared h gs (h.range.ram + 8 * k) l s) };
      };
    }

-- ---- flushing

-- used chunks after joining are those that stay
joined_used : (p at before : ℕ) (cs : List Chunk) → AreChunks cs → before % 8 ≡ 0 → is_used_at p at (joined before cs) ≡ is_used_at p (at + before) (map let_go cs)
joined_used p at before [] are even = elim (bool_tells (nat_eq before 0)) [
  | inl e ↦ rw e refl
  | inr e ↦ rw e (elim (bool_tells (nat_eq at p)) [ inl x ↦ rw x refl | inr x ↦ rw x refl ])
]
joined_used p at before (c ∷ cs) are even =
    let whole = are.0.whole in
    let some = are.0.some in
    let there : at + (before + c.size) ≡ at + before + c.size = omega arith in
    elim (bool_tells (leaves c)) [
      | inl e ↦
          let rest : is_used_at p at (joined (before + c.size) cs) ≡ is_used_at p (at + before + c.size) (map let_go cs) = rw (← there) (joined_used p at (before + c.size) cs are.1 (omega (arith, even, whole))) in
          let free_ : is_free (let_go c) ≡ true = elim (bool_tells (nat_eq c.state 3)) [
            | inl x ↦ rw x refl
            | inr x ↦ rw x (elim (bool_tells (is_free c)) [ inl y ↦ y | inr y ↦ absurd (let clash : false ≡ true = sym (rw (y, x) refl) ∙ e in cc) ])
          ] in
          let size = let_go_size c in
          let here : is_used_at p (at + before) (let_go c ∷ map let_go cs) ≡ is_used_at p (at + before + c.size) (map let_go cs) = elim (eq_tells (at + before) p) [
            | inl x ↦ rw (x.0, free_) (sym (low_unused p (at + before + c.size) (map let_go cs) (let_go_are cs are.1) (let is = x.1 in omega (arith, is, some))))
            | inr x ↦ rw x.0 (ap (λ n. is_used_at p (at + before + n) (map let_go cs)) size)
          ] in
          rw e (rest ∙ sym here)
      | inr e ↦
          let used = stays_used c e in
          let kept : nat_eq c.state 3 ≡ false = sym (ap (λ b. b || nat_eq c.state 3) used) ∙ e in
          let same : let_go c ≡ c = rw kept refl in
          let none : at + before + c.size + 0 ≡ at + before + c.size = omega arith in
          let rest : is_used_at p (at + before + c.size) (joined 0 cs) ≡ is_used_at p (at + before + c.size) (map let_go cs) = joined_used p (at + before + c.size) 0 cs are.1 (omega arith) ∙ rw none refl in
          let first : is_used_at p at (gap before ++ c ∷ joined 0 cs) ≡ is_used_at p (at + before) (c ∷ joined 0 cs) = elim (eq_tells before 0) [
            | inl z ↦ (let zero_ : at + before ≡ at = (let is = z.1 in omega (arith, is)) in rw (z.0, zero_) refl)
            | inr z ↦ elim (eq_tells at p) [
              | inl x ↦
                  let is = x.1 in
                  let other = z.1 in
                  let after : is_used_at p (at + before) (c ∷ joined 0 cs) ≡ false = low_unused p (at + before) (c ∷ joined 0 cs) (are.0, joined_are 0 cs (omega arith) are.1) (later at before p is other) in
                  rw (z.0, x.0) (sym after)
              | inr x ↦ rw (z.0, x.0) refl
            ]
          ] in
          rw e (first ∙ ap (λ x. is_used_at p (at + before) (x ∷ joined 0 cs)) (sym same) ∙ (elim (eq_tells (at + before) p) [
            | inl x ↦ rw x.0 refl
            | inr x ↦ rw x.0 (let size = let_go_size c in ap (λ n. is_used_at p (at + before + n) (joined 0 cs)) size ∙ rest ∙ ap (λ n. is_used_at p (at + before + n) (map let_go cs)) (sym size))
          ]))
    ]
  where
    later : (at before p : ℕ) → at ≡ p → (before ≡ 0 → ⊥) → p < at + before
    later at zero p is other = absurd (other refl)
    later at (suc n) p is other = omega (arith, is)

    low_unused : (p at : ℕ) (ds : List Chunk) → AreChunks ds → p < at → is_used_at p at ds ≡ false
    low_unused p at [] are lt = refl
    low_unused p at (d ∷ ds) are lt = elim (eq_tells at p) [
      | inl x ↦ absurd (let is = x.1 in omega (arith, is, lt))
      | inr x ↦ rw x.0 (low_unused p (at + d.size) ds are.1 (omega (arith, lt)))
    ]

-- only the quotas of chunks that stay count
staying_names : (names more : List ℕ) (base at : ℕ) (cs : List Chunk) → ((p : ℕ) → UsedStarts p at (map let_go cs) → quota_named more (p - base) ≡ quota_named names (p - base)) → unpainted (objects_in more base at cs) ≡ unpainted (objects_in names base at cs)
staying_names names more base at [] same = refl
staying_names names more base at (c ∷ cs) same =
    let size = let_go_size c in
    let rest = staying_names names more base (at + c.size) cs (λ p u. same p (inr (subst (λ n. UsedStarts p (at + n) (map let_go cs)) (sym size) u))) in
    elim (bool_tells (is_free c)) [
      | inl e ↦ rw e rest
      | inr e ↦ elim (bool_tells (nat_eq c.state 3)) [
        | inl p ↦ rw (e, p) rest
        | inr p ↦
            let kept : is_free (let_go c) ≡ false = rw p e in
            let mine : quota_named more (at - base) ≡ quota_named names (at - base) = same at (inl (kept, refl)) in
            let row : ℕ → Object = λ q. record { number = c.number; quota = q; base = at + 8; length = c.size - 8; charge = c.size; live = nat_eq c.state 1; painted = false } in
            rw (e, p) (ap (λ q. row q ∷ unpainted (objects_in more base (at + c.size) cs)) mine ∙ ap (λ x. row (quota_named names (at - base)) ∷ x) rest)
      ]
    ]

unpainted_each : (P : Object → Type 0) (rs : List Object) → Each P rs → Each P (unpainted rs)
unpainted_each P [] h = tt
unpainted_each P (r ∷ rs) h = chosen (Each P) r.painted (unpainted rs) (r ∷ unpainted rs) (λ e. unpainted_each P rs h.1) (λ e. (h.0, unpainted_each P rs h.1))

unpainted_distinct : (rs : List Object) → Distinct rs → Distinct (unpainted rs)
unpainted_distinct [] h = tt
unpainted_distinct (r ∷ rs) h =
    chosen Distinct r.painted (unpainted rs) (r ∷ unpainted rs) (λ e. unpainted_distinct rs h.1)
    (λ e. (unpainted_each (λ q. q.number ≡ r.number → ⊥) rs h.0, unpainted_distinct rs h.1))

-- painted objects aren't live
unpainted_charges : (q : ℕ) (names : List ℕ) (base at : ℕ) (cs : List Chunk) → charges q (unpainted (objects_in names base at cs)) ≡ charges q (objects_in names base at cs)
unpainted_charges q names base at [] = refl
unpainted_charges q names base at (c ∷ cs) =
    let rest = unpainted_charges q names base (at + c.size) cs in
    elim (bool_tells (is_free c)) [
      | inl e ↦ rw e rest
      | inr e ↦ elim (eq_tells c.state 3) [
        | inl p ↦ (let live : nat_eq c.state 1 ≡ false = ap (λ n. nat_eq n 1) p.1 in rw (e, p.0, live) (rest ∙ omega arith))
        | inr p ↦ rw (e, p.0) (ap (λ n. cond (nat_eq c.state 1 && nat_eq (quota_named names (at - base)) q) c.size 0 + n) rest)
      ]
    ]

-- marks of painted chunks, by rows
painted_at : (names : List ℕ) (base p at : ℕ) (cs : List Chunk) → AreChunks cs → is_painted_in p at cs ≡ is_painted_at (objects_in names base at cs) p
painted_at names base p at [] are = refl
painted_at names base p at (c ∷ cs) are =
    let rest = painted_at names base p (at + c.size) cs are.1 in
    let some = are.0.some in
    elim (bool_tells (is_free c)) [
      | inl e ↦
          let plain_ : nat_eq c.state 3 ≡ false = elim (eq_tells c.state 3) [ inl x ↦ absurd (let clash : true ≡ false = sym e ∙ ap (λ n. nat_eq n 0) x.1 in cc) | inr x ↦ x.0 ] in
          rw (e, plain_) rest
      | inr e ↦
          let low : nat_le at p ≡ nat_le (at + 8) (p + 8) = elim (le_tells at p) [
            | inl a ↦ a.0 ∙ sym (elim (le_tells (at + 8) (p + 8)) [ inl b ↦ b.0 | inr b ↦ absurd (let x = a.1 in let y = b.1 in omega (arith, x, y)) ])
            | inr a ↦ a.0 ∙ sym (elim (le_tells (at + 8) (p + 8)) [ inl b ↦ absurd (let x = a.1 in let y = b.1 in omega (arith, x, y)) | inr b ↦ b.0 ])
          ] in
          let end : at + c.size ≡ at + 8 + (c.size - 8) = omega (arith, some) in
          rw e (ap (λ b. (nat_eq c.state 3 && b && nat_lt p (at + c.size)) || is_painted_in p (at + c.size) cs) low
          ∙ ap (λ n. (nat_eq c.state 3 && nat_le (at + 8) (p + 8) && nat_lt p n) || is_painted_in p (at + c.size) cs) end
          ∙ ap (λ b. (nat_eq c.state 3 && nat_le (at + 8) (p + 8) && nat_lt p (at + 8 + (c.size - 8))) || b) rest)
    ]

-- ---- the whole

pub record Left (h n : HeapRow) (gs ms hs : List Granule) : Type 0 where
  pub unnames : Unnames h.range gs ms h.names n.names n.waiting
  pub settled : TilesSettled n.range hs
  pub chunks_are : chunks n.range hs ≡ released (chunks h.range ms)
  pub keeps : KeepsRest h.range (chunks h.range ms) ms hs
  pub heads : OnlyHeads h.range (chunks n.range hs) ms hs
  pub range : n.range ≡ record h.range { first = n.range.first }
  pub accounts : n.accounts ≡ h.accounts
  pub next : n.next ≡ h.next

pub record Done (h n : HeapRow) (gs hs : List Granule) : Type 0 where
  pub laid : Laid n hs
  pub flushes : Flushes h n gs hs

pub unnamed_same : (h : HeapRow) (gs ms : List Granule) (more : List ℕ) (left : ℕ) → Laid h gs → Unnames h.range gs ms h.names more left → SameChunks h.range gs ms
unnamed_same h gs ms more left l u = settled_same h.range gs ms l.settled u.size (λ p s. u.caps ((p - h.range.ram) / 8))

pub flush_done : (h n : HeapRow) (gs ms hs : List Granule) → Laid h gs → Left h n gs ms hs → Done h n gs hs
unfolding objects_of
flush_done h n gs ms hs l left =
    let r : Range = h.range in
    let base : ℕ = r.base in
    let u = left.unnames in
    let same = unnamed_same h gs ms n.names n.waiting l u in
    let cs : List Chunk = chunks r gs in
    let are = l.settled.tiled.are in
    let e_base : n.range.base ≡ base = ap (λ (x : Range). x.base) left.range in
    let e_length : n.range.length ≡ r.length = ap (λ (x : Range). x.length) left.range in
    let base_even = l.settled.tiled.even.1 in
    let list : chunks n.range hs ≡ released (chunks r gs) = left.chunks_are ∙ ap released same.chunks_are in
    let old : List Object = objects_in h.names base base (chunks r gs) in
    let none : base + 0 ≡ base = omega arith in
    let gone : objects_in n.names base base (released (chunks r gs)) ≡ unpainted (objects_in n.names base base (chunks r gs)) = joined_rows n.names base base 0 (chunks r gs) ∙ ap (λ a. unpainted (objects_in n.names base a (chunks r gs))) none in
    let names_ : unpainted (objects_in n.names base base (chunks r gs)) ≡ unpainted (objects_in h.names base base (chunks r gs)) = staying_names h.names n.names base base (chunks r gs)
    (λ p s.
    let low = used_low p base (map let_go (chunks r gs)) s in
    let even = used_even p base (map let_go (chunks r gs)) (let_go_are (chunks r gs) are) (omega (arith, base_even)) s in
    let there : base + (p - base) ≡ p = omega (arith, low) in
    let used : is_used_at (base + (p - base)) base (map let_go (chunks r gs)) ≡ true = rw there (used_test p base (map let_go (chunks r gs)) (let_go_are (chunks r gs) are) s) in
    u.quotas (p - base) (u.named (p - base) (omega (arith, even, base_even, low)) ∙ used)) in
    let rows : objects_in n.names n.range.base n.range.base (chunks n.range hs) ≡ unpainted (objects_in h.names base base (chunks r gs)) =
    ap (λ b. objects_in n.names b b (chunks n.range hs)) e_base ∙ ap (λ x. objects_in n.names base base x) list ∙ gone ∙ names_ in
    let named_now : (x : ℕ) → x % 8 ≡ 0 → begins_used_chunk n.names x ≡ is_used_at (n.range.base + x) n.range.base (chunks n.range hs) = λ x x_even.
    u.named x x_even ∙ sym (joined_used (base + x) base 0 (chunks r gs) are (omega arith) ∙ ap (λ a. is_used_at (base + x) a (map let_go (chunks r gs))) none)
    ∙ ap (λ y. is_used_at (base + x) base y) (sym list) ∙ ap (λ b. is_used_at (b + x) b (chunks n.range hs)) (sym e_base) in
    let account_same : (q : ℕ) → account n q ≡ account h q = λ q. ap (λ a. get_or a q no_account) left.accounts in
    let next = left.next in
    record {
      laid = record {
        settled = left.settled;
        slots = u.entries ∙ l.slots ∙ ap (λ x. x / 16) (sym e_length);
        named = named_now;
        quotas = subst (λ x. Each (λ y. y.quota < length n.accounts) x) (sym rows) (subst (λ a. Each (λ y. y.quota < length a) (unpainted old)) (sym left.accounts) (unpainted_each (λ y. y.quota < length h.accounts) old l.quotas));
        few = subst (λ a. length a ≤ 32767) (sym left.accounts) l.few;
        charged = λ q. ap (λ (a : Account). a.charged) (account_same q) ∙ l.charged q ∙ sym (unpainted_charges q h.names base base (chunks r gs)) ∙ ap (charges q) (sym rows);
        within = λ q. (let a = ap (λ (x : Account). x.charged) (account_same q) in let b = ap (λ (x : Account). x.limit) (account_same q) in let w = l.within q in omega (arith, a, b, w));
        numbers = subst (λ x. Each (λ y. y.number < n.next) x) (sym rows) (subst (λ m. Each (λ y. y.number < m) (unpainted old)) (sym next) (unpainted_each (λ y. y.number < h.next) old l.numbers));
        distinct = subst Distinct (sym rows) (unpainted_distinct old l.distinct);
        waiting = u.left_is ∙ sym (staying_rows h.names base base (chunks r gs)) ∙ ap waiting_in (sym rows);
      };
      flushes = record {
        objects = rows;
        next = left.next;
        size = left.keeps.size ∙ u.size;
        marks = λ k. left.keeps.marks k ∙ u.marks k ∙ ap (λ b. cond b false (granule_at gs k).mark) (painted_at h.names base (r.ram + 8 * k) base (chunks r gs) are);
        heads = λ k away. ap (λ (g : Granule). g.cap) (left.heads k away) ∙ u.caps k;
        tags = λ k tagged. left.keeps.tags k tagged ∙ u.caps k;
        rest = λ k s. ap (λ (g : Granule). g.cap) (left.keeps.rest k (subst (λ x. Spared r x (r.ram + 8 * k)) (sym same.chunks_are) (seen_spared h gs (r.ram + 8 * k) l s))) ∙ u.caps k;
        same = record { range = left.range; limits = λ q. ap (λ (a : Account). a.limit) (account_same q); quotas = ap length left.accounts };
      };
    }
