-- An object is placed: what becomes of chunks, table, accounts and rows.
use Rattle.std.proofs.Common.{ℕ, ◌≡◌, ◌+◌, ◌-◌, ◌*◌, ◌/◌, ◌%◌, ◌^◌, ◌<◌, ◌≤◌, ◌⊎◌, inl, inr, true, false, cond, nat_eq, List, [], ◌∷◌, ◌++◌, length, refl, sym, ap, ◌∙◌, arith, subst}
use Rattle.std.proofs.Math.ListN.{set}
use Rattle.std.proofs.lemmas.List.{length-set, append_assoc}
use Rattle.law_lists.proofs.Tests.{bool_tells, eq_tells, le_tells, lt_tells}
use Rattle.def_memory.specs.declared.Granule.{Granule}
use Rattle.def_memory.specs.Granules.{plain, granule_at}
use Rattle.def_memory.specs.Ranges.{IsZeroed}
use Rattle.def_machine.specs.State.{Object}
use Rattle.def_machine.specs.Objects.{Each, charges, placed_among}
use Rattle.def_chunks.specs.declared.rows.Range.{Range}
use Rattle.def_chunks.specs.declared.rows.Gap.{Gap}
use Rattle.def_chunks.specs.declared.rows.Account.{Account}
use Rattle.def_chunks.specs.Chunks.{Chunk, is_free, total_size, Starts, AreChunks}
use Rattle.def_chunks.specs.Tiles.{chunks, TilesSettled}
use Rattle.def_chunks.specs.Changes.{replaced, gap, InUse, Spared, KeepsRest, NoHead, OnlyHeads}
use Rattle.def_chunks.specs.Gaps.{carved}
use Rattle.def_chunks.specs.Heaps.{HeapRow, account, chunk_name, begins_used_chunk, quota_named, is_used_at, object_at, objects_in, objects_of, Distinct, waiting_in, Laid}
use Rattle.law_chunks.proofs.Lays.{total_both, are_split, are_join}
use Rattle.law_chunks.proofs.Reading.{sits, replaced_is}
use Rattle.law_chunks.proofs.Joins.{gap_are, gap_total}
use Rattle.law_chunks.proofs.Rows.{UsedStarts, objects_both, gap_rows, names_same, each_both, each_split, each_more, rows_low, rows_high, placed_between, charges_both, waiting_both, Others, distinct_between}
use Rattle.law_chunks.proofs.Spares.{in_use_second, head_unused, free_unused, loose, no_tag_then, zeroed_tags}
use Rattle.law_chunks.proofs.Kept.{SameChunks, settled_same, head_there, live_spared}
use Rattle.ct_chunks.proofs.Cuts.{carving}
use Rattle.ct_heap.specs.Effects.{Stays, Same}
use Rattle.ct_heap.specs.Steps.{Placing, placed_object}
use Rattle.ct_heap.proofs.Named.{used_low, used_high, used_between, used_split, used_first, used_second, set_quota}
use Rattle.ct_heap.proofs.Tables.{OneMore, one_named, other_quota, account_after, limit_after, within_after}

-- ---- the chunks

abbrev new_chunk : ℕ → ℕ → Chunk
new_chunk length number = record { size = length + 8; state = 1; number = number }

abbrev carved_list : List Chunk → ℕ → Chunk → ℕ → List Chunk → List Chunk
carved_list above front d back below = above ++ (gap front ++ d ∷ (gap back ++ below))

-- places in the carved list
record CarvedAt (base front back : ℕ) (above : List Chunk) (d : Chunk) (below : List Chunk) : Type 0 where
  pub first : total_size (above ++ gap front) ≡ total_size above + front
  pub list : carved_list above front d back below ≡ (above ++ gap front) ++ d ∷ (gap back ++ below)

carved_at : (base front back : ℕ) (above : List Chunk) (d : Chunk) (below : List Chunk) → CarvedAt base front back above d below
carved_at base front back above d below = record {
  first = total_both above (gap front) ∙ ap (λ n. total_size above + n) (gap_total front);
  list = sym (append_assoc above (gap front) (d ∷ (gap back ++ below)));
}

gap_unused : (p at n : ℕ) → UsedStarts p at (gap n) → ⊥
gap_unused p at n u = elim (bool_tells (nat_eq n 0)) [
  | inl e ↦ (let none : UsedStarts p at [] = rw e at u in absurd none)
  | inr e ↦ (let one : UsedStarts p at (record { size = n; state = 0; number = 0 } ∷ []) = rw e at u in elim one [ inl a ↦ (let clash : true ≡ false = a.0 in cc) | inr b ↦ absurd b ])
]

carved_are : (front length number back : ℕ) (above below : List Chunk) → AreChunks above → AreChunks below → front % 8 ≡ 0 → back % 8 ≡ 0 → length % 8 ≡ 0 → 8 ≤ length → number < 2 ^ 32 → AreChunks (carved_list above front (new_chunk length number) back below)
carved_are front length number back above below a b f e w some small =
    are_join above (gap front ++ new_chunk length number ∷ (gap back ++ below)) a
    (are_join (gap front) (new_chunk length number ∷ (gap back ++ below)) (gap_are front f)
    ((record { whole = omega (arith, w); some = omega (arith, some); used = λ u. omega (arith, some); states = omega arith; number = small; blank = λ x. absurd (let clash : true ≡ false = sym x in cc) }, are_join (gap back) below (gap_are back e) b)))

-- one used chunk more
carved_more : (base front back length number : ℕ) (above : List Chunk) (c : Chunk) (below : List Chunk) → base % 16 ≡ 0 → AreChunks (above ++ c ∷ below) → is_free c ≡ true → c.size ≡ front + (length + 8) + back → AreChunks (carved_list above front (new_chunk length number) back below)
    → OneMore base (base + total_size above + front) (above ++ c ∷ below) (carved_list above front (new_chunk length number) back below)
carved_more base front back length number above c below even old_are free_ size new_are =
    let d : Chunk = new_chunk length number in
    let k = carved_at base front back above d below in
    let first = k.first in
    let kinds = are_split above (c ∷ below) old_are in
    let c_some = kinds.1.0.some in
    let after : base + total_size above + front + (length + 8) + total_size (gap back) ≡ base + total_size above + c.size = (let b = gap_total back in omega (arith, b, size)) in
    record {
      even = even;
      old_are = old_are;
      new_are = new_are;
      here = subst (UsedStarts (base + total_size above + front) base) (sym k.list) (used_between (base + total_size above + front) base (above ++ gap front) d (gap back ++ below) refl (omega (arith, first)));
      there = λ p u. elim (used_split p base above (c ∷ below) u) [
        | inl a ↦ used_first p base above (gap front ++ d ∷ (gap back ++ below)) a
        | inr b ↦ elim b [
          | inl z ↦ absurd (let used = z.0 in let clash : true ≡ false = sym free_ ∙ used in cc)
          | inr z ↦ subst (UsedStarts p base) (sym k.list) (used_second p base (above ++ gap front) (d ∷ (gap back ++ below))
              (inr (used_second p (base + total_size (above ++ gap front) + d.size) (gap back) below
              (let there_ : base + total_size (above ++ gap front) + d.size + total_size (gap back) ≡ base + total_size above + c.size = omega (arith, first, after) in rw there_ z))))
        ]
      ];
      back = λ p other u. elim (used_split p base (above ++ gap front) (d ∷ (gap back ++ below)) (subst (UsedStarts p base) k.list u)) [
        | inl a ↦ elim (used_split p base above (gap front) a) [
          | inl x ↦ used_first p base above (c ∷ below) x
          | inr x ↦ absurd (gap_unused p (base + total_size above) front x)
        ]
        | inr b ↦ elim b [
          | inl z ↦ absurd (other (let is = z.1 in omega (arith, is, first)))
          | inr z ↦ elim (used_split p (base + total_size (above ++ gap front) + d.size) (gap back) below z) [
            | inl x ↦ absurd (gap_unused p (base + total_size (above ++ gap front) + d.size) back x)
            | inr x ↦ used_second p base above (c ∷ below) (inr (let there_ : base + total_size (above ++ gap front) + d.size + total_size (gap back) ≡ base + total_size above + c.size = omega (arith, first, after) in rw there_ at x))
          ]
        ]
      ];
      not_old = λ u. elim (used_split (base + total_size above + front) base above (c ∷ below) u) [
        | inl a ↦ (let hi = used_high (base + total_size above + front) base above kinds.0 a in omega (arith, hi))
        | inr b ↦ elim b [
          | inl z ↦ (let used = z.0 in let clash : true ≡ false = sym free_ ∙ used in cc)
          | inr z ↦ (let lo = used_low (base + total_size above + front) (base + total_size above + c.size) below z in omega (arith, lo, size))
        ]
      ];
    }

-- ---- the rows

carved_rows : (names : List ℕ) (base front back extent number quota : ℕ) (above : List Chunk) (c : Chunk) (below : List Chunk) → OneMore base (base + total_size above + front) (above ++ c ∷ below) (carved_list above front (new_chunk extent number) back below)
    → c.size ≡ front + (extent + 8) + back → (total_size above + front) / 16 < length names
    → objects_in (set names ((total_size above + front) / 16) (chunk_name quota (total_size above + front))) base base (carved_list above front (new_chunk extent number) back below)
    ≡ objects_in names base base above ++ record { number = number; quota = quota; base = base + total_size above + front + 8; length = extent; charge = extent + 8; live = true; painted = false } ∷ objects_in names base (base + total_size above + c.size) below
carved_rows names base front back extent number quota above c below m size inside =
    let d : Chunk = new_chunk extent number in
    let place : ℕ = base + total_size above + front in
    let offset : place - base ≡ total_size above + front = omega arith in
    let more : List ℕ = set names ((total_size above + front) / 16) (chunk_name quota (total_size above + front)) in
    let k = carved_at base front back above d below in
    let first = k.first in
    let same : (p : ℕ) → UsedStarts p base (carved_list above front d back below) → (p ≡ place → ⊥) → quota_named more (p - base) ≡ quota_named names (p - base) = λ p u other.
    ap (λ o. quota_named (set names (o / 16) (chunk_name quota o)) (p - base)) (sym offset) ∙ other_quota names base place quota p (carved_list above front d back below) m.new_are m.even m.here u other in
    let one : objects_in more base base above ≡ objects_in names base base above = names_same names more base base above
    (λ p u. same p (used_first p base above (gap front ++ d ∷ (gap back ++ below)) u) (λ is. (let hi = used_high p base above (are_split above (gap front ++ d ∷ (gap back ++ below)) m.new_are).0 u in omega (arith, hi, is)))) in
    let after : place + d.size + total_size (gap back) ≡ base + total_size above + c.size = (let b = gap_total back in omega (arith, b, size)) in
    let two : objects_in more base (base + total_size above + c.size) below ≡ objects_in names base (base + total_size above + c.size) below = names_same names more base (base + total_size above + c.size) below
    (λ p u. same p (subst (UsedStarts p base) (sym k.list) (used_second p base (above ++ gap front) (d ∷ (gap back ++ below))
    (inr (used_second p (base + total_size (above ++ gap front) + d.size) (gap back) below
    (let there_ : base + total_size (above ++ gap front) + d.size + total_size (gap back) ≡ base + total_size above + c.size = omega (arith, first, after) in rw there_ u)))))
    (λ is. (let lo = used_low p (base + total_size above + c.size) below u in omega (arith, lo, is, size)))) in
    let new_quota : quota_named more (place - base) ≡ quota = ap (λ o. quota_named more o) offset ∙ set_quota names quota (total_size above + front) inside in
    let behind : objects_in more base (place + d.size) (gap back ++ below) ≡ objects_in more base (base + total_size above + c.size) below = objects_both more base (place + d.size) (gap back) below ∙ rw (gap_rows more base (place + d.size) back) (ap (λ a. objects_in more base a below) after) in
    let row : object_at quota place d ≡ record { number = number; quota = quota; base = base + total_size above + front + 8; length = extent; charge = extent + 8; live = true; painted = false } = ap (λ n. let r : Object = record { number = number; quota = quota; base = base + total_size above + front + 8; length = n; charge = extent + 8; live = true; painted = false } in r) (omega arith) in
    let begin : base + total_size (above ++ gap front) ≡ place = omega (arith, first) in
    let front_none : objects_in more base base (above ++ gap front) ≡ objects_in more base base above =
    objects_both more base base above (gap front) ∙ ap (λ l. objects_in more base base above ++ l) (gap_rows more base (base + total_size above) front) ∙ nil_right (objects_in more base base above) in
    ap (λ l. objects_in more base base l) k.list
    ∙ objects_both more base base (above ++ gap front) (d ∷ (gap back ++ below))
    ∙ ap (λ l. l ++ objects_in more base (base + total_size (above ++ gap front)) (d ∷ (gap back ++ below))) (front_none ∙ one)
    ∙ ap (λ a. objects_in names base base above ++ objects_in more base a (d ∷ (gap back ++ below))) begin
    ∙ ap (λ l. objects_in names base base above ++ object_at (quota_named more (place - base)) place d ∷ l) (behind ∙ two)
    ∙ ap (λ q. objects_in names base base above ++ object_at q place d ∷ objects_in names base (base + total_size above + c.size) below) new_quota
    ∙ ap (λ r. objects_in names base base above ++ r ∷ objects_in names base (base + total_size above + c.size) below) row
  where
    nil_right : (rs : List Object) → rs ++ [] ≡ rs
    nil_right [] = refl
    nil_right (r ∷ rs) = ap (λ l. r ∷ l) (nil_right rs)

-- the rows of a free chunk and its neighbours
free_rows : (names : List ℕ) (base : ℕ) (above : List Chunk) (c : Chunk) (below : List Chunk) → is_free c ≡ true → objects_in names base base (above ++ c ∷ below) ≡ objects_in names base base above ++ objects_in names base (base + total_size above + c.size) below
free_rows names base above c below free_ = objects_both names base base above (c ∷ below) ∙ rw free_ refl

-- ---- the whole

-- what the calls left
pub record Left (h n : HeapRow) (gs ms hs : List Granule) (quota extent : ℕ) (g : Gap) : Type 0 where
  pub settled : TilesSettled n.range ms
  pub chunks_are : chunks n.range ms ≡ replaced g.at (carved (g.base - 8 - g.at) extent h.next) h.range.base (chunks h.range gs)
  pub keeps : KeepsRest h.range (chunks h.range gs) gs ms
  pub heads : OnlyHeads h.range (chunks n.range ms) gs ms
  pub range : n.range ≡ record h.range { first = n.range.first }
  pub zeroed : IsZeroed (g.base - h.range.ram) (g.base - h.range.ram + extent) ms hs
  pub names : n.names ≡ set h.names ((g.base - 8 - h.range.base) / 16) (chunk_name quota (g.base - 8 - h.range.base))
  pub accounts : n.accounts ≡ set h.accounts quota (record { limit = (account h quota).limit; charged = (account h quota).charged + (extent + 8) })
  pub next : n.next ≡ h.next + 1
  pub waiting : n.waiting ≡ h.waiting

pub record Done (h n : HeapRow) (gs hs : List Granule) (quota extent : ℕ) (g : Gap) : Type 0 where
  pub laid : Laid n hs
  pub objects : objects_of n hs ≡ placed_among (placed_object h quota extent g.base) (objects_of h gs)
  pub charged : (account n quota).charged ≡ charges quota (objects_of n hs)
  pub zero : (k : ℕ) → g.base ≤ h.range.ram + 8 * k → h.range.ram + 8 * k < g.base + extent → (granule_at hs k).cap ≡ plain 0
  pub rest : (k : ℕ) → NoHead h.range (chunks n.range hs) k → (h.range.ram + 8 * k < g.base) ⊎ (g.base + extent ≤ h.range.ram + 8 * k) → granule_at hs k ≡ granule_at gs k
  pub stays : Stays h.range (objects_of h gs) gs hs
  pub same : Same h n

others_below : (n : ℕ) (rs : List Object) → Each (λ r. r.number < n) rs → Others n rs
others_below n [] h = tt
others_below n (r ∷ rs) h = ((λ is. (let lt = h.0 in omega (arith, lt, is))), others_below n rs h.1)

pub place_done : (h n : HeapRow) (gs ms hs : List Granule) (quota extent : ℕ) (g : Gap) → Laid h gs → quota < length h.accounts → h.next ≤ 4000000000 → Placing h gs quota extent g → Left h n gs ms hs quota extent g → Done h n gs hs quota extent g
unfolding objects_of
place_done h n gs ms hs quota extent g l quota_in few p left =
    let r : Range = h.range in
    let base : ℕ = r.base in
    let s = p.linked.free_stands.stands in
    let free_ = p.linked.free_stands.is in
    let size_is = p.linked.free_stands.size_is in
    let k = sits r gs g.at l.settled.tiled s in
    let c : Chunk = s.chunk in
    let front : ℕ = g.base - 8 - g.at in
    let back : ℕ = c.size - front - (extent + 8) in
    let n_ = carving r gs g extent l.settled.tiled p.linked p.fitting in
    let low = p.fitting.low in
    let high = p.fitting.high in
    let some = p.fitting.some in
    let place = s.place in
    let room = n_.room in
    let c_size : c.size ≡ front + (extent + 8) + back = omega (arith, size_is, room) in
    let back_even : back % 8 ≡ 0 = (let b = n_.back in ap (λ m. (m - front - (extent + 8)) % 8) size_is ∙ b) in
    let number : ℕ = h.next in
    let d : Chunk = new_chunk extent number in
    let ds : List Chunk = carved_list s.above front d back s.below in
    let list : chunks n.range ms ≡ ds = left.chunks_are ∙ ap (replaced g.at (carved front extent number) base) s.whole ∙ replaced_is (carved front extent number) g.at base s.above c s.below k.above_are place ∙ ap (λ (x : List Chunk). s.above ++ x) (append_assoc (gap front) (d ∷ gap back) s.below) in
    let ds_are : AreChunks ds = carved_are front extent number back s.above s.below k.above_are k.below_are n_.front back_even p.fitting.whole some (omega (arith, few)) in
    let even = l.settled.tiled.even in
    let e0 = even.0 in
    let e1 = even.1 in
    let e2 = even.2 in
    let old_are : AreChunks (s.above ++ c ∷ s.below) = subst AreChunks s.whole l.settled.tiled.are in
    let m = carved_more base front back extent number s.above c s.below e1 old_are free_ c_size ds_are in
    let offset : g.base - 8 - base ≡ total_size s.above + front = omega (arith, place, low) in
    let at_offset : base + total_size s.above + front - base ≡ total_size s.above + front = omega arith in
    let object_base : base + total_size s.above + front + 8 ≡ g.base = omega (arith, place, low) in
    let sum = k.sum in
    let slots = l.slots in
    let slot_in : (total_size s.above + front) / 16 < length h.names = omega (arith, slots, sum, c_size, some, e2) in
    let names_is : n.names ≡ set h.names ((total_size s.above + front) / 16) (chunk_name quota (total_size s.above + front)) = left.names ∙ ap (λ o. set h.names (o / 16) (chunk_name quota o)) offset in
    let e_ram : n.range.ram ≡ r.ram = ap (λ (x : Range). x.ram) left.range in
    let e_base : n.range.base ≡ base = ap (λ (x : Range). x.base) left.range in
    let e_length : n.range.length ≡ r.length = ap (λ (x : Range). x.length) left.range in
    let kc = carved_at base front back s.above d s.below in
    let first = kc.first in
    let ram_low = l.settled.tiled.above in
    let used_there : (q : ℕ) → g.base ≤ q → q < g.base + extent → InUse q base ds = λ q from to.
    subst (InUse q base) (sym kc.list) (in_use_second q base (s.above ++ gap front) (d ∷ (gap back ++ s.below)) (inl (refl, omega (arith, from, first, object_base), omega (arith, to, first, object_base)))) in
    let same : SameChunks n.range ms hs = settled_same n.range ms hs left.settled left.zeroed.size
    (λ q st.
    let head = head_there n.range ms q left.settled.tiled st in
    let over = head.over in
    let q_even = head.even in
    let st_ds : Starts q base ds = subst (λ b. Starts q b ds) e_base (subst (Starts q n.range.base) list st) in
    ap (λ (x : Granule). x.cap) (left.zeroed.rest ((q - n.range.ram) / 8) (elim (le_tells g.base q) [
      | inr a ↦ inl (let lt = a.1 in omega (arith, lt, over, q_even, e_ram, e0, ram_low, low, place))
      | inl a ↦ elim (lt_tells q (g.base + extent)) [
        | inl b ↦ absurd (head_unused q base ds ds_are st_ds (used_there q a.1 b.1))
        | inr b ↦ inr (let ge = b.1 in omega (arith, ge, over, q_even, e_ram, low))
      ]
    ]))) in
    let list_hs : chunks n.range hs ≡ ds = same.chunks_are ∙ list in
    let o : Object = placed_object h quota extent g.base in
    let rs : List Object = objects_in h.names base base s.above in
    let qs : List Object = objects_in h.names base (base + total_size s.above + c.size) s.below in
    let old_rows : objects_in h.names base base (chunks r gs) ≡ rs ++ qs = ap (λ cs. objects_in h.names base base cs) s.whole ∙ free_rows h.names base s.above c s.below free_ in
    let new_rows : objects_in n.names n.range.base n.range.base (chunks n.range hs) ≡ rs ++ o ∷ qs =
    ap (λ b. objects_in n.names b b (chunks n.range hs)) e_base ∙ ap (λ cs. objects_in n.names base base cs) list_hs ∙ ap (λ t. objects_in t base base ds) names_is
    ∙ carved_rows h.names base front back extent number quota s.above c s.below m c_size slot_in
    ∙ ap (λ b. rs ++ (let x : Object = record { number = number; quota = quota; base = b; length = extent; charge = extent + 8; live = true; painted = false } in x) ∷ qs) object_base in
    let before : Each (λ q. q.base ≤ o.base) rs = each_more (λ q. q.base + q.length ≤ base + total_size s.above) (λ q. q.base ≤ o.base) rs (λ q hi. omega (arith, hi, place, low)) (rows_high h.names base base s.above k.above_are) in
    let behind : Each (λ q. o.base < q.base) qs = each_more (λ q. base + total_size s.above + c.size + 8 ≤ q.base) (λ q. o.base < q.base) qs (λ q lo. omega (arith, lo, place, high, size_is)) (rows_low h.names base (base + total_size s.above + c.size) s.below) in
    let placed : rs ++ o ∷ qs ≡ placed_among o (objects_in h.names base base (chunks r gs)) = sym (placed_between o rs qs before behind) ∙ ap (placed_among o) (sym old_rows) in
    let accounts_length : length n.accounts ≡ length h.accounts = ap length left.accounts ∙ length-set h.accounts quota (record { limit = (account h quota).limit; charged = (account h quota).charged + (extent + 8) }) in
    let account_is : (q : ℕ) → account n q ≡ cond (nat_eq quota q) (record { limit = (account h quota).limit; charged = (account h quota).charged + (extent + 8) }) (account h q) =
    account_after h n quota ((account h quota).charged + (extent + 8)) quota_in left.accounts in
    let quotas_old = each_split (λ x. x.quota < length h.accounts) rs qs (subst (λ x. Each (λ y. y.quota < length h.accounts) x) old_rows l.quotas) in
    let numbers_old = each_split (λ x. x.number < h.next) rs qs (subst (λ x. Each (λ y. y.number < h.next) x) old_rows l.numbers) in
    let wider : (x : Object) → x.quota < length h.accounts → x.quota < length n.accounts = λ x lt. omega (arith, lt, accounts_length) in
    let next = left.next in
    let later : (x : Object) → x.number < h.next → x.number < n.next = λ x lt. omega (arith, lt, next) in
    let charged_now : (q : ℕ) → (account n q).charged ≡ charges q (rs ++ o ∷ qs) = λ q. (
    let was : (account h q).charged ≡ charges q rs + charges q qs = l.charged q ∙ ap (charges q) old_rows ∙ charges_both q rs qs in
    let now : charges q (rs ++ o ∷ qs) ≡ charges q rs + (cond (nat_eq quota q) (extent + 8) 0 + charges q qs) = charges_both q rs (o ∷ qs) in
    elim (eq_tells quota q) [
      | inl e ↦
          let mine : (account n q).charged ≡ (account h quota).charged + (extent + 8) = ap (λ (a : Account). a.charged) (account_is q) ∙ rw e.0 refl in
          let is = e.1 in
          let was_quota : (account h quota).charged ≡ charges q rs + charges q qs = ap (λ t. (account h t).charged) is ∙ was in
          let now_ : charges q (rs ++ o ∷ qs) ≡ charges q rs + (extent + 8 + charges q qs) = rw e.0 at now in
          omega (arith, mine, was_quota, now_)
      | inr e ↦
          let mine : (account n q).charged ≡ (account h q).charged = ap (λ (a : Account). a.charged) (account_is q) ∙ rw e.0 refl in
          let now_ : charges q (rs ++ o ∷ qs) ≡ charges q rs + (0 + charges q qs) = rw e.0 at now in
          omega (arith, mine, was, now_)
    ]
    ) in
    let within_new = p.within in
    let within_now : (q : ℕ) → (account n q).charged ≤ (account n q).limit =
    within_after h n quota ((account h quota).charged + (extent + 8)) quota_in left.accounts (omega (arith, within_new)) l.within in
    let named_old : (x : ℕ) → x % 8 ≡ 0 → begins_used_chunk h.names x ≡ is_used_at (base + x) base (s.above ++ c ∷ s.below) = λ x x_even. l.named x x_even ∙ ap (λ cs. is_used_at (base + x) base cs) s.whole in
    let slot_at : (base + total_size s.above + front - base) / 16 < length h.names = rw at_offset slot_in in
    let named_now : (x : ℕ) → x % 8 ≡ 0 → begins_used_chunk n.names x ≡ is_used_at (n.range.base + x) n.range.base (chunks n.range hs) = λ x x_even.
    ap (λ t. begins_used_chunk t x) names_is ∙ ap (λ t. begins_used_chunk (set h.names (t / 16) (chunk_name quota t)) x) (sym at_offset) ∙ one_named h.names base (base + total_size s.above + front) quota (s.above ++ c ∷ s.below) ds m slot_at named_old x x_even
    ∙ ap (λ cs. is_used_at (base + x) base cs) (sym list_hs) ∙ ap (λ b. is_used_at (b + x) b (chunks n.range hs)) (sym e_base) in
    let distinct_now : Distinct (rs ++ o ∷ qs) = distinct_between o rs qs (subst Distinct old_rows l.distinct) (others_below h.next rs numbers_old.0) (others_below h.next qs numbers_old.1) in
    let waiting_was = waiting_both rs qs in
    let waiting_now = waiting_both rs (o ∷ qs) in
    let waiting_old : h.waiting ≡ waiting_in (rs ++ qs) = l.waiting ∙ ap waiting_in old_rows in
    let waiting_same = left.waiting in
    let waiting_all : n.waiting ≡ waiting_in (rs ++ o ∷ qs) = omega (arith, waiting_was, waiting_now, waiting_old, waiting_same) in
    let place_unused : (q : ℕ) → g.base ≤ q → q < g.base + extent → Spared r (chunks r gs) q → ⊥ = λ q from to.
    (let fits = k.fits in loose r (chunks r gs) q (omega (arith, from, place, low)) (omega (arith, to, high, size_is, fits))
    (λ used. free_unused q base s.above c s.below free_ (omega (arith, from, place, low)) (omega (arith, to, place, high, size_is)) (subst (InUse q base) s.whole used))) in
    record {
      laid = record {
        settled = same.settled;
        slots = ap length names_is ∙ length-set h.names ((total_size s.above + front) / 16) (chunk_name quota (total_size s.above + front)) ∙ slots ∙ ap (λ x. x / 16) (sym e_length);
        named = named_now;
        quotas = subst (λ x. Each (λ y. y.quota < length n.accounts) x) (sym new_rows) (each_both (λ y. y.quota < length n.accounts) rs (o ∷ qs) (each_more (λ x. x.quota < length h.accounts) (λ y. y.quota < length n.accounts) rs wider quotas_old.0) ((omega (arith, quota_in, accounts_length), each_more (λ x. x.quota < length h.accounts) (λ y. y.quota < length n.accounts) qs wider quotas_old.1)));
        few = (let few_ = l.few in omega (arith, few_, accounts_length));
        charged = λ q. charged_now q ∙ ap (charges q) (sym new_rows);
        within = within_now;
        numbers = subst (λ x. Each (λ y. y.number < n.next) x) (sym new_rows) (each_both (λ y. y.number < n.next) rs (o ∷ qs) (each_more (λ x. x.number < h.next) (λ y. y.number < n.next) rs later numbers_old.0) ((omega (arith, next), each_more (λ x. x.number < h.next) (λ y. y.number < n.next) qs later numbers_old.1)));
        distinct = subst Distinct (sym new_rows) distinct_now;
        waiting = waiting_all ∙ ap waiting_in (sym new_rows);
      };
      objects = new_rows ∙ placed;
      charged = charged_now quota ∙ ap (charges quota) (sym new_rows);
      zero = λ j from to. ap (λ (x : Granule). x.cap) (left.zeroed.zero j (omega (arith, from), omega (arith, to, low, place, ram_low)));
      rest = λ j away beside.
          left.zeroed.rest j (elim beside [ inl a ↦ inl (omega (arith, a)) | inr b ↦ inr (omega (arith, b, low, place, ram_low)) ])
          ∙ left.heads j (λ head. away (subst (Starts (r.ram + 8 * j) base) (sym same.chunks_are) head));
      stays = record {
        size = left.zeroed.size ∙ left.keeps.size;
        marks = λ j. zero_marks (g.base - r.ram) (g.base - r.ram + extent) ms hs j left.zeroed ∙ left.keeps.marks j;
        tags = no_tag_then gs ms hs left.keeps.tags (zeroed_tags (g.base - r.ram) (g.base - r.ram + extent) ms hs left.zeroed);
        rest = λ j seen.
            let spared : Spared r (chunks r gs) (r.ram + 8 * j) = elim seen [ inl a ↦ inl a | inr (inl b) ↦ inr (inl b) | inr (inr e) ↦ inr (inr (live_spared h gs (r.ram + 8 * j) l e)) ] in
            left.zeroed.rest j (elim (le_tells g.base (r.ram + 8 * j)) [
              | inr a ↦ inl (let lt = a.1 in omega (arith, lt))
              | inl a ↦ elim (lt_tells (r.ram + 8 * j) (g.base + extent)) [
                | inl b ↦ absurd (place_unused (r.ram + 8 * j) a.1 b.1 spared)
                | inr b ↦ inr (let ge = b.1 in omega (arith, ge, low, place, ram_low))
              ]
            ]) ∙ left.keeps.rest j spared;
      };
      same = record { range = left.range; limits = limit_after h n quota ((account h quota).charged + (extent + 8)) quota_in left.accounts; quotas = accounts_length };
    }
  where
    zero_marks : (from to : ℕ) (old new : List Granule) (j : ℕ) → IsZeroed from to old new → (granule_at new j).mark ≡ (granule_at old j).mark
    zero_marks from to old new j z = elim (le_tells from (8 * j)) [
      | inl a ↦ elim (lt_tells (8 * j) to) [ inl b ↦ ap (λ (x : Granule). x.mark) (z.zero j (a.1, b.1)) | inr b ↦ ap (λ (x : Granule). x.mark) (z.rest j (inr b.1)) ]
      | inr a ↦ ap (λ (x : Granule). x.mark) (z.rest j (inl a.1))
    ]
