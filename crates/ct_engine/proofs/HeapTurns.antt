-- A change of the heap, and of memory from the heap's base on: what is kept, and what is seen.
use Rattle.std.proofs.Common.{ℕ, ◌≡◌, ◌+◌, ◌*◌, ◌/◌, ◌<◌, ◌≤◌, List, length, map, Option, unwrap_or, refl, sym, ap, ◌∙◌, subst, arith}
use Rattle.std.proofs.lemmas.List.{ext_get_or, length-map}
use Rattle.std.proofs.Math.ListN.{get_or, get_or-map}
use Rattle.def_memory.specs.declared.Granule.{Granule}
use Rattle.def_memory.specs.Granules.{cap_in}
use Rattle.def_machine.specs.Objects.{Each}
use Rattle.def_hidden.specs.Hiding.{with_hidden}
use Rattle.def_chunks.specs.declared.rows.Range.{Range}
use Rattle.def_chunks.specs.declared.rows.Account.{Account}
use Rattle.def_chunks.specs.Heaps.{HeapRow, objects_of, no_account, Laid}
use Rattle.def_chunks.specs.Hides.{hides_heap, heap_hides}
use Rattle.ct_heap.specs.Effects.{Same}
use Rattle.ct_areas.specs.declared.thread.Thread as row
use Rattle.ct_engine.specs.declared.rows.Rows.{Rows}
use Rattle.ct_engine.specs.Seen.{EngineRow, region_hides, hides_over, limits_in, threads_of, engine_view}
use Rattle.ct_engine.specs.Kept.{AreasFrom, IsClear, StackLies, IsEngine}
use Rattle.ct_engine.proofs.Lists.{rows_same}
use Rattle.ct_engine.proofs.HiddenTwice.{with_hidden_both}

-- these rows, with this heap and this front
abbrev pub with_heap : Rows → HeapRow → Option ℕ → Rows
with_heap rows n front = record rows { heap = n; front = front }

-- ---- limits

pub limit_of : (accounts : List Account) (q : ℕ) → get_or (limits_in accounts) q 0 ≡ (get_or accounts q no_account).limit
limit_of accounts q = get_or-map (λ (a : Account). a.limit) accounts q no_account

limits_length : (accounts : List Account) → length (limits_in accounts) ≡ length accounts
limits_length accounts = length-map accounts (λ (a : Account). a.limit)

pub limits_stay : (h n : HeapRow) → Same h n → limits_in n.accounts ≡ limits_in h.accounts
limits_stay h n same =
    ext_get_or 0 (limits_in n.accounts) (limits_in h.accounts)
    (limits_length n.accounts ∙ same.quotas ∙ sym (limits_length h.accounts))
    (λ q lt. limit_of n.accounts q ∙ same.limits q ∙ sym (limit_of h.accounts q))

-- a quota is one of the accounts
pub quota_there : (gs : List Granule) (rows : Rows) (s : EngineRow) (quota : ℕ) → engine_view gs rows ≡ s → quota < length s.limits → quota < length rows.heap.accounts
quota_there gs rows s quota is lt =
    let count : length s.limits ≡ length rows.heap.accounts = ap (λ (x : EngineRow). length x.limits) (sym is) ∙ limits_length rows.heap.accounts in
    omega (arith, count, lt)

-- ---- a change

-- the heap lies where it lay, and below it memory holds what it held
pub record HeapTurns (gs hs : List Granule) (rows : Rows) (n : HeapRow) : Type 0 where
  pub size : length hs ≡ length gs
  pub below : (k : ℕ) → rows.heap.range.ram + 8 * k < rows.heap.range.base → cap_in hs k ≡ cap_in gs k
  pub same : Same rows.heap n

rows_stay : (gs hs : List Granule) (rows : Rows) (n : HeapRow) → IsEngine gs rows → HeapTurns gs hs rows n
    → AreasFrom rows.region.ram hs rows.standing.items 0 rows.region.trusted rows.region.end rows.list.items
    × (threads_of hs rows.standing.items 0 rows.list.items ≡ threads_of gs rows.standing.items 0 rows.list.items)
rows_stay gs hs rows n holds t =
    let ram = holds.heap.ram in
    let past = holds.heap.past in
    rows_same rows.region.ram gs hs rows.standing.items rows.standing.items 0 rows.region.trusted rows.region.end rows.list.items
    holds.areas t.size (λ m lo hi. t.below m (omega (arith, hi, ram, past))) (λ u lo. refl)

pub turned_holds : (gs hs : List Granule) (rows : Rows) (n : HeapRow) (front : Option ℕ) → IsEngine gs rows → HeapTurns gs hs rows n → Laid n hs → IsClear n hs
    → unwrap_or front 0 ≤ 8 * length gs → IsEngine hs (with_heap rows n front)
turned_holds gs hs rows n front holds t laid clear within =
    let base : n.range.base ≡ rows.heap.range.base = ap (λ (r : Range). r.base) t.same.range in
    let ram : n.range.ram ≡ rows.heap.range.ram = ap (λ (r : Range). r.ram) t.same.range in
    let past = holds.heap.past in
    record {
      areas = (rows_stay gs hs rows n holds t).0;
      runs = holds.runs;
      sizes = holds.sizes;
      alone = holds.alone;
      stacks = subst (λ b. Each (StackLies rows.region b (8 * length hs)) (map (λ (r : row.Thread). r.area) rows.list.items)) (sym base)
          (subst (λ m. Each (StackLies rows.region rows.heap.range.base (8 * m)) (map (λ (r : row.Thread). r.area) rows.list.items)) (sym t.size) holds.stacks);
      heap = record {
        laid = laid;
        ram = ram ∙ holds.heap.ram;
        past = omega (arith, past, base);
        within = subst (λ m. unwrap_or front 0 ≤ 8 * m) (sym t.size) within;
        clear = clear;
      };
      room = holds.room ∙ ap (λ (r : Range). r.length / 16) (sym t.same.range);
    }

hide_over : (rows : Rows) (n : HeapRow) (hs : List Granule) → n.range.ram ≡ rows.region.ram
    → with_hidden (hides_over rows.region n.range (objects_of n hs)) hs ≡ with_hidden (region_hides rows.region) (with_hidden (heap_hides n hs) hs)
hide_over rows n hs ram =
    with_hidden_both (region_hides rows.region) (λ k. hides_heap rows.region.ram n.range.base (n.range.base + n.range.length) (objects_of n hs) k) hs
    ∙ ap (λ a. with_hidden (region_hides rows.region) (with_hidden (λ k. hides_heap a n.range.base (n.range.base + n.range.length) (objects_of n hs) k) hs)) (sym ram)

pub turned_seen : (gs hs : List Granule) (rows : Rows) (n : HeapRow) (front : Option ℕ) → IsEngine gs rows → HeapTurns gs hs rows n
    → engine_view hs (with_heap rows n front)
    ≡ record (engine_view gs rows) { state = record (engine_view gs rows).state { granules = with_hidden (region_hides rows.region) (with_hidden (heap_hides n hs) hs); objects = objects_of n hs; next = n.next; front = front } }
turned_seen gs hs rows n front holds t =
    let threads = (rows_stay gs hs rows n holds t).1 in
    rw (
      hide_over rows n hs (ap (λ (r : Range). r.ram) t.same.range ∙ holds.heap.ram),
      threads,
      limits_stay rows.heap n t.same,
      ap (λ (r : Range). r.base) t.same.range,
      ap (λ (r : Range). r.length) t.same.range,
    ) refl
