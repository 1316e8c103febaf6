-- Stacks that lie apart from the region: zeroing one, and writing to one, meets nothing hidden.
use Rattle.std.proofs.Common.{ℕ, zero, suc, ◌≡◌, ◌+◌, ◌*◌, ◌%◌, ◌<◌, ◌≤◌, inl, inr, Bool, true, false, nat_le, nat_lt, List, [], ◌∷◌, length, map, refl, sym, ap, ◌∙◌, arith, subst}
use Rattle.std.proofs.lemmas.List.{get_or-map}
use Rattle.std.proofs.Math.ListN.{get_or}
use Rattle.std.proofs.lemmas.Bool.{leb-true, ltb-true, and_parts}
use Rattle.law_lists.proofs.Tests.{bool_tells, lt_tells}
use Rattle.law_granules.proofs.Lists.{zeroed_length, zeroed_at}
use Rattle.def_memory.specs.declared.Granule.{Granule}
use Rattle.def_words.specs.declared.Cap.{Cap}
use Rattle.def_memory.specs.Granules.{cap_in, holding_all}
use Rattle.def_memory.specs.Ranges.{zeroed_from}
use Rattle.def_machine.specs.Objects.{Each}
use Rattle.law_areas.proofs.Changes.{all_touches}
use Rattle.law_areas.proofs.Writes.{all_length}
use Rattle.law_hidden.proofs.Granules.{zeroed_seen}
use Rattle.law_hidden.proofs.Seen.{held_seen}
use Rattle.ct_areas.specs.declared.thread.Area.{Area}
use Rattle.ct_areas.specs.declared.thread.Thread as row
use Rattle.ct_switch.specs.Ready.{HasStack, IsReady}
use Rattle.ct_engine.specs.declared.rows.Region.{Region}
use Rattle.ct_engine.specs.declared.rows.Rows.{Rows}
use Rattle.ct_engine.specs.Seen.{EngineRow, engine_view, with_granules, no_area, area_at, region_hides, hidden}
use Rattle.ct_engine.specs.Kept.{StackLies, IsEngine}
use Rattle.ct_engine.specs.Calls.{TopLies}
use Rattle.ct_engine.proofs.Lists.{Lies}
use Rattle.ct_engine.proofs.Whole.{the_runner}
use Rattle.ct_engine.proofs.Goes.{Runner, running_lies, running_alive, running_top}
use Rattle.ct_engine.proofs.Away.{HiddenStays, away_holds, away_seen, hidden_cases}
use Rattle.ct_engine.proofs.HeapStays.{heap_low}

-- ---- where they lie

stack_at : (g : Region) (base size : ℕ) (ts : List row.Thread) (t : ℕ) (d : row.Thread)
    → Each (StackLies g base size) (map (λ (u : row.Thread). u.area) ts) → t < length ts → StackLies g base size (get_or ts t d).area
stack_at g base size [] t d stacks lt = absurd (omega (arith, lt))
stack_at g base size (u ∷ us) zero d stacks lt = stacks.0
stack_at g base size (u ∷ us) (suc t) d stacks lt = stack_at g base size us t d stacks.1 (omega (arith, lt))

has_stack : (g : Region) (base : ℕ) (gs : List Granule) (runs : Bool) (t : row.Thread) → Lies g.ram gs runs g.trusted g.end t → StackLies g base (8 * length gs) t.area
    → HasStack (8 * length gs) t.area
has_stack g base gs runs t l s =
    let base = l.base in
    let low = s.low in
    let high = s.high in
    let from = l.low in
    let to = l.high in
    record {
      even = s.even;
      whole = s.whole;
      low = omega (arith, base, low);
      high = omega (arith, base, high);
      apart = elim s.apart [ inl a ↦ inl (omega (arith, a, from)) | inr b ↦ inr (omega (arith, b, to)) ];
    }

-- of the running thread
module _ {gs : List Granule} {rows : Rows} {t : ℕ} {r : row.Thread} (h : Runner gs rows t r) where
  pub running_stack : StackLies rows.region rows.heap.range.base (8 * length gs) r.area
  running_stack =
      let base : ℕ = rows.heap.range.base in
      subst (λ (u : row.Thread). StackLies rows.region base (8 * length gs) u.area) (sym h.is)
      (stack_at rows.region base (8 * length gs) rows.list.items t r h.holds.stacks (the_runner h.holds t h.runs))

  pub running_area : area_at (engine_view gs rows) t ≡ r.area
  running_area =
      get_or-map (λ (u : row.Thread). u.area) rows.list.items t r no_area (the_runner h.holds t h.runs)
      ∙ ap (λ (u : row.Thread). u.area) (sym h.is)

  -- what a call and a frame's end ask of the row
  pub ready_is : TopLies (engine_view gs rows) t → IsReady gs r
  ready_is top =
      let k = (running_lies h).kept in
      let s : EngineRow = engine_view gs rows in
      let low : (area_at s t).stack ≤ r.top = subst (λ n. (area_at s t).stack ≤ n) (running_top h) top.low in
      let high : r.top ≤ (area_at s t).stack + (area_at s t).stack_length =
      subst (λ n. n ≤ (area_at s t).stack + (area_at s t).stack_length) (running_top h) top.high in
      record {
        area = k.area;
        stack = has_stack rows.region rows.heap.range.base gs true r (running_lies h) running_stack;
        alive = running_alive h;
        room = k.room;
        low = subst (λ (a : Area). a.stack ≤ r.top) running_area low;
        high = subst (λ (a : Area). r.top ≤ a.stack + a.stack_length) running_area high;
        even = subst (λ n. n % 16 ≡ 0) (running_top h) top.even;
      }

-- ---- what isn't hidden

pub hidden_place : (g : Region) (k : ℕ) → region_hides g k ≡ true → (g.trusted ≤ g.ram + 8 * k) × (g.ram + 8 * k < g.end)
hidden_place g k hidden =
    let both = and_parts (nat_le g.trusted (g.ram + 8 * k)) (nat_lt (g.ram + 8 * k) g.end) hidden in
    (leb-true g.trusted (g.ram + 8 * k) both.0, ltb-true (g.ram + 8 * k) g.end both.1)

-- what stands in a stack
stack_seen : (gs : List Granule) (rows : Rows) (a : Area) (j : ℕ) → IsEngine gs rows → StackLies rows.region rows.heap.range.base (8 * length gs) a
    → a.stack ≤ rows.region.ram + 8 * j → rows.region.ram + 8 * j < a.stack + a.stack_length → hidden gs rows j ≡ false
stack_seen gs rows a j holds s low high = elim (bool_tells (hidden gs rows j)) [
  | inl is_hidden ↦ absurd (elim (hidden_cases gs rows j holds is_hidden) [
    | inl region ↦
        (let place = hidden_place rows.region j region in
        let from = place.0 in
        let to = place.1 in
        elim s.apart [ inl x ↦ omega (arith, from, high, x) | inr x ↦ omega (arith, to, low, x) ])
    | inr heap ↦ (let start = heap_low rows.heap gs j heap in let ram = holds.heap.ram in let before = s.before in omega (arith, start, ram, before, high))
  ])
  | inr open_ ↦ open_
]

never_hidden : (gs : List Granule) (rows : Rows) (j : ℕ) → hidden gs rows j ≡ true → hidden gs rows j ≡ false → ⊥
never_hidden gs rows j is_hidden open_ = let clash : true ≡ false = sym is_hidden ∙ open_ in cc

-- ---- one is zeroed

stack_stays : (gs : List Granule) (rows : Rows) (a : Area) (high : ℕ) → IsEngine gs rows → StackLies rows.region rows.heap.range.base (8 * length gs) a → high ≤ a.stack + a.stack_length
    → HiddenStays gs (zeroed_from a.stack high rows.region.ram gs) rows
stack_stays gs rows a high holds s le = λ k is_hidden.
    zeroed_at a.stack high rows.region.ram gs k (λ (g : Granule). g.cap ≡ cap_in gs k)
    (λ lo hi. absurd (never_hidden gs rows k is_hidden (stack_seen gs rows a k holds s lo (omega (arith, hi, le)))))
    (λ out. refl)

pub zeroed_holds : (gs : List Granule) (rows : Rows) (a : Area) (high : ℕ) → IsEngine gs rows → StackLies rows.region rows.heap.range.base (8 * length gs) a
    → high ≤ a.stack + a.stack_length → IsEngine (zeroed_from a.stack high rows.region.ram gs) rows
zeroed_holds gs rows a high holds s le =
    away_holds gs (zeroed_from a.stack high rows.region.ram gs) rows holds (zeroed_length a.stack high rows.region.ram gs) (stack_stays gs rows a high holds s le)

pub zeroed_is_seen : (gs : List Granule) (rows : Rows) (a : Area) (high : ℕ) → IsEngine gs rows → StackLies rows.region rows.heap.range.base (8 * length gs) a
    → high ≤ a.stack + a.stack_length
    → engine_view (zeroed_from a.stack high rows.region.ram gs) rows ≡ with_granules (engine_view gs rows) (zeroed_from a.stack high rows.region.ram (engine_view gs rows).state.granules)
zeroed_is_seen gs rows a high holds s le =
    away_seen gs (zeroed_from a.stack high rows.region.ram gs) rows holds (zeroed_length a.stack high rows.region.ram gs) (stack_stays gs rows a high holds s le)
    ∙ ap (λ xs. with_granules (engine_view gs rows) xs) (sym (zeroed_seen (hidden gs rows) gs a.stack high rows.region.ram))

-- ---- words are written to one

-- So many granules of a stack from k on.
pub record InStack (rows : Rows) (a : Area) (k n : ℕ) : Type 0 where
  pub low : a.stack ≤ rows.region.ram + 8 * k
  pub high : rows.region.ram + 8 * (k + n) ≤ a.stack + a.stack_length

words_stay : (gs : List Granule) (rows : Rows) (a : Area) (k : ℕ) (cs : List Cap) → IsEngine gs rows → StackLies rows.region rows.heap.range.base (8 * length gs) a
    → InStack rows a k (length cs) → HiddenStays gs (holding_all gs k cs) rows
words_stay gs rows a k cs holds s place = λ j is_hidden.
    let low = place.low in
    let high = place.high in
    ap (λ (g : Granule). g.cap) ((all_touches gs k cs).rest j (elim (lt_tells j k) [
      | inl below ↦ inl below.1
      | inr above ↦ elim (lt_tells j (k + length cs)) [
        | inl within ↦
            (let from = above.1 in
            let to = within.1 in
            absurd (never_hidden gs rows j is_hidden (stack_seen gs rows a j holds s (omega (arith, low, from)) (omega (arith, high, to)))))
        | inr past ↦ inr past.1
      ]
    ]))

pub words_hold : (gs : List Granule) (rows : Rows) (a : Area) (k : ℕ) (cs : List Cap) → IsEngine gs rows → StackLies rows.region rows.heap.range.base (8 * length gs) a
    → InStack rows a k (length cs) → IsEngine (holding_all gs k cs) rows
words_hold gs rows a k cs holds s place =
    away_holds gs (holding_all gs k cs) rows holds (all_length gs k cs) (words_stay gs rows a k cs holds s place)

pub words_are_seen : (gs : List Granule) (rows : Rows) (a : Area) (k : ℕ) (cs : List Cap) → IsEngine gs rows → StackLies rows.region rows.heap.range.base (8 * length gs) a
    → InStack rows a k (length cs) → engine_view (holding_all gs k cs) rows ≡ with_granules (engine_view gs rows) (holding_all (engine_view gs rows).state.granules k cs)
words_are_seen gs rows a k cs holds s place =
    let low = place.low in
    let high = place.high in
    away_seen gs (holding_all gs k cs) rows holds (all_length gs k cs) (words_stay gs rows a k cs holds s place)
    ∙ ap (λ xs. with_granules (engine_view gs rows) xs)
    (sym (held_seen (hidden gs rows) gs k cs (λ j from to. stack_seen gs rows a j holds s (omega (arith, low, from)) (omega (arith, high, to)))))
