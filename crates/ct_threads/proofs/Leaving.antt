-- A frame's end: what it leaves of a row.
use Rattle.std.proofs.Common.{ℕ, zero, suc, ◌≡◌, ◌+◌, ◌-◌, ◌*◌, ◌==◌, ◌<◌, ◌≤◌, ◌⊎◌, inl, inr, Bool, true, false, nat_lt, List, length, refl, sym, ap, ◌∙◌, arith, subst}
use Rattle.std.proofs.lemmas.Bool.{eqb-true, lt-ltb}
use Rattle.law_lists.proofs.Tests.{lt_tells, chosen}
use Rattle.def_words.specs.declared.Cap.{Cap}
use Rattle.def_memory.specs.declared.Granule.{Granule}
use Rattle.def_memory.specs.Granules.{granule_at, blank, plain}
use Rattle.def_memory.specs.Ranges.{zeroed_from}
use Rattle.law_granules.proofs.Lists.{zeroed_length, zeroed_at}
use Rattle.def_machine.specs.State.{nobody, Frame}
use Rattle.def_areas.specs.Touches.{Touches}
use Rattle.ct_areas.specs.declared.thread.Thread as row
use Rattle.ct_areas.specs.Threads.{area_begin, area_end, thread_of}
use Rattle.ct_areas.specs.Parts.{register_in, without_frame, shallower, inner_frame, filtered_frame}
use Rattle.ct_areas.proofs.Rows.{popped_touches}
use Rattle.ct_switch.specs.Ready.{IsReady}
use Rattle.ct_switch.specs.Calls.{thread_left, memory_left, row_left, ended_row, restored_row}
use Rattle.ct_threads.specs.Kept.{IsKept}
use Rattle.ct_threads.specs.Rows.{Ends}
use Rattle.ct_threads.proofs.Clean.{popped_kept}
use Rattle.ct_threads.proofs.Beside.{kept_as, kept_beside}

pub ended_is : (gs : List Granule) (runs : Bool) (u : row.Thread) → u.depth ≡ 0 → thread_of gs runs u ≡ nobody
ended_is gs runs u e = rw e refl

-- a change of a range, before and after other granules are zeroed
pub zeroed_touches : (lo hi from to place : ℕ) (gs hs : List Granule) → Touches lo hi gs hs → Touches lo hi (zeroed_from from to place gs) (zeroed_from from to place hs)
zeroed_touches lo hi from to place gs hs touches = record {
  size = zeroed_length from to place hs ∙ touches.size ∙ sym (zeroed_length from to place gs);
  marks = λ k. mark_is hs k ∙ touches.marks k ∙ sym (mark_is gs k);
  rest = λ k out. zeroed_at from to place hs k (λ (g : Granule). g ≡ granule_at (zeroed_from from to place gs) k)
      (λ a b. zeroed_at from to place gs k (λ (g : Granule). blank (granule_at hs k) ≡ g) (λ c d. ap blank (touches.rest k out)) (λ o. absurd (never k a b o)))
      (λ o. zeroed_at from to place gs k (λ (g : Granule). granule_at hs k ≡ g) (λ c d. absurd (never k c d o)) (λ p. touches.rest k out));
}
  where
    mark_is : (xs : List Granule) (k : ℕ) → (granule_at (zeroed_from from to place xs) k).mark ≡ (granule_at xs k).mark
    mark_is xs k = zeroed_at from to place xs k (λ (g : Granule). g.mark ≡ (granule_at xs k).mark) (λ a b. refl) (λ o. refl)

    never : (k : ℕ) → from ≤ place + 8 * k → place + 8 * k < to → (place + 8 * k < from) ⊎ (to ≤ place + 8 * k) → ⊥
    never k a b o = elim o [ inl c ↦ omega (arith, a, c) | inr c ↦ omega (arith, b, c) ]

-- ---- the row

-- what the row that is left has of the one that was
pub record Leaves (t q : row.Thread) : Type 0 where
  pub area : q.area ≡ t.area
  pub depth : q.depth ≡ t.depth - 1
  pub zero : register_in q 0 ≡ plain 0

row_leaves : (gs : List Granule) (t : row.Thread) (first second : Frame → Cap) → Leaves t (row_left gs t first second)
row_leaves gs t first second =
    chosen (λ (q : row.Thread). Leaves t q) (t.depth == 1) (ended_row t)
    (restored_row (shallower gs t) (inner_frame gs t) (filtered_frame gs t.area.ram (inner_frame gs t)) (first (inner_frame gs t)) (second (inner_frame gs t)))
    (λ one. (let is = eqb-true t.depth 1 one in record { area = refl; depth = omega (arith, is); zero = refl }))
    (λ more. record { area = refl; depth = refl; zero = refl })

one_less : (n : ℕ) → nat_lt 1 n ≡ nat_lt 0 (n - 1)
one_less zero = refl
one_less (suc zero) = refl
one_less (suc (suc n)) = lt-ltb 1 (suc (suc n)) (omega arith) ∙ sym (lt-ltb 0 (suc (suc n) - 1) (omega arith))

pub ends_are : (gs hs : List Granule) (t q : row.Thread) (more : Bool) (first second : Frame → Cap) → IsKept gs true t → IsReady gs t → more ≡ nat_lt 1 t.depth
    → thread_of hs true q ≡ thread_left gs t first second → hs ≡ memory_left gs t → q ≡ row_left gs t first second → Ends gs hs t q more first second
ends_are gs hs t q more first second k r which same memory row_is =
    let ms : List Granule = without_frame gs t in
    let leaves : Leaves t q = subst (λ (u : row.Thread). Leaves t u) (sym row_is) (row_leaves gs t first second) in
    let popped : Touches (area_begin t.area) (area_end t.area) gs ms = popped_touches (8 * length gs) gs t r.area r.alive r.room in
    let less : IsKept ms (nat_lt 0 (t.depth - 1)) (shallower gs t) = popped_kept gs ms t k refl popped in
    let whole : IsKept (memory_left gs t) (nat_lt 0 (t.depth - 1)) (shallower gs t) = kept_beside gs ms t (shallower gs t) t.top (nat_lt 0 (t.depth - 1)) r r.high refl less in
    let now : IsKept (memory_left gs t) (nat_lt 0 (t.depth - 1)) q = kept_as (memory_left gs t) (nat_lt 0 (t.depth - 1)) (shallower gs t) q whole leaves.area leaves.depth leaves.zero in
    record {
      result = which;
      kept = subst (λ (l : List Granule). IsKept l more q) (sym memory) (subst (λ b. IsKept (memory_left gs t) b q) (sym (which ∙ one_less t.depth)) now);
      area = leaves.area;
      thread = by_more more which leaves.depth same;
      touches = subst (λ (l : List Granule). Touches (area_begin t.area) (area_end t.area) (zeroed_from t.area.stack t.top t.area.ram gs) l) (sym memory)
          (zeroed_touches (area_begin t.area) (area_end t.area) t.area.stack t.top t.area.ram gs ms popped);
    }
  where
    by_more : (b : Bool) → b ≡ nat_lt 1 t.depth → q.depth ≡ t.depth - 1 → thread_of hs true q ≡ thread_left gs t first second → thread_of hs b q ≡ thread_left gs t first second
    by_more true is depth same = same
    by_more false is depth same = elim (lt_tells 1 t.depth) [
      | inl a ↦ absurd (let clash : false ≡ true = is ∙ a.0 in cc)
      | inr a ↦ (let none : q.depth ≡ 0 = (let le = a.1 in omega (arith, le, depth)) in ended_is hs false q none ∙ sym (ended_is hs true q none) ∙ same)
    ]
