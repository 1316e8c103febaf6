-- Where none of what is seen is a capability of a painted object, none of memory is: what is hidden is a saved
-- capability or a plain word in the region, and untagged in the heap.
use Rattle.std.proofs.Common.{ℕ, zero, suc, ◌≡◌, ◌+◌, ◌-◌, ◌*◌, ◌/◌, ◌%◌, ◌<◌, ◌≤◌, inl, inr, Bool, true, false, List, [], ◌∷◌, length, refl, sym, ap, ◌∙◌, arith, subst}
use Rattle.std.proofs.Math.ListN.{get_or}
use Rattle.def_profile.specs.Areas.{area_length}
use Rattle.law_lists.proofs.Tests.{bool_tells, lt_tells, eq_tells}
use Rattle.def_words.specs.declared.Cap.{Cap}
use Rattle.def_memory.specs.declared.Granule.{Granule}
use Rattle.def_memory.specs.Granules.{plain, cap_in, caps_from}
use Rattle.def_machine.specs.State.{Thread, Frame, Object, nobody}
use Rattle.def_machine.specs.Objects.{Each}
use Rattle.def_areas.specs.Areas.{frame_place, frames_from, frames_in, caller_actor, caller_top, caller_handling}
use Rattle.law_hidden.proofs.Granules.{seen_at}
use Rattle.ct_areas.specs.declared.thread.Area.{Area}
use Rattle.ct_areas.specs.declared.thread.Thread as row
use Rattle.ct_areas.specs.Threads.{HasArea, area_begin, area_end, frames_most, living, thread_of}
use Rattle.ct_areas.proofs.Places.{alive_is, frames_of}
use Rattle.ct_threads.specs.Kept.{IsPlain, IsSaved, IsKept}
use Rattle.ct_engine.specs.declared.rows.Rows.{Rows}
use Rattle.ct_engine.specs.Seen.{EngineRow, threads_of, engine_view, hidden, stands}
use Rattle.ct_engine.specs.Kept.{AreasFrom, IsEngine}
use Rattle.def_confined.specs.Stale.{NotStale, SavedClean, StoppedClean}
use Rattle.ct_engine.specs.Sweeps.{NoneLeft}
use Rattle.ct_engine.proofs.Away.{hidden_cases}
use Rattle.ct_engine.proofs.Stacks.{hidden_place}

-- ---- one granule

plain_clean : (objects : List Object) (c : Cap) → IsPlain c → NotStale objects c
plain_clean objects c p = λ tagged some. absurd (let clash : true ≡ false = sym tagged ∙ ap (λ (x : Cap). x.tag) p in cc)

same_clean : (objects : List Object) (c d : Cap) → c ≡ d → NotStale objects d → NotStale objects c
same_clean objects c d e clean = subst (λ (x : Cap). NotStale objects x) (sym e) clean

there : (objects : List Object) (gs : List Granule) (k m : ℕ) → k ≡ m → NotStale objects (cap_in gs m) → NotStale objects (cap_in gs k)
there objects gs k m e clean = same_clean objects (cap_in gs k) (cap_in gs m) (ap (λ n. cap_in gs n) e) clean

-- ---- frames

frame_numbers : (b j k : ℕ) → b + 20 ≤ k → b + 20 + 8 * j ≤ k → k < b + 20 + 8 * j + 8 → (k - (b + 20)) % 8 < 5 → k < b + 20 + 8 * j + 5
frame_numbers b j k some from to low =
    let r : k - (b + 20) ≡ k - (b + 20 + 8 * j) + 8 * j = omega (arith, from) in
    omega (arith, r, from, to, low)

-- what holds of five places one after another
five : (P : ℕ → Type 0) (p n : ℕ) → n < 5 → P p → P (p + 1) → P (p + 2) → P (p + 3) → P (p + 4) → P (p + n)
five P p zero lt a b c d e = subst P (omega arith) a
five P p (suc zero) lt a b c d e = b
five P p (suc (suc zero)) lt a b c d e = c
five P p (suc (suc (suc zero))) lt a b c d e = d
five P p (suc (suc (suc (suc zero)))) lt a b c d e = e
five P p (suc (suc (suc (suc (suc n))))) lt a b c d e = absurd (omega (arith, lt))

from_clean : (objects : List Object) (gs : List Granule) (a actor top : ℕ) (handling : Bool) (depth : ℕ) → Each (SavedClean objects) (frames_from gs a actor top handling depth)
    → (k : ℕ) → a + 20 ≤ k → k < frame_place a depth → (k - (a + 20)) % 8 < 5 → NotStale objects (cap_in gs k)
from_clean objects gs a actor top handling zero each k from to low = absurd (omega (arith, from, to))
from_clean objects gs a actor top handling (suc j) each k from to low = elim (lt_tells k (frame_place a j)) [
  | inl x ↦ from_clean objects gs a (caller_actor gs (frame_place a j)) (caller_top gs (frame_place a j)) (caller_handling gs (frame_place a j)) j each.1 k from x.1 low
  | inr x ↦ (let le = x.1 in
      let few = frame_numbers a j k from (omega (arith, le)) (omega (arith, to)) low in
      there objects gs k (frame_place a j + (k - frame_place a j)) (omega (arith, le))
      (five (λ m. NotStale objects (cap_in gs m)) (frame_place a j) (k - frame_place a j) (omega (arith, le, few)) each.0.c1 each.0.c2 each.0.c3 each.0.c8 each.0.c9))
]

frames_clean : (objects : List Object) (gs : List Granule) (a actor top : ℕ) (handling : Bool) (depth : ℕ) → Each (SavedClean objects) (frames_in gs a actor top handling depth)
    → (k : ℕ) → a + 20 ≤ k → k < frame_place a depth → (k - (a + 20)) % 8 < 5 → NotStale objects (cap_in gs k)
unfolding frames_in
frames_clean objects gs a actor top handling depth each = from_clean objects gs a actor top handling depth each

-- ---- registers

held_at : (gs : List Granule) (k n m : ℕ) → m < n → get_or (caps_from gs k n) m (plain 0) ≡ cap_in gs (k + m)
held_at gs k zero m lt = absurd (omega (arith, lt))
held_at gs k (suc n) zero lt = let here : k + zero ≡ k = omega arith in rw here refl
held_at gs k (suc n) (suc m) lt = let next : k + suc m ≡ k + 1 + m = omega arith in rw next (held_at gs (k + 1) n m (omega (arith, lt)))

register_clean : (objects : List Object) (gs : List Granule) (t : row.Thread) (m : ℕ) → StoppedClean objects (living gs false t) → m < 15
    → NotStale objects (cap_in gs (area_begin t.area + 1 + m))
register_clean objects gs t m clean lt =
    same_clean objects (cap_in gs (area_begin t.area + 1 + m)) (get_or (caps_from gs (area_begin t.area + 1) 15) m (plain 0)) (sym (held_at gs (area_begin t.area + 1) 15 m lt))
    (clean.registers (suc m))

-- ---- a row

saved_clean : (objects : List Object) (gs : List Granule) (runs : Bool) (t : row.Thread) → Each (SavedClean objects) (thread_of gs runs t).frames
    → (runs ≡ false → StoppedClean objects (thread_of gs runs t)) → (k : ℕ) → area_begin t.area ≤ k → IsSaved runs t k → NotStale objects (cap_in gs k)
saved_clean objects gs runs t frames stopped k from (inl s) =
    let clean : StoppedClean objects (living gs false t) =
    subst (λ b. StoppedClean objects (living gs b t)) s.0 (subst (λ (u : Thread). StoppedClean objects u) (alive_is gs runs t s.1) (stopped s.0)) in
    let to = s.2 in
    elim (eq_tells k (area_begin t.area)) [
      | inl e ↦ there objects gs k (area_begin t.area) e.1 clean.pcc
      | inr e ↦ (let other = e.1 in
          let place : k ≡ area_begin t.area + 1 + (k - (area_begin t.area + 1)) = omega (arith, from, other) in
          there objects gs k (area_begin t.area + 1 + (k - (area_begin t.area + 1))) place
          (register_clean objects gs t (k - (area_begin t.area + 1)) clean (omega (arith, from, other, to))))
    ]
saved_clean objects gs runs t frames stopped k from (inr f) =
    frames_clean objects gs (area_begin t.area) t.actor t.top t.handling t.depth (subst (λ (fs : List Frame). Each (SavedClean objects) fs) (frames_of gs runs t) frames) k f.0 f.1 f.2

-- ---- all areas, and what stands between them

area_numbers : (ram trusted len most k : ℕ) → ram % 16 ≡ 0 → trusted % 16 ≡ 0 → ram ≤ trusted → len ≡ area_length most → trusted ≤ ram + 8 * k → ram + 8 * k < trusted + len
    → ((trusted - ram) / 8 ≤ k) × (k < (trusted + len - ram) / 8)
area_numbers ram trusted len most k r t low is from to = (omega (arith, low, from), omega (arith, r, t, low, is, to))

-- what lies in an area is one of its granules
inside : (size : ℕ) (a : Area) (k : ℕ) → HasArea size a → a.trusted ≤ a.ram + 8 * k → a.ram + 8 * k < a.trusted + a.trusted_length → (area_begin a ≤ k) × (k < area_end a)
inside size a k has from to = area_numbers a.ram a.trusted a.trusted_length (frames_most a) k has.ram has.even has.low has.whole from to

areas_clean : (objects : List Object) (ram : ℕ) (gs : List Granule) (standing : List Bool) (n from to : ℕ) (ts : List row.Thread) → AreasFrom ram gs standing n from to ts
    → ((t : ℕ) → Each (SavedClean objects) (get_or (threads_of gs standing n ts) t nobody).frames)
    → ((t : ℕ) → stands standing (n + t) ≡ false → StoppedClean objects (get_or (threads_of gs standing n ts) t nobody))
    → (k : ℕ) → from ≤ ram + 8 * k → ram + 8 * k < to → NotStale objects (cap_in gs k)
areas_clean objects ram gs standing n from to [] areas frames stopped k lo hi = plain_clean objects (cap_in gs k) (areas.1 k lo hi)
areas_clean objects ram gs standing n from to (t ∷ ts) areas frames stopped k lo hi = elim (lt_tells (ram + 8 * k) t.area.trusted) [
  | inl a ↦ plain_clean objects (cap_in gs k) (areas.4 k lo a.1)
  | inr a ↦ elim (lt_tells (ram + 8 * k) (t.area.trusted + t.area.trusted_length)) [
    | inl b ↦ (let base = areas.1 in
        let here : n + zero ≡ n = omega arith in
        let kept : IsKept gs (stands standing n) t = areas.2 in
        let low = a.1 in
        let high = b.1 in
        let lies = inside (8 * length gs) t.area k kept.area (omega (arith, low, base)) (omega (arith, high, base)) in
        elim (kept.clean k lies.0 lies.1) [
          | inl s ↦ saved_clean objects gs (stands standing n) t (frames zero) (λ off. stopped zero (rw here off)) k lies.0 s
          | inr p ↦ plain_clean objects (cap_in gs k) p
        ])
    | inr b ↦ areas_clean objects ram gs standing (n + 1) (t.area.trusted + t.area.trusted_length) to ts areas.3 (λ u. frames (suc u))
        (λ u off. stopped (suc u) (let next : n + suc u ≡ n + 1 + u = omega arith in rw next off)) k b.1 hi
  ]
]

pub none_stale : (objects : List Object) (gs : List Granule) (rows : Rows) (v : EngineRow) → engine_view gs rows ≡ v → IsEngine gs rows → NoneLeft objects v
    → (k : ℕ) → NotStale objects (cap_in gs k)
none_stale objects gs rows v is holds left k =
    let mine : NoneLeft objects (engine_view gs rows) = subst (λ (s : EngineRow). NoneLeft objects s) (sym is) left in
    elim (bool_tells (hidden gs rows k)) [
      | inl e ↦ elim (hidden_cases gs rows k holds e) [
        | inl region ↦ (let place = hidden_place rows.region k region in
            areas_clean objects rows.region.ram gs rows.standing.items 0 rows.region.trusted rows.region.end rows.list.items holds.areas mine.frames
            (λ t off. mine.stopped t (λ runs. let same : 0 + t ≡ t = omega arith in let clash : true ≡ false = sym (holds.runs t runs) ∙ ap (λ n. stands rows.standing.items n) (sym same) ∙ off in cc)) k place.0 place.1)
        | inr heap ↦ (λ tagged some. absurd (let clash : true ≡ false = sym tagged ∙ holds.heap.clear k heap in cc))
      ]
      | inr e ↦ same_clean objects (cap_in gs k) (cap_in (engine_view gs rows).state.granules k) (ap (λ (g : Granule). g.cap) (sym (seen_at (hidden gs rows) gs k e))) (mine.granules k)
    ]
