-- What a stop, a pick, a frame more and a frame less leave in an area.
use Rattle.std.proofs.Common.{ℕ, ◌≡◌, ◌+◌, ◌-◌, ◌*◌, ◌%◌, ◌^◌, ◌<◌, ◌≤◌, ◌⊎◌, inl, inr, true, false, nat_lt, List, ◌∷◌, length, drop, refl, sym, ap, ◌∙◌, arith, subst}
use Rattle.std.proofs.Math.ListN.{get_or}
use Rattle.law_lists.proofs.Tests.{lt_tells}
use Rattle.def_words.specs.declared.Cap.{Cap}
use Rattle.def_memory.specs.declared.Granule.{Granule}
use Rattle.def_memory.specs.Granules.{plain, cap_in}
use Rattle.law_granules.proofs.Lists.{zeroed_at}
use Rattle.def_areas.specs.Areas.{frame_place, frame_words, mark_word}
use Rattle.def_areas.specs.Touches.{Touches}
use Rattle.law_areas.proofs.Writes.{all_other, all_at}
use Rattle.ct_areas.specs.declared.thread.Thread as row
use Rattle.ct_areas.specs.Threads.{area_begin, area_end, frames_most}
use Rattle.ct_areas.specs.Parts.{saved_of, with_saved, without_saved, with_frame, without_frame, deeper, shallower, frame_address}
use Rattle.ct_areas.proofs.Places.{area_long, area_inside, area_even, frame_offset_is, frame_low}
use Rattle.ct_areas.proofs.Stopped.{rest_length}
use Rattle.ct_threads.specs.Kept.{IsPlain, IsSaved, IsKept}

never : {A : Type 0} → true ≡ false → A
never e = absurd (let clash : true ≡ false = e in cc)

pub plain_is : (c : Cap) (n : ℕ) → c ≡ plain n → IsPlain c
plain_is c n e = rw e refl

-- ---- a stop

pub stopped_kept : (gs hs : List Granule) (t : row.Thread) → IsKept gs true t → length t.regs ≡ 16 → hs ≡ with_saved gs t
    → Touches (area_begin t.area) (area_end t.area) gs hs → IsKept hs false t
stopped_kept gs hs t k sixteen wrote touches = record {
  area = rw touches.size k.area;
  room = k.room;
  zero = k.zero;
  alive = λ e. never (sym e);
  clean = λ m lo hi. elim (lt_tells m (area_begin t.area + 16)) [
    | inl a ↦ inl (inl (refl, k.alive refl, a.1))
    | inr a ↦ elim (k.clean m lo hi) [ inl s ↦ elim s [ inl x ↦ never x.0 | inr f ↦ inl (inr f) ] | inr p ↦ inr (rw (same m a.1) p) ]
  ];
}
  where
    same : (m : ℕ) → area_begin t.area + 16 ≤ m → cap_in hs m ≡ cap_in gs m
    same m le =
        let fifteen = rest_length t.regs sixteen in
        let after : area_begin t.area + length (t.pcc ∷ drop 1 t.regs) ≤ m = omega (arith, le, fifteen) in
        rw wrote (ap (λ (g : Granule). g.cap) (all_other gs (area_begin t.area) m (t.pcc ∷ drop 1 t.regs) (inr after)))

-- ---- a pick

head_numbers : (ram trusted begin m : ℕ) → ram ≤ trusted → trusted - ram ≡ 8 * begin → begin ≤ m → m < begin + 16
    → (ram + 8 * m < trusted) ⊎ (trusted + 128 ≤ ram + 8 * m) → ⊥
head_numbers ram trusted begin m low is from to out = elim out [ inl a ↦ omega (arith, low, is, from, a) | inr b ↦ omega (arith, low, is, to, b) ]

pub picked_kept : (gs hs : List Granule) (t q : row.Thread) → IsKept gs false t → 0 < t.depth → get_or q.regs 0 (plain 0) ≡ plain 0
    → hs ≡ without_saved gs t → Touches (area_begin t.area) (area_end t.area) gs hs → q ≡ record t { pcc = q.pcc; regs = q.regs } → IsKept hs true q
picked_kept gs hs t q k alive zero_ wrote touches is = subst (λ (u : row.Thread). IsKept hs true u) (sym is) (record {
  area = rw touches.size k.area;
  room = k.room;
  zero = zero_;
  alive = λ e. alive;
  clean = λ m lo hi. rw wrote (zeroed_at t.area.trusted (t.area.trusted + 128) t.area.ram gs m (λ g. IsSaved true t m ⊎ IsPlain g.cap) (λ a b. inr refl)
      (λ o. elim (k.clean m lo hi) [
        | inl s ↦ elim s [
          | inl x ↦ absurd (head_numbers t.area.ram t.area.trusted (area_begin t.area) m k.area.low (area_even (8 * length gs) t.area k.area) lo x.2 o)
          | inr f ↦ inl (inr f)
        ]
        | inr q ↦ inr q
      ]));
})

-- ---- a frame more

in_frame : (b d m : ℕ) → b + 20 + 8 * d ≤ m → m < b + 20 + 8 * d + 5 → (m - (b + 20)) % 8 < 5
in_frame b d m lo hi =
    let r : m - (b + 20) ≡ m - (b + 20 + 8 * d) + 8 * d = omega (arith, lo) in
    omega (arith, r, lo, hi)

pub pushed_kept : (gs hs : List Granule) (t : row.Thread) (actor export top : ℕ) → IsKept gs true t → t.depth < frames_most t.area
    → hs ≡ with_frame gs t export → Touches (area_begin t.area) (area_end t.area) gs hs → IsKept hs true (deeper t actor top)
pushed_kept gs hs t actor export top k room wrote touches = record {
  area = rw touches.size k.area;
  room = omega (arith, room);
  zero = k.zero;
  alive = λ e. omega arith;
  clean = λ m lo hi. rw wrote (by_place m lo hi);
}
  where
    words : List Cap
    words = frame_words (saved_of t) export t.actor t.top t.handling

    fits : (b end depth most n : ℕ) → end ≡ frame_place b most → end ≤ n → depth < most → frame_place b depth + 8 ≤ n
    fits b end depth most n is le lt = omega (arith, is, le, lt)

    inside : frame_place (area_begin t.area) t.depth + 8 ≤ length gs
    inside = fits (area_begin t.area) (area_end t.area) t.depth (frames_most t.area) (length gs) (area_long (8 * length gs) t.area k.area) (area_inside (length gs) t.area k.area) room

    stays : (m : ℕ) → area_begin t.area ≤ m → m < area_end t.area → (m < frame_place (area_begin t.area) t.depth) ⊎ (frame_place (area_begin t.area) t.depth + 8 ≤ m)
        → IsSaved true (deeper t actor top) m ⊎ IsPlain (cap_in (with_frame gs t export) m)
    stays m lo hi out =
        let same : cap_in (with_frame gs t export) m ≡ cap_in gs m = ap (λ (g : Granule). g.cap) (all_other gs (frame_place (area_begin t.area) t.depth) m words out) in
        elim (k.clean m lo hi) [
          | inl s ↦ elim s [ inl x ↦ never x.0 | inr f ↦ (let below = f.1 in inl (inr (f.0, omega (arith, below), f.2))) ]
          | inr p ↦ inr (rw same p)
        ]

    written : (m n : ℕ) (c : ℕ) → m ≡ frame_place (area_begin t.area) t.depth + n → n < 8 → get_or words n (plain 0) ≡ plain c → IsPlain (cap_in (with_frame gs t export) m)
    written m n c place few is =
        rw place (plain_is (cap_in (with_frame gs t export) (frame_place (area_begin t.area) t.depth + n)) c
        (all_at gs (frame_place (area_begin t.area) t.depth) n words few inside ∙ is))

    by_place : (m : ℕ) → area_begin t.area ≤ m → m < area_end t.area → IsSaved true (deeper t actor top) m ⊎ IsPlain (cap_in (with_frame gs t export) m)
    by_place m lo hi = elim (lt_tells m (frame_place (area_begin t.area) t.depth)) [
      | inl a ↦ stays m lo hi (inl a.1)
      | inr a ↦ elim (lt_tells m (frame_place (area_begin t.area) t.depth + 5)) [
        | inl b ↦ (let from = a.1 in let to = b.1 in inl (inr (omega (arith, from), omega (arith, to), in_frame (area_begin t.area) t.depth m (omega (arith, from)) (omega (arith, to)))))
        | inr b ↦ elim (lt_tells m (frame_place (area_begin t.area) t.depth + 6)) [
          | inl c ↦ (let from = b.1 in let to = c.1 in inr (written m 5 (export + t.actor * 2 ^ 32) (omega (arith, from, to)) (omega arith) refl))
          | inr c ↦ elim (lt_tells m (frame_place (area_begin t.area) t.depth + 7)) [
            | inl d ↦ (let from = c.1 in let to = d.1 in inr (written m 6 t.top (omega (arith, from, to)) (omega arith) refl))
            | inr d ↦ elim (lt_tells m (frame_place (area_begin t.area) t.depth + 8)) [
              | inl e ↦ (let from = d.1 in let to = e.1 in inr (written m 7 (mark_word t.handling) (omega (arith, from, to)) (omega arith) refl))
              | inr e ↦ stays m lo hi (inr e.1)
            ]
          ]
        ]
      ]
    ]

-- ---- a frame less

frame_numbers : (ram from place place_too m d : ℕ) → ram ≤ from → from - ram ≡ 8 * place → place_too ≡ place + 8 → m < place_too
    → (ram + 8 * m < from) ⊎ (from + 64 ≤ ram + 8 * m) → m < place
frame_numbers ram from place place_too m d low is next lt out = elim out [ inl a ↦ omega (arith, low, is, a) | inr b ↦ absurd (omega (arith, low, is, next, lt, b)) ]

next_place : (b d : ℕ) → 0 < d → frame_place b d ≡ frame_place b (d - 1) + 8
next_place b d some = omega (arith, some)

pub popped_kept : (gs hs : List Granule) (t : row.Thread) → IsKept gs true t → hs ≡ without_frame gs t
    → Touches (area_begin t.area) (area_end t.area) gs hs → IsKept hs (nat_lt 0 (t.depth - 1)) (shallower gs t)
popped_kept gs hs t k wrote touches = record {
  area = rw touches.size k.area;
  room = (let r = k.room in omega (arith, r));
  zero = k.zero;
  alive = λ e. elim (lt_tells 0 (t.depth - 1)) [ inl a ↦ a.1 | inr a ↦ never (sym e ∙ a.0) ];
  clean = λ m lo hi. rw wrote (zeroed_at (frame_address t.area (t.depth - 1)) (frame_address t.area (t.depth - 1) + 64) t.area.ram gs m
      (λ g. IsSaved (nat_lt 0 (t.depth - 1)) (shallower gs t) m ⊎ IsPlain g.cap) (λ a b. inr refl)
      (λ o. elim (k.clean m lo hi) [
        | inl s ↦ elim s [
          | inl x ↦ never x.0
          | inr f ↦ inl (inr (
            f.0,
            frame_numbers t.area.ram (frame_address t.area (t.depth - 1)) (frame_place (area_begin t.area) (t.depth - 1)) (frame_place (area_begin t.area) t.depth) m t.depth
                (frame_low (8 * length gs) t.area (t.depth - 1) k.area) (frame_offset_is (8 * length gs) t.area (t.depth - 1) k.area)
                (next_place (area_begin t.area) t.depth (k.alive refl)) f.1 o,
            f.2,
          ))
        ]
        | inr q ↦ inr q
      ]));
}
