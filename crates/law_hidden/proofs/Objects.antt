-- What is seen of memory as the heap's objects change.
use Rattle.std.proofs.Common.{ℕ, ◌≡◌, ◌+◌, ◌-◌, ◌*◌, ◌≤◌, ◌<◌, ◌⊎◌, inl, inr, ◌&&◌, Bool, true, false, not, cond, nat_le, nat_lt, List, [], ◌∷◌, length, refl, sym, ap, ◌∙◌, arith}
use Rattle.std.proofs.lemmas.Bool.{or_cases, or_left, or_right}
use Rattle.law_lists.proofs.Tests.{chosen, le_tells, lt_tells}
use Rattle.law_granules.proofs.Lists.{zeroed_length, zeroed_at, marked_length, marked_at}
use Rattle.def_words.specs.declared.Cap.{Cap}
use Rattle.def_memory.specs.declared.Granule.{Granule}
use Rattle.def_memory.specs.Granules.{plain, granule_at, blank}
use Rattle.def_memory.specs.Ranges.{zeroed_from, marked_from}
use Rattle.def_machine.specs.State.{Object}
use Rattle.def_machine.specs.Objects.{placed_among}
use Rattle.def_hidden.specs.Hidden.{is_live_at}
use Rattle.def_hidden.specs.Hiding.{hide, with_hidden}
pub use Rattle.law_hidden.proofs.Live.{covers, covers_tells, among_live}
use Rattle.law_hidden.proofs.Granules.{with_hidden_length, with_hidden_at, with_hidden_is, appears}
use Rattle.def_chunks.specs.Hides.{hides_heap}
use Rattle.def_chunks.specs.LiveObjects.{SeenAt, Appears, Vanishes}

-- ---- what is live, with an object more

pub placed_live : (r : Object) (rs : List Object) (x : ℕ) → is_live_at (placed_among r rs) x ≡ true → (covers x r ≡ true) ⊎ (is_live_at rs x ≡ true)
placed_live r [] x h = or_cases (covers x r) false h
placed_live r (q ∷ qs) x h = chosen (λ (zs : List Object). is_live_at zs x ≡ true → (covers x r ≡ true) ⊎ (is_live_at (q ∷ qs) x ≡ true)) (nat_lt r.base q.base) (r ∷ q ∷ qs) (q ∷ placed_among r qs)
    (λ first k. or_cases (covers x r) (is_live_at (q ∷ qs) x) k)
    (λ later k. elim (or_cases (covers x q) (is_live_at (placed_among r qs) x) k) [
      | inl here ↦ inr (or_left (covers x q) (is_live_at qs x) here)
      | inr there ↦ elim (placed_live r qs x there) [ inl e ↦ inl e | inr e ↦ inr (or_right (covers x q) (is_live_at qs x) e) ]
    ])
    h

-- ---- what is hidden

tells : (b c l : Bool) → (b && c && not l) ≡ false → (b ≡ false) ⊎ (c ≡ false) ⊎ (l ≡ true)
tells false c l e = inl refl
tells true false l e = inr (inl refl)
tells true true true e = inr (inr refl)
tells true true false e = absurd (let clash : true ≡ false = e in cc)

shows : (b c l : Bool) → (b ≡ false) ⊎ (c ≡ false) ⊎ (l ≡ true) → (b && c && not l) ≡ false
shows false c l e = refl
shows true false l e = refl
shows true true true e = refl
shows true true false e = absurd (elim e [ inl a ↦ (let clash : true ≡ false = a in cc) | inr r ↦ elim r [ inl a ↦ (let clash : true ≡ false = a in cc) | inr a ↦ (let clash : false ≡ true = a in cc) ] ])

hidden_not : (b c l : Bool) → (b && c && not l) ≡ true → l ≡ false
hidden_not b c false e = refl
hidden_not true true true e = absurd (let clash : false ≡ true = e in cc)
hidden_not true false true e = absurd (let clash : false ≡ true = e in cc)
hidden_not false c true e = absurd (let clash : false ≡ true = e in cc)

pub seen_place : (ram base end : ℕ) (rs : List Object) (k : ℕ) → hides_heap ram base end rs k ≡ false → SeenAt base end rs (ram + 8 * k)
seen_place ram base end rs k e = elim (tells (nat_le base (ram + 8 * k)) (nat_lt (ram + 8 * k) end) (is_live_at rs (ram + 8 * k)) e) [
  | inl a ↦ elim (le_tells base (ram + 8 * k)) [ inl b ↦ absurd (let clash : true ≡ false = sym b.0 ∙ a in cc) | inr b ↦ inl b.1 ]
  | inr r ↦ elim r [
    | inl a ↦ elim (lt_tells (ram + 8 * k) end) [ inl b ↦ absurd (let clash : true ≡ false = sym b.0 ∙ a in cc) | inr b ↦ inr (inl b.1) ]
    | inr a ↦ inr (inr a)
  ]
]

pub place_seen : (ram base end : ℕ) (rs : List Object) (k : ℕ) → SeenAt base end rs (ram + 8 * k) → hides_heap ram base end rs k ≡ false
place_seen ram base end rs k e = shows (nat_le base (ram + 8 * k)) (nat_lt (ram + 8 * k) end) (is_live_at rs (ram + 8 * k)) (elim e [
  | inl a ↦ inl (elim (le_tells base (ram + 8 * k)) [ inl b ↦ absurd (omega (arith, a, b.1)) | inr b ↦ b.0 ])
  | inr r ↦ elim r [
    | inl a ↦ inr (inl (elim (lt_tells (ram + 8 * k) end) [ inl b ↦ absurd (omega (arith, a, b.1)) | inr b ↦ b.0 ]))
    | inr a ↦ inr (inr a)
  ]
])

pub hidden_dead : (ram base end : ℕ) (rs : List Object) (k : ℕ) → hides_heap ram base end rs k ≡ true → is_live_at rs (ram + 8 * k) ≡ false
hidden_dead ram base end rs k e = hidden_not (nat_le base (ram + 8 * k)) (nat_lt (ram + 8 * k) end) (is_live_at rs (ram + 8 * k)) e

-- ---- an object appears

still_seen : (base end p : ℕ) (old new : List Object) → (is_live_at old p ≡ true → is_live_at new p ≡ true) → SeenAt base end old p → SeenAt base end new p
still_seen base end p old new grows (inl a) = inl a
still_seen base end p old new grows (inr (inl a)) = inr (inl a)
still_seen base end p old new grows (inr (inr a)) = inr (inr (grows a))

zero_blank : (g h : Granule) → h.cap ≡ plain 0 → h.mark ≡ g.mark → h ≡ blank g
zero_blank g h cap mark = ap (λ c. let x : Granule = record { cap = c; mark = h.mark } in x) cap ∙ ap (λ m. let x : Granule = record { cap = plain 0; mark = m } in x) mark

pub object_appears : (ram base end : ℕ) (old new : List Object) (gs hs : List Granule) (low high : ℕ) → Appears ram base end old new gs hs low high
    → with_hidden (λ k. hides_heap ram base end new k) hs ≡ with_hidden (λ k. hides_heap ram base end old k) gs
object_appears ram base end old new gs hs low high a =
    appears (λ k. hides_heap ram base end old k) (λ k. hides_heap ram base end new k) gs hs a.size
    (λ k lt open_. (
      place_seen ram base end new k (still_seen base end (ram + 8 * k) old new (a.stays (ram + 8 * k)) (seen_place ram base end old k open_)),
      a.rest k (seen_place ram base end old k open_),
    ))
    (λ k lt was shown. zero_blank (granule_at gs k) (granule_at hs k) (a.zero k (came k was shown).0 (came k was shown).1) (a.marks k))
    (λ k lt was is. a.marks k)
  where
    came : (k : ℕ) → hides_heap ram base end old k ≡ true → hides_heap ram base end new k ≡ false → (low ≤ ram + 8 * k) × (ram + 8 * k < high)
    came k was shown =
        let dead = hidden_dead ram base end old k was in
        elim (seen_place ram base end new k shown) [
          | inl x ↦ absurd (let clash : true ≡ false = sym was ∙ place_seen ram base end old k (inl x) in cc)
          | inr r ↦ elim r [
            | inl x ↦ absurd (let clash : true ≡ false = sym was ∙ place_seen ram base end old k (inr (inl x)) in cc)
            | inr x ↦ elim (a.comes (ram + 8 * k) x) [ inl y ↦ y | inr y ↦ absurd (let clash : true ≡ false = sym y ∙ dead in cc) ]
          ]
        ]

-- ---- an object is freed

abbrev gone : Granule
gone = record { cap = plain 0; mark = true }

zero_gone : (b : Bool) (g : Granule) → g.cap ≡ plain 0 → g.mark ≡ true → gone ≡ hide b g
zero_gone true g cap mark = ap (λ m. let x : Granule = record { cap = plain 0; mark = m } in x) (sym mark)
zero_gone false g cap mark = ap (λ c. let x : Granule = record { cap = c; mark = true } in x) (sym cap) ∙ ap (λ m. let x : Granule = record { cap = g.cap; mark = m } in x) (sym mark)

hidden_gone : (b : Bool) (g : Granule) → b ≡ true → g.mark ≡ true → gone ≡ hide b g
hidden_gone true g e mark = ap (λ m. let x : Granule = record { cap = plain 0; mark = m } in x) (sym mark)
hidden_gone false g e mark = absurd (let clash : false ≡ true = e in cc)

hidden_marked : (b : Bool) (g : Granule) → b ≡ true → (let x : Granule = record (hide b g) { mark = true } in x) ≡ gone
hidden_marked true g e = refl
hidden_marked false g e = absurd (let clash : false ≡ true = e in cc)

-- what was seen, and what is seen with the object zeroed
abbrev before : ℕ → ℕ → ℕ → List Object → List Granule → List Granule
before ram heap end old gs = with_hidden (λ k. hides_heap ram heap end old k) gs

abbrev wiped : ℕ → ℕ → ℕ → List Object → List Granule → ℕ → ℕ → List Granule
wiped ram heap end old gs base top = zeroed_from base top ram (before ram heap end old gs)

pub object_vanishes : (ram heap end : ℕ) (old new : List Object) (gs hs : List Granule) (base top : ℕ) → Vanishes ram heap end old new gs hs base top
    → with_hidden (λ k. hides_heap ram heap end new k) hs ≡ marked_from (base - 8) top true ram (zeroed_from base top ram (with_hidden (λ k. hides_heap ram heap end old k) gs))
object_vanishes ram heap end old new gs hs base top a =
    sym (with_hidden_is (λ k. hides_heap ram heap end new k) hs (marked_from (base - 8) top true ram (wiped ram heap end old gs base top)) (marked_length (base - 8) top true ram (wiped ram heap end old gs base top) ∙ size_ ∙ sym a.size)
    (λ k lt. marked_at (base - 8) top true ram (wiped ram heap end old gs base top) k (λ g. g ≡ hide (hides_heap ram heap end new k) (granule_at hs k)) (inside k lt) (λ low high. chunk k low high) (λ out. outside k out)))
  where
    size_ : length (wiped ram heap end old gs base top) ≡ length gs
    size_ = zeroed_length base top ram (before ram heap end old gs) ∙ with_hidden_length (λ k. hides_heap ram heap end old k) gs

    inside : (k : ℕ) → k < length hs → k < length (wiped ram heap end old gs base top)
    inside k lt = let s = a.size in omega (arith, lt, s, size_)

    same_hides : (k : ℕ) → (ram + 8 * k < base) ⊎ (top ≤ ram + 8 * k) → hides_heap ram heap end new k ≡ hides_heap ram heap end old k
    same_hides k out = ap (λ l. nat_le heap (ram + 8 * k) && nat_lt (ram + 8 * k) end && not l) (a.live (ram + 8 * k) out)

    chunk : (k : ℕ) → base - 8 ≤ ram + 8 * k → ram + 8 * k < top → (let x : Granule = record (granule_at (wiped ram heap end old gs base top) k) { mark = true } in x) ≡ hide (hides_heap ram heap end new k) (granule_at hs k)
    chunk k low high =
        let some = a.some in
        let mark : (granule_at hs k).mark ≡ true = a.marks k (omega (arith, low, some)) high in
        zeroed_at base top ram (before ram heap end old gs) k (λ g. (let x : Granule = record g { mark = true } in x) ≡ hide (hides_heap ram heap end new k) (granule_at hs k))
        (λ from to. zero_gone (hides_heap ram heap end new k) (granule_at hs k) (a.zero k from to) mark)
        (λ out. elim out [
          | inl under ↦
              let hid = a.head k (omega (arith, low, some)) under in
              ap (λ (g : Granule). let x : Granule = record g { mark = true } in x) (with_hidden_at (λ k. hides_heap ram heap end old k) gs k)
              ∙ hidden_marked (hides_heap ram heap end old k) (granule_at gs k) hid
              ∙ hidden_gone (hides_heap ram heap end new k) (granule_at hs k) (same_hides k (inl under) ∙ hid) mark
          | inr over ↦ absurd (omega (arith, over, high))
        ])

    outside : (k : ℕ) → (ram + 8 * k < base - 8) ⊎ (top ≤ ram + 8 * k) → granule_at (wiped ram heap end old gs base top) k ≡ hide (hides_heap ram heap end new k) (granule_at hs k)
    outside k out =
        let away : (ram + 8 * k + 8 < base) ⊎ (top ≤ ram + 8 * k) = elim out [ inl x ↦ inl (omega (arith, x)) | inr x ↦ inr x ] in
        let apart : (ram + 8 * k < base) ⊎ (top ≤ ram + 8 * k) = elim out [ inl x ↦ inl (omega (arith, x)) | inr x ↦ inr x ] in
        let same : hide (hides_heap ram heap end old k) (granule_at gs k) ≡ hide (hides_heap ram heap end new k) (granule_at hs k) =
        ap (λ b. hide b (granule_at gs k)) (sym (same_hides k apart)) ∙ ap (λ g. hide (hides_heap ram heap end new k) g) (sym (a.rest k away)) in
        zeroed_at base top ram (before ram heap end old gs) k (λ g. g ≡ hide (hides_heap ram heap end new k) (granule_at hs k))
        (λ from to. absurd (elim apart [ inl x ↦ omega (arith, x, from) | inr x ↦ omega (arith, x, to) ]))
        (λ rest. with_hidden_at (λ k. hides_heap ram heap end old k) gs k ∙ same)
