-- What is read and changed of memory with hidden granules.
use Rattle.std.proofs.Common.{ℕ, zero, suc, ◌≡◌, ◌+◌, ◌/◌, ◌<◌, ◌≤◌, inl, inr, Bool, true, false, cond, ◌&&◌, nat_le, nat_lt, List, [], ◌∷◌, length, refl, sym, ap, ◌∙◌, arith}
use Rattle.std.proofs.Math.ListN.{set}
use Rattle.std.proofs.lemmas.Bool.{cases_eq}
use Rattle.std.proofs.lemmas.List.{ext_get_or, length-set, get_or-set_same, get_or-set_other}
use Rattle.law_lists.proofs.Tests.{bool_tells, lt_tells}
use Rattle.def_words.specs.declared.Cap.{Cap}
use Rattle.def_memory.specs.declared.Granule.{Granule}
use Rattle.def_memory.specs.Granules.{plain, nothing, granule_at, blank}
use Rattle.def_memory.specs.Accesses.{loaded, stored, loaded_cap, stored_cap}
use Rattle.def_memory.specs.Ranges.{zeroed_from, marked_from}
use Rattle.def_areas.specs.Touches.{Touches}
use Rattle.def_hidden.specs.Hiding.{hide, with_hidden_from, with_hidden}

from_at : (hides : ℕ → Bool) (p : ℕ) (gs : List Granule) (k : ℕ) → granule_at (with_hidden_from hides p gs) k ≡ hide (hides (p + k)) (granule_at gs k)
from_at hides p [] k = elim (bool_tells (hides (p + k))) [ inl e ↦ rw e refl | inr e ↦ rw e refl ]
from_at hides p (g ∷ gs) zero = let here : p + zero ≡ p = omega arith in rw here refl
from_at hides p (g ∷ gs) (suc k) = let next : p + suc k ≡ p + 1 + k = omega arith in rw next (from_at hides (p + 1) gs k)

from_length : (hides : ℕ → Bool) (p : ℕ) (gs : List Granule) → length (with_hidden_from hides p gs) ≡ length gs
from_length hides p [] = refl
from_length hides p (g ∷ gs) = ap (λ n. suc n) (from_length hides (p + 1) gs)

pub with_hidden_at : (hides : ℕ → Bool) (gs : List Granule) (k : ℕ) → granule_at (with_hidden hides gs) k ≡ hide (hides k) (granule_at gs k)
unfolding with_hidden
with_hidden_at hides gs k = from_at hides 0 gs k ∙ (let same : 0 + k ≡ k = omega arith in ap (λ n. hide (hides n) (granule_at gs k)) same)

pub with_hidden_length : (hides : ℕ → Bool) (gs : List Granule) → length (with_hidden hides gs) ≡ length gs
unfolding with_hidden
with_hidden_length hides gs = from_length hides 0 gs

-- two memories are one to the eye where each granule is
pub with_hidden_is : (hides : ℕ → Bool) (gs seen : List Granule) → length seen ≡ length gs → ((k : ℕ) → k < length gs → granule_at seen k ≡ hide (hides k) (granule_at gs k)) → seen ≡ with_hidden hides gs
with_hidden_is hides gs seen size each =
    ext_get_or nothing seen (with_hidden hides gs) (size ∙ sym (with_hidden_length hides gs)) (λ k lt. each k (omega (arith, lt, size)) ∙ sym (with_hidden_at hides gs k))

-- marks are seen
pub mark_seen : (hides : ℕ → Bool) (gs : List Granule) (k : ℕ) → (granule_at (with_hidden hides gs) k).mark ≡ (granule_at gs k).mark
mark_seen hides gs k = ap (λ (g : Granule). g.mark) (with_hidden_at hides gs k) ∙ elim (bool_tells (hides k)) [ inl e ↦ rw e refl | inr e ↦ rw e refl ]

-- what isn't hidden is seen
pub seen_at : (hides : ℕ → Bool) (gs : List Granule) (k : ℕ) → hides k ≡ false → granule_at (with_hidden hides gs) k ≡ granule_at gs k
seen_at hides gs k open_ = with_hidden_at hides gs k ∙ rw open_ refl

-- a change of one granule that isn't hidden
pub set_seen : (hides : ℕ → Bool) (gs : List Granule) (k : ℕ) (g : Granule) → hides k ≡ false → set (with_hidden hides gs) k g ≡ with_hidden hides (set gs k g)
set_seen hides gs k g open_ = with_hidden_is hides (set gs k g) (set (with_hidden hides gs) k g)
    (length-set (with_hidden hides gs) k g ∙ with_hidden_length hides gs ∙ sym (length-set gs k g))
    (λ m lt. elim (cases_eq m k) [
      | inl e ↦
          let inside : k < length gs = omega (arith, lt, length-set gs k g, e) in
          let left : granule_at (set (with_hidden hides gs) k g) k ≡ g = get_or-set_same (with_hidden hides gs) k g nothing (omega (arith, inside, with_hidden_length hides gs)) in
          let right : granule_at (set gs k g) k ≡ g = get_or-set_same gs k g nothing inside in
          rw e (left ∙ sym (rw (open_, right) refl))
      | inr n ↦
          let left : granule_at (set (with_hidden hides gs) k g) m ≡ granule_at (with_hidden hides gs) m = get_or-set_other (with_hidden hides gs) k m g nothing n in
          let right : granule_at (set gs k g) m ≡ granule_at gs m = get_or-set_other gs k m g nothing n in
          left ∙ with_hidden_at hides gs m ∙ ap (λ x. hide (hides m) x) (sym right)
    ])

-- ---- loads and stores

-- a capability or a word that isn't hidden is loaded as it is
pub load_cap_seen : (hides : ℕ → Bool) (gs : List Granule) (at : ℕ) → hides (at / 8) ≡ false → loaded_cap (with_hidden hides gs) at ≡ loaded_cap gs at
load_cap_seen hides gs at open_ = ap (λ (g : Granule). g.cap) (seen_at hides gs (at / 8) open_)

pub load_seen : (hides : ℕ → Bool) (gs : List Granule) (at width : ℕ) → hides (at / 8) ≡ false → loaded (with_hidden hides gs) at width ≡ loaded gs at width
load_seen hides gs at width open_ = rw (seen_at hides gs (at / 8) open_) refl

-- a store is the store
pub store_cap_seen : (hides : ℕ → Bool) (gs : List Granule) (at : ℕ) (c : Cap) → hides (at / 8) ≡ false → stored_cap (with_hidden hides gs) at c ≡ with_hidden hides (stored_cap gs at c)
store_cap_seen hides gs at c open_ = rw (seen_at hides gs (at / 8) open_) (set_seen hides gs (at / 8) (record { cap = c; mark = (granule_at gs (at / 8)).mark }) open_)

pub store_seen : (hides : ℕ → Bool) (gs : List Granule) (at width value : ℕ) → hides (at / 8) ≡ false → stored (with_hidden hides gs) at width value ≡ with_hidden hides (stored gs at width value)
store_seen hides gs at width value open_ = rw (seen_at hides gs (at / 8) open_) (set_seen hides gs (at / 8) _ open_)

-- ---- whole ranges

zero_swaps : (a b : Bool) (g : Granule) → cond b (blank (hide a g)) (hide a g) ≡ hide a (cond b (blank g) g)
zero_swaps true true g = refl
zero_swaps true false g = refl
zero_swaps false true g = refl
zero_swaps false false g = refl

zeroed_seen_from : (h : ℕ → Bool) (k : ℕ) (gs : List Granule) (from to place : ℕ) → zeroed_from from to place (with_hidden_from h k gs) ≡ with_hidden_from h k (zeroed_from from to place gs)
zeroed_seen_from h k [] from to place = refl
zeroed_seen_from h k (g ∷ gs) from to place =
    ap (λ x. x ∷ zeroed_from from to (place + 8) (with_hidden_from h (k + 1) gs)) (zero_swaps (h k) (nat_le from place && nat_lt place to) g)
    ∙ ap (λ xs. hide (h k) (cond (nat_le from place && nat_lt place to) (blank g) g) ∷ xs) (zeroed_seen_from h (k + 1) gs from to (place + 8))

pub zeroed_seen : (h : ℕ → Bool) (gs : List Granule) (from to place : ℕ) → zeroed_from from to place (with_hidden h gs) ≡ with_hidden h (zeroed_from from to place gs)
unfolding with_hidden
zeroed_seen h gs from to place = zeroed_seen_from h 0 gs from to place

mark_swaps : (a b on : Bool) (g : Granule) → cond b (let m : Granule = record (hide a g) { mark = on } in m) (hide a g) ≡ hide a (cond b (let m : Granule = record g { mark = on } in m) g)
mark_swaps true true on g = refl
mark_swaps true false on g = refl
mark_swaps false true on g = refl
mark_swaps false false on g = refl

marked_seen_from : (h : ℕ → Bool) (k : ℕ) (gs : List Granule) (from to : ℕ) (on : Bool) (place : ℕ) → marked_from from to on place (with_hidden_from h k gs) ≡ with_hidden_from h k (marked_from from to on place gs)
marked_seen_from h k [] from to on place = refl
marked_seen_from h k (g ∷ gs) from to on place =
    ap (λ x. x ∷ marked_from from to on (place + 8) (with_hidden_from h (k + 1) gs)) (mark_swaps (h k) (nat_le from place && nat_lt place to) on g)
    ∙ ap (λ xs. hide (h k) (cond (nat_le from place && nat_lt place to) (let m : Granule = record g { mark = on } in m) g) ∷ xs) (marked_seen_from h (k + 1) gs from to on (place + 8))

pub marked_seen : (h : ℕ → Bool) (gs : List Granule) (from to : ℕ) (on : Bool) (place : ℕ) → marked_from from to on place (with_hidden h gs) ≡ with_hidden h (marked_from from to on place gs)
unfolding with_hidden
marked_seen h gs from to on place = marked_seen_from h 0 gs from to on place

-- ---- changes with hidden granules

-- an object appears where its granules read as zero: what is hidden shrinks
pub appears : (hides after : ℕ → Bool) (gs hs : List Granule) → length hs ≡ length gs
    → ((k : ℕ) → k < length gs → hides k ≡ false → (after k ≡ false) × (granule_at hs k ≡ granule_at gs k))
    → ((k : ℕ) → k < length gs → hides k ≡ true → after k ≡ false → granule_at hs k ≡ blank (granule_at gs k))
    → ((k : ℕ) → k < length gs → hides k ≡ true → after k ≡ true → (granule_at hs k).mark ≡ (granule_at gs k).mark)
    → with_hidden after hs ≡ with_hidden hides gs
appears hides after gs hs size seen shown kept = with_hidden_is hides gs (with_hidden after hs) (with_hidden_length after hs ∙ size)
    (λ k lt. with_hidden_at after hs k ∙ elim (bool_tells (hides k)) [
      | inl was ↦ elim (bool_tells (after k)) [
        | inl is ↦
            let same : blank (granule_at hs k) ≡ blank (granule_at gs k) = ap (λ (b : Bool). let z : Granule = record { cap = plain 0; mark = b } in z) (kept k lt was is) in
            rw (was, is) same
        | inr open_ ↦ rw (was, open_) (shown k lt was open_)
      ]
      | inr was ↦ let s = seen k lt was in rw (was, s.0) s.1
    ])

-- what keeps to hidden granules isn't seen
pub hidden_changes : (h : ℕ → Bool) (gs hs : List Granule) (lo hi : ℕ) → Touches lo hi gs hs → ((k : ℕ) → lo ≤ k → k < hi → h k ≡ true) → with_hidden h hs ≡ with_hidden h gs
hidden_changes h gs hs lo hi touches hidden =
    appears h h gs hs touches.size
    (λ k lt open_. (
      open_,
      touches.rest k (elim (lt_tells k lo) [
        | inl a ↦ inl a.1
        | inr a ↦ elim (lt_tells k hi) [ inl b ↦ absurd (let clash : true ≡ false = sym (hidden k a.1 b.1) ∙ open_ in cc) | inr b ↦ inr b.1 ]
      ]),
    ))
    (λ k lt is not. absurd (let clash : true ≡ false = sym is ∙ not in cc))
    (λ k lt a b. touches.marks k)
