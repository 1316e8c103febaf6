-- Stores of capabilities beside other stores, and marking as facts.
use Rattle.std.proofs.Common.{ℕ, zero, suc, ◌≡◌, ◌+◌, ◌*◌, ◌/◌, ◌%◌, ◌<◌, ◌≤◌, inl, inr, Bool, List, [], ◌∷◌, length, refl, sym, ap, ◌∙◌, arith}
use Rattle.std.proofs.Math.ListN.{set}
use Rattle.std.proofs.lemmas.List.{get_or-set_same, set_comm}
use Rattle.law_lists.proofs.Tests.{lt_tells}
use Rattle.def_words.specs.declared.Cap.{Cap}
use Rattle.def_memory.specs.declared.Granule.{Granule}
use Rattle.def_memory.specs.Granules.{plain, nothing, granule_at}
use Rattle.def_memory.specs.Accesses.{Disjoint, part_of, with_part, loaded, stored, stored_cap}
use Rattle.def_memory.specs.Ranges.{IsMarked, mark_range, marked_from}
use Rattle.law_granules.proofs.Lists.{store_rest, cap_rest, marked_length, marked_at}

abbrev bytes_put : Granule → ℕ → ℕ → ℕ → Granule
bytes_put g from width value = record { cap = plain (with_part g.cap.word from width value); mark = g.mark }

abbrev cap_put : Granule → Cap → Granule
cap_put g c = record { cap = c; mark = g.mark }

-- a whole granule and bytes that share none of its bytes lie in two granules
other_granule : (at other span : ℕ) → at % 8 ≡ 0 → 0 < span → Disjoint at 8 other span → at / 8 ≡ other / 8 → ⊥
other_granule at other span whole some apart same = elim apart [ inl before ↦ omega (arith, before, whole, same) | inr after ↦ omega (arith, after, whole, same, some) ]

pub caps_comm : (gs : List Granule) (at : ℕ) (c : Cap) (other : ℕ) (d : Cap) → at % 8 ≡ 0 → Disjoint at 8 other 8
    → stored_cap (stored_cap gs at c) other d ≡ stored_cap (stored_cap gs other d) at c
caps_comm gs at c other d whole apart =
    let n = other_granule at other 8 whole (omega arith) apart in
    let x = cap_put (granule_at gs (at / 8)) c in
    let y = cap_put (granule_at gs (other / 8)) d in
    ap (λ g. set (set gs (at / 8) x) (other / 8) (cap_put g d)) (cap_rest gs at c (other / 8) (λ e. n (sym e)))
    ∙ set_comm gs (at / 8) (other / 8) x y n
    ∙ sym (ap (λ g. set (set gs (other / 8) y) (at / 8) (cap_put g c)) (cap_rest gs other d (at / 8) n))

pub cap_bytes_comm : (gs : List Granule) (at : ℕ) (c : Cap) (other span more : ℕ) → at % 8 ≡ 0 → 0 < span → Disjoint at 8 other span
    → stored (stored_cap gs at c) other span more ≡ stored_cap (stored gs other span more) at c
cap_bytes_comm gs at c other span more whole some apart =
    let n = other_granule at other span whole some apart in
    let x = cap_put (granule_at gs (at / 8)) c in
    let y = bytes_put (granule_at gs (other / 8)) (other % 8) span more in
    ap (λ g. set (set gs (at / 8) x) (other / 8) (bytes_put g (other % 8) span more)) (cap_rest gs at c (other / 8) (λ e. n (sym e)))
    ∙ set_comm gs (at / 8) (other / 8) x y n
    ∙ sym (ap (λ g. set (set gs (other / 8) y) (at / 8) (cap_put g c)) (store_rest gs other span more (at / 8) n))

-- the bytes of a capability that was stored, and bytes elsewhere
pub cap_bytes : (gs : List Granule) (at : ℕ) (c : Cap) (other span : ℕ) → at / 8 < length gs → other / 8 ≡ at / 8 → loaded (stored_cap gs at c) other span ≡ part_of c.word (other % 8) span
cap_bytes gs at c other span inside same =
    rw same (ap (λ (g : Granule). part_of g.cap.word (other % 8) span) (get_or-set_same gs (at / 8) (cap_put (granule_at gs (at / 8)) c) nothing inside))

pub cap_bytes_rest : (gs : List Granule) (at : ℕ) (c : Cap) (other span : ℕ) → at % 8 ≡ 0 → 0 < span → Disjoint at 8 other span → loaded (stored_cap gs at c) other span ≡ loaded gs other span
cap_bytes_rest gs at c other span whole some apart =
    ap (λ (g : Granule). part_of g.cap.word (other % 8) span) (cap_rest gs at c (other / 8) (λ e. other_granule at other span whole some apart (sym e)))

-- past the end nothing is there to be marked
marked_past : (from to : ℕ) (on : Bool) (place : ℕ) (gs : List Granule) (k : ℕ) → length gs ≤ k → granule_at (marked_from from to on place gs) k ≡ granule_at gs k
marked_past from to on place [] k past = refl
marked_past from to on place (g ∷ gs) zero past = absurd (omega (arith, past))
marked_past from to on place (g ∷ gs) (suc k) past = marked_past from to on (place + 8) gs k (omega (arith, past))

pub marked_holds : (from to : ℕ) (on : Bool) (gs : List Granule) → IsMarked from to on gs (mark_range from to on gs)
marked_holds from to on gs = record {
  size = marked_length from to on 0 gs;
  marks = λ k lt within. marked_at from to on 0 gs k (λ g. g ≡ record (granule_at gs k) { mark = on }) lt (λ a b. refl)
      (λ o. absurd (elim o [ inl a ↦ omega (arith, a, within.0) | inr b ↦ omega (arith, b, within.1) ]));
  rest = λ k outside. elim (lt_tells k (length gs)) [
    | inl lt ↦ marked_at from to on 0 gs k (λ g. g ≡ granule_at gs k) lt.1
        (λ a b. absurd (elim outside [ inl c ↦ omega (arith, a, c) | inr c ↦ omega (arith, b, c) ])) (λ o. refl)
    | inr past ↦ marked_past from to on 0 gs k past.1
  ];
}
