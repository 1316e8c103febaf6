-- The least number of a range that passes a test, and what the test of places says.
use Rattle.std.proofs.Common.{ℕ, zero, suc, ◌≡◌, ◌+◌, ◌-◌, ◌%◌, ◌≤◌, ◌<◌, ◌==◌, ◌&&◌, ◌||◌, inl, inr, Bool, true, false, cond, nat_le, List, [], ◌∷◌, Some, None, refl, sym, ap, ◌∙◌, arith}
use Rattle.std.specs.Prelude.{find}
use Rattle.std.specs.List.{range_with_len, list_all}
use Rattle.std.proofs.lemmas.Bool.{eq-eqb, eqb-true, le-leb, leb-true}
use Rattle.law_lists.proofs.Tests.{bool_tells, both_left, both_right, le_tells}
use Rattle.def_words.specs.LeastBounds.{alignment_of}
use Rattle.def_machine.specs.Image.{Image}
use Rattle.def_machine.specs.State.{Object}
use Rattle.def_machine.specs.Objects.{Each, ApartFrom}
use Rattle.def_machine.specs.Heap.{Fits, IsPlaceFor, is_apart, is_place, place_of}

-- ---- the least of a range

pub record Least (P : ℕ → Bool) (low n b : ℕ) : Type 0 where
  pub low_is : low ≤ b
  pub passes : P b ≡ true
  pub before : (x : ℕ) → low ≤ x → x < b → P x ≡ false

pub least : (P : ℕ → Bool) (low n b : ℕ) → find P (range_with_len low n) ≡ Some b → Least P low n b
least P low zero b e = absurd (let clash : None ≡ Some b = e in cc)
least P low (suc n) b e = elim (bool_tells (P low)) [
  | inl is ↦
      let same : low ≡ b = let here : Some low ≡ Some b = sym (ap (λ c. cond c (Some low) (find P (range_with_len (low + 1) n))) is) ∙ e in cc in
      record { low_is = omega (arith, same); passes = ap P (sym same) ∙ is; before = λ x from to. absurd (omega (arith, same, from, to)) }
  | inr not ↦
      let rest = least P (low + 1) n b (sym (ap (λ c. cond c (Some low) (find P (range_with_len (low + 1) n))) not) ∙ e) in
      let above = rest.low_is in
      record {
        low_is = omega (arith, above);
        passes = rest.passes;
        before = λ x from to. elim (le_tells (low + 1) x) [
          | inl later ↦ rest.before x later.1 to
          | inr first ↦ (let same : low ≡ x = omega (arith, from, first.1) in ap P (sym same) ∙ not)
        ];
      }
]

pub never : (P : ℕ → Bool) (low n x : ℕ) → find P (range_with_len low n) ≡ None → low ≤ x → x < low + n → P x ≡ false
never P low zero x e from to = absurd (omega (arith, from, to))
never P low (suc n) x e from to = elim (bool_tells (P low)) [
  | inl is ↦ absurd (let clash : Some low ≡ None = sym (ap (λ c. cond c (Some low) (find P (range_with_len (low + 1) n))) is) ∙ e in cc)
  | inr not ↦ elim (le_tells (low + 1) x) [
    | inl later ↦ never P (low + 1) n x (sym (ap (λ c. cond c (Some low) (find P (range_with_len (low + 1) n))) not) ∙ e) later.1 (omega (arith, to))
    | inr first ↦ (let same : low ≡ x = omega (arith, from, first.1) in ap P (sym same) ∙ not)
  ]
]

-- ---- the test of places

abbrev new_at : ℕ → ℕ → Object
new_at length base = record { number = 0; quota = 0; base = base; length = length; charge = 0; live = true; painted = false }

apart_says : (length base : ℕ) (q : Object) → is_apart length base q ≡ true → ApartFrom (new_at length base) q
apart_says length base q e = elim (bool_tells (nat_le (base + length + 8) q.base)) [
  | inl is ↦ inl (leb-true (base + length + 8) q.base is)
  | inr not ↦ inr (leb-true (q.base + q.length + 8) base (sym (ap (λ b. b || nat_le (q.base + q.length + 8) base) not) ∙ e))
]

apart_is : (length base : ℕ) (q : Object) → ApartFrom (new_at length base) q → is_apart length base q ≡ true
apart_is length base q (inl le) = ap (λ b. b || nat_le (q.base + q.length + 8) base) (le-leb (base + length + 8) q.base le)
apart_is length base q (inr le) = elim (bool_tells (nat_le (base + length + 8) q.base)) [
  | inl is ↦ ap (λ b. b || nat_le (q.base + q.length + 8) base) is
  | inr not ↦ ap (λ b. b || nat_le (q.base + q.length + 8) base) not ∙ le-leb (q.base + q.length + 8) base le
]

all_says : (length base : ℕ) (qs : List Object) → list_all (is_apart length base) qs ≡ true → Each (λ q. ApartFrom (new_at length base) q) qs
all_says length base [] e = tt
all_says length base (q ∷ qs) e = (
  apart_says length base q (both_left (is_apart length base q) (list_all (is_apart length base) qs) e),
  all_says length base qs (both_right (is_apart length base q) (list_all (is_apart length base) qs) e),
)

all_is : (length base : ℕ) (qs : List Object) → Each (λ q. ApartFrom (new_at length base) q) qs → list_all (is_apart length base) qs ≡ true
all_is length base [] e = refl
all_is length base (q ∷ qs) e = rw (apart_is length base q e.0) (all_is length base qs e.1)

place_says : (i : Image) (qs : List Object) (length base : ℕ) → is_place i qs length base ≡ true → Fits i qs length base
place_says i qs length base e =
    let all = list_all (is_apart length base) qs in
    let four : ((base % 8 == 0) && (base % alignment_of length == 0) && nat_le (i.heap_base + 8) base && nat_le (base + length) i.heap_end) ≡ true = both_left _ _ e in
    let three : ((base % 8 == 0) && (base % alignment_of length == 0) && nat_le (i.heap_base + 8) base) ≡ true = both_left _ _ four in
    let two : ((base % 8 == 0) && (base % alignment_of length == 0)) ≡ true = both_left _ _ three in
    record {
      eight = eqb-true (base % 8) 0 (both_left _ _ two);
      aligned = eqb-true (base % alignment_of length) 0 (both_right _ _ two);
      low = leb-true (i.heap_base + 8) base (both_right _ _ three);
      high = leb-true (base + length) i.heap_end (both_right _ _ four);
      apart = all_says length base qs (both_right _ _ e);
    }

place_is : (i : Image) (qs : List Object) (length base : ℕ) → Fits i qs length base → is_place i qs length base ≡ true
place_is i qs length base f = rw (eq-eqb (base % 8) 0 f.eight, eq-eqb (base % alignment_of length) 0 f.aligned, le-leb (i.heap_base + 8) base f.low, le-leb (base + length) i.heap_end f.high) (all_is length base qs f.apart)

-- ---- places

pub place_found : (i : Image) (qs : List Object) (length base : ℕ) → 0 < length → place_of i qs length ≡ Some base → IsPlaceFor i qs length base
place_found i qs length base some e =
    let l = least (is_place i qs length) i.heap_base (i.heap_end - i.heap_base) base e in
    record {
      fits = place_says i qs length base l.passes;
      least = λ b lt fits. (let low = fits.low in
          let clash : true ≡ false = sym (place_is i qs length b fits) ∙ l.before b (omega (arith, low)) lt in cc);
    }

pub place_none : (i : Image) (qs : List Object) (length base : ℕ) → 0 < length → place_of i qs length ≡ None → Fits i qs length base → ⊥
place_none i qs length base some e fits =
    let low = fits.low in
    let high = fits.high in
    let clash : true ≡ false = sym (place_is i qs length base fits) ∙ never (is_place i qs length) i.heap_base (i.heap_end - i.heap_base) base e (omega (arith, low)) (omega (arith, some, low, high)) in
    cc
