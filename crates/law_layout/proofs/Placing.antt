-- The regions of a list of sizes, one after another.
use Rattle.std.proofs.Common.{ℕ, zero, suc, ◌+◌, ◌-◌, ◌*◌, ◌/◌, ◌%◌, ◌^◌, ◌<◌, ◌≤◌, ◌≡◌, max, true, List, [], ◌∷◌, length, Some, slice_get, refl, ap, sym, subst, ◌∙◌, arith, inl, inr}
use Rattle.std.proofs.lemmas.Nat.{pow_pos, mul-le, div-add-mod'}
use Rattle.std.proofs.Math.Nat.{mul-mod_left, add-mul-mod_self_right}
use Rattle.def_profile.specs.declared.bounds.TheConstants.{LAST_EXPONENT, MOST_UNITS}
use Rattle.law_lists.proofs.Tests.{le_tells}
use Rattle.def_words.specs.LeastBounds.{floor_units, ceil_units, exponent_for, rounded_of}
use Rattle.law_words.proofs.Leasts.{exponent_is, ceil_above, ceil_le, floor_under}
use Rattle.law_words.proofs.Exacts.{no_larger, exact_flag}
use Rattle.def_layout.specs.declared.Region.{Region}
use Rattle.def_layout.specs.Placement.{whole_size, region_length, region_base, region_from, placed, last_end, needed}
use Rattle.def_layout.specs.Lies.{AreSmall, IsSpelled}
use Rattle.law_layout.proofs.Multiples.{whole_of, coarser, ceil_whole, base_least, after}

-- where the region of the first size ends
abbrev pub next_end : ℕ → ℕ → ℕ
next_end end n = region_base end n + region_length n

pub placed_cons : (end n : ℕ) (ns : List ℕ) → placed end (n ∷ ns) ≡ region_from (region_base end n) (region_length n) ∷ placed (next_end end n) ns
unfolding placed
placed_cons end n ns = refl

pub last_cons : (end n : ℕ) (ns : List ℕ) → last_end end (n ∷ ns) ≡ last_end (next_end end n) ns
unfolding last_end
last_cons end n ns = refl

pub last_nil : (end : ℕ) → last_end end [] ≡ end
unfolding last_end
last_nil end = refl

pub placed_nil : (end : ℕ) → placed end [] ≡ []
unfolding placed
placed_nil end = refl

-- ---- order

pub grows : (end : ℕ) (ns : List ℕ) → end ≤ last_end end ns
unfolding last_end
grows end [] = omega arith
grows end (n ∷ ns) = let step : end ≤ region_base end n = after end n in let rest = grows (next_end end n) ns in omega (arith, step, rest)

pub each_one : (end : ℕ) (ns : List ℕ) → length (placed end ns) ≡ length ns
unfolding placed
each_one end [] = refl
each_one end (n ∷ ns) = ap suc (each_one (next_end end n) ns)

pub sized : (end : ℕ) (ns : List ℕ) (i n : ℕ) (r : Region) → slice_get ns i ≡ Some n → slice_get (placed end ns) i ≡ Some r → r.length ≡ region_length n
unfolding placed
sized end [] i n r a b = cc
sized end (m ∷ ns) zero n r a b = let same : m ≡ n = cc in let one : region_from (region_base end m) (region_length m) ≡ r = cc in ap (λ (g : Region). g.length) (sym one) ∙ ap region_length same
sized end (m ∷ ns) (suc i) n r a b = sized (next_end end m) ns i n r a b

pub low : (end : ℕ) (ns : List ℕ) (i : ℕ) (r : Region) → slice_get (placed end ns) i ≡ Some r → end ≤ r.base
unfolding placed
low end [] i r b = cc
low end (m ∷ ns) zero r b =
    let one : region_from (region_base end m) (region_length m) ≡ r = cc in
    subst (λ (g : Region). end ≤ g.base) one (after end m)
low end (m ∷ ns) (suc i) r b = let rest = low (next_end end m) ns i r b in let step : end ≤ region_base end m = after end m in omega (arith, rest, step)

pub high : (end : ℕ) (ns : List ℕ) (i : ℕ) (r : Region) → slice_get (placed end ns) i ≡ Some r → r.base + r.length ≤ last_end end ns
unfolding placed last_end
high end [] i r b = cc
high end (m ∷ ns) zero r b =
    let one : region_from (region_base end m) (region_length m) ≡ r = cc in
    subst (λ (g : Region). g.base + g.length ≤ last_end (next_end end m) ns) one (grows (next_end end m) ns)
high end (m ∷ ns) (suc i) r b = high (next_end end m) ns i r b

pub apart : (end : ℕ) (ns : List ℕ) (i j : ℕ) (r q : Region) → slice_get (placed end ns) i ≡ Some r → slice_get (placed end ns) j ≡ Some q → i < j → r.base + r.length ≤ q.base
unfolding placed
apart end [] i j r q a b lt = cc
apart end (m ∷ ns) i zero r q a b lt = absurd (omega (arith, lt))
apart end (m ∷ ns) zero (suc j) r q a b lt =
    let one : region_from (region_base end m) (region_length m) ≡ r = cc in
    subst (λ (g : Region). g.base + g.length ≤ q.base) one (low (next_end end m) ns j q b)
apart end (m ∷ ns) (suc i) (suc j) r q a b lt = apart (next_end end m) ns i j r q a b (omega (arith, lt))

pub in_ram : (base size : ℕ) (ns : List ℕ) (i : ℕ) (r : Region) → needed base ns ≤ size → slice_get (placed base ns) i ≡ Some r → r.base + r.length ≤ base + size
in_ram base size ns i r le is = let top = high base ns i r is in let up = grows base ns in omega (arith, le, top, up)

-- ---- lengths

pub whole_above : (n : ℕ) → n ≤ whole_size n
whole_above n = by ((n + 16 - 1) / 16) ((n + 16 - 1) % 16) (div-add-mod' (n + 16 - 1) 16) (omega arith)
  where
    by : (k rest : ℕ) → k * 16 + rest ≡ n + 16 - 1 → rest < 16 → n ≤ max 16 (k * 16)
    by k rest split small = omega (arith, split, small)

-- a length is at least the size in whole units
pub length_above : (n : ℕ) → whole_size n ≤ region_length n
length_above n = ceil_above (whole_size n) (exponent_for 0 (whole_size n))

pub size_fits : (n : ℕ) → n ≤ region_length n
size_fits n = let whole = whole_above n in let length = length_above n in omega (arith, whole, length)

-- ---- what a word can spell

pub whole_sized : (n : ℕ) → whole_size n % 16 ≡ 0
whole_sized n = by ((n + 16 - 1) / 16)
  where
    by : (k : ℕ) → max 16 (k * 16) % 16 ≡ 0
    by k = elim (le_tells (k * 16) 16) [
      | inl t ↦ (let le = t.1 in let same : max 16 (k * 16) ≡ 16 = omega (arith, le) in rw same refl)
      | inr t ↦ (let gt = t.1 in let same : max 16 (k * 16) ≡ k * 16 = omega (arith, gt) in rw same (mul-mod_left k 16))
    ]

pub whole_few : (n : ℕ) → n ≤ 2097152 → whole_size n ≤ 2097152
whole_few n le = by ((n + 16 - 1) / 16) ((n + 16 - 1) % 16) (div-add-mod' (n + 16 - 1) 16)
  where
    by : (k rest : ℕ) → k * 16 + rest ≡ n + 16 - 1 → max 16 (k * 16) ≤ 2097152
    by k rest split = omega (arith, split, le)

exponent_small : (w : ℕ) → w ≤ 2097152 → exponent_for 0 w ≤ LAST_EXPONENT
exponent_small w le = no_larger 0 w 14 (omega arith) (omega (arith, le))

nothing_below : (e : ℕ) → floor_units 0 e ≡ 0
nothing_below e = let low = floor_under 0 e in let some : 0 < 2 ^ e = pow_pos e in no_product (floor_units 0 e) (2 ^ e) low some
  where
    no_product : (a b : ℕ) → a * b ≤ 0 → 0 < b → a ≡ 0
    no_product zero b le some = refl
    no_product (suc a) b le some = absurd (let more : 1 * b ≤ suc a * b = mul-le 1 b (suc a) b (omega arith) (omega arith) in omega (arith, le, some, more))

few_units : (w : ℕ) → w ≤ 2097152 → ceil_units w (exponent_for 0 w) ≤ MOST_UNITS
few_units w le = elim (exponent_is 0 w).serves [
  | inl s ↦ (let few = s.1 in let none : floor_units 0 (exponent_for 0 w) ≡ 0 = nothing_below (exponent_for 0 w) in omega (arith, few, none))
  | inr is ↦ absurd (let small = exponent_small w le in omega (arith, small, is))
]

pub length_whole : (n : ℕ) → region_length n % 16 ≡ 0
length_whole n = by (exponent_for 0 (whole_size n)) refl
  where
    by : (e : ℕ) → exponent_for 0 (whole_size n) ≡ e → (ceil_units (whole_size n) e * 2 ^ e) % 16 ≡ 0
    by e is = elim (le_tells e 4) [
      | inl t ↦ (
          let le = t.1 in
          let own : whole_size n % 2 ^ e ≡ 0 = coarser (whole_size n) e 4 le (whole_sized n) in
          let same : ceil_units (whole_size n) e * 2 ^ e ≡ whole_size n = ap (λ k. k * 2 ^ e) (ceil_whole (whole_size n) e own) ∙ whole_of (whole_size n) e own in
          rw same (whole_sized n)
          )
      | inr t ↦ (let gt = t.1 in coarser (ceil_units (whole_size n) e * 2 ^ e) 4 e (omega (arith, gt)) (mul-mod_left (ceil_units (whole_size n) e) (2 ^ e)))
    ]

-- a range of at most 511 units of 2^e, at whole units
pub exact_units : (base k e : ℕ) → e ≤ LAST_EXPONENT → base % 2 ^ e ≡ 0 → k ≤ MOST_UNITS → (rounded_of base (base + k * 2 ^ e)).exact ≡ true
exact_units base k e small even few =
    let top = base + k * 2 ^ e in
    let ends : top % 2 ^ e ≡ 0 = add-mul-mod_self_right base k (2 ^ e) ∙ even in
    let same : base / 2 ^ e * 2 ^ e ≡ base = whole_of base e even in
    let near : ceil_units top e ≤ base / 2 ^ e + k = ceil_le top (base / 2 ^ e + k) e (omega (arith, same)) in
    let least : exponent_for base top ≤ e = no_larger base top e small (omega (arith, near, few)) in
    let even_now : base % 2 ^ exponent_for base top ≡ 0 = coarser base (exponent_for base top) e least even in
    let ends_now : top % 2 ^ exponent_for base top ≡ 0 = coarser top (exponent_for base top) e least ends in
    exact_flag base top
    (whole_of base (exponent_for base top) even_now)
    (ap (λ n. n * 2 ^ exponent_for base top) (ceil_whole top (exponent_for base top) ends_now) ∙ whole_of top (exponent_for base top) ends_now)

pub spelled_one : (end n : ℕ) → n ≤ 2097152 → IsSpelled (region_from (region_base end n) (region_length n))
spelled_one end n le = record {
  even = (base_least end n).even;
  whole = length_whole n;
  exact = exact_units (region_base end n) (ceil_units (whole_size n) (exponent_for 0 (whole_size n))) (exponent_for 0 (whole_size n))
      (exponent_small (whole_size n) (whole_few n le)) (base_least end n).aligned (few_units (whole_size n) (whole_few n le));
}

pub spelled : (end : ℕ) (ns : List ℕ) (i : ℕ) (r : Region) → AreSmall ns → slice_get (placed end ns) i ≡ Some r → IsSpelled r
unfolding placed
spelled end [] i r small b = cc
spelled end (m ∷ ns) zero r small b =
    let one : region_from (region_base end m) (region_length m) ≡ r = cc in
    subst IsSpelled one (spelled_one end m small.0)
spelled end (m ∷ ns) (suc i) r small b = spelled (next_end end m) ns i r small.1 b

pub ends_whole : (end : ℕ) (ns : List ℕ) → AreSmall ns → end % 16 ≡ 0 → last_end end ns % 16 ≡ 0
unfolding last_end
ends_whole end [] small even = even
ends_whole end (m ∷ ns) small even = ends_whole (next_end end m) ns small.1
    (let a = (base_least end m).even in let b = length_whole m in omega (arith, a, b))
