-- Small regions take little of RAM.
use Rattle.std.proofs.Common.{ℕ, ◌≡◌, ◌+◌, ◌-◌, ◌*◌, ◌/◌, ◌%◌, ◌^◌, ◌<◌, ◌≤◌, max, List, [], ◌∷◌, ◌++◌, ap, sym, ◌∙◌, arith, lit≤, lit<}
use Rattle.std.proofs.lemmas.Nat.{pow_pos, div-add-mod'}
use Rattle.std.proofs.Math.Nat.{pow-le-pow_right}
use Rattle.def_words.specs.LeastBounds.{exponent_for}
use Rattle.law_words.proofs.Exacts.{no_larger}
use Rattle.def_layout.specs.Placement.{least_multiple, whole_size, region_alignment, region_base, region_length, last_end}
use Rattle.law_layout.proofs.Placing.{next_end, last_cons, last_nil}

-- these sizes, placed one after another, take at most so much
pub record Takes (sizes : List ℕ) (most : ℕ) : Type 0 where
  pub within : (end : ℕ) → last_end end sizes ≤ end + most

pub takes_none : Takes [] 0
takes_none = record { within = λ end. (let e = last_nil end in omega (arith, e)) }

joined_end : (end : ℕ) (ns ms : List ℕ) → last_end end (ns ++ ms) ≡ last_end (last_end end ns) ms
joined_end end [] ms = ap (λ a. last_end a ms) (sym (last_nil end))
joined_end end (n ∷ ns) ms =
    last_cons end n (ns ++ ms) ∙ joined_end (next_end end n) ns ms ∙ ap (λ a. last_end a ms) (sym (last_cons end n ns))

pub takes_both : (ns ms : List ℕ) (a b : ℕ) → Takes ns a → Takes ms b → Takes (ns ++ ms) (a + b)
takes_both ns ms a b first rest = record {
  within = λ end. (
      let e = joined_end end ns ms in
      let one = first.within end in
      let two = rest.within (last_end end ns) in
      omega (arith, e, one, two)
      );
}

whole_within : (n : ℕ) → whole_size n ≤ n + 16
whole_within n = by ((n + 16 - 1) / 16) ((n + 16 - 1) % 16) (div-add-mod' (n + 16 - 1) 16)
  where
    by : (k rest : ℕ) → k * 16 + rest ≡ n + 16 - 1 → max 16 (k * 16) ≤ n + 16
    by k rest split = omega (arith, split)

-- rounded up to units, a number grows by less than one of them
multiple_within : (u t : ℕ) → 0 < u → least_multiple u t ≤ t + u
multiple_within u t some = let split = div-add-mod' (t + u - 1) u in omega (arith, split, some)

exponent_few : (w : ℕ) → w ≤ 16400 → exponent_for 0 w ≤ 6
exponent_few w le = no_larger 0 w 6 (lit≤ tt) (omega (arith, le))

next_within : (end n : ℕ) → n ≤ 16384 → next_end end n ≤ end + (n + 144)
next_within end n le =
    let whole = whole_within n in
    let e : ℕ = exponent_for 0 (whole_size n) in
    let small : e ≤ 6 = exponent_few (whole_size n) (omega (arith, whole, le)) in
    let power : 2 ^ e ≤ 2 ^ 6 = pow-le-pow_right (lit< tt) small in
    let some : 0 < region_alignment n = omega arith in
    let unit : region_alignment n ≤ 64 = omega (arith, power) in
    let base : region_base end n ≤ end + region_alignment n = multiple_within (region_alignment n) end some in
    let length : region_length n ≤ whole_size n + 2 ^ e = multiple_within (2 ^ e) (whole_size n) (pow_pos e) in
    omega (arith, whole, power, unit, base, length)

pub takes_one : (n : ℕ) → n ≤ 16384 → Takes (n ∷ []) (n + 144)
takes_one n le = record {
  within = λ end. (
      let e = last_cons end n [] ∙ last_nil (next_end end n) in
      let next = next_within end n le in
      omega (arith, e, next)
      );
}
