-- Bounds at the addresses from their base up to the one that they were decoded at.
use Rattle.std.proofs.Common.{ℕ, ◌+◌, ◌-◌, ◌*◌, ◌/◌, ◌%◌, ◌^◌, ◌<◌, ◌≤◌, ◌≡◌, ◌⊎◌, ◌==◌, ◌&&◌, true, refl, sym, ap, ◌∙◌, inl, inr, arith, subst}
use Rattle.std.proofs.Common.{lit<}
use Rattle.std.proofs.lemmas.Bool.{eq-eqb}
use Rattle.std.proofs.lemmas.Nat.{pow_pos, mul-le, mod-mul-add, le-div}
use Rattle.std.proofs.Math.Nat.{pow-le-pow_right, div-mul-le_self}
use Rattle.def_profile.specs.declared.bounds.TheConstants.{LAST_EXPONENT, WIDEST_EXPONENT}
use Rattle.law_lists.proofs.Tests.{lt_tells}
use Rattle.def_words.specs.declared.Bounds.{Bounds}
use Rattle.def_words.specs.declared.Cap.{Cap}
use Rattle.def_words.specs.Authority.{one_if_less, corner_of, middle, base_of, top_of, bounds_of, exponent_of, base_field, top_field, cap_address, cap_base, cap_bounds, cap_high, cap_top, word_of}
use Rattle.def_words.specs.Capability.{is_representable, with_address, word_at}
use Rattle.def_words.specs.Seals.{cap_seal}
use Rattle.law_words.proofs.Back.{at_most_one, exponent_kinds}
use Rattle.law_words.proofs.Fields.{corner_sum, unit_low}
use Rattle.law_words.proofs.Words.{address_small, bounds_is, word_whole}

abbrev pub base_at : ℕ → ℕ → ℕ → ℕ
base_at e B a = corner_of a e B 0 (one_if_less (middle a e) B) % 2 ^ 32

abbrev pub top_at : ℕ → ℕ → ℕ → ℕ → ℕ
top_at e B T a = corner_of a e T (one_if_less T B) (one_if_less (middle a e) B) % 2 ^ 33

abbrev pub Same : ℕ → ℕ → ℕ → ℕ → ℕ → Type 0
Same e B T a x = (base_at e B x ≡ base_at e B a) × (top_at e B T x ≡ top_at e B T a)

-- a block's number, as a corner takes it, is that of both addresses
same_corners : (e B T a x : ℕ) → ((up : ℕ) → x / 2 ^ e / 512 + 2 ^ 24 + up - one_if_less (middle x e) B ≡ a / 2 ^ e / 512 + 2 ^ 24 + up - one_if_less (middle a e) B) → Same e B T a x
same_corners e B T a x blocks = (
  ap (λ n. n % 2 ^ 32) (both B 0),
  ap (λ n. n % 2 ^ 33) (both T (one_if_less T B)),
)
  where
    both : (field up : ℕ) → corner_of x e field up (one_if_less (middle x e) B) ≡ corner_of a e field up (one_if_less (middle a e) B)
    both field up =
        corner_sum x e field up (one_if_less (middle x e) B) (a / 2 ^ e / 512 + 2 ^ 24 + up - one_if_less (middle a e) B) (blocks up)
        ∙ sym (corner_sum a e field up (one_if_less (middle a e) B) (a / 2 ^ e / 512 + 2 ^ 24 + up - one_if_less (middle a e) B) refl)

-- where the block of B is one of the space
record Block (e B a k : ℕ) : Type 0 where
  pub low : k * 512 + B ≤ a / 2 ^ e
  pub high : a / 2 ^ e < k * 512 + B + 512
  pub is : a / 2 ^ e / 512 + 2 ^ 24 - one_if_less (middle a e) B ≡ k + 2 ^ 24

number_of : (q B k : ℕ) → B < 512 → k * 512 + B ≤ q → q < k * 512 + B + 512 → (up : ℕ) → q / 512 + 2 ^ 24 + up - one_if_less (q % 512) B ≡ k + 2 ^ 24 + up
number_of q B k hb low high up = elim (lt_tells (q % 512) B) [
  | inl t ↦ rw t.0 (let less = t.1 in omega (arith, hb, low, high, less))
  | inr t ↦ rw t.0 (let more = t.1 in omega (arith, hb, low, high, more))
]

base_in : (e B a k : ℕ) → e ≤ LAST_EXPONENT → a < 2 ^ 32 → B < 512 → k * 512 + B ≤ a / 2 ^ e → a / 2 ^ e < k * 512 + B + 512 → base_at e B a ≡ (k * 512 + B) * 2 ^ e
base_in e B a k small a_small hb low high =
    let sum : a / 2 ^ e / 512 + 2 ^ 24 + 0 - one_if_less (middle a e) B ≡ k + 2 ^ 24 + 0 = number_of (a / 2 ^ e) B k hb low high 0 in
    let corner : corner_of a e B 0 (one_if_less (middle a e) B) ≡ ((k + 2 ^ 24 + 0) * 512 + B) * 2 ^ e = corner_sum a e B 0 (one_if_less (middle a e) B) (k + 2 ^ 24 + 0) sum in
    let moved : ((k + 2 ^ 24 + 0) * 512 + B) * 2 ^ e ≡ (2 * 2 ^ e) * 2 ^ 32 + (k * 512 + B) * 2 ^ e = omega arith in
    let whole : a / 2 ^ e * 2 ^ e ≤ a = div-mul-le_self a (2 ^ e) in
    let under : (k * 512 + B) * 2 ^ e ≤ a / 2 ^ e * 2 ^ e = mul-le (k * 512 + B) (2 ^ e) (a / 2 ^ e) (2 ^ e) low (omega arith) in
    let fits : (k * 512 + B) * 2 ^ e < 2 ^ 32 = omega (arith, whole, under, a_small) in
    ap (λ n. n % 2 ^ 32) (corner ∙ moved) ∙ mod-mul-add (2 * 2 ^ e) (2 ^ 32) ((k * 512 + B) * 2 ^ e) fits

units_down : (e a x : ℕ) → x ≤ a → x / 2 ^ e ≤ a / 2 ^ e
units_down e a x le =
    let whole : x / 2 ^ e * 2 ^ e ≤ x = div-mul-le_self x (2 ^ e) in
    unit_low a e (x / 2 ^ e) (omega (arith, whole, le))

in_block : (e B T a x k : ℕ) → e ≤ LAST_EXPONENT → a < 2 ^ 32 → B < 512 → k * 512 + B ≤ a / 2 ^ e → a / 2 ^ e < k * 512 + B + 512 → base_at e B a ≤ x → x ≤ a → Same e B T a x
in_block e B T a x k small a_small hb low high from to =
    let base : base_at e B a ≡ (k * 512 + B) * 2 ^ e = base_in e B a k small a_small hb low high in
    let above : k * 512 + B ≤ x / 2 ^ e = unit_low x e (k * 512 + B) (rw (← base) from) in
    let down : x / 2 ^ e ≤ a / 2 ^ e = units_down e a x to in
    same_corners e B T a x (λ up. number_of (x / 2 ^ e) B k hb above (omega (arith, down, high)) up ∙ sym (number_of (a / 2 ^ e) B k hb low high up))

-- the lowest block, and an address below the unit of B: the base is at the end of the space
none_below : (e B a x : ℕ) → e ≤ LAST_EXPONENT → a < 2 ^ 32 → B < 512 → a / 2 ^ e / 512 ≡ 0 → a / 2 ^ e % 512 < B → base_at e B a ≤ x → x ≤ a → ⊥
none_below e B a x small a_small hb lowest less from to =
    let p_small : 2 ^ e ≤ 2 ^ 14 = pow-le-pow_right (lit< tt) small in
    let positive : 0 < 2 ^ e = pow_pos e in
    let under_b : B * 2 ^ e ≤ 511 * 2 ^ e = mul-le B (2 ^ e) 511 (2 ^ e) (omega (arith, hb)) (omega arith) in
    let down : one_if_less (middle a e) B ≡ 1 = elim (lt_tells (middle a e) B) [ inl t ↦ rw t.0 refl | inr t ↦ absurd (let more = t.1 in omega (arith, more, less)) ] in
    let sum : a / 2 ^ e / 512 + 2 ^ 24 + 0 - 1 ≡ 2 ^ 24 - 1 = rw lowest refl in
    let corner : corner_of a e B 0 1 ≡ ((2 ^ 24 - 1) * 512 + B) * 2 ^ e = corner_sum a e B 0 1 (2 ^ 24 - 1) sum in
    let moved : ((2 ^ 24 - 1) * 512 + B) * 2 ^ e ≡ (2 * 2 ^ e - 1) * 2 ^ 32 + (2 ^ 32 - (512 * 2 ^ e - B * 2 ^ e)) = omega (arith, under_b, p_small, positive) in
    let fits : 2 ^ 32 - (512 * 2 ^ e - B * 2 ^ e) < 2 ^ 32 = omega (arith, under_b, p_small, positive) in
    let base : base_at e B a ≡ 2 ^ 32 - (512 * 2 ^ e - B * 2 ^ e) = rw (down, corner, moved) (mod-mul-add (2 * 2 ^ e - 1) (2 ^ 32) (2 ^ 32 - (512 * 2 ^ e - B * 2 ^ e)) fits) in
    let units_few : a / 2 ^ e < 512 = omega (arith, lowest) in
    let short : a < 512 * 2 ^ e = few_bytes a (2 ^ e) positive units_few in
    omega (arith, base, from, to, short, p_small, under_b)
  where
    few_bytes : (n p : ℕ) → 0 < p → n / p < 512 → n < 512 * p
    few_bytes n p positive few = elim (lt_tells n (512 * p)) [
      | inl t ↦ t.1
      | inr t ↦ absurd (let many = le-div 512 n p positive t.1 in omega (arith, many, few))
    ]

usual : (e B T a x : ℕ) → e ≤ LAST_EXPONENT → a < 2 ^ 32 → B < 512 → base_at e B a ≤ x → x ≤ a → Same e B T a x
usual e B T a x small a_small hb from to = elim (lt_tells (a / 2 ^ e % 512) B) [
  | inr t ↦ (let more = t.1 in in_block e B T a x (a / 2 ^ e / 512) small a_small hb (omega (arith, more)) (omega (arith, hb)) from to)
  | inl t ↦ elim (lt_tells 0 (a / 2 ^ e / 512)) [
    | inl some ↦ (let less = t.1 in let one = some.1 in in_block e B T a x (a / 2 ^ e / 512 - 1) small a_small hb (omega (arith, less, one, hb)) (omega (arith, less, one, hb)) from to)
    | inr none ↦ (let zero_it : a / 2 ^ e / 512 ≡ 0 = (let le = none.1 in omega (arith, le)) in absurd (none_below e B a x small a_small hb zero_it t.1 from to))
  ]
]

-- the widest bounds are the same at each address
pub wide_base : (B a down : ℕ) → B < 512 → down ≤ 1 → corner_of a WIDEST_EXPONENT B 0 down % 2 ^ 32 ≡ B % 256 * 2 ^ 24
wide_base B a down hb hd = omega (arith, hb, hd)

pub wide_top : (T a up down : ℕ) → T < 512 → up ≤ 1 → down ≤ 1 → corner_of a WIDEST_EXPONENT T up down % 2 ^ 33 ≡ T * 2 ^ 24
wide_top T a up down ht hu hd = omega (arith, ht, hu, hd)

pub widest : (B T a x : ℕ) → B < 512 → T < 512 → Same WIDEST_EXPONENT B T a x
widest B T a x hb ht = (
  wide_base B x (one_if_less (middle x 24) B) hb (at_most_one (middle x 24) B) ∙ sym (wide_base B a (one_if_less (middle a 24) B) hb (at_most_one (middle a 24) B)),
  wide_top T x (one_if_less T B) (one_if_less (middle x 24) B) ht (at_most_one T B) (at_most_one (middle x 24) B)
      ∙ sym (wide_top T a (one_if_less T B) (one_if_less (middle a 24) B) ht (at_most_one T B) (at_most_one (middle a 24) B)),
)

by_fields : (e B T a x : ℕ) → (e ≤ LAST_EXPONENT) ⊎ (e ≡ WIDEST_EXPONENT) → a < 2 ^ 32 → B < 512 → T < 512 → base_at e B a ≤ x → x ≤ a → Same e B T a x
by_fields e B T a x which a_small hb ht from to = elim which [
  | inl small ↦ usual e B T a x small a_small hb from to
  | inr wide ↦ subst (λ n. Same n B T a x) (sym wide) (widest B T a x hb ht)
]

lower : (high a x : ℕ) → a < 2 ^ 32 → base_of high a ≤ x → x ≤ a → (base_of high x ≡ base_of high a) × (top_of high x ≡ top_of high a)
lower high a x a_small from to = by_fields (exponent_of high) (base_field high) (top_field high) a x (exponent_kinds high) a_small (omega arith) (omega arith) from to

-- ---- of a capability

pub own_bounds : (c : Cap) → cap_bounds c ≡ bounds_of (cap_high c) (cap_address c)
own_bounds c = bounds_is c (cap_high c) (cap_address c) (address_small c) (word_whole c)

bounds_stay : (c d : Cap) (x : ℕ) → cap_base c ≤ x → x ≤ cap_address c → d.word ≡ word_of (cap_high c) x → cap_bounds d ≡ cap_bounds c
bounds_stay c d x from to is =
    let own = own_bounds c in
    let base : cap_base c ≡ base_of (cap_high c) (cap_address c) = ap (λ (b : Bounds). b.base) own in
    let at_small : cap_address c < 2 ^ 32 = address_small c in
    let same = lower (cap_high c) (cap_address c) x (address_small c) (rw (← base) from) to in
    bounds_is d (cap_high c) x (omega (arith, at_small, to)) is
    ∙ ap (λ n. record { exponent = (bounds_of (cap_high c) x).exponent; base = n; top = top_of (cap_high c) x }) same.0
    ∙ ap (λ n. record { exponent = (bounds_of (cap_high c) x).exponent; base = base_of (cap_high c) (cap_address c); top = n }) same.1
    ∙ sym own

pub representable : (c d : Cap) → cap_bounds d ≡ cap_bounds c → ((cap_base d == cap_base c) && (cap_top d == cap_top c)) ≡ true
representable c d same =
    ap (λ (b : Bounds). (b.base == cap_base c) && (b.top == cap_top c)) same
    ∙ ap (λ b. b && (cap_top c == cap_top c)) (eq-eqb (cap_base c) (cap_base c) refl)
    ∙ eq-eqb (cap_top c) (cap_top c) refl

-- a tagged, unsealed capability whose address is lowered, no further than to its base, keeps its tag, wherever its top is
pub lowered : (c : Cap) (x : ℕ) → c.tag ≡ true → cap_seal c ≡ 0 → cap_base c ≤ x → x ≤ cap_address c → (with_address c x).tag ≡ true
unfolding with_address
lowered c x tagged unsealed from to =
    ap (λ t. t && (cap_seal c == 0) && is_representable c x) tagged
    ∙ ap (λ n. (n == 0) && is_representable c x) unsealed
    ∙ representable c (record c { word = word_at c x }) (bounds_stay c (record c { word = word_at c x }) x from to refl)
