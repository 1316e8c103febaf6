-- Rounded bounds: the fields of least bounds give them back at each address inside, and they stay inside
-- whatever bounds of a word the range lay in.
use Rattle.std.proofs.Common.{ℕ, ◌+◌, ◌-◌, ◌*◌, ◌/◌, ◌%◌, ◌^◌, ◌<◌, ◌≤◌, ◌≡◌, ◌⊎◌, refl, ap, sym, ◌∙◌, inl, inr, arith, subst}
use Rattle.std.proofs.lemmas.Nat.{pow_pos, le-div, mul-le, mod-mul-add}
use Rattle.std.proofs.Math.Nat.{div-mul-le_self, pow-le-pow_right}
use Rattle.std.proofs.Common.{lit<}
use Rattle.def_profile.specs.declared.bounds.TheConstants.{LAST_EXPONENT, WIDEST_EXPONENT, MOST_UNITS}
use Rattle.law_lists.proofs.Tests.{le_tells, lt_tells, eq_tells}
use Rattle.def_words.specs.Authority.{one_if_less, corner_of, middle, base_of, top_of, exponent_of, exponent_field, base_field, top_field}
use Rattle.def_words.specs.LeastBounds.{coded, floor_units, ceil_units, units, exponent_for, IsLeastExponent, rounded_at, GivesBack, StaysInside, IsInside}
use Rattle.law_words.proofs.Fields.{corner_sum, wrap_32, wrap_33, base_back, top_back, base_by, top_by, exponent_back, base_field_back, top_field_back, code_back, coded_small}
use Rattle.law_words.proofs.Leasts.{Good, good, exponent_is, ceil_le, whole, finer}

-- ---- gives back

exponent_of_back : (rest e b t : ℕ) → (e ≤ LAST_EXPONENT) ⊎ (e ≡ WIDEST_EXPONENT) → b < 512 → t < 512 → exponent_of (rest * 2 ^ 22 + (coded e * 2 ^ 18 + b * 2 ^ 9 + t)) ≡ e
exponent_of_back rest e b t which hb ht =
    let is : exponent_field (rest * 2 ^ 22 + (coded e * 2 ^ 18 + b * 2 ^ 9 + t)) ≡ coded e = exponent_back rest (coded e) b t (coded_small e which) hb ht in
    rw is (code_back e which)

gives_at : (base top e rest a : ℕ) → Good base top e → base < 2 ^ 32 → a < 2 ^ 32 → IsInside a (rounded_at base top e) →
    (base_of (rest * 2 ^ 22 + (rounded_at base top e).fields) a ≡ floor_units base e * 2 ^ e)
    × (top_of (rest * 2 ^ 22 + (rounded_at base top e).fields) a ≡ ceil_units top e * 2 ^ e)
gives_at base top e rest a g small a_small inside =
    let hb : floor_units base e % 512 < 512 = omega arith in
    let ht : ceil_units top e % 512 < 512 = omega arith in
    let is_e : exponent_of (rest * 2 ^ 22 + (rounded_at base top e).fields) ≡ e = exponent_of_back rest e (floor_units base e % 512) (ceil_units top e % 512) g.exponent_small hb ht in
    let is_b : base_field (rest * 2 ^ 22 + (rounded_at base top e).fields) ≡ floor_units base e % 512 = base_field_back rest (coded e) (floor_units base e % 512) (ceil_units top e % 512) (coded_small e g.exponent_small) hb ht in
    let is_t : top_field (rest * 2 ^ 22 + (rounded_at base top e).fields) ≡ ceil_units top e % 512 = top_field_back rest (coded e) (floor_units base e % 512) (ceil_units top e % 512) (coded_small e g.exponent_small) hb ht in (
      base_by (rest * 2 ^ 22 + (rounded_at base top e).fields) a e (floor_units base e % 512) is_e is_b
          ∙ base_back a e (floor_units base e) (ceil_units top e) inside.0 inside.1 g.near (omega (arith, g.low, small)),
      top_by (rest * 2 ^ 22 + (rounded_at base top e).fields) a e (floor_units base e % 512) (ceil_units top e % 512) is_e is_b is_t
          ∙ top_back a e (floor_units base e) (ceil_units top e) inside.0 inside.1 g.order g.near g.fits,
    )

pub gives : (base top : ℕ) → base ≤ top → top ≤ 2 ^ 32 → base < 2 ^ 32 → GivesBack base top
gives base top order le small rest a a_small inside = gives_at base top (exponent_for base top) rest a (good base top order le) small a_small inside

-- ---- stays inside

-- base and top of any word at any address are multiples of its unit, and near or at the end of the space
pub record Multiples (f b t : ℕ) : Type 0 where
  pub low : ℕ
  pub high : ℕ
  pub base_is : b ≡ low * 2 ^ f
  pub top_is : t ≡ high * 2 ^ f
  pub near : (f ≤ LAST_EXPONENT) → (high ≤ low + MOST_UNITS) ⊎ (2 ^ (32 - f) ≤ low + MOST_UNITS)

-- bounds as multiples of the unit whose fields these are, near each other
pub record Units (f B T b t : ℕ) : Type 0 where
  pub low : ℕ
  pub high : ℕ
  pub base_is : b ≡ low * 2 ^ f
  pub top_is : t ≡ high * 2 ^ f
  pub base_field_is : low % 512 ≡ B
  pub top_field_is : high % 512 ≡ T
  pub near : high ≤ low + MOST_UNITS
  pub fits : low * 2 ^ f < 2 ^ 32

-- the block of the address, or the one below it
pub block_units : (a f B T up down : ℕ) → f ≤ LAST_EXPONENT → a < 2 ^ 32 → B < 512 → T < 512
    → down ≤ a / 2 ^ f / 512 → (a / 2 ^ f / 512 - down) * 512 + B ≤ a / 2 ^ f → T + up * 512 ≤ B + MOST_UNITS
    → Units f B T (corner_of a f B 0 down % 2 ^ 32) (corner_of a f T up down % 2 ^ 33)
block_units a f B T up down small a_small hb ht has under apart =
    let p_small : 2 ^ f ≤ 2 ^ 14 = pow-le-pow_right (lit< tt) small in
    let unit : a / 2 ^ f * 2 ^ f ≤ a = div-mul-le_self a (2 ^ f) in
    let scaled : ((a / 2 ^ f / 512 - down) * 512 + B) * 2 ^ f ≤ a / 2 ^ f * 2 ^ f = mul-le ((a / 2 ^ f / 512 - down) * 512 + B) (2 ^ f) (a / 2 ^ f) (2 ^ f) under (omega arith) in
    let low_fits : ((a / 2 ^ f / 512 - down) * 512 + B) * 2 ^ f < 2 ^ 32 = omega (arith, scaled, unit, a_small) in
    let near : (a / 2 ^ f / 512 + up - down) * 512 + T ≤ (a / 2 ^ f / 512 - down) * 512 + B + MOST_UNITS = omega (arith, has, apart) in
    let scaled_high : ((a / 2 ^ f / 512 + up - down) * 512 + T) * 2 ^ f ≤ ((a / 2 ^ f / 512 - down) * 512 + B + MOST_UNITS) * 2 ^ f = mul-le ((a / 2 ^ f / 512 + up - down) * 512 + T) (2 ^ f) ((a / 2 ^ f / 512 - down) * 512 + B + MOST_UNITS) (2 ^ f) near (omega arith) in
    let split : ((a / 2 ^ f / 512 - down) * 512 + B + MOST_UNITS) * 2 ^ f ≡ ((a / 2 ^ f / 512 - down) * 512 + B) * 2 ^ f + 511 * 2 ^ f = omega arith in
    let high_fits : ((a / 2 ^ f / 512 + up - down) * 512 + T) * 2 ^ f < 2 ^ 33 = omega (arith, scaled_high, split, low_fits, p_small) in
    let sum_low : a / 2 ^ f / 512 + 2 ^ 24 + 0 - down ≡ (a / 2 ^ f / 512 - down) + 2 ^ 24 = omega (arith, has) in
    let sum_high : a / 2 ^ f / 512 + 2 ^ 24 + up - down ≡ (a / 2 ^ f / 512 + up - down) + 2 ^ 24 = omega (arith, has) in
    let corner_low : corner_of a f B 0 down ≡ (((a / 2 ^ f / 512 - down) + 2 ^ 24) * 512 + B) * 2 ^ f = corner_sum a f B 0 down ((a / 2 ^ f / 512 - down) + 2 ^ 24) sum_low in
    let corner_high : corner_of a f T up down ≡ (((a / 2 ^ f / 512 + up - down) + 2 ^ 24) * 512 + T) * 2 ^ f = corner_sum a f T up down ((a / 2 ^ f / 512 + up - down) + 2 ^ 24) sum_high in
    let moved_low : ((a / 2 ^ f / 512 - down) + 2 ^ 24) * 512 + B ≡ (a / 2 ^ f / 512 - down) * 512 + B + 2 ^ 33 = omega arith in
    let moved_high : ((a / 2 ^ f / 512 + up - down) + 2 ^ 24) * 512 + T ≡ (a / 2 ^ f / 512 + up - down) * 512 + T + 2 ^ 33 = omega arith in
    record {
      low = (a / 2 ^ f / 512 - down) * 512 + B;
      high = (a / 2 ^ f / 512 + up - down) * 512 + T;
      base_is = rw (corner_low, moved_low) (wrap_32 ((a / 2 ^ f / 512 - down) * 512 + B) (2 ^ f) low_fits);
      top_is = rw (corner_high, moved_high) (wrap_33 ((a / 2 ^ f / 512 + up - down) * 512 + T) (2 ^ f) high_fits);
      base_field_is = omega (arith, hb);
      top_field_is = omega (arith, ht);
      near = near;
      fits = low_fits;
    }

usual : (a f B T up down : ℕ) → f ≤ LAST_EXPONENT → a < 2 ^ 32 → B < 512 → T < 512
    → down ≤ a / 2 ^ f / 512 → (a / 2 ^ f / 512 - down) * 512 + B ≤ a / 2 ^ f → T + up * 512 ≤ B + MOST_UNITS
    → Multiples f (corner_of a f B 0 down % 2 ^ 32) (corner_of a f T up down % 2 ^ 33)
usual a f B T up down small a_small hb ht has under apart =
    let u = block_units a f B T up down small a_small hb ht has under apart in
    record { low = u.low; high = u.high; base_is = u.base_is; top_is = u.top_is; near = λ _. inl u.near }

-- the lowest block, and an address below the unit of B: the base is at the end of the space
wraps : (a f B T up : ℕ) → f ≤ LAST_EXPONENT → B < 512 → 1 ≤ B → T < 512 → a / 2 ^ f / 512 ≡ 0 → (up ≡ 0) ⊎ (up ≡ 1)
    → Multiples f (corner_of a f B 0 1 % 2 ^ 32) (corner_of a f T up 1 % 2 ^ 33)
wraps a f B T up small hb some ht lowest which =
    let p_small : 2 ^ f ≤ 2 ^ 14 = pow-le-pow_right (lit< tt) small in
    let positive : 0 < 2 ^ f = pow_pos f in
    let space : 2 ^ (32 - f) * 2 ^ f ≡ 2 ^ 32 = whole f 32 (omega (arith, small)) in
    let far : 18 ≤ 32 - f = omega (arith, small) in
    let many : 2 ^ 18 ≤ 2 ^ (32 - f) = pow-le-pow_right (lit< tt) far in
    let sum_low : a / 2 ^ f / 512 + 2 ^ 24 + 0 - 1 ≡ 2 ^ 24 - 1 = rw lowest refl in
    let corner_low : corner_of a f B 0 1 ≡ ((2 ^ 24 - 1) * 512 + B) * 2 ^ f = corner_sum a f B 0 1 (2 ^ 24 - 1) sum_low in
    let moved_low : ((2 ^ 24 - 1) * 512 + B) * 2 ^ f ≡ (2 * 2 ^ f - 1) * 2 ^ 32 + (2 ^ (32 - f) + B - 512) * 2 ^ f = (
    let shifted : (2 ^ (32 - f) + B - 512) * 2 ^ f + 512 * 2 ^ f ≡ 2 ^ (32 - f) * 2 ^ f + B * 2 ^ f = (
    let units : 2 ^ (32 - f) + B - 512 + 512 ≡ 2 ^ (32 - f) + B = omega (arith, many) in
    let scaled : (2 ^ (32 - f) + B - 512 + 512) * 2 ^ f ≡ (2 ^ (32 - f) + B) * 2 ^ f = ap (λ n. n * 2 ^ f) units in
    omega (arith, scaled)) in
    omega (arith, shifted, space, positive)) in
    let low_fits : (2 ^ (32 - f) + B - 512) * 2 ^ f < 2 ^ 32 = (
    let less : 2 ^ (32 - f) + B - 512 + 1 ≤ 2 ^ (32 - f) = omega (arith, many, hb) in
    let scaled : (2 ^ (32 - f) + B - 512 + 1) * 2 ^ f ≤ 2 ^ (32 - f) * 2 ^ f = mul-le (2 ^ (32 - f) + B - 512 + 1) (2 ^ f) (2 ^ (32 - f)) (2 ^ f) less (omega arith) in
    let open_up : (2 ^ (32 - f) + B - 512 + 1) * 2 ^ f ≡ (2 ^ (32 - f) + B - 512) * 2 ^ f + 2 ^ f = omega arith in
    omega (arith, scaled, open_up, space, positive)) in
    let base_is : corner_of a f B 0 1 % 2 ^ 32 ≡ (2 ^ (32 - f) + B - 512) * 2 ^ f = rw (corner_low, moved_low) (mod-mul-add (2 * 2 ^ f - 1) (2 ^ 32) ((2 ^ (32 - f) + B - 512) * 2 ^ f) low_fits) in
    let near : 2 ^ (32 - f) ≤ 2 ^ (32 - f) + B - 512 + 511 = omega (arith, many, some) in
    elim which [
      | inl none ↦ (
          let sum : a / 2 ^ f / 512 + 2 ^ 24 + up - 1 ≡ 2 ^ 24 - 1 = rw (lowest, none) refl in
          let corner : corner_of a f T up 1 ≡ ((2 ^ 24 - 1) * 512 + T) * 2 ^ f = corner_sum a f T up 1 (2 ^ 24 - 1) sum in
          let units : 2 * 2 ^ (32 - f) + T - 512 + 512 ≡ 2 * 2 ^ (32 - f) + T = omega (arith, many) in
          let scaled : (2 * 2 ^ (32 - f) + T - 512 + 512) * 2 ^ f ≡ (2 * 2 ^ (32 - f) + T) * 2 ^ f = ap (λ n. n * 2 ^ f) units in
          let moved : ((2 ^ 24 - 1) * 512 + T) * 2 ^ f ≡ (2 ^ f - 1) * 2 ^ 33 + (2 * 2 ^ (32 - f) + T - 512) * 2 ^ f = omega (arith, scaled, space, positive) in
          let less : 2 * 2 ^ (32 - f) + T - 512 + 1 ≤ 2 * 2 ^ (32 - f) = omega (arith, many, ht) in
          let grown : (2 * 2 ^ (32 - f) + T - 512 + 1) * 2 ^ f ≤ 2 * 2 ^ (32 - f) * 2 ^ f = mul-le (2 * 2 ^ (32 - f) + T - 512 + 1) (2 ^ f) (2 * 2 ^ (32 - f)) (2 ^ f) less (omega arith) in
          let fits : (2 * 2 ^ (32 - f) + T - 512) * 2 ^ f < 2 ^ 33 = omega (arith, grown, space, positive) in
          record {
            low = 2 ^ (32 - f) + B - 512;
            high = 2 * 2 ^ (32 - f) + T - 512;
            base_is = base_is;
            top_is = rw (corner, moved) (mod-mul-add (2 ^ f - 1) (2 ^ 33) ((2 * 2 ^ (32 - f) + T - 512) * 2 ^ f) fits);
            near = λ _. inr near;
          })
      | inr one ↦ (
          let sum : a / 2 ^ f / 512 + 2 ^ 24 + up - 1 ≡ 2 ^ 24 = rw (lowest, one) refl in
          let corner : corner_of a f T up 1 ≡ (2 ^ 24 * 512 + T) * 2 ^ f = corner_sum a f T up 1 (2 ^ 24) sum in
          let moved : 2 ^ 24 * 512 + T ≡ T + 2 ^ 33 = omega arith in
          let grown : T * 2 ^ f ≤ 512 * 2 ^ 14 = mul-le T (2 ^ f) 512 (2 ^ 14) (omega (arith, ht)) p_small in
          record {
            low = 2 ^ (32 - f) + B - 512;
            high = T;
            base_is = base_is;
            top_is = rw (corner, moved) (wrap_33 T (2 ^ f) (omega (arith, grown)));
            near = λ _. inr near;
          })
    ]

widest : (a B T up down : ℕ) → B < 512 → T < 512 → up ≤ 1 → down ≤ 1 → Multiples WIDEST_EXPONENT (corner_of a WIDEST_EXPONENT B 0 down % 2 ^ 32) (corner_of a WIDEST_EXPONENT T up down % 2 ^ 33)
widest a B T up down hb ht hu hd = record {
  low = B % 256;
  high = T;
  base_is = omega (arith, hb, hd);
  top_is = omega (arith, ht, hu, hd);
  near = λ small. absurd (omega (arith, small));
}

pub at_most_one : (x y : ℕ) → one_if_less x y ≤ 1
at_most_one x y = elim (lt_tells x y) [ inl t ↦ rw t.0 (omega arith) | inr t ↦ rw t.0 (omega arith) ]

zero_or_one : (x y : ℕ) → (one_if_less x y ≡ 0) ⊎ (one_if_less x y ≡ 1)
zero_or_one x y = elim (lt_tells x y) [ inl t ↦ inr (rw t.0 refl) | inr t ↦ inl (rw t.0 refl) ]

pub apart : (T B : ℕ) → B < 512 → T < 512 → T + one_if_less T B * 512 ≤ B + MOST_UNITS
apart T B hb ht = elim (lt_tells T B) [ inl t ↦ rw t.0 (omega (arith, t.1)) | inr t ↦ rw t.0 (omega (arith, ht)) ]

narrow : (a f B T : ℕ) → f ≤ LAST_EXPONENT → a < 2 ^ 32 → B < 512 → T < 512
    → Multiples f (corner_of a f B 0 (one_if_less (middle a f) B) % 2 ^ 32) (corner_of a f T (one_if_less T B) (one_if_less (middle a f) B) % 2 ^ 33)
narrow a f B T small a_small hb ht = elim (lt_tells (middle a f) B) [
  | inl t ↦ rw t.0 (elim (le_tells 1 (a / 2 ^ f / 512)) [
    | inl s ↦ usual a f B T (one_if_less T B) 1 small a_small hb ht s.1 (omega (arith, s.1, hb)) (apart T B hb ht)
    | inr s ↦ wraps a f B T (one_if_less T B) small hb (omega (arith, t.1)) ht (omega (arith, s.1)) (zero_or_one T B)
  ])
  | inr t ↦ rw t.0 (usual a f B T (one_if_less T B) 0 small a_small hb ht (omega arith) (omega (arith, t.1)) (apart T B hb ht))
]

which_exponent : (high : ℕ) → ((exponent_of high ≤ LAST_EXPONENT) × (exponent_of high ≡ exponent_of high)) ⊎ (exponent_of high ≡ WIDEST_EXPONENT)
which_exponent high = elim (eq_tells (exponent_field high) 15) [ inl t ↦ inr (rw t.0 refl) | inr t ↦ inl (rw t.0 (omega (arith, t.1)), refl) ]

multiples_at : (a f B T : ℕ) → (f ≤ LAST_EXPONENT) ⊎ (f ≡ WIDEST_EXPONENT) → a < 2 ^ 32 → B < 512 → T < 512
    → Multiples f (corner_of a f B 0 (one_if_less (middle a f) B) % 2 ^ 32) (corner_of a f T (one_if_less T B) (one_if_less (middle a f) B) % 2 ^ 33)
multiples_at a f B T which a_small hb ht = elim which [
  | inl small ↦ narrow a f B T small a_small hb ht
  | inr is ↦ subst (λ g. Multiples g (corner_of a g B 0 (one_if_less (middle a g) B) % 2 ^ 32) (corner_of a g T (one_if_less T B) (one_if_less (middle a g) B) % 2 ^ 33)) (sym is)
      (widest a B T (one_if_less T B) (one_if_less (middle a 24) B) hb ht (at_most_one T B) (at_most_one (middle a 24) B))
]

pub exponent_kinds : (high : ℕ) → (exponent_of high ≤ LAST_EXPONENT) ⊎ (exponent_of high ≡ WIDEST_EXPONENT)
exponent_kinds high = elim (which_exponent high) [ inl t ↦ inl t.0 | inr t ↦ inr t ]

pub multiples : (high a : ℕ) → a < 2 ^ 32 → Multiples (exponent_of high) (base_of high a) (top_of high a)
multiples high a a_small = multiples_at a (exponent_of high) (base_field high) (top_field high) (exponent_kinds high) a_small (omega arith) (omega arith)

stays_at : (base top e f b t : ℕ) → Good base top e → IsLeastExponent base top e → top ≤ 2 ^ 32 → (f ≤ LAST_EXPONENT) ⊎ (f ≡ WIDEST_EXPONENT) → Multiples f b t → b ≤ base → top ≤ t
    → (b ≤ floor_units base e * 2 ^ e) × (ceil_units top e * 2 ^ e ≤ t)
stays_at base top e f b t g least_e le which m low high =
    let at_low : m.low * 2 ^ f ≤ base = rw (← m.base_is) low in
    let at_high : top ≤ m.high * 2 ^ f = rw (← m.top_is) high in
    let e_small : e ≤ 24 = elim g.exponent_small [ inl s ↦ omega (arith, s) | inr is ↦ omega (arith, is) ] in
    let finer_than : e ≤ f = elim which [
      | inl small ↦ (
          let from : m.low ≤ floor_units base f = le-div m.low base (2 ^ f) (pow_pos f) at_low in
          let serves : units base top f ≤ 511 = elim (m.near small) [
            | inl near ↦ (let to : ceil_units top f ≤ m.high = ceil_le top m.high f at_high in omega (arith, from, to, near))
            | inr near ↦ (
                let space : 2 ^ (32 - f) * 2 ^ f ≡ 2 ^ 32 = whole f 32 (omega (arith, small)) in
                let to : ceil_units top f ≤ 2 ^ (32 - f) = ceil_le top (2 ^ (32 - f)) f (rw space le) in
                omega (arith, from, to, near))
          ] in
          elim (le_tells e f) [ inl s ↦ s.1 | inr s ↦ absurd (let fails : 511 < units base top f = least_e.least f s.1 small in omega (arith, fails, serves)) ])
      | inr is ↦ omega (arith, is, e_small)
    ] in
    let low_finer : m.low * 2 ^ f ≡ (m.low * 2 ^ (f - e)) * 2 ^ e = finer e f m.low finer_than in
    let high_finer : m.high * 2 ^ f ≡ (m.high * 2 ^ (f - e)) * 2 ^ e = finer e f m.high finer_than in
    let from : m.low * 2 ^ (f - e) ≤ floor_units base e = le-div (m.low * 2 ^ (f - e)) base (2 ^ e) (pow_pos e) (rw (← low_finer) at_low) in
    let to : ceil_units top e ≤ m.high * 2 ^ (f - e) = ceil_le top (m.high * 2 ^ (f - e)) e (rw (← high_finer) at_high) in
    let scaled_low : m.low * 2 ^ (f - e) * 2 ^ e ≤ floor_units base e * 2 ^ e = mul-le (m.low * 2 ^ (f - e)) (2 ^ e) (floor_units base e) (2 ^ e) from (omega arith) in
    let scaled_high : ceil_units top e * 2 ^ e ≤ m.high * 2 ^ (f - e) * 2 ^ e = mul-le (ceil_units top e) (2 ^ e) (m.high * 2 ^ (f - e)) (2 ^ e) to (omega arith) in
    (rw (m.base_is, low_finer) scaled_low, rw (m.top_is, high_finer) scaled_high)

pub stays : (base top : ℕ) → base ≤ top → top ≤ 2 ^ 32 → StaysInside base top
stays base top order le high a a_small low up =
    stays_at base top (exponent_for base top) (exponent_of high) (base_of high a) (top_of high a) (good base top order le) (exponent_is base top) le (exponent_kinds high) (multiples high a a_small) low up
