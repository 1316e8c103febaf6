-- A tagged result's authority, rights and shadow are within its first operand's, operation by operation.
use Rattle.std.proofs.Common.{ℕ, ◌+◌, ◌/◌, ◌%◌, ◌^◌, ◌<◌, ◌≤◌, ◌≡◌, ◌==◌, Bool, true, ◌&&◌, nat_le, refl, ap, sym, ◌∙◌, arith, bit_and}
use Rattle.std.proofs.lemmas.Bool.{eqb-true, leb-true, and_parts}
use Rattle.std.proofs.lemmas.Nat.{and_le_l}
use Rattle.def_words.specs.declared.Cap.{Cap}
use Rattle.def_words.specs.declared.Shadow.{Shadow}
use Rattle.def_words.specs.declared.Bounds.{Bounds}
use Rattle.def_words.specs.Authority.{cap_address, cap_high, cap_bounds, cap_base, cap_top, bounds_of, seal_field, permission_bits}
use Rattle.def_words.specs.LeastBounds.{rounded_of, exponent_for, coded}
use Rattle.def_words.specs.Permissions.{cap_perms, has, unpacked, packed, normal_set, bit, execute, IsLegal, Within}
use Rattle.def_words.specs.Seals.{cap_seal, seal_type, is_unsealed}
use Rattle.def_words.specs.Capability.{cap_of, with_permission_bits, with_fields, with_address, is_representable, word_at, raised, with_bounds, with_exact_bounds, word_bounded, is_range_inside, end_at, masked, word_with_set}
use Rattle.def_words.specs.Narrows.{Narrows, Unsealed}
use Rattle.law_words.proofs.Bits.{bit_common}
use Rattle.law_words.proofs.Spellings.{told_legal, packs_back, packed_small, normal_small, normal_legal, normal_within, unpacked_small}
use Rattle.law_words.proofs.Leasts.{good, floor_under, ceil_above}
use Rattle.law_words.proofs.Fields.{coded_small}
use Rattle.law_words.proofs.Back.{gives, stays}
use Rattle.law_words.proofs.Words.{address_small, perm_perm, perm_seal, perm_low, fields_perm, fields_seal, bounds_is, bounds_same, perms_same, perms_is, seal_same, high_is, address_is, seal_zero, zero_seal}

-- ---- what all of them share

pub shadow_kept : (t : Bool) (w : ℕ) (s : Shadow) → t ≡ true → (cap_of t w s).shadow ≡ s
shadow_kept t w s e = rw e refl

pub perms_legal : (c : Cap) → IsLegal (cap_perms c)
unfolding cap_perms
perms_legal c = told_legal (permission_bits (cap_high c)) (omega arith)

pub perms_small : (c : Cap) → cap_perms c < 2 ^ 12
unfolding cap_perms
perms_small c = unpacked_small (permission_bits (cap_high c))

pub narrows_of : (c d : Cap) → c.tag ≡ true → d.shadow ≡ c.shadow → cap_bounds d ≡ cap_bounds c → Within (cap_perms d) (cap_perms c) → Narrows c d
narrows_of c d tagged shadows bounds rights =
    let same_base : cap_base d ≡ cap_base c = ap (λ b. b.base) bounds in
    let same_top : cap_top d ≡ cap_top c = ap (λ b. b.top) bounds in
    record {
      tagged = tagged;
      shadows = shadows;
      order = λ le. omega (arith, same_base, same_top, le);
      low = omega (arith, same_base);
      high = omega (arith, same_top);
      legal = perms_legal d;
      rights = rights;
    }

pub within_same : (a b : ℕ) → a ≡ b → Within a b
within_same a b e p there = ap (λ n. bit n p) (sym e) ∙ there

pub bounds_eq : (x y : Bounds) → x.exponent ≡ y.exponent → x.base ≡ y.base → x.top ≡ y.top → x ≡ y
bounds_eq x y e b t =
    ap (λ n. record x { exponent = n }) e ∙ ap (λ n. record x { exponent = y.exponent; base = n }) b ∙ ap (λ n. record y { top = n }) t

-- ---- the address

pub record Addressed (c : Cap) (a : ℕ) : Type 0 where
  pub tagged : c.tag ≡ true
  pub unsealed : cap_seal c ≡ 0
  pub bounds : cap_bounds (with_address c a) ≡ cap_bounds c
  pub rights : cap_perms (with_address c a) ≡ cap_perms c
  pub after : cap_seal (with_address c a) ≡ 0
  pub at : cap_address (with_address c a) ≡ a
  pub shadows : (with_address c a).shadow ≡ c.shadow

same_high_exponent : (c d : Cap) → cap_high d ≡ cap_high c → (cap_bounds d).exponent ≡ (cap_bounds c).exponent
unfolding cap_bounds
same_high_exponent c d e = ap (λ h. (bounds_of h 0).exponent) e

pub bounds_word : (c d : Cap) → c.word ≡ d.word → cap_bounds c ≡ cap_bounds d
unfolding cap_bounds
bounds_word c d e = ap (λ w. bounds_of (w / 2 ^ 32) (w % 2 ^ 32)) e

pub addressed : (c : Cap) (a : ℕ) → a < 2 ^ 32 → (with_address c a).tag ≡ true → Addressed c a
unfolding with_address
addressed c a small t =
    let parts = and_parts (c.tag && is_unsealed c) (is_representable c a) t in
    let firsts = and_parts c.tag (is_unsealed c) parts.0 in
    let ends = and_parts (cap_base (record c { word = word_at c a }) == cap_base c) (cap_top (record c { word = word_at c a }) == cap_top c) parts.1 in
    let is_zero : cap_seal c ≡ 0 = eqb-true (cap_seal c) 0 firsts.1 in
    let moved : cap_bounds (with_address c a) ≡ cap_bounds (record c { word = word_at c a }) = bounds_word (with_address c a) (record c { word = word_at c a }) refl in
    let same_base : cap_base (with_address c a) ≡ cap_base c = ap (λ b. b.base) moved ∙ eqb-true (cap_base (record c { word = word_at c a })) (cap_base c) ends.0 in
    let same_top : cap_top (with_address c a) ≡ cap_top c = ap (λ b. b.top) moved ∙ eqb-true (cap_top (record c { word = word_at c a })) (cap_top c) ends.1 in
    let same_high : cap_high (with_address c a) ≡ cap_high c = high_is (with_address c a) (cap_high c) a small refl in
    record {
      tagged = firsts.0;
      unsealed = is_zero;
      bounds = bounds_eq (cap_bounds (with_address c a)) (cap_bounds c) (same_high_exponent c (with_address c a) same_high) same_base same_top;
      rights = perms_same c (with_address c a) (cap_high c) a small refl refl;
      after = seal_same c (with_address c a) (cap_high c) a small refl refl refl ∙ is_zero;
      at = address_is (with_address c a) (cap_high c) a small refl;
      shadows = shadow_kept (c.tag && is_unsealed c && is_representable c a) (word_at c a) c.shadow t;
    }

pub address_narrows : (c : Cap) (a : ℕ) → a < 2 ^ 32 → (with_address c a).tag ≡ true → Narrows c (with_address c a)
address_narrows c a small t =
    let h : Addressed c a = addressed c a small t in
    narrows_of c (with_address c a) h.tagged h.shadows h.bounds (within_same (cap_perms (with_address c a)) (cap_perms c) h.rights)

pub raised_narrows : (c : Cap) (n : ℕ) → (raised c n).tag ≡ true → Narrows c (raised c n)
raised_narrows c n t = address_narrows c ((cap_address c + n) % 2 ^ 32) (omega arith) t

-- ---- bounds

pub fields_small : (base top : ℕ) → base ≤ top → top ≤ 2 ^ 32 → (rounded_of base top).fields < 2 ^ 22
fields_small base top order fits =
    let code : coded (exponent_for base top) < 16 = coded_small (exponent_for base top) (good base top order fits).exponent_small in
    omega (arith, code)

pub record EndAt (a n : ℕ) : Type 0 where
  pub order : a ≤ end_at a n
  pub fits : end_at a n ≤ 2 ^ 32
  pub under : end_at a n ≤ a + n

pub end_is : (a n : ℕ) → a < 2 ^ 32 → EndAt a n
end_is a n small = record { order = omega (arith, small); fits = omega (arith, small); under = omega (arith, small) }

pub record Bounded (c d : Cap) (n : ℕ) : Type 0 where
  pub base_is : cap_base d ≡ (rounded_of (cap_address c) (end_at (cap_address c) n)).base
  pub top_is : cap_top d ≡ (rounded_of (cap_address c) (end_at (cap_address c) n)).top
  pub order : cap_base d ≤ cap_top d
  pub rights : cap_perms d ≡ cap_perms c
  pub kind : cap_seal d ≡ cap_seal c
  pub at : cap_address d ≡ cap_address c

pub bounded : (c d : Cap) (n : ℕ) → d.word ≡ word_bounded c n → Bounded c d n
unfolding cap_bounds
bounded c d n is =
    let a_small : cap_address c < 2 ^ 32 = address_small c in
    let e : EndAt (cap_address c) n = end_is (cap_address c) n a_small in
    let few : (rounded_of (cap_address c) (end_at (cap_address c) n)).fields < 2 ^ 22 = fields_small (cap_address c) (end_at (cap_address c) n) e.order e.fits in
    let low : (rounded_of (cap_address c) (end_at (cap_address c) n)).base ≤ cap_address c = floor_under (cap_address c) (exponent_for (cap_address c) (end_at (cap_address c) n)) in
    let high : end_at (cap_address c) n ≤ (rounded_of (cap_address c) (end_at (cap_address c) n)).top = ceil_above (end_at (cap_address c) n) (exponent_for (cap_address c) (end_at (cap_address c) n)) in
    let back = gives (cap_address c) (end_at (cap_address c) n) e.order e.fits a_small (cap_high c / 2 ^ 22) (cap_address c) a_small (low, omega (arith, high, e.order)) in
    let decoded : cap_bounds d ≡ bounds_of (with_fields (cap_high c) (rounded_of (cap_address c) (end_at (cap_address c) n)).fields) (cap_address c) =
    bounds_is d (with_fields (cap_high c) (rounded_of (cap_address c) (end_at (cap_address c) n)).fields) (cap_address c) a_small is in
    let base_there : cap_base d ≡ (rounded_of (cap_address c) (end_at (cap_address c) n)).base = ap (λ b. b.base) decoded ∙ back.0 in
    let top_there : cap_top d ≡ (rounded_of (cap_address c) (end_at (cap_address c) n)).top = ap (λ b. b.top) decoded ∙ back.1 in
    record {
      base_is = base_there;
      top_is = top_there;
      order = omega (arith, base_there, top_there, low, high, e.order);
      rights = perms_same c d (with_fields (cap_high c) (rounded_of (cap_address c) (end_at (cap_address c) n)).fields) (cap_address c) a_small is (fields_perm (cap_high c) (rounded_of (cap_address c) (end_at (cap_address c) n)).fields few);
      kind = seal_same c d (with_fields (cap_high c) (rounded_of (cap_address c) (end_at (cap_address c) n)).fields) (cap_address c) a_small is
          (fields_perm (cap_high c) (rounded_of (cap_address c) (end_at (cap_address c) n)).fields few) (fields_seal (cap_high c) (rounded_of (cap_address c) (end_at (cap_address c) n)).fields few);
      at = address_is d (with_fields (cap_high c) (rounded_of (cap_address c) (end_at (cap_address c) n)).fields) (cap_address c) a_small is;
    }

pub record RangeInside (c : Cap) (low high : ℕ) : Type 0 where
  pub from : cap_base c ≤ low
  pub to : high ≤ cap_top c

pub range_inside : (c : Cap) (low high : ℕ) → is_range_inside c low high ≡ true → RangeInside c low high
range_inside c low high h =
    let parts = and_parts (nat_le (cap_base c) low) (nat_le high (cap_top c)) h in
    record { from = leb-true (cap_base c) low parts.0; to = leb-true high (cap_top c) parts.1 }

pub bounded_inside : (c d : Cap) (n : ℕ) → Bounded c d n → RangeInside c (cap_address c) (cap_address c + n) → (cap_base c ≤ cap_base d) × (cap_top d ≤ cap_top c)
unfolding cap_bounds
bounded_inside c d n b r =
    let a_small : cap_address c < 2 ^ 32 = address_small c in
    let e : EndAt (cap_address c) n = end_is (cap_address c) n a_small in
    let kept = stays (cap_address c) (end_at (cap_address c) n) e.order e.fits (cap_high c) (cap_address c) a_small r.from (omega (arith, e.under, r.to)) in
    (rw b.base_is kept.0, rw b.top_is kept.1)

pub record BoundsSet (c d : Cap) (n : ℕ) : Type 0 where
  pub tagged : c.tag ≡ true
  pub unsealed : cap_seal c ≡ 0
  pub inside : RangeInside c (cap_address c) (cap_address c + n)

bounds_narrow : (c d : Cap) (n : ℕ) → BoundsSet c d n → d.word ≡ word_bounded c n → d.shadow ≡ c.shadow → Narrows c d × Unsealed c d
bounds_narrow c d n h is shadows =
    let b : Bounded c d n = bounded c d n is in
    let inner = bounded_inside c d n b h.inside in (
      record {
        tagged = h.tagged;
        shadows = shadows;
        order = λ _. b.order;
        low = inner.0;
        high = inner.1;
        legal = perms_legal d;
        rights = within_same (cap_perms d) (cap_perms c) b.rights;
      },
      record { before = h.unsealed; after = b.kind ∙ h.unsealed },
    )

pub bounds_set : (c : Cap) (n : ℕ) → (with_bounds c n).tag ≡ true → BoundsSet c (with_bounds c n) n
unfolding with_bounds
bounds_set c n t =
    let parts = and_parts (c.tag && is_unsealed c) (is_range_inside c (cap_address c) (cap_address c + n)) t in
    let firsts = and_parts c.tag (is_unsealed c) parts.0 in
    record { tagged = firsts.0; unsealed = eqb-true (cap_seal c) 0 firsts.1; inside = range_inside c (cap_address c) (cap_address c + n) parts.1 }

pub bounds_narrows : (c : Cap) (n : ℕ) → (with_bounds c n).tag ≡ true → Narrows c (with_bounds c n) × Unsealed c (with_bounds c n)
unfolding with_bounds
bounds_narrows c n t = bounds_narrow c (with_bounds c n) n (bounds_set c n t) refl
    (shadow_kept (c.tag && is_unsealed c && is_range_inside c (cap_address c) (cap_address c + n)) (word_bounded c n) c.shadow t)

pub exact_set : (c : Cap) (n : ℕ) → (with_exact_bounds c n).tag ≡ true → BoundsSet c (with_exact_bounds c n) n × ((rounded_of (cap_address c) (end_at (cap_address c) n)).exact ≡ true)
unfolding with_exact_bounds
exact_set c n t =
    let last = and_parts (c.tag && is_unsealed c && is_range_inside c (cap_address c) (cap_address c + n)) (rounded_of (cap_address c) (end_at (cap_address c) n)).exact t in
    let parts = and_parts (c.tag && is_unsealed c) (is_range_inside c (cap_address c) (cap_address c + n)) last.0 in
    let firsts = and_parts c.tag (is_unsealed c) parts.0 in
    (record { tagged = firsts.0; unsealed = eqb-true (cap_seal c) 0 firsts.1; inside = range_inside c (cap_address c) (cap_address c + n) parts.1 }, last.1)

pub exact_narrows : (c : Cap) (n : ℕ) → (with_exact_bounds c n).tag ≡ true → Narrows c (with_exact_bounds c n) × Unsealed c (with_exact_bounds c n)
unfolding with_exact_bounds
exact_narrows c n t = bounds_narrow c (with_exact_bounds c n) n (exact_set c n t).0 refl
    (shadow_kept (c.tag && is_unsealed c && is_range_inside c (cap_address c) (cap_address c + n) && (rounded_of (cap_address c) (end_at (cap_address c) n)).exact) (word_bounded c n) c.shadow t)

-- ---- permissions

-- a word with a set
pub record WithSet (c d : Cap) (set : ℕ) : Type 0 where
  pub bounds : cap_bounds d ≡ cap_bounds c
  pub rights : cap_perms d ≡ normal_set set
  pub field : seal_field (cap_high d) ≡ seal_field (cap_high c)
  pub at : cap_address d ≡ cap_address c

pub with_set : (c d : Cap) (set : ℕ) → set < 2 ^ 12 → d.word ≡ word_with_set c set → WithSet c d set
with_set c d set small is =
    let a_small : cap_address c < 2 ^ 32 = address_small c in
    let six : packed (normal_set set) < 64 = packed_small (normal_set set) (normal_small set) in
    let spelled : unpacked (packed (normal_set set)) ≡ normal_set set = packs_back (normal_set set) (normal_small set) ∙ normal_legal set small in
    record {
      bounds = bounds_same c d (with_permission_bits (cap_high c) (packed (normal_set set))) is (perm_low (cap_high c) (packed (normal_set set)));
      rights = perms_is d (with_permission_bits (cap_high c) (packed (normal_set set))) (cap_address c) a_small is ∙ ap unpacked (perm_perm (cap_high c) (packed (normal_set set)) six) ∙ spelled;
      field = ap (λ h. seal_field h) (high_is d (with_permission_bits (cap_high c) (packed (normal_set set))) (cap_address c) a_small is) ∙ perm_seal (cap_high c) (packed (normal_set set));
      at = address_is d (with_permission_bits (cap_high c) (packed (normal_set set))) (cap_address c) a_small is;
    }

pub field_zero : (c : Cap) → cap_seal c ≡ 0 → seal_field (cap_high c) ≡ 0
unfolding cap_seal
field_zero c is = seal_zero (has c execute) (seal_field (cap_high c)) is

pub zero_field : (c : Cap) → seal_field (cap_high c) ≡ 0 → cap_seal c ≡ 0
unfolding cap_seal
zero_field c is = ap (λ f. seal_type (has c execute) f) is ∙ zero_seal (has c execute)

pub common_small : (a b : ℕ) → a < 2 ^ 12 → bit_and a b < 2 ^ 12
common_small a b small = let le : bit_and a b ≤ a = and_le_l a b in omega (arith, le, small)

common_within : (a b : ℕ) → Within (normal_set (bit_and a b)) a
common_within a b p there = (and_parts (bit a p) (bit b p) (sym (bit_common a b p) ∙ normal_within (bit_and a b) p there)).0

pub masked_narrows : (c : Cap) (mask : ℕ) → (masked c mask).tag ≡ true → Narrows c (masked c mask) × Unsealed c (masked c mask)
unfolding masked
masked_narrows c mask t =
    let firsts = and_parts c.tag (is_unsealed c) t in
    let is_zero : cap_seal c ≡ 0 = eqb-true (cap_seal c) 0 firsts.1 in
    let w : WithSet c (masked c mask) (bit_and (cap_perms c) mask) = with_set c (masked c mask) (bit_and (cap_perms c) mask) (common_small (cap_perms c) mask (perms_small c)) refl in (
      narrows_of c (masked c mask) firsts.0 (shadow_kept (c.tag && is_unsealed c) (word_with_set c (bit_and (cap_perms c) mask)) c.shadow t) w.bounds
          (λ p there. common_within (cap_perms c) mask p (ap (λ s. bit s p) (sym w.rights) ∙ there)),
      record { before = is_zero; after = zero_field (masked c mask) (w.field ∙ field_zero c is_zero) },
    )
