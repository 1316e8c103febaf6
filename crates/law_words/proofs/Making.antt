-- What `derive` makes of a root, and that operations leave no shadow on untagged results.
use Rattle.std.proofs.Common.{ℕ, ◌+◌, ◌*◌, ◌/◌, ◌%◌, ◌^◌, ◌<◌, ◌≤◌, ◌≡◌, ◌==◌, Bool, true, ◌&&◌, nat_le, refl, ap, sym, ◌∙◌, inl, inr, arith, bit_and, eq-eqb}
use Rattle.std.proofs.lemmas.Bool.{and_from, eqb-true, le-leb, and_parts}
use Rattle.def_profile.specs.declared.bounds.TheConstants.{WIDEST_EXPONENT}
use Rattle.def_words.specs.declared.Cap.{Cap}
use Rattle.def_words.specs.declared.Shadow.{Shadow}
use Rattle.def_words.specs.Authority.{word_of, cap_address, cap_high, cap_bounds, cap_base, cap_top, bounds_of, base_of, top_of, exponent_of, base_field, top_field, seal_field, permission_bits}
use Rattle.def_words.specs.LeastBounds.{rounded_of}
use Rattle.def_words.specs.Permissions.{cap_perms, unpacked, packed, normal_set, bit, execute}
use Rattle.def_words.specs.Seals.{cap_seal, seal_type, is_unsealed}
use Rattle.def_words.specs.Capability.{cap_of, IsSettled, with_fields, with_permission_bits, with_address, is_representable, word_at, with_exact_bounds, word_bounded, is_range_inside, end_at, masked, word_with_set, word_sealed}
use Rattle.def_words.specs.Derive.{derive, root_cap, sealed_as}
use Rattle.def_words.specs.Narrows.{IsMade}
use Rattle.def_words.specs.Facts.{IsRoot, KindFits, MayDerive}
use Rattle.law_words.proofs.Fields.{base_by, top_by, base_back, top_back}
use Rattle.law_words.proofs.Back.{gives}
use Rattle.law_words.proofs.Words.{address_small, bounds_is, perms_is, high_is, address_is, perm_low}
use Rattle.law_words.proofs.Narrowing.{shadow_kept, Addressed, addressed, Bounded, bounded, WithSet, with_set, perms_small, zero_field, field_zero, common_small, fields_small}
use Rattle.law_words.proofs.Bits.{apart}
use Rattle.law_words.proofs.Sealed.{WithField, with_field}

pub settled : (t : Bool) (w : ℕ) (s : Shadow) → IsSettled (cap_of t w s)
settled t w s off = rw off refl

-- ---- roots

root_exponent : (high : ℕ) → IsRoot high → exponent_of high ≡ WIDEST_EXPONENT
root_exponent high r = let coded : high / 2 ^ 18 % 16 ≡ 15 = omega (arith, r.low) in rw coded refl

pub root_base : (high a : ℕ) → IsRoot high → a < 2 ^ 32 → base_of high a ≡ 0
root_base high a r small =
    let b : base_field high ≡ 0 = omega (arith, r.low) in
    base_by high a 24 0 (root_exponent high r) b ∙ base_back a 24 0 256 (omega arith) (omega (arith, small)) (omega arith) (omega arith)

pub root_top : (high a : ℕ) → IsRoot high → a < 2 ^ 32 → top_of high a ≡ 2 ^ 32
root_top high a r small =
    let b : base_field high ≡ 0 = omega (arith, r.low) in
    let t : top_field high ≡ 256 = omega (arith, r.low) in
    top_by high a 24 0 256 (root_exponent high r) b t ∙ top_back a 24 0 256 (omega arith) (omega (arith, small)) (omega arith) (omega arith) (omega arith)

root_bounds_base : (c : Cap) (high a : ℕ) → IsRoot high → a < 2 ^ 32 → c.word ≡ word_of high a → cap_base c ≡ 0
root_bounds_base c high a r small is = ap (λ b. b.base) (bounds_is c high a small is) ∙ root_base high a r small

root_bounds_top : (c : Cap) (high a : ℕ) → IsRoot high → a < 2 ^ 32 → c.word ≡ word_of high a → cap_top c ≡ 2 ^ 32
root_bounds_top c high a r small is = ap (λ b. b.top) (bounds_is c high a small is) ∙ root_top high a r small

-- ---- when the tag stays

address_keeps : (c : Cap) (a : ℕ) → c.tag ≡ true → cap_seal c ≡ 0
    → cap_base (record c { word = word_at c a }) ≡ cap_base c → cap_top (record c { word = word_at c a }) ≡ cap_top c → (with_address c a).tag ≡ true
unfolding with_address
address_keeps c a tagged unsealed low high =
    and_from (c.tag && is_unsealed c) (is_representable c a) (and_from c.tag (is_unsealed c) tagged (eq-eqb (cap_seal c) 0 unsealed))
    (and_from (cap_base (record c { word = word_at c a }) == cap_base c) (cap_top (record c { word = word_at c a }) == cap_top c)
    (eq-eqb (cap_base (record c { word = word_at c a })) (cap_base c) low) (eq-eqb (cap_top (record c { word = word_at c a })) (cap_top c) high))

exact_keeps : (c : Cap) (n : ℕ) → c.tag ≡ true → cap_seal c ≡ 0 → cap_base c ≤ cap_address c → cap_address c + n ≤ cap_top c
    → (rounded_of (cap_address c) (end_at (cap_address c) n)).exact ≡ true → (with_exact_bounds c n).tag ≡ true
unfolding with_exact_bounds
exact_keeps c n tagged unsealed low high exact =
    and_from (c.tag && is_unsealed c && is_range_inside c (cap_address c) (cap_address c + n)) (rounded_of (cap_address c) (end_at (cap_address c) n)).exact
    (and_from (c.tag && is_unsealed c) (is_range_inside c (cap_address c) (cap_address c + n)) (and_from c.tag (is_unsealed c) tagged (eq-eqb (cap_seal c) 0 unsealed))
    (and_from (nat_le (cap_base c) (cap_address c)) (nat_le (cap_address c + n) (cap_top c)) (le-leb (cap_base c) (cap_address c) low) (le-leb (cap_address c + n) (cap_top c) high)))
    exact

masked_keeps : (c : Cap) (set : ℕ) → c.tag ≡ true → cap_seal c ≡ 0 → (masked c set).tag ≡ true
unfolding masked
masked_keeps c set tagged unsealed = and_from c.tag (is_unsealed c) tagged (eq-eqb (cap_seal c) 0 unsealed)

-- ---- derive

-- what a capability made from a root is at each step
pub record Stands (c : Cap) (low high set at : ℕ) (from : Shadow) : Type 0 where
  pub tagged : c.tag ≡ true
  pub unsealed : cap_seal c ≡ 0
  pub base_is : cap_base c ≡ low
  pub top_is : cap_top c ≡ high
  pub rights_are : cap_perms c ≡ set
  pub at_is : cap_address c ≡ at
  pub shadows : c.shadow ≡ from

root_stands : (high : ℕ) (from : Shadow) → IsRoot high → Stands (root_cap high from) 0 (2 ^ 32) (unpacked (permission_bits high)) 0 from
root_stands high from r =
    let none : 0 < 2 ^ 32 = omega arith in
    record {
      tagged = refl;
      unsealed = zero_field (root_cap high from) (ap (λ h. seal_field h) (high_is (root_cap high from) high 0 none refl) ∙ r.unsealed);
      base_is = root_bounds_base (root_cap high from) high 0 r none refl;
      top_is = root_bounds_top (root_cap high from) high 0 r none refl;
      rights_are = perms_is (root_cap high from) high 0 none refl;
      at_is = address_is (root_cap high from) high 0 none refl;
      shadows = refl;
    }

moved : (c : Cap) (low high set at a : ℕ) (from : Shadow) → Stands c low high set at from → a < 2 ^ 32
    → cap_base (record c { word = word_at c a }) ≡ low → cap_top (record c { word = word_at c a }) ≡ high → Stands (with_address c a) low high set a from
moved c low high set at a from s small low_there high_there =
    let t : (with_address c a).tag ≡ true = address_keeps c a s.tagged s.unsealed (low_there ∙ sym s.base_is) (high_there ∙ sym s.top_is) in
    let h : Addressed c a = addressed c a small t in
    record {
      tagged = t;
      unsealed = h.after;
      base_is = ap (λ b. b.base) h.bounds ∙ s.base_is;
      top_is = ap (λ b. b.top) h.bounds ∙ s.top_is;
      rights_are = h.rights ∙ s.rights_are;
      at_is = h.at;
      shadows = h.shadows ∙ s.shadows;
    }

root_moved : (high a : ℕ) (from : Shadow) → IsRoot high → a < 2 ^ 32 → Stands (with_address (root_cap high from) a) 0 (2 ^ 32) (unpacked (permission_bits high)) a from
root_moved high a from r small =
    let none : 0 < 2 ^ 32 = omega arith in
    let hs : cap_high (root_cap high from) ≡ high = high_is (root_cap high from) high 0 none refl in
    let there : word_at (root_cap high from) a ≡ word_of high a = ap (λ h. word_of h a) hs in
    moved (root_cap high from) 0 (2 ^ 32) (unpacked (permission_bits high)) 0 a from (root_stands high from r) small
    (root_bounds_base (record (root_cap high from) { word = word_at (root_cap high from) a }) high a r small there)
    (root_bounds_top (record (root_cap high from) { word = word_at (root_cap high from) a }) high a r small there)

end_whole : (base length : ℕ) → base + length ≤ 2 ^ 32 → end_at base length ≡ base + length
end_whole base length fits = omega (arith, fits)

exact_parts : (base top : ℕ) → (rounded_of base top).exact ≡ true → ((rounded_of base top).base ≡ base) × ((rounded_of base top).top ≡ top)
exact_parts base top h =
    let parts = and_parts ((rounded_of base top).base == base) ((rounded_of base top).top == top) h in
    (eqb-true (rounded_of base top).base base parts.0, eqb-true (rounded_of base top).top top parts.1)

-- its low bits are the fields of these bounds
abbrev pub Fielded : Cap → ℕ → ℕ → Type 0
Fielded c base top = cap_high c % 2 ^ 22 ≡ (rounded_of base top).fields

narrowed : (c : Cap) (base length set : ℕ) (from : Shadow) → Stands c 0 (2 ^ 32) set base from → base + length ≤ 2 ^ 32 → (rounded_of base (base + length)).exact ≡ true
    → Stands (with_exact_bounds c length) base (base + length) set base from × Fielded (with_exact_bounds c length) base (base + length)
unfolding with_exact_bounds
narrowed c base length set from s fits exact =
    let whole : end_at base length ≡ base + length = end_whole base length fits in
    let is_exact : (rounded_of (cap_address c) (end_at (cap_address c) length)).exact ≡ true = ap (λ a. (rounded_of a (end_at a length)).exact) s.at_is ∙ ap (λ t. (rounded_of base t).exact) whole ∙ exact in
    let t : (with_exact_bounds c length).tag ≡ true = exact_keeps c length s.tagged s.unsealed (omega (arith, s.base_is)) (omega (arith, s.at_is, s.top_is, fits)) is_exact in
    let b : Bounded c (with_exact_bounds c length) length = bounded c (with_exact_bounds c length) length refl in
    let parts = exact_parts base (base + length) exact in
    let a_small : cap_address c < 2 ^ 32 = address_small c in
    let small : base < 2 ^ 32 = omega (arith, a_small, s.at_is) in
    let few : (rounded_of base (base + length)).fields < 2 ^ 22 = fields_small base (base + length) (omega arith) fits in
    let same_fields : (rounded_of (cap_address c) (end_at (cap_address c) length)).fields ≡ (rounded_of base (base + length)).fields =
    ap (λ a. (rounded_of a (end_at a length)).fields) s.at_is ∙ ap (λ t. (rounded_of base t).fields) whole in
    let high_there : cap_high (with_exact_bounds c length) ≡ with_fields (cap_high c) (rounded_of base (base + length)).fields =
    high_is (with_exact_bounds c length) (with_fields (cap_high c) (rounded_of (cap_address c) (end_at (cap_address c) length)).fields) (cap_address c) a_small refl
    ∙ ap (λ f. with_fields (cap_high c) f) same_fields in (
      record {
        tagged = t;
        unsealed = b.kind ∙ s.unsealed;
        base_is = b.base_is ∙ ap (λ a. (rounded_of a (end_at a length)).base) s.at_is ∙ ap (λ t. (rounded_of base t).base) whole ∙ parts.0;
        top_is = b.top_is ∙ ap (λ a. (rounded_of a (end_at a length)).top) s.at_is ∙ ap (λ t. (rounded_of base t).top) whole ∙ parts.1;
        rights_are = b.rights ∙ s.rights_are;
        at_is = b.at ∙ s.at_is;
        shadows = shadow_kept (c.tag && is_unsealed c && is_range_inside c (cap_address c) (cap_address c + length) && (rounded_of (cap_address c) (end_at (cap_address c) length)).exact) (word_bounded c length) c.shadow t ∙ s.shadows;
      },
      ap (λ h. h % 2 ^ 22) high_there ∙ low_bits (cap_high c) (rounded_of base (base + length)).fields few,
    )
  where
    low_bits : (h f : ℕ) → f < 2 ^ 22 → with_fields h f % 2 ^ 22 ≡ f
    low_bits h f few = omega (arith, few)

kept : (c : Cap) (low high set at mask : ℕ) (from : Shadow) → Stands c low high set at from → Fielded c low high
    → Stands (masked c mask) low high (normal_set (bit_and set mask)) at from × Fielded (masked c mask) low high
unfolding masked
kept c low high set at mask from s f =
    let t : (masked c mask).tag ≡ true = masked_keeps c mask s.tagged s.unsealed in
    let w : WithSet c (masked c mask) (bit_and (cap_perms c) mask) = with_set c (masked c mask) (bit_and (cap_perms c) mask) (common_small (cap_perms c) mask (perms_small c)) refl in
    let high_there : cap_high (masked c mask) ≡ with_permission_bits (cap_high c) (packed (normal_set (bit_and (cap_perms c) mask))) =
    high_is (masked c mask) (with_permission_bits (cap_high c) (packed (normal_set (bit_and (cap_perms c) mask)))) (cap_address c) (address_small c) refl in (
      record {
        tagged = t;
        unsealed = zero_field (masked c mask) (w.field ∙ field_zero c s.unsealed);
        base_is = ap (λ b. b.base) w.bounds ∙ s.base_is;
        top_is = ap (λ b. b.top) w.bounds ∙ s.top_is;
        rights_are = w.rights ∙ ap (λ r. normal_set (bit_and r mask)) s.rights_are;
        at_is = w.at ∙ s.at_is;
        shadows = shadow_kept (c.tag && is_unsealed c) (word_with_set c (bit_and (cap_perms c) mask)) c.shadow t ∙ s.shadows;
      },
      ap (λ h. h % 2 ^ 22) high_there ∙ perm_low (cap_high c) (packed (normal_set (bit_and (cap_perms c) mask))) ∙ f,
    )

pointed : (c : Cap) (low high set at a : ℕ) (from : Shadow) → Stands c low high set at from → Fielded c low high
    → low ≤ high → high ≤ 2 ^ 32 → (rounded_of low high).exact ≡ true → low < 2 ^ 32 → low ≤ a → a ≤ high → a < 2 ^ 32 → Stands (with_address c a) low high set a from
pointed c low high set at a from s f order fits exact low_small from_low to_high small =
    let parts = exact_parts low high exact in
    let split : cap_high c ≡ cap_high c / 2 ^ 22 * 2 ^ 22 + (rounded_of low high).fields = omega (arith, f) in
    let back = gives low high order fits low_small (cap_high c / 2 ^ 22) a small (omega (arith, parts.0, from_low), omega (arith, parts.1, to_high)) in
    let decoded : cap_bounds (record c { word = word_at c a }) ≡ bounds_of (cap_high c) a = bounds_is (record c { word = word_at c a }) (cap_high c) a small refl in
    let base_there : base_of (cap_high c) a ≡ low = ap (λ h. base_of h a) split ∙ back.0 ∙ parts.0 in
    let top_there : top_of (cap_high c) a ≡ high = ap (λ h. top_of h a) split ∙ back.1 ∙ parts.1 in
    moved c low high set at a from s small (ap (λ b. b.base) decoded ∙ base_there) (ap (λ b. b.top) decoded ∙ top_there)

sealed_made : (c : Cap) (low high set at kind : ℕ) (from : Shadow) → Stands c low high set at from → KindFits set kind
    → IsMade low high set at kind (sealed_as c kind) × ((sealed_as c kind).shadow ≡ from)
sealed_made c low high set at kind from s fits = elim fits [
  | inl none ↦ rw none (record { tagged = s.tagged; base_is = s.base_is; top_is = s.top_is; rights_are = s.rights_are; address_is = s.at_is; kind_is = s.unsealed }, s.shadows)
  | inr some ↦ (
      let w : WithField c (cap_of c.tag (word_sealed c (kind % 8)) c.shadow) (kind % 8) = with_field c (cap_of c.tag (word_sealed c (kind % 8)) c.shadow) (kind % 8) (omega arith) refl in
      rw (apart kind 0 some.0) (
        record {
          tagged = s.tagged;
          base_is = ap (λ b. b.base) w.bounds ∙ s.base_is;
          top_is = ap (λ b. b.top) w.bounds ∙ s.top_is;
          rights_are = w.rights ∙ s.rights_are;
          address_is = w.at ∙ s.at_is;
          kind_is = w.kind ∙ ap (λ r. seal_type (bit r execute) (kind % 8)) s.rights_are ∙ some.1;
        },
        shadow_kept c.tag (word_sealed c (kind % 8)) c.shadow s.tagged ∙ s.shadows,
      ))
]

pub derive_makes : (high base length set address kind : ℕ) (from : Shadow) → MayDerive high base length set address kind
    → IsMade base (base + length) (normal_set (bit_and (unpacked (permission_bits high)) set)) address kind (derive high base length set address kind from)
    × ((derive high base length set address kind from).shadow ≡ from)
unfolding derive
derive_makes high base length set address kind from d =
    let first : Stands (with_address (root_cap high from) base) 0 (2 ^ 32) (unpacked (permission_bits high)) base from = root_moved high base from d.root d.low in
    let second = narrowed (with_address (root_cap high from) base) base length (unpacked (permission_bits high)) from first d.fits d.exact in
    let third = kept (with_exact_bounds (with_address (root_cap high from) base) length) base (base + length) (unpacked (permission_bits high)) base set from second.0 second.1 in
    let fourth : Stands (with_address (masked (with_exact_bounds (with_address (root_cap high from) base) length) set) address) base (base + length) (normal_set (bit_and (unpacked (permission_bits high)) set)) address from =
    pointed (masked (with_exact_bounds (with_address (root_cap high from) base) length) set) base (base + length) (normal_set (bit_and (unpacked (permission_bits high)) set)) base address from third.0 third.1
    (omega arith) d.fits d.exact d.low d.from d.to d.small in
    sealed_made (with_address (masked (with_exact_bounds (with_address (root_cap high from) base) length) set) address) base (base + length) (normal_set (bit_and (unpacked (permission_bits high)) set)) address kind from fourth d.kind_fits
