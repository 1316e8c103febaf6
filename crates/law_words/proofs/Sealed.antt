-- Seals, loads and jumps: what a tagged result keeps of its first operand.
use Rattle.std.proofs.Common.{ℕ, ◌%◌, ◌^◌, ◌<◌, ◌≤◌, ◌≡◌, ◌≢◌, ◌==◌, Bool, true, false, ◌&&◌, not, if◌then◌else◌, nat_lt, nat_le, refl, ap, sym, ◌∙◌, inl, inr, arith}
use Rattle.std.proofs.lemmas.Bool.{eqb-true, leb-true, ltb-true, and_parts}
use Rattle.std.specs.Int.{is_in_range}
use Rattle.law_lists.proofs.Tests.{eq_tells, bool_tells}
use Rattle.def_words.specs.declared.Cap.{Cap}
use Rattle.def_words.specs.Authority.{word_of, cap_address, cap_high, cap_bounds, cap_base, cap_top, seal_field, permission_bits}
use Rattle.def_words.specs.Permissions.{cap_perms, has, unpacked, set_where, bit, execute, global, sealing, unsealing, is_within, Within}
use Rattle.def_words.specs.Seals.{cap_seal, seal_type, is_unsealed, is_key_type}
use Rattle.def_words.specs.Capability.{with_permission_bits, with_seal_field, is_inside, sealed_by, word_sealed, unsealed_by, bits_through}
use Rattle.def_words.specs.Narrows.{Narrows}
use Rattle.def_words.specs.Facts.{IsSealing, IsUnsealing}
use Rattle.law_words.proofs.Bits.{within_is}
use Rattle.law_words.proofs.Spellings.{all_below, below_holds}
use Rattle.law_words.proofs.Words.{address_small, perm_perm, perm_seal, perm_low, seal_perm, seal_seal, seal_low, bounds_same, perms_same, perms_is, high_is, address_is}
use Rattle.law_words.proofs.Narrowing.{shadow_kept, narrows_of, within_same, zero_field}

-- ---- the seal field

pub record WithField (c d : Cap) (field : ℕ) : Type 0 where
  pub bounds : cap_bounds d ≡ cap_bounds c
  pub rights : cap_perms d ≡ cap_perms c
  pub kind : cap_seal d ≡ seal_type (has c execute) field
  pub at : cap_address d ≡ cap_address c

kind_by : (c d : Cap) (field : ℕ) → cap_perms d ≡ cap_perms c → seal_field (cap_high d) ≡ field → cap_seal d ≡ seal_type (has c execute) field
unfolding cap_seal
kind_by c d field rights is = ap (λ s. seal_type (bit s execute) (seal_field (cap_high d))) rights ∙ ap (λ f. seal_type (has c execute) f) is

pub with_field : (c d : Cap) (field : ℕ) → field < 8 → d.word ≡ word_sealed c field → WithField c d field
with_field c d field small is =
    let a_small : cap_address c < 2 ^ 32 = address_small c in
    let same : cap_perms d ≡ cap_perms c = perms_same c d (with_seal_field (cap_high c) field) (cap_address c) a_small is (seal_perm (cap_high c) field small) in
    record {
      bounds = bounds_same c d (with_seal_field (cap_high c) field) is (seal_low (cap_high c) field small);
      rights = same;
      kind = kind_by c d field same (ap (λ h. seal_field h) (high_is d (with_seal_field (cap_high c) field) (cap_address c) a_small is) ∙ seal_seal (cap_high c) field small);
      at = address_is d (with_seal_field (cap_high c) field) (cap_address c) a_small is;
    }

-- ---- sealing

between : (low high n : ℕ) → is_in_range low high n ≡ true → (low ≤ n) × (n ≤ high)
between low high n h = let parts = and_parts (nat_le low n) (nat_le n high) h in (leb-true low n parts.0, leb-true n high parts.1)

pub kind_of_key : (executes : Bool) (n : ℕ) → is_key_type executes n ≡ true → seal_type executes (n % 8) ≡ n
kind_of_key true n h =
    let range = between 1 5 n h in
    elim (eq_tells (n % 8) 0) [ inl t ↦ absurd (omega (arith, range.0, range.1, t.1)) | inr t ↦ rw t.0 (omega (arith, range.0, range.1)) ]
kind_of_key false n h =
    let range = between 9 15 n h in
    elim (eq_tells (n % 8) 0) [ inl t ↦ absurd (omega (arith, range.0, range.1, t.1)) | inr t ↦ rw t.0 (omega (arith, range.0, range.1)) ]

inside_parts : (c : Cap) (a : ℕ) → is_inside c a ≡ true → (cap_base c ≤ a) × (a < cap_top c)
inside_parts c a h = let parts = and_parts (nat_le (cap_base c) a) (nat_lt a (cap_top c)) h in (leb-true (cap_base c) a parts.0, ltb-true a (cap_top c) parts.1)

pub sealed_narrows : (c key : Cap) → (sealed_by c key).tag ≡ true → Narrows c (sealed_by c key) × IsSealing c key (sealed_by c key)
unfolding sealed_by
sealed_narrows c key t =
    let p6 = and_parts (c.tag && key.tag && is_unsealed c && is_unsealed key && has key sealing && is_inside key (cap_address key)) (is_key_type (has c execute) (cap_address key)) t in
    let p5 = and_parts (c.tag && key.tag && is_unsealed c && is_unsealed key && has key sealing) (is_inside key (cap_address key)) p6.0 in
    let p4 = and_parts (c.tag && key.tag && is_unsealed c && is_unsealed key) (has key sealing) p5.0 in
    let p3 = and_parts (c.tag && key.tag && is_unsealed c) (is_unsealed key) p4.0 in
    let p2 = and_parts (c.tag && key.tag) (is_unsealed c) p3.0 in
    let p1 = and_parts c.tag key.tag p2.0 in
    let ends = inside_parts key (cap_address key) p5.1 in
    let small : cap_address key % 8 < 8 = omega arith in
    let is_word : (sealed_by c key).word ≡ word_sealed c (cap_address key % 8) = rw p6.1 refl in
    let w : WithField c (sealed_by c key) (cap_address key % 8) = with_field c (sealed_by c key) (cap_address key % 8) small is_word in
    let kind : cap_seal (sealed_by c key) ≡ cap_address key = w.kind ∙ kind_of_key (has c execute) (cap_address key) p6.1 in (
      narrows_of c (sealed_by c key) p1.0
          (shadow_kept (c.tag && key.tag && is_unsealed c && is_unsealed key && has key sealing && is_inside key (cap_address key) && is_key_type (has c execute) (cap_address key))
          (if is_key_type (has c execute) (cap_address key) then word_sealed c (cap_address key % 8) else c.word) c.shadow t)
          w.bounds (within_same (cap_perms (sealed_by c key)) (cap_perms c) w.rights),
      record {
        before = eqb-true (cap_seal c) 0 p2.1;
        after = kind;
        inside = record { tagged = p1.1; unsealed = eqb-true (cap_seal key) 0 p3.1; low = rw kind ends.0; high = rw kind ends.1; at = sym kind };
        right = p4.1;
        lawful = rw kind p6.1;
      },
    )

-- ---- unsealing

local_test : ℕ → Bool
local_test b = is_within (unpacked (b % 32)) (unpacked b)

locals : all_below local_test 64 ≡ true
unfolding local_test is_within unpacked set_where bit
locals = refl

-- the bits without `global` spell a part of the set
pub local_within : (b : ℕ) → b < 64 → Within (unpacked (b % 32)) (unpacked b)
unfolding local_test
local_within b small = within_is (unpacked (b % 32)) (unpacked b) (below_holds local_test 64 b locals small)

through : (c key : Cap) → Within (unpacked (bits_through c key)) (unpacked (permission_bits (cap_high c))) × (bits_through c key < 64)
through c key = elim (bool_tells (has key global)) [
  | inl t ↦ rw t ((λ p there. there), omega arith)
  | inr t ↦ rw t (local_within (permission_bits (cap_high c)) (omega arith), omega arith)
]

not_zero : (n : ℕ) → not (n == 0) ≡ true → n ≢ 0
not_zero n h = elim (eq_tells n 0) [ inl t ↦ absurd (let there = rw t.0 at h in cc) | inr t ↦ t.1 ]

pub perms_through : (c : Cap) → cap_perms c ≡ unpacked (permission_bits (cap_high c))
unfolding cap_perms
perms_through c = refl

pub unsealed_narrows : (c key : Cap) → (unsealed_by c key).tag ≡ true → Narrows c (unsealed_by c key) × IsUnsealing c key (unsealed_by c key)
unfolding unsealed_by
unsealed_narrows c key t =
    let p6 = and_parts (c.tag && key.tag && not (is_unsealed c) && is_unsealed key && has key unsealing && is_inside key (cap_address key)) (cap_seal c == cap_address key) t in
    let p5 = and_parts (c.tag && key.tag && not (is_unsealed c) && is_unsealed key && has key unsealing) (is_inside key (cap_address key)) p6.0 in
    let p4 = and_parts (c.tag && key.tag && not (is_unsealed c) && is_unsealed key) (has key unsealing) p5.0 in
    let p3 = and_parts (c.tag && key.tag && not (is_unsealed c)) (is_unsealed key) p4.0 in
    let p2 = and_parts (c.tag && key.tag) (not (is_unsealed c)) p3.0 in
    let p1 = and_parts c.tag key.tag p2.0 in
    let ends = inside_parts key (cap_address key) p5.1 in
    let same : cap_seal c ≡ cap_address key = eqb-true (cap_seal c) (cap_address key) p6.1 in
    let a_small : cap_address c < 2 ^ 32 = address_small c in
    let part = through c key in
    let high : ℕ = with_permission_bits (with_seal_field (cap_high c) 0) (bits_through c key) in
    let zero_small : 0 < 8 = omega arith in
    let same_bounds : cap_bounds (unsealed_by c key) ≡ cap_bounds c = bounds_same c (unsealed_by c key) (with_permission_bits (with_seal_field (cap_high c) 0) (bits_through c key)) refl
    (perm_low (with_seal_field (cap_high c) 0) (bits_through c key) ∙ seal_low (cap_high c) 0 zero_small) in
    let rights : cap_perms (unsealed_by c key) ≡ unpacked (bits_through c key) = perms_is (unsealed_by c key) (with_permission_bits (with_seal_field (cap_high c) 0) (bits_through c key)) (cap_address c) a_small refl
    ∙ ap unpacked (perm_perm (with_seal_field (cap_high c) 0) (bits_through c key) part.1) in
    let field : seal_field (cap_high (unsealed_by c key)) ≡ 0 = ap (λ h. seal_field h) (high_is (unsealed_by c key) (with_permission_bits (with_seal_field (cap_high c) 0) (bits_through c key)) (cap_address c) a_small refl)
    ∙ perm_seal (with_seal_field (cap_high c) 0) (bits_through c key) ∙ seal_seal (cap_high c) 0 zero_small in (
      narrows_of c (unsealed_by c key) p1.0
          (shadow_kept (c.tag && key.tag && not (is_unsealed c) && is_unsealed key && has key unsealing && is_inside key (cap_address key) && (cap_seal c == cap_address key))
          (word_of (with_permission_bits (with_seal_field (cap_high c) 0) (bits_through c key)) (cap_address c)) c.shadow t)
          same_bounds
          (λ p there. ap (λ s. bit s p) (perms_through c) ∙ part.0 p (ap (λ s. bit s p) (sym rights) ∙ there)),
      record {
        before = not_zero (cap_seal c) p2.1;
        after = zero_field (unsealed_by c key) field;
        inside = record { tagged = p1.1; unsealed = eqb-true (cap_seal key) 0 p3.1; low = rw same ends.0; high = rw same ends.1; at = sym same };
        right = p4.1;
        bounds = same_bounds;
        at = address_is (unsealed_by c key) (with_permission_bits (with_seal_field (cap_high c) 0) (bits_through c key)) (cap_address c) a_small refl;
      },
    )
