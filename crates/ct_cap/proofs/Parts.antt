-- What a result keeps of its operand's parts.
use Rattle.std.proofs.Common.{ℕ, ◌^◌, ◌<◌, ◌≡◌, refl, ap, sym, ◌∙◌, arith}
use Rattle.def_words.specs.declared.Cap.{Cap}
use Rattle.def_words.specs.Authority.{cap_address, cap_bounds, cap_high, permission_bits, seal_field, word_of}
use Rattle.def_words.specs.Capability.{with_permission_bits, with_seal_field, word_with_set}
use Rattle.def_words.specs.Permissions.{bit, cap_perms, execute, normal_set, packed, unpacked}
use Rattle.def_words.specs.Seals.{cap_seal, seal_type}
use Rattle.law_words.proofs.Spellings.{normal_legal, normal_small, packs_back, spells_back, told_legal}
use Rattle.law_words.proofs.Words.{address_small, bounds_same, perm_perm, perms_is, perms_same, seal_is, seal_perm, seal_same, word_whole}

-- ---- the same word

pub word_same : (c d : Cap) → d.word ≡ c.word → (cap_bounds d ≡ cap_bounds c) × (cap_perms d ≡ cap_perms c) × (cap_seal d ≡ cap_seal c)
word_same c d is =
    let whole : d.word ≡ word_of (cap_high c) (cap_address c) = is ∙ word_whole c in
    (bounds_same c d (cap_high c) whole refl, perms_same c d (cap_high c) (cap_address c) (address_small c) whole refl, seal_same c d (cap_high c) (cap_address c) (address_small c) whole refl refl)

-- ---- another high word

pub perms_of : (c d : Cap) (high set : ℕ) → d.word ≡ word_of high (cap_address c) → set ≡ unpacked (permission_bits high) → set ≡ cap_perms d
perms_of c d high set is spelled = spelled ∙ sym (perms_is d high (cap_address c) (address_small c) is)

pub seal_of : (c d : Cap) (high set : ℕ) → d.word ≡ word_of high (cap_address c) → set ≡ unpacked (permission_bits high) → seal_type (bit set execute) (seal_field high) ≡ cap_seal d
seal_of c d high set is spelled = ap (λ s. seal_type (bit s execute) (seal_field high)) spelled ∙ sym (seal_is d high (cap_address c) (address_small c) is)

pub sealed_rights : (c : Cap) (field set : ℕ) → field < 8 → set ≡ cap_perms c → set ≡ unpacked (permission_bits (with_seal_field (cap_high c) field))
unfolding cap_perms
sealed_rights c field set small is = is ∙ ap unpacked (sym (seal_perm (cap_high c) field small))

pub spelled_rights : (high bits : ℕ) → bits < 64 → unpacked bits ≡ unpacked (permission_bits (with_permission_bits high bits))
spelled_rights high bits small = ap unpacked (sym (perm_perm high bits small))

-- a normal set is the one that its bits spell
pub normal_spelled : (s : ℕ) → s < 2 ^ 12 → normal_set s ≡ unpacked (packed (normal_set s))
normal_spelled s small =
    let legal : normal_set (normal_set s) ≡ normal_set s = normal_legal s small in
    sym legal ∙ sym (packs_back (normal_set s) (normal_small s))

-- ---- no permission goes

bits_back : (h : ℕ) → with_permission_bits h (permission_bits h) ≡ h
bits_back h = omega arith

pub word_unchanged : (c : Cap) (set : ℕ) → set ≡ cap_perms c → word_with_set c set ≡ c.word
unfolding cap_perms
word_unchanged c set is =
    let six : permission_bits (cap_high c) < 64 = omega arith in
    let legal : normal_set (unpacked (permission_bits (cap_high c))) ≡ unpacked (permission_bits (cap_high c)) = told_legal (permission_bits (cap_high c)) six in
    ap (λ s. word_of (with_permission_bits (cap_high c) (packed (normal_set s))) (cap_address c)) is
    ∙ ap (λ s. word_of (with_permission_bits (cap_high c) (packed s)) (cap_address c)) legal
    ∙ ap (λ b. word_of (with_permission_bits (cap_high c) b) (cap_address c)) (spells_back (permission_bits (cap_high c)) six)
    ∙ ap (λ h. word_of h (cap_address c)) (bits_back (cap_high c))
    ∙ sym (word_whole c)
