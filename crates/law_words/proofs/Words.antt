-- One field of a word changed: the others stay, and what they decode to stays.
use Rattle.std.proofs.Common.{ℕ, ◌+◌, ◌/◌, ◌%◌, ◌^◌, ◌<◌, ◌≡◌, ◌==◌, Bool, true, false, if◌then◌else◌, refl, ap, sym, ◌∙◌, inl, inr, arith}
use Rattle.def_profile.specs.declared.bounds.TheConstants.{WIDEST_EXPONENT, WIDEST_FIELD}
use Rattle.law_lists.proofs.Tests.{eq_tells}
use Rattle.def_words.specs.declared.Cap.{Cap}
use Rattle.def_words.specs.declared.Bounds.{Bounds}
use Rattle.def_words.specs.Authority.{word_of, cap_address, cap_high, cap_bounds, bounds_of, exponent_field, base_field, top_field, seal_field, permission_bits, corner_of, middle, one_if_less}
use Rattle.def_words.specs.Permissions.{cap_perms, unpacked, bit, execute}
use Rattle.def_words.specs.Seals.{cap_seal, seal_type}
use Rattle.def_words.specs.Capability.{with_permission_bits, with_seal_field, with_fields}

-- ---- word and high word

pub high_back : (h a : ℕ) → a < 2 ^ 32 → word_of h a / 2 ^ 32 ≡ h
high_back h a small = omega (arith, small)

pub address_back : (h a : ℕ) → a < 2 ^ 32 → word_of h a % 2 ^ 32 ≡ a
address_back h a small = omega (arith, small)

pub address_small : (c : Cap) → cap_address c < 2 ^ 32
address_small c = omega arith

-- ---- the fields of a high word after one was changed

pub perm_perm : (h b : ℕ) → b < 64 → permission_bits (with_permission_bits h b) ≡ b
perm_perm h b small = omega (arith, small)

pub perm_seal : (h b : ℕ) → seal_field (with_permission_bits h b) ≡ seal_field h
perm_seal h b = omega arith

pub perm_low : (h b : ℕ) → with_permission_bits h b % 2 ^ 22 ≡ h % 2 ^ 22
perm_low h b = omega arith

pub seal_perm : (h f : ℕ) → f < 8 → permission_bits (with_seal_field h f) ≡ permission_bits h
seal_perm h f small = omega (arith, small)

pub seal_seal : (h f : ℕ) → f < 8 → seal_field (with_seal_field h f) ≡ f
seal_seal h f small = omega (arith, small)

pub seal_low : (h f : ℕ) → f < 8 → with_seal_field h f % 2 ^ 22 ≡ h % 2 ^ 22
seal_low h f small = omega (arith, small)

pub fields_perm : (h fs : ℕ) → fs < 2 ^ 22 → permission_bits (with_fields h fs) ≡ permission_bits h
fields_perm h fs small = omega (arith, small)

pub fields_seal : (h fs : ℕ) → fs < 2 ^ 22 → seal_field (with_fields h fs) ≡ seal_field h
fields_seal h fs small = omega (arith, small)

-- ---- what stays where the 22 low bits stay

exponent_low : (h : ℕ) → exponent_field h ≡ h % 2 ^ 22 / 2 ^ 18
exponent_low h = omega arith

base_low : (h : ℕ) → base_field h ≡ h % 2 ^ 22 / 2 ^ 9 % 512
base_low h = omega arith

top_low : (h : ℕ) → top_field h ≡ h % 2 ^ 22 % 512
top_low h = omega arith

-- bounds by fields
fields_bounds : ℕ → ℕ → ℕ → ℕ → Bounds
fields_bounds e b t a = record {
  exponent = if e == WIDEST_FIELD then WIDEST_EXPONENT else e;
  base = corner_of a (if e == WIDEST_FIELD then WIDEST_EXPONENT else e) b 0 (one_if_less (middle a (if e == WIDEST_FIELD then WIDEST_EXPONENT else e)) b) % 2 ^ 32;
  top = corner_of a (if e == WIDEST_FIELD then WIDEST_EXPONENT else e) t (one_if_less t b) (one_if_less (middle a (if e == WIDEST_FIELD then WIDEST_EXPONENT else e)) b) % 2 ^ 33;
}

by_fields : (h a : ℕ) → bounds_of h a ≡ fields_bounds (exponent_field h) (base_field h) (top_field h) a
unfolding fields_bounds
by_fields h a = refl

pub same_bounds : (h k a : ℕ) → h % 2 ^ 22 ≡ k % 2 ^ 22 → bounds_of h a ≡ bounds_of k a
same_bounds h k a same =
    let es : exponent_field h ≡ exponent_field k = exponent_low h ∙ ap (λ n. n / 2 ^ 18) same ∙ sym (exponent_low k) in
    let bs : base_field h ≡ base_field k = base_low h ∙ ap (λ n. n / 2 ^ 9 % 512) same ∙ sym (base_low k) in
    let ts : top_field h ≡ top_field k = top_low h ∙ ap (λ n. n % 512) same ∙ sym (top_low k) in
    by_fields h a ∙ (rw (es, bs, ts) refl) ∙ sym (by_fields k a)

-- ---- of capabilities

-- a capability's parts by its word
pub bounds_is : (c : Cap) (h a : ℕ) → a < 2 ^ 32 → c.word ≡ word_of h a → cap_bounds c ≡ bounds_of h a
unfolding cap_bounds
bounds_is c h a small is =
    let hs : cap_high c ≡ h = ap (λ n. n / 2 ^ 32) is ∙ high_back h a small in
    let at_a : cap_address c ≡ a = ap (λ n. n % 2 ^ 32) is ∙ address_back h a small in
    ap (λ n. bounds_of n (cap_address c)) hs ∙ ap (λ n. bounds_of h n) at_a

pub high_is : (c : Cap) (h a : ℕ) → a < 2 ^ 32 → c.word ≡ word_of h a → cap_high c ≡ h
high_is c h a small is = ap (λ n. n / 2 ^ 32) is ∙ high_back h a small

pub address_is : (c : Cap) (h a : ℕ) → a < 2 ^ 32 → c.word ≡ word_of h a → cap_address c ≡ a
address_is c h a small is = ap (λ n. n % 2 ^ 32) is ∙ address_back h a small

pub perms_is : (c : Cap) (h a : ℕ) → a < 2 ^ 32 → c.word ≡ word_of h a → cap_perms c ≡ unpacked (permission_bits h)
unfolding cap_perms
perms_is c h a small is = ap (λ n. unpacked (permission_bits n)) (high_is c h a small is)

pub seal_is : (c : Cap) (h a : ℕ) → a < 2 ^ 32 → c.word ≡ word_of h a → cap_seal c ≡ seal_type (bit (unpacked (permission_bits h)) execute) (seal_field h)
unfolding cap_seal
seal_is c h a small is = ap (λ s. seal_type (bit s execute) (seal_field (cap_high c))) (perms_is c h a small is) ∙ ap (λ n. seal_type (bit (unpacked (permission_bits h)) execute) (seal_field n)) (high_is c h a small is)

pub word_whole : (c : Cap) → c.word ≡ word_of (cap_high c) (cap_address c)
word_whole c = omega arith

-- what a capability has in common with one of its address: the bounds, where the low bits are the same
pub bounds_same : (c d : Cap) (h : ℕ) → d.word ≡ word_of h (cap_address c) → h % 2 ^ 22 ≡ cap_high c % 2 ^ 22 → cap_bounds d ≡ cap_bounds c
bounds_same c d h is low =
    bounds_is d h (cap_address c) (address_small c) is ∙ same_bounds h (cap_high c) (cap_address c) low ∙ sym (bounds_is c (cap_high c) (cap_address c) (address_small c) (word_whole c))

pub perms_same : (c d : Cap) (h a : ℕ) → a < 2 ^ 32 → d.word ≡ word_of h a → permission_bits h ≡ permission_bits (cap_high c) → cap_perms d ≡ cap_perms c
perms_same c d h a small is bits = perms_is d h a small is ∙ ap unpacked bits ∙ sym (perms_is c (cap_high c) (cap_address c) (address_small c) (word_whole c))

pub seal_same : (c d : Cap) (h a : ℕ) → a < 2 ^ 32 → d.word ≡ word_of h a → permission_bits h ≡ permission_bits (cap_high c) → seal_field h ≡ seal_field (cap_high c) → cap_seal d ≡ cap_seal c
seal_same c d h a small is bits field =
    seal_is d h a small is
    ∙ ap (λ n. seal_type (bit (unpacked n) execute) (seal_field h)) bits
    ∙ ap (λ n. seal_type (bit (unpacked (permission_bits (cap_high c))) execute) n) field
    ∙ sym (seal_is c (cap_high c) (cap_address c) (address_small c) (word_whole c))

-- type 0 is field 0
pub seal_zero : (executes : Bool) (field : ℕ) → seal_type executes field ≡ 0 → field ≡ 0
seal_zero executes field is = elim (eq_tells field 0) [ inl t ↦ t.1 | inr t ↦ (let opened = rw t.0 at is in by_kind executes opened) ]
  where
    by_kind : (executes : Bool) → (if executes then field else 8 + field) ≡ 0 → field ≡ 0
    by_kind true e = e
    by_kind false e = absurd (omega (arith, e))

pub zero_seal : (executes : Bool) → seal_type executes 0 ≡ 0
zero_seal executes = refl
