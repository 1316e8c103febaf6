-- A callee's stack from its parts, where a word spells its bounds.
use Rattle.std.proofs.Common.{ℕ, ◌≡◌, ◌+◌, ◌-◌, ◌^◌, ◌<◌, ◌≤◌, inl, Bool, true, bit_and, refl, sym, ap, ◌∙◌, arith, subst}
use Rattle.def_profile.specs.declared.rights.TheConstants.{MEMORY_ROOT, STACK_RIGHTS}
use Rattle.def_words.specs.declared.Bounds.{Bounds}
use Rattle.def_words.specs.declared.Cap.{Cap}
use Rattle.def_words.specs.declared.Shadow.{Shadow}
use Rattle.def_words.specs.Authority.{word_of, cap_address, cap_base, cap_bounds, cap_high, cap_top, exponent_of, exponent_field, permission_bits}
use Rattle.def_words.specs.Capability.{end_at, masked, with_address, with_exact_bounds, with_fields, with_permission_bits}
use Rattle.def_words.specs.Derive.{derive, memory_root, root_cap}
use Rattle.def_words.specs.Facts.{MayDerive}
use Rattle.def_words.specs.LeastBounds.{rounded_of}
use Rattle.def_words.specs.Permissions.{bit, cap_perms, form_of, normal_set, packed, set_where, unpacked}
use Rattle.def_words.specs.Seals.{cap_seal}
use Rattle.law_words.proofs.Making.{derive_makes}
use Rattle.law_words.proofs.Narrowing.{fields_small}
use Rattle.law_words.proofs.Rights.{memory_is_root, taken}
use Rattle.law_words.proofs.Words.{address_is, fields_perm, high_is, perms_is}
use Rattle.ct_switch.specs.Calls.{stack_cap, stack_high}

-- ---- the word

-- the six bits of a stack's permissions, of all that the memory root has
rights_packed : packed (normal_set (bit_and (unpacked 63) STACK_RIGHTS)) ≡ 31
unfolding packed normal_set unpacked set_where form_of bit
rights_packed = refl

root_bits : permission_bits MEMORY_ROOT ≡ 63
root_bits = refl

with_all : (fields : ℕ) → fields < 2 ^ 22 → with_permission_bits (with_fields MEMORY_ROOT fields) 31 ≡ stack_high fields
with_all fields few = omega (arith, few)

abbrev placed : ℕ → Shadow → Cap
placed base from = with_address (root_cap memory_root from) base

placed_word : (base : ℕ) (from : Shadow) → (placed base from).word ≡ word_of MEMORY_ROOT base
unfolding with_address memory_root
placed_word base from =
    ap (λ h. word_of h base) (high_is (root_cap MEMORY_ROOT from) MEMORY_ROOT 0 (omega arith) refl)

abbrev narrow : ℕ → ℕ → Shadow → Cap
narrow base length from = with_exact_bounds (placed base from) length

narrow_word : (base length : ℕ) (from : Shadow) → base < 2 ^ 32 → base + length ≤ 2 ^ 32
    → (narrow base length from).word ≡ word_of (with_fields MEMORY_ROOT (rounded_of base (base + length)).fields) base
unfolding with_exact_bounds
narrow_word base length from small fits =
    let high : cap_high (placed base from) ≡ MEMORY_ROOT = high_is (placed base from) MEMORY_ROOT base small (placed_word base from) in
    let at : cap_address (placed base from) ≡ base = address_is (placed base from) MEMORY_ROOT base small (placed_word base from) in
    let whole : end_at base length ≡ base + length = omega (arith, fits) in
    ap (λ h. word_of (with_fields h (rounded_of (cap_address (placed base from)) (end_at (cap_address (placed base from)) length)).fields) (cap_address (placed base from))) high
    ∙ ap (λ a. word_of (with_fields MEMORY_ROOT (rounded_of a (end_at a length)).fields) a) at
    ∙ ap (λ t. word_of (with_fields MEMORY_ROOT (rounded_of base t).fields) base) whole

abbrev limited : ℕ → ℕ → Shadow → Cap
limited base length from = masked (narrow base length from) STACK_RIGHTS

limited_word : (base length : ℕ) (from : Shadow) → base < 2 ^ 32 → base + length ≤ 2 ^ 32
    → (limited base length from).word ≡ word_of (stack_high (rounded_of base (base + length)).fields) base
unfolding masked
limited_word base length from small fits =
    let fields : ℕ = (rounded_of base (base + length)).fields in
    let few : fields < 2 ^ 22 = fields_small base (base + length) (omega arith) fits in
    let word = narrow_word base length from small fits in
    let high : cap_high (narrow base length from) ≡ with_fields MEMORY_ROOT fields = high_is (narrow base length from) (with_fields MEMORY_ROOT fields) base small word in
    let at : cap_address (narrow base length from) ≡ base = address_is (narrow base length from) (with_fields MEMORY_ROOT fields) base small word in
    let set : cap_perms (narrow base length from) ≡ unpacked 63 =
    perms_is (narrow base length from) (with_fields MEMORY_ROOT fields) base small word ∙ ap unpacked (fields_perm MEMORY_ROOT fields few ∙ root_bits) in
    ap (λ s. word_of (with_permission_bits (cap_high (narrow base length from)) (packed (normal_set (bit_and s STACK_RIGHTS)))) (cap_address (narrow base length from))) set
    ∙ ap (λ b. word_of (with_permission_bits (cap_high (narrow base length from)) b) (cap_address (narrow base length from))) rights_packed
    ∙ ap (λ h. word_of (with_permission_bits h 31) (cap_address (narrow base length from))) high
    ∙ ap (λ h. word_of h (cap_address (narrow base length from))) (with_all fields few)
    ∙ ap (λ a. word_of (stack_high fields) a) at

made_word : (base length at : ℕ) (from : Shadow) → base < 2 ^ 32 → base + length ≤ 2 ^ 32
    → (derive memory_root base length STACK_RIGHTS at 0 from).word ≡ word_of (stack_high (rounded_of base (base + length)).fields) at
unfolding derive with_address
made_word base length at from small fits =
    ap (λ h. word_of h at) (high_is (limited base length from) (stack_high (rounded_of base (base + length)).fields) base small (limited_word base length from small fits))

-- ---- the whole

cap_by : (c : Cap) (tag : Bool) (word : ℕ) (from : Shadow) → c.tag ≡ tag → c.word ≡ word → c.shadow ≡ from → c ≡ record { tag = tag; word = word; shadow = from }
cap_by c tag word from one two three = rw (sym one, sym two, sym three) refl

-- the exponent is by the fields alone
exponent_field_is : (fields : ℕ) → fields < 2 ^ 22 → exponent_field (stack_high fields) ≡ exponent_field fields
exponent_field_is fields few = omega (arith, few)

exponent_is : (fields : ℕ) → fields < 2 ^ 22 → exponent_of (stack_high fields) ≡ exponent_of fields
exponent_is fields few = rw (exponent_field_is fields few) refl

-- what stands in a register: the word of a stack at its top, and a shadow
abbrev pub stack_by : ℕ → Shadow → Cap
stack_by word from = record { tag = true; word = word; shadow = from }

abbrev pub bounds_from : ℕ → ℕ → ℕ → Bounds
bounds_from exponent base top = record { exponent = exponent; base = base; top = top }

-- it is the stack, and decodes to these bounds, with this exponent
pub record IsExactStack (c : Cap) (base high exponent : ℕ) (from : Shadow) : Type 0 where
  pub is : c ≡ stack_cap base high from
  pub bounds : bounds_from exponent base high ≡ cap_bounds c
  pub rights : STACK_RIGHTS ≡ cap_perms c
  pub unsealed : 0 ≡ cap_seal c

bounds_by : (b : Bounds) (e base top : ℕ) → b.exponent ≡ e → b.base ≡ base → b.top ≡ top → bounds_from e base top ≡ b
bounds_by b e base top one two three = rw (sym one, sym two, sym three) refl

exponent_by : (c : Cap) (fields at : ℕ) → at < 2 ^ 32 → fields < 2 ^ 22 → c.word ≡ word_of (stack_high fields) at → (cap_bounds c).exponent ≡ exponent_of fields
unfolding cap_bounds
exponent_by c fields at small few is = ap (λ h. exponent_of h) (high_is c (stack_high fields) at small is) ∙ exponent_is fields few

pub exact_stack_is : (base high word exponent fields : ℕ) (from : Shadow) → base ≤ high → high < 2 ^ 32 → (rounded_of base high).exact ≡ true
    → fields ≡ (rounded_of base high).fields → word ≡ word_of (stack_high fields) high → exponent ≡ exponent_of fields
    → IsExactStack (stack_by word from) base high exponent from
exact_stack_is base high word exponent fields from order small exact fields_are word_is exponent_as =
    let length : ℕ = high - base in
    let whole : base + length ≡ high = omega (arith, order) in
    let low : base < 2 ^ 32 = omega (arith, order, small) in
    let fits : base + length ≤ 2 ^ 32 = omega (arith, whole, small) in
    let may : MayDerive memory_root base length STACK_RIGHTS high 0 = record {
      root = memory_is_root;
      low = low;
      fits = fits;
      exact = ap (λ t. (rounded_of base t).exact) whole ∙ exact;
      from = order;
      to = omega (arith, whole);
      small = small;
      kind_fits = inl refl;
    } in
    let made = derive_makes memory_root base length STACK_RIGHTS high 0 from may in
    let c : Cap = stack_by word from in
    let few : (rounded_of base high).fields < 2 ^ 22 = fields_small base high order (omega (arith, small)) in
    let few_too : fields < 2 ^ 22 = subst (λ n. n < 2 ^ 22) (sym fields_are) few in
    let words : (stack_cap base high from).word ≡ word =
    made_word base length high from low fits ∙ ap (λ t. word_of (stack_high (rounded_of base t).fields) high) whole
    ∙ ap (λ f. word_of (stack_high f) high) (sym fields_are) ∙ sym word_is in
    let is : c ≡ stack_cap base high from = sym (cap_by (stack_cap base high from) true word from made.0.tagged words made.1) in
    record {
      is = is;
      bounds = bounds_by (cap_bounds c) exponent base high (exponent_by c fields high small few_too word_is ∙ sym exponent_as)
          (ap (λ (d : Cap). cap_base d) is ∙ made.0.base_is) (ap (λ (d : Cap). cap_top d) is ∙ made.0.top_is ∙ whole);
      rights = sym (ap (λ (d : Cap). cap_perms d) is ∙ made.0.rights_are ∙ taken.stack.1);
      unsealed = sym (ap (λ (d : Cap). cap_seal d) is ∙ made.0.kind_is);
    }
