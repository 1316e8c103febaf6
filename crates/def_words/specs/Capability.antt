-- *Capability*: the operations on a tag, a word and a shadow. Each is one equation on the word and one
-- condition for the tag; none traps. The result has its first operand's shadow, an untagged one has none.
use Rattle.std.specs.Prelude.{ℕ, ◌+◌, ◌-◌, ◌*◌, ◌/◌, ◌%◌, ◌^◌, ◌==◌, ◌≡◌, ◌&&◌, Bool, false, not, nat_le, nat_lt, min, bit_and, if◌then◌else◌}
use Rattle.def_words.specs.declared.Cap.{Cap}
use Rattle.def_words.specs.declared.Shadow.{Shadow}
use Rattle.def_words.specs.Authority.{word_of, cap_address, cap_high, cap_base, cap_top, permission_bits}
use Rattle.def_words.specs.LeastBounds.{rounded_of}
use Rattle.def_words.specs.Permissions.{global, execute, sealing, unsealing, cap_perms, has, normal_set, packed, is_within}
use Rattle.def_words.specs.Seals.{cap_seal, is_unsealed, is_key_type}

-- ---- words

-- the shadow of what comes from nowhere
abbrev pub nowhere : Shadow
nowhere = record { root = 0; source = 0 }

-- a capability of this tag and word; without the tag there is no shadow
abbrev pub cap_of : Bool → ℕ → Shadow → Cap
cap_of tagged word from = record {
  tag = tagged;
  word = word;
  shadow = if tagged then from else nowhere;
}

-- what every operation keeps: an untagged capability has root and source 0
abbrev pub IsSettled : Cap → Type 0
IsSettled c = c.tag ≡ false → c.shadow ≡ nowhere

-- the capability that an integer is where a register holds it: untagged, with high word 0
abbrev pub integer : ℕ → Cap
integer n = cap_of false n nowhere

-- a high word with these six permission bits
abbrev pub with_permission_bits : ℕ → ℕ → ℕ
with_permission_bits high bits = high / 2 ^ 31 * 2 ^ 31 + bits * 2 ^ 25 + high % 2 ^ 25

-- a high word with this seal field
abbrev pub with_seal_field : ℕ → ℕ → ℕ
with_seal_field high field = high / 2 ^ 25 * 2 ^ 25 + field * 2 ^ 22 + high % 2 ^ 22

-- a high word with these 22 bits of E, B and T
abbrev pub with_fields : ℕ → ℕ → ℕ
with_fields high fields = high / 2 ^ 22 * 2 ^ 22 + fields

-- ---- the address

abbrev pub word_at : Cap → ℕ → ℕ
word_at c address = word_of (cap_high c) address

-- whether the decoded bounds are those that they are at this address
abbrev pub is_representable : Cap → ℕ → Bool
is_representable c address =
    (cap_base (record c { word = word_at c address }) == cap_base c)
    && (cap_top (record c { word = word_at c address }) == cap_top c)

-- the address rule
unfoldable pub with_address : Cap → ℕ → Cap
with_address c address =
    cap_of (c.tag && is_unsealed c && is_representable c address) (word_at c address) c.shadow

abbrev pub raised : Cap → ℕ → Cap
raised c n = with_address c ((cap_address c + n) % 2 ^ 32)

-- ---- bounds

-- whether a range lies in the bounds, also where it is empty
abbrev pub is_range_inside : Cap → ℕ → ℕ → Bool
is_range_inside c low high = nat_le (cap_base c) low && nat_le high (cap_top c)

-- whether an address lies in the bounds
abbrev pub is_inside : Cap → ℕ → Bool
is_inside c address = nat_le (cap_base c) address && nat_lt address (cap_top c)

-- the top that bounds of this length are asked for: no further than the address space goes
abbrev pub end_at : ℕ → ℕ → ℕ
end_at address length = address + min length (2 ^ 32 - address)

abbrev pub word_bounded : Cap → ℕ → ℕ
word_bounded c length =
    word_of
    (with_fields (cap_high c) (rounded_of (cap_address c) (end_at (cap_address c) length)).fields)
    (cap_address c)

unfoldable pub with_bounds : Cap → ℕ → Cap
with_bounds c length =
    cap_of (c.tag && is_unsealed c && is_range_inside c (cap_address c) (cap_address c + length))
    (word_bounded c length) c.shadow

unfoldable pub with_exact_bounds : Cap → ℕ → Cap
with_exact_bounds c length = cap_of
    (c.tag && is_unsealed c && is_range_inside c (cap_address c) (cap_address c + length)
    && (rounded_of (cap_address c) (end_at (cap_address c) length)).exact)
    (word_bounded c length) c.shadow

-- ---- permissions

abbrev pub word_with_set : Cap → ℕ → ℕ
word_with_set c set =
    word_of (with_permission_bits (cap_high c) (packed (normal_set set))) (cap_address c)

-- only the permissions of the mask stay; a sealed source loses its tag, whatever the mask is
unfoldable pub masked : Cap → ℕ → Cap
masked c mask =
    cap_of (c.tag && is_unsealed c) (word_with_set c (bit_and (cap_perms c) mask)) c.shadow

-- ---- seals

abbrev pub word_sealed : Cap → ℕ → ℕ
word_sealed c field = word_of (with_seal_field (cap_high c) field) (cap_address c)

-- the field of both kinds is the type's low three bits; where the key's address is no type the word stays
unfoldable pub sealed_by : Cap → Cap → Cap
sealed_by c key = cap_of
    (c.tag && key.tag && is_unsealed c && is_unsealed key && has key sealing
    && is_inside key (cap_address key) && is_key_type (has c execute) (cap_address key))
    (if is_key_type (has c execute) (cap_address key) then word_sealed c (cap_address key % 8)
    else c.word)
    c.shadow

-- the six bits without `global` where the key lacks it
abbrev pub bits_through : Cap → Cap → ℕ
bits_through c key =
    if has key global then permission_bits (cap_high c) else permission_bits (cap_high c) % 32

unfoldable pub unsealed_by : Cap → Cap → Cap
unsealed_by c key = cap_of
    (c.tag && key.tag && not (is_unsealed c) && is_unsealed key && has key unsealing
    && is_inside key (cap_address key) && (cap_seal c == cap_address key))
    (word_of (with_permission_bits (with_seal_field (cap_high c) 0) (bits_through c key))
    (cap_address c))
    c.shadow

-- ---- the rest

abbrev pub untagged : Cap → Cap
untagged c = cap_of false c.word nowhere

-- the tags are equal, and bounds and permissions lie in those of the other
unfoldable pub is_subset : Cap → Cap → Bool
is_subset c other =
    (if c.tag then other.tag else not other.tag) && nat_le (cap_base other) (cap_base c)
    && nat_le (cap_top c) (cap_top other) && is_within (cap_perms c) (cap_perms other)

-- tag and word are equal
abbrev pub is_same : Cap → Cap → Bool
is_same c other = (if c.tag then other.tag else not other.tag) && (c.word == other.word)
