-- *Authority*: which addresses a capability covers, computed from its 64 bits each time.
--
-- The low 32 bits of a word are the address. The high word has, from bit 31 down: a reserved bit, six
-- permission bits, three bits of seal field, four of E, nine of B and nine of T. The formulas are this
-- profile's own, after the idea of the CHERIoT Architecture Specification.
use Rattle.std.specs.Prelude.{ℕ, ◌+◌, ◌-◌, ◌*◌, ◌/◌, ◌%◌, ◌^◌, ◌==◌, nat_lt, if◌then◌else◌}
use Rattle.def_profile.specs.declared.bounds.TheConstants.{WIDEST_EXPONENT, WIDEST_FIELD}
use Rattle.def_words.specs.declared.Bounds.{Bounds}
use Rattle.def_words.specs.declared.Cap.{Cap}

-- ---- the fields of a high word

abbrev pub permission_bits : ℕ → ℕ
permission_bits high = high / 2 ^ 25 % 64

abbrev pub seal_field : ℕ → ℕ
seal_field high = high / 2 ^ 22 % 8

-- E
abbrev pub exponent_field : ℕ → ℕ
exponent_field high = high / 2 ^ 18 % 16

-- B
abbrev pub base_field : ℕ → ℕ
base_field high = high / 2 ^ 9 % 512

-- T
abbrev pub top_field : ℕ → ℕ
top_field high = high % 512

-- ---- the decoded bounds

-- E of 15 stands for 24
abbrev pub exponent_of : ℕ → ℕ
exponent_of high =
    if exponent_field high == WIDEST_FIELD then WIDEST_EXPONENT else exponent_field high

abbrev pub one_if_less : ℕ → ℕ → ℕ
one_if_less a b = if nat_lt a b then 1 else 0

-- the nine bits of an address that stand where B and T stand
abbrev pub middle : ℕ → ℕ → ℕ
middle address exponent = address / 2 ^ exponent % 512

-- A corner of the bounds: the address's block of 2^(e+9), moved up and down by whole blocks, and in it the
-- unit that the field names. The 2^24 blocks more are a multiple of 2^33 and vanish under either modulus;
-- they keep the difference from falling below zero.
abbrev pub corner_of : ℕ → ℕ → ℕ → ℕ → ℕ → ℕ
corner_of address exponent field up down =
    (address / 2 ^ (exponent + 9) + 2 ^ 24 + up - down) * 2 ^ (exponent + 9) + field * 2 ^ exponent

abbrev pub base_of : ℕ → ℕ → ℕ
base_of high address =
    corner_of address (exponent_of high) (base_field high) 0
    (one_if_less (middle address (exponent_of high)) (base_field high)) % 2 ^ 32

abbrev pub top_of : ℕ → ℕ → ℕ
top_of high address =
    corner_of address (exponent_of high) (top_field high)
    (one_if_less (top_field high) (base_field high))
    (one_if_less (middle address (exponent_of high)) (base_field high)) % 2 ^ 33

abbrev pub bounds_of : ℕ → ℕ → Bounds
bounds_of high address = record {
  exponent = exponent_of high;
  base = base_of high address;
  top = top_of high address;
}

-- ---- of a capability

abbrev pub word_of : ℕ → ℕ → ℕ
word_of high address = high * 2 ^ 32 + address

abbrev pub cap_address : Cap → ℕ
cap_address c = c.word % 2 ^ 32

abbrev pub cap_high : Cap → ℕ
cap_high c = c.word / 2 ^ 32

unfoldable pub cap_bounds : Cap → Bounds
cap_bounds c = bounds_of (cap_high c) (cap_address c)

-- its authority is the set of x with cap_base c ≤ x < cap_top c
abbrev pub cap_base : Cap → ℕ
cap_base c = (cap_bounds c).base

abbrev pub cap_top : Cap → ℕ
cap_top c = (cap_bounds c).top
