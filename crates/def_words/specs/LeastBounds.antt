-- *Least bounds*: the bounds that a word can spell around a range, with the least exponent that serves.
use Rattle.std.specs.Prelude.{ℕ, zero, suc, ◌+◌, ◌-◌, ◌*◌, ◌/◌, ◌%◌, ◌^◌, ◌==◌, ◌≡◌, ◌<◌, ◌≤◌, ◌⊎◌, ◌&&◌, nat_le, if◌then◌else◌}
use Rattle.def_profile.specs.declared.bounds.TheConstants.{LAST_EXPONENT, WIDEST_EXPONENT, WIDEST_FIELD, MOST_UNITS}
use Rattle.def_words.specs.declared.Rounded.{Rounded}
use Rattle.def_words.specs.Authority.{base_of, top_of}

abbrev pub floor_units : ℕ → ℕ → ℕ
floor_units base exponent = base / 2 ^ exponent

abbrev pub ceil_units : ℕ → ℕ → ℕ
ceil_units top exponent = (top + 2 ^ exponent - 1) / 2 ^ exponent

-- how many units of 2^exponent the range meets
abbrev pub units : ℕ → ℕ → ℕ → ℕ
units base top exponent = ceil_units top exponent - floor_units base exponent

-- the least e from 0 to 14 at which the range meets at most 511 units, or else 24
pub record IsLeastExponent (base top e : ℕ) : Type 0 where
  pub serves : ((e ≤ LAST_EXPONENT) × (units base top e ≤ MOST_UNITS)) ⊎ (e ≡ WIDEST_EXPONENT)
  pub least : (k : ℕ) → k < e → k ≤ LAST_EXPONENT → MOST_UNITS < units base top k

-- the first of e to e + n - 1 that serves, or else 24
abbrev pub first_from : ℕ → ℕ → ℕ → ℕ → ℕ
first_from base top e zero = WIDEST_EXPONENT
first_from base top e (suc n) =
    if nat_le (units base top e) MOST_UNITS then e else first_from base top (e + 1) n

-- the number that IsLeastExponent determines
unfoldable pub exponent_for : ℕ → ℕ → ℕ
exponent_for base top = first_from base top 0 (LAST_EXPONENT + 1)

-- E stands for 24 by 15
abbrev pub coded : ℕ → ℕ
coded e = if e == WIDEST_EXPONENT then WIDEST_FIELD else e

-- the range from base to top rounded outwards to multiples of 2^e
abbrev pub rounded_at : ℕ → ℕ → ℕ → Rounded
rounded_at base top e = record {
  fields = coded e * 2 ^ 18 + floor_units base e % 512 * 2 ^ 9 + ceil_units top e % 512;
  base = floor_units base e * 2 ^ e;
  top = ceil_units top e * 2 ^ e;
  exact = (floor_units base e * 2 ^ e == base) && (ceil_units top e * 2 ^ e == top);
}

abbrev pub rounded_of : ℕ → ℕ → Rounded
rounded_of base top = rounded_at base top (exponent_for base top)

-- the least length at or above n that a word can spell at every multiple of the alignment
abbrev pub round_length_of : ℕ → ℕ
round_length_of n = ceil_units n (exponent_for 0 n) * 2 ^ exponent_for 0 n

abbrev pub alignment_of : ℕ → ℕ
alignment_of n = 2 ^ exponent_for 0 n

abbrev pub align_mask_of : ℕ → ℕ
align_mask_of n = 2 ^ 32 - alignment_of n

-- ---- what the laws say of them

-- an address at which the fields give the rounded bounds back: inside them, or their top
abbrev pub IsInside : ℕ → Rounded → Type 0
IsInside address r = (r.base ≤ address) × (address ≤ r.top)

-- of any word with these fields, whatever stands above them
abbrev pub GivesBack : ℕ → ℕ → Type 0
GivesBack base top =
    (rest address : ℕ) → address < 2 ^ 32 → IsInside address (rounded_of base top)
    → (base_of (rest * 2 ^ 22 + (rounded_of base top).fields) address ≡ (rounded_of base top).base)
    × (top_of (rest * 2 ^ 22 + (rounded_of base top).fields) address ≡ (rounded_of base top).top)

-- in whatever bounds of a word the range lies, lawful or not, its rounded bounds lie in them too
abbrev pub StaysInside : ℕ → ℕ → Type 0
StaysInside base top =
    (high address : ℕ) → address < 2 ^ 32 → base_of high address ≤ base → top ≤ top_of high address
    → (base_of high address ≤ (rounded_of base top).base)
    × ((rounded_of base top).top ≤ top_of high address)
