-- What the laws say of keys, loads and derivation.
use Rattle.std.specs.Prelude.{ℕ, ◌+◌, ◌*◌, ◌%◌, ◌^◌, ◌<◌, ◌≤◌, ◌≡◌, ◌≢◌, ◌⊎◌, true, bit_and}
use Rattle.def_profile.specs.declared.bounds.TheConstants.{WIDEST_FIELD}
use Rattle.def_words.specs.declared.Cap.{Cap}
use Rattle.def_words.specs.Authority.{cap_address, cap_base, cap_top, cap_bounds, seal_field, permission_bits}
use Rattle.def_words.specs.LeastBounds.{rounded_of}
use Rattle.def_words.specs.Permissions.{has, bit, execute, sealing, unsealing, unpacked, normal_set}
use Rattle.def_words.specs.Seals.{cap_seal, seal_type, is_key_type}
use Rattle.def_words.specs.Narrows.{SameSeal}

-- a key whose address and whose range hold a type
pub record KeyInside (key : Cap) (n : ℕ) : Type 0 where
  pub tagged : key.tag ≡ true
  pub unsealed : cap_seal key ≡ 0
  pub low : cap_base key ≤ n
  pub high : n < cap_top key
  pub at : cap_address key ≡ n

-- d is c sealed by the key
pub record IsSealing (c key d : Cap) : Type 0 where
  pub before : cap_seal c ≡ 0
  pub after : cap_seal d ≡ cap_address key
  pub inside : KeyInside key (cap_seal d)
  pub right : has key sealing ≡ true
  pub lawful : is_key_type (has c execute) (cap_seal d) ≡ true

-- d is c unsealed by the key
pub record IsUnsealing (c key d : Cap) : Type 0 where
  pub before : cap_seal c ≢ 0
  pub after : cap_seal d ≡ 0
  pub inside : KeyInside key (cap_seal c)
  pub right : has key unsealing ≡ true
  pub bounds : cap_bounds d ≡ cap_bounds c
  pub at : cap_address d ≡ cap_address c

-- a loaded capability: sealed or unsealed as it was
pub record IsLoaded (c d : Cap) : Type 0 where
  pub open_stays : cap_seal c ≡ 0 → cap_seal d ≡ 0
  pub sealed_stays : cap_seal c ≢ 0 → SameSeal c d

-- the high word of a root: all addresses, unsealed
pub record IsRoot (high : ℕ) : Type 0 where
  pub low : high % 2 ^ 22 ≡ WIDEST_FIELD * 2 ^ 18 + 256
  pub unsealed : seal_field high ≡ 0

-- a root's high word spells exactly this set where it is asked for
abbrev pub SpellsPermissions : ℕ → ℕ → Type 0
SpellsPermissions high set = normal_set (bit_and (unpacked (permission_bits high)) set) ≡ set

-- a type that these rights have a field for
abbrev pub KindFits : ℕ → ℕ → Type 0
KindFits set kind = (kind ≡ 0) ⊎ ((kind ≢ 0) × (seal_type (bit set execute) (kind % 8) ≡ kind))

-- what derive may be asked for
pub record MayDerive (high base length set address kind : ℕ) : Type 0 where
  pub root : IsRoot high
  pub low : base < 2 ^ 32
  pub fits : base + length ≤ 2 ^ 32
  pub exact : (rounded_of base (base + length)).exact ≡ true
  pub from : base ≤ address
  pub to : address ≤ base + length
  pub small : address < 2 ^ 32
  pub kind_fits : KindFits (normal_set (bit_and (unpacked (permission_bits high)) set)) kind
