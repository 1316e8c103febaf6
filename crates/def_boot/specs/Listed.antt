-- Which capability is an entry's, where it stands at boot, and what it derives from.
use Rattle.std.specs.Prelude.{ℕ, ◌≡◌, ◌⊎◌, true}
use Rattle.ct_entry.specs.declared.rows.Kind.{Kind}
use Rattle.def_words.specs.declared.Cap.{Cap}
use Rattle.def_words.specs.declared.Shadow.{Shadow}
use Rattle.def_words.specs.Authority.{cap_base, cap_top}
use Rattle.def_words.specs.Capability.{with_address}
use Rattle.def_words.specs.Derive.{derive, memory_root, executable_root, sealing_root}
use Rattle.def_words.specs.Permissions.{cap_perms}
use Rattle.def_reach.specs.Roots.{Listing}
use Rattle.def_machine.specs.Image.{Image, root, made_cap}
use Rattle.def_image.specs.Parts.{PartsRow}
use Rattle.def_boot.specs.Boot.{boot_state, image_of}
use Rattle.def_boot.specs.Made.{return_sentry}
use Rattle.def_boot.specs.Places.{Place, cap_at}

-- the report lists an entry under this number
abbrev pub IsEntryNumber : Image → ℕ → Type 0
IsEntryNumber i n = (k : Kind) × ((root i n).origin ≡ Listing k)

-- a capability has just the range and the rights of an entry, whose number is its root, and no source
pub record HasGrant (i : Image) (n : ℕ) (c : Cap) : Type 0 where
  pub root_is : c.shadow.root ≡ n
  pub source_is : c.shadow.source ≡ 0
  pub base_is : cap_base c ≡ (root i n).base
  pub top_is : cap_top c ≡ (root i n).top
  pub rights_are : cap_perms c ≡ (root i n).rights

-- the return sentry, or what the report lists
abbrev pub IsListed : Image → Cap → Type 0
IsListed i c = (c ≡ return_sentry) ⊎ ((n : ℕ) × IsEntryNumber i n × HasGrant i n c)

-- what boot makes for an entry stands at some place, tagged
pub record StandsAtBoot (p : PartsRow) (n : ℕ) : Type 0 where
  pub place : Place
  pub is : cap_at (boot_state p) place ≡ made_cap (image_of p) n
  pub tagged : (made_cap (image_of p) n).tag ≡ true
  pub grant : HasGrant (image_of p) n (made_cap (image_of p) n)

-- one of the three root words at reset, whose authority is 0 to 2^32
abbrev pub IsRootWord : ℕ → Type 0
IsRootWord high = (high ≡ memory_root) ⊎ (high ≡ executable_root) ⊎ (high ≡ sealing_root)

-- derived from a root word: address, exact bounds, a set of rights, address, and a seal
pub record IsDerivedFromRoot (c : Cap) : Type 0 where
  pub high : ℕ
  pub root_word : IsRootWord high
  pub base : ℕ
  pub length : ℕ
  pub set : ℕ
  pub address : ℕ
  pub kind : ℕ
  pub from : Shadow
  pub is : c ≡ derive high base length set address kind from

-- derived, or that with another address, as a program counter stands at its first instruction
abbrev pub ComesFromRoot : Cap → Type 0
ComesFromRoot c = IsDerivedFromRoot c ⊎ ((d : Cap) × (at : ℕ) × IsDerivedFromRoot d × (c ≡ with_address d at))
