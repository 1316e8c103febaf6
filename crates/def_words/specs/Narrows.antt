-- What the laws of confinement ask of the words that operations make, each under the result's tag.
use Rattle.std.specs.Prelude.{ℕ, ◌≡◌, ◌≤◌, ◌≢◌, true, false}
use Rattle.def_profile.specs.declared.seals.TheConstants.{RETURN_DISABLE, RETURN_ENABLE}
use Rattle.def_words.specs.declared.Cap.{Cap}
use Rattle.def_words.specs.declared.Posture.{Posture}
use Rattle.def_words.specs.Authority.{cap_address, cap_base, cap_top}
use Rattle.def_words.specs.Permissions.{IsLegal, Within, cap_perms, has, global}
use Rattle.def_words.specs.Seals.{cap_seal}

-- d's authority, rights and shadow are within c's
pub record Narrows (c d : Cap) : Type 0 where
  pub tagged : c.tag ≡ true
  pub shadows : d.shadow ≡ c.shadow
  pub order : cap_base c ≤ cap_top c → cap_base d ≤ cap_top d
  pub low : cap_base c ≤ cap_base d
  pub high : cap_top d ≤ cap_top c
  pub legal : IsLegal (cap_perms d)
  pub rights : Within (cap_perms d) (cap_perms c)

-- both unsealed
pub record Unsealed (c d : Cap) : Type 0 where
  pub before : cap_seal c ≡ 0
  pub after : cap_seal d ≡ 0

-- as it was but for `global`
pub record SameSeal (c d : Cap) : Type 0 where
  pub kind : cap_seal d ≡ cap_seal c
  pub same_base : cap_base d ≡ cap_base c
  pub same_top : cap_top d ≡ cap_top c
  pub same_address : cap_address d ≡ cap_address c
  pub same_rights : (p : ℕ) → p ≢ global → has d p ≡ has c p

-- p is c unsealed, as a jump or a return makes it
pub record IsOpened (c p : Cap) : Type 0 where
  pub tagged : c.tag ≡ true
  pub root : p.shadow.root ≡ c.shadow.root
  pub source : p.shadow.source ≡ 0
  pub same_base : cap_base p ≡ cap_base c
  pub same_top : cap_top p ≡ cap_top c
  pub same_rights : cap_perms p ≡ cap_perms c
  pub unsealed : cap_seal p ≡ 0

-- l is the link of a jump from pcc under this posture
pub record IsLink (pcc : Cap) (before : Posture) (l : Cap) : Type 0 where
  pub tagged : pcc.tag ≡ true
  pub root : l.shadow.root ≡ pcc.shadow.root
  pub same_base : cap_base l ≡ cap_base pcc
  pub same_top : cap_top l ≡ cap_top pcc
  pub same_rights : cap_perms l ≡ cap_perms pcc
  pub off : before.off ≡ true → (cap_seal l ≡ RETURN_DISABLE) × (l.shadow.source ≡ before.source)
  pub on : before.off ≡ false → (cap_seal l ≡ RETURN_ENABLE) × (l.shadow.source ≡ 0)

-- d was made by derive
pub record IsMade (low high set address kind : ℕ) (d : Cap) : Type 0 where
  pub tagged : d.tag ≡ true
  pub base_is : cap_base d ≡ low
  pub top_is : cap_top d ≡ high
  pub rights_are : cap_perms d ≡ set
  pub address_is : cap_address d ≡ address
  pub kind_is : cap_seal d ≡ kind
