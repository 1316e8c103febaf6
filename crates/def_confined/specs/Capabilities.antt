-- What each tagged capability is, wherever it stands.
use Rattle.std.specs.Prelude.{ℕ, ◌≡◌, ◌≤◌, ◌<◌, ◌≢◌, ◌⊎◌, ◌&&◌, Bool, true, false, not, nat_eq}
use Rattle.def_profile.specs.declared.seals.TheConstants.{SENTRY_INHERIT, SENTRY_DISABLE, SENTRY_ENABLE, RETURN_DISABLE, RETURN_ENABLE, EXPORT_TYPE, QUOTA_TYPE}
use Rattle.def_words.specs.declared.Cap.{Cap}
use Rattle.def_words.specs.Authority.{cap_address, cap_base, cap_top}
use Rattle.def_words.specs.Permissions.{IsLegal, Within, cap_perms, has, global, store_local, execute}
use Rattle.def_words.specs.Seals.{cap_seal}
use Rattle.ct_entry.specs.Kinds.{is_compartment}
use Rattle.ct_entry.specs.declared.rows.Owner.{Owner}
use Rattle.ct_entry.specs.declared.rows.Kind.TheVariants.{Call, Code, Service}
use Rattle.def_reach.specs.Roots.{Origin, TrustedPart, Listing, is_quota, is_stack, is_native, is_root}
use Rattle.def_machine.specs.Image.{Image, root, made_cap}
use Rattle.def_profile.specs.declared.rights.TheConstants.{HEAP_RIGHTS}

-- a heap capability has a quota as root and an object's number as source
abbrev pub heap_cap : Image → Cap → Bool
heap_cap i c = is_quota (root i c.shadow.root).origin && not (nat_eq c.shadow.source 0)

abbrev pub stack_cap : Image → Cap → Bool
stack_cap i c = is_stack (root i c.shadow.root).origin

-- code is a root where it is a compartment's: a library's is not
abbrev pub is_home : Origin → Owner → Bool
is_home (Listing Code) o = is_compartment o
is_home _ o = true

-- the types that boot alone makes: forward sentries, exports and quotas
abbrev pub IsBootType : ℕ → Type 0
IsBootType n =
    (n ≡ SENTRY_INHERIT) ⊎ (n ≡ SENTRY_DISABLE) ⊎ (n ≡ SENTRY_ENABLE) ⊎ (n ≡ EXPORT_TYPE)
    ⊎ (n ≡ QUOTA_TYPE)

abbrev pub IsReturnType : ℕ → Type 0
IsReturnType n = (n ≡ RETURN_DISABLE) ⊎ (n ≡ RETURN_ENABLE)

-- as boot made it but for `global`
pub record AsBoot (i : Image) (c : Cap) : Type 0 where
  pub seal : cap_seal c ≡ cap_seal (made_cap i c.shadow.root)
  pub low : cap_base c ≡ cap_base (made_cap i c.shadow.root)
  pub high : cap_top c ≡ cap_top (made_cap i c.shadow.root)
  pub at : cap_address c ≡ cap_address (made_cap i c.shadow.root)
  pub rights : (p : ℕ) → p ≢ global → has c p ≡ has (made_cap i c.shadow.root) p
  pub source : c.shadow.source ≡ 0

-- parts 1, 4 and 7, as far as they speak of a capability alone
pub record Rooted (i : Image) (c : Cap) : Type 0 where
  pub order : cap_base c ≤ cap_top c
  pub from : is_root (root i c.shadow.root).origin ≡ true
  pub home : is_home (root i c.shadow.root).origin (root i c.shadow.root).owner ≡ true
  pub legal : IsLegal (cap_perms c)
  pub range : heap_cap i c ≡ false
      → ((root i c.shadow.root).base ≤ cap_base c) × (cap_top c ≤ (root i c.shadow.root).top)
  pub heap : heap_cap i c ≡ true → (i.heap_base ≤ cap_base c) × (cap_top c ≤ i.heap_end)
  pub rights : heap_cap i c ≡ false → Within (cap_perms c) (root i c.shadow.root).rights
  pub heap_rights : heap_cap i c ≡ true → Within (cap_perms c) HEAP_RIGHTS
  pub local : has c store_local ≡ true → stack_cap i c ≡ true
  pub held : stack_cap i c ≡ true → has c global ≡ false
  pub returns : IsReturnType (cap_seal c)
      → (cap_base c < cap_top c) × (has c execute ≡ true) × (heap_cap i c ≡ false)
  pub source : cap_seal c ≡ RETURN_DISABLE → (root i c.shadow.source).disabled ≡ true
  pub boot : IsBootType (cap_seal c) → AsBoot i c
  pub calls : cap_seal c ≡ EXPORT_TYPE → (root i c.shadow.root).origin ≡ Listing Call
  pub native : is_native (root i c.shadow.root).origin ≡ true
      → cap_address c ≡ cap_address (made_cap i c.shadow.root)

-- part 7, of every place but a program counter: a service's capability is a sentry, and so is the trusted
-- part's
abbrev pub Kept : Image → Cap → Type 0
Kept i c =
    c.tag ≡ true
    → ((root i c.shadow.root).origin ≡ Listing Service → cap_seal c ≡ SENTRY_INHERIT)
    × ((root i c.shadow.root).origin ≡ TrustedPart → cap_seal c ≡ RETURN_ENABLE)
