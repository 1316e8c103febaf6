-- *Licensed*: what a deed, or a span with interrupts off, needs of the report.
use Rattle.std.specs.Prelude.{ℕ, ◌≡◌, ◌+◌, ◌≤◌, ◌<◌, ◌⊎◌, true}
use Rattle.def_profile.specs.declared.traps.TheConstants.{MISALIGNED_FETCH, ILLEGAL_INSTRUCTION, BREAKPOINT, MISALIGNED_LOAD, MISALIGNED_STORE, ENVIRONMENT_CALL, CAPABILITY_FAULT, BOUNDS_CODE, TAG_CODE, SEAL_CODE, EXECUTE_CODE, LOAD_CODE, STORE_CODE, STORE_CAPABILITY_CODE, SYSTEM_REGISTER_CODE, PCC_REGISTER}
use Rattle.ct_entry.specs.declared.rows.Kind.TheVariants as kind
use Rattle.ct_entry.specs.declared.acts.Act.{Act}
use Rattle.ct_entry.specs.declared.acts.Act.TheVariants.{Call, Load, Store, Allocate, Free, Trap}
use Rattle.ct_entry.specs.declared.acts.Deed.{Deed}
use Rattle.ct_entry.specs.declared.acts.Owned.{Owned}
use Rattle.ct_entry.specs.Listed.{Listed}
use Rattle.def_words.specs.Permissions.{bit, load_data, store_data}
use Rattle.def_reach.specs.Roots.{Listing, root_of}
use Rattle.def_reach.specs.Sharing.{Reaches}

-- causes that have no code
abbrev pub IsPlainCause : ℕ → Type 0
IsPlainCause cause =
    (cause ≡ MISALIGNED_FETCH) ⊎ (cause ≡ ILLEGAL_INSTRUCTION) ⊎ (cause ≡ BREAKPOINT)
    ⊎ (cause ≡ MISALIGNED_LOAD) ⊎ (cause ≡ MISALIGNED_STORE) ⊎ (cause ≡ ENVIRONMENT_CALL)

-- codes that name the program counter, and codes that name a register
abbrev pub IsCodeOfPcc : ℕ → Type 0
IsCodeOfPcc code =
    (code ≡ BOUNDS_CODE) ⊎ (code ≡ TAG_CODE) ⊎ (code ≡ SEAL_CODE) ⊎ (code ≡ EXECUTE_CODE)
    ⊎ (code ≡ SYSTEM_REGISTER_CODE)

abbrev pub IsCodeOfRegister : ℕ → Type 0
IsCodeOfRegister code =
    (code ≡ BOUNDS_CODE) ⊎ (code ≡ TAG_CODE) ⊎ (code ≡ SEAL_CODE) ⊎ (code ≡ EXECUTE_CODE)
    ⊎ (code ≡ LOAD_CODE) ⊎ (code ≡ STORE_CODE) ⊎ (code ≡ STORE_CAPABILITY_CODE)

-- what the checks of instructions and routines answer: a capability's fault with its code and the register that
-- failed, or the program counter; any other cause with zeros
abbrev pub IsTrap : ℕ → ℕ → ℕ → Type 0
IsTrap cause code register =
    (IsPlainCause cause × (code ≡ 0) × (register ≡ 0))
    ⊎ ((cause ≡ CAPABILITY_FAULT) × (register ≡ PCC_REGISTER) × IsCodeOfPcc code)
    ⊎ ((cause ≡ CAPABILITY_FAULT) × (register < PCC_REGISTER) × IsCodeOfRegister code)

-- a device import that the actor is reached through, with this right, and the access in its range
abbrev pub IsDeviceAccess : Listed → Deed → ℕ → ℕ → ℕ → Type 0
IsDeviceAccess e d address width right =
    ((root_of e d.entry).origin ≡ Listing kind.Device) × Reaches e (root_of e d.entry).owner d.actor
    × ((root_of e d.entry).base ≤ address) × (address + width ≤ (root_of e d.entry).top)
    × (bit (root_of e d.entry).rights right ≡ true)

-- a quota that the actor is reached through, whose limit the live charges keep
abbrev pub IsQuotaUse : Listed → Deed → ℕ → Type 0
IsQuotaUse e d live =
    ((root_of e d.entry).origin ≡ Listing kind.Quota) × Reaches e (root_of e d.entry).owner d.actor
    × (live ≤ (root_of e d.entry).limit)

abbrev pub IsLicensed : Listed → Deed → Act → Type 0
IsLicensed e d (Call export) =
    ((root_of e d.entry).origin ≡ Listing kind.Call) × ((root_of e d.entry).of ≡ export)
    × Reaches e (root_of e d.entry).owner d.actor
IsLicensed e d (Load address width value) = IsDeviceAccess e d address width load_data
IsLicensed e d (Store address width value) = IsDeviceAccess e d address width store_data
IsLicensed e d (Allocate number base length live) = IsQuotaUse e d live
IsLicensed e d (Free number base length live) = IsQuotaUse e d live
IsLicensed e d (Trap cause code register) = (d.entry ≡ 0) × IsTrap cause code register

abbrev pub Licensed : Listed → Deed → Type 0
Licensed e d = IsLicensed e d d.act

abbrev pub OffLicensed : Listed → Owned → Type 0
OffLicensed e o =
    ((root_of e o.export).origin ≡ Listing kind.Export) × ((root_of e o.export).disabled ≡ true)
    × Reaches e (root_of e o.export).owner o.actor
