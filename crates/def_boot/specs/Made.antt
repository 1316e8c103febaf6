-- The capability that boot makes for each entry: derived from a root word, with the entry's range and rights, and
-- carrying the entry's number.
use Rattle.std.specs.Prelude.{ℕ, ◌+◌, List, [], ◌∷◌, slice_index_or}
use Rattle.ct_entry.specs.declared.rows.Entry.{Entry}
use Rattle.ct_entry.specs.declared.rows.Gate.{Gate}
use Rattle.ct_entry.specs.declared.rows.Owner.{Owner}
use Rattle.ct_entry.specs.declared.rows.Owner.TheVariants.{Compartment}
use Rattle.ct_entry.specs.declared.rows.Kind.{Kind}
use Rattle.ct_entry.specs.declared.rows.Kind.TheVariants as kind
use Rattle.ct_entry.specs.declared.rows.Mode.{Mode}
use Rattle.ct_entry.specs.declared.rows.Mode.TheVariants as mode
use Rattle.def_profile.specs.declared.rights.TheConstants.{SERVICE_RIGHTS}
use Rattle.def_profile.specs.declared.native.TheConstants.{RETURN_ENTRY, NATIVE_LENGTH}
use Rattle.def_profile.specs.declared.seals.TheConstants.{SENTRY_INHERIT, SENTRY_DISABLE, SENTRY_ENABLE, RETURN_ENABLE, EXPORT_TYPE, QUOTA_TYPE}
use Rattle.def_words.specs.declared.Cap.{Cap}
use Rattle.def_words.specs.declared.Shadow.{Shadow}
use Rattle.def_words.specs.Derive.{derive, memory_root, executable_root, sealing_root}
use Rattle.def_memory.specs.Granules.{plain}
use Rattle.def_reach.specs.Roots.{gate_for}
use Rattle.def_image.specs.Parts.{PartsRow}
use Rattle.def_image.specs.Members.{sealed}
use Rattle.def_boot.specs.Entries.{entry_rows}
use Rattle.def_boot.specs.Gates.{gates_of}

abbrev pub from_entry : ℕ → Shadow
from_entry n = record { root = n; source = 0 }

-- entry n's range and rights from this root word, at an address, sealed as a type where that isn't 0
abbrev pub entry_cap_as : ℕ → ℕ → Entry → ℕ → ℕ → Cap
entry_cap_as root n r address type = derive root r.base r.length r.rights address type (from_entry n)

-- the type of a forward sentry, by the posture of its export
abbrev pub sentry_type : Mode → ℕ
sentry_type mode.Inherit = SENTRY_INHERIT
sentry_type mode.Disabled = SENTRY_DISABLE
sentry_type mode.Enabled = SENTRY_ENABLE

-- of a compartment's code; a library has none of its own, since it runs by its importers' sentries
abbrev pub code_cap : ℕ → Entry → Owner → Cap
code_cap n r (Compartment b) = entry_cap_as executable_root n r r.base 0
code_cap n r _ = plain 0

abbrev pub library_cap : ℕ → Entry → Gate → Cap
library_cap n r g = entry_cap_as executable_root n r g.code (sentry_type g.posture)

-- exports have none: calls and library imports name them
abbrev pub entry_cap : PartsRow → ℕ → Entry → Kind → Cap
entry_cap p n r kind.Code = code_cap n r r.owner
entry_cap p n r kind.Globals = entry_cap_as memory_root n r r.base 0
entry_cap p n r kind.Stack = entry_cap_as memory_root n r (r.base + r.length) 0
entry_cap p n r kind.Service = entry_cap_as executable_root n r r.base SENTRY_INHERIT
entry_cap p n r kind.Device = entry_cap_as memory_root n r r.base 0
entry_cap p n r kind.Shared = entry_cap_as memory_root n r r.base 0
entry_cap p n r kind.Sealed = entry_cap_as memory_root n r r.base (sealed p r.of).seal
entry_cap p n r kind.Call = entry_cap_as memory_root n r r.base EXPORT_TYPE
entry_cap p n r kind.Library = library_cap n r (gate_for (gates_of p) r.of)
entry_cap p n r kind.Quota = entry_cap_as memory_root n r r.base QUOTA_TYPE
entry_cap p n r kind.Key = entry_cap_as sealing_root n r r.base 0
entry_cap p n r kind.Export = plain 0

abbrev pub entry_caps : PartsRow → ℕ → List Entry → List Cap
entry_caps p n [] = []
entry_caps p n (r ∷ rs) = entry_cap p n r r.kind ∷ entry_caps p (n + 1) rs

-- the return's native entry, as a return sentry that turns interrupts on, with the trusted part's number
abbrev pub return_sentry : Cap
return_sentry =
    derive executable_root RETURN_ENTRY NATIVE_LENGTH SERVICE_RIGHTS RETURN_ENTRY RETURN_ENABLE
    (from_entry 0)

-- by number; number 0 is the trusted part's
unfoldable pub caps_at_boot : PartsRow → List Cap
caps_at_boot p = return_sentry ∷ entry_caps p 1 (entry_rows p)

abbrev pub boot_cap_of : PartsRow → ℕ → Cap
boot_cap_of p n = slice_index_or (caps_at_boot p) n (plain 0)
