-- What an image may hold; the limits that differ from version to version are the profile's.
use Rattle.std.specs.Prelude.{ℕ, Bool, not}
use Rattle.std.specs.Int.{is_in_range}
use Rattle.def_profile.specs.declared.limits.TheConstants.{LAST_VERSION}
use Rattle.def_native.specs.declared.TheConstants.{LAST_NATIVE}

abbrev pub outside : ℕ → ℕ → ℕ → Bool
outside low high n = not (is_in_range low high n)

-- versions begin at 1
abbrev pub last_version : ℕ
last_version = LAST_VERSION

-- a native routine that a slot may name; 0 is the switch
abbrev pub last_service : ℕ
last_service = LAST_NATIVE
