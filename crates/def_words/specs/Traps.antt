-- Traps: one of cause 28 says which check of a capability failed, and of which register; the others say neither.
use Rattle.std.specs.Prelude.{ℕ}
use Rattle.def_profile.specs.declared.traps.TheConstants.{CAPABILITY_FAULT}
use Rattle.def_words.specs.declared.Trap.{Trap}

abbrev pub trap : ℕ → ℕ → ℕ → Trap
trap cause code register = record { cause = cause; code = code; register = register }

-- the code says which check, the register which capability
abbrev pub capability_trap : ℕ → ℕ → Trap
capability_trap code register = trap CAPABILITY_FAULT code register

abbrev pub plain_trap : ℕ → Trap
plain_trap cause = trap cause 0 0
