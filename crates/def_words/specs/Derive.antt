-- Derive: a capability made from a root word. Boot, switch and heap make all of theirs so.
use Rattle.std.specs.Prelude.{ℕ, ◌%◌, ◌==◌, true, if◌then◌else◌}
use Rattle.def_profile.specs.declared.rights.TheConstants.{MEMORY_ROOT, EXECUTABLE_ROOT, SEALING_ROOT}
use Rattle.def_words.specs.declared.Cap.{Cap}
use Rattle.def_words.specs.declared.Shadow.{Shadow}
use Rattle.def_words.specs.Authority.{word_of}
use Rattle.def_words.specs.Capability.{cap_of, with_address, with_exact_bounds, masked, word_sealed}

-- the high words of the three roots at reset: memory, executable, sealing; each has all permissions of its
-- form and bounds 0 to 2^32
unfoldable pub memory_root : ℕ
memory_root = MEMORY_ROOT

unfoldable pub executable_root : ℕ
executable_root = EXECUTABLE_ROOT

unfoldable pub sealing_root : ℕ
sealing_root = SEALING_ROOT

-- the root itself, at address 0
abbrev pub root_cap : ℕ → Shadow → Cap
root_cap high from = cap_of true (word_of high 0) from

-- sealed as a type where that isn't 0
abbrev pub sealed_as : Cap → ℕ → Cap
sealed_as c kind = if kind == 0 then c else cap_of c.tag (word_sealed c (kind % 8)) c.shadow

-- set the address to base, set exact bounds, keep the set, set the address, and seal where a type is given
unfoldable pub derive : ℕ → ℕ → ℕ → ℕ → ℕ → ℕ → Shadow → Cap
derive high base length set address kind from =
    sealed_as
    (with_address
    (masked (with_exact_bounds (with_address (root_cap high from) base) length) set) address)
    kind
