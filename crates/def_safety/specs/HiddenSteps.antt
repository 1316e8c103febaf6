-- What a step works on and what it leaves, with hidden granules.
use Rattle.std.specs.Prelude.{ℕ, ◌-◌, ◌/◌, ◌≡◌, ◌≤◌, Bool, false, None, Result, Ok, Err}
use Rattle.def_words.specs.declared.Cap.{Cap}
use Rattle.def_words.specs.declared.Trap.{Trap}
use Rattle.def_instr.specs.declared.Instr.{Instr}
use Rattle.def_step.specs.Accesses.{MemoryAndDevices, Accessed, access_of, access_address, access_checks}
use Rattle.def_step.specs.Checks.{first_failed}
use Rattle.def_hidden.specs.Hiding.{with_hidden}

abbrev pub hide_space : (ℕ → Bool) → MemoryAndDevices → MemoryAndDevices
hide_space hides p = record p { granules = with_hidden hides p.granules }

abbrev pub hide_accessed : (ℕ → Bool) → Accessed → Accessed
hide_accessed hides m = record m { granules = with_hidden hides m.granules }

abbrev pub hide_result : (ℕ → Bool) → Result Accessed Trap → Result Accessed Trap
hide_result hides (Ok m) = Ok (hide_accessed hides m)
hide_result hides (Err t) = Err t

-- of RAM that begins at `ram`, the granule of address x isn't hidden
abbrev pub IsSeen : (ℕ → Bool) → ℕ → ℕ → Type 0
IsSeen hides ram x = ram ≤ x → hides ((x - ram) / 8) ≡ false

-- the granule that an access reaches isn't hidden, where its checks pass; x and y are its operands
abbrev pub SeesAccess : (ℕ → Bool) → ℕ → Instr → Cap → Cap → Type 0
SeesAccess hides ram i x y =
    first_failed (access_checks (access_of i) x y (access_address (access_of i) x)) ≡ None
    → IsSeen hides ram (access_address (access_of i) x)
