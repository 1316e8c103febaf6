-- What the running thread's instruction loads or stores through.
use Rattle.std.specs.Prelude.{ℕ, ◌≡◌, ◌&&◌, Bool, false, Option, Some, None, if◌then◌else◌}
use Rattle.def_words.specs.declared.Cap.{Cap}
use Rattle.def_words.specs.Permissions.{load_data, store_data}
use Rattle.def_instr.specs.declared.Instr.{Instr}
use Rattle.def_machine.specs.State.{State}
use Rattle.def_step.specs.declared.Access.{Access}
use Rattle.def_step.specs.Accesses.{MemoryAndDevices, access_of, access_checks, access_address, accessed}
use Rattle.def_step.specs.Checks.{first_failed}
use Rattle.def_step.specs.Instructions.{operand}
use Rattle.def_step.specs.Operands.{operands_of}

-- the capability that authorises an instruction of thread t, the value that it may store, and the address at which it
-- begins
abbrev pub authority_of : State → ℕ → Instr → Cap
authority_of s t k = operand s t (operands_of k).first

abbrev pub value_of : State → ℕ → Instr → Cap
value_of s t k = operand s t (operands_of k).second

abbrev pub access_start : State → ℕ → Instr → ℕ
access_start s t k = access_address (access_of k) (authority_of s t k)

-- all checks of a load or store pass
abbrev pub AccessPasses : State → ℕ → Instr → Type 0
AccessPasses s t k =
    first_failed
    (access_checks (access_of k) (authority_of s t k) (value_of s t k) (access_start s t k))
    ≡ None

-- the right that an access uses
abbrev pub used_right : Access → ℕ
used_right a = if a.loads then load_data else store_data

-- a capability is moved: the load gives a tagged value, or the store is given one
abbrev pub moves_capability : Access → Cap → Cap → ℕ → MemoryAndDevices → Bool
moves_capability a x y at p =
    if a.loads then is_tagged (accessed a x y at p).value else a.whole && y.tag
  where
    is_tagged : Option Cap → Bool
    is_tagged None = false
    is_tagged (Some c) = c.tag
