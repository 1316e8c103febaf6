-- Which check comes first: what trap a fetch, an access, a jump by a register, a call or a routine's word comes to where
-- several of its checks fail, and that it passes where none does.
use Rattle.std.specs.Prelude.{ℕ, ◌≡◌, ◌+◌, ◌%◌, ◌==◌, ◌&&◌, ◌||◌, Bool, true, false, Some, None}
use Rattle.std.specs.Int.{is_in_range}
use Rattle.def_profile.specs.declared.seals.TheConstants.{EXPORT_TYPE, RETURN_DISABLE, RETURN_ENABLE}
use Rattle.def_profile.specs.declared.traps.TheConstants.{BOUNDS_CODE, EXECUTE_CODE, LOAD_CODE, MISALIGNED_FETCH, MISALIGNED_LOAD, MISALIGNED_STORE, PCC_REGISTER, SEAL_CODE, STORE_CAPABILITY_CODE, STORE_CODE, TAG_CODE}
use Rattle.def_words.specs.declared.Cap.{Cap}
use Rattle.def_words.specs.declared.Trap.{Trap}
use Rattle.def_words.specs.Authority.{cap_address, cap_base}
use Rattle.def_words.specs.Capability.{is_range_inside}
use Rattle.def_words.specs.Permissions.{execute, has, load_data, memory_capability, store_data, store_local}
use Rattle.def_words.specs.Seals.{cap_seal, is_jump_taken, is_unsealed}
use Rattle.def_words.specs.Traps.{capability_trap, plain_trap}
use Rattle.def_machine.specs.Image.{Image}
use Rattle.def_machine.specs.State.{State, Thread, register, thread}
use Rattle.def_step.specs.declared.Access.{Access}
use Rattle.def_step.specs.Accesses.{access_checks}
use Rattle.def_step.specs.Checks.{first_failed}
use Rattle.def_step.specs.Instructions.{fetch_checks}
use Rattle.def_step.specs.Jumps.{register_jump_checks, register_target}
use Rattle.def_step.specs.Routines.{lies_in_ram, word_checks}
use Rattle.def_step.specs.Switch.{gate_checks, return_checks, stack_checks, switch_checks}
use Rattle.def_safety.specs.Traps.{routine_checks}

-- capability x is tagged and unsealed
pub record IsOpen (x : Cap) : Type 0 where
  pub tag : x.tag ≡ true
  pub seal : is_unsealed x ≡ true

-- A fetch asks for the tag, then for no seal, then for the right to execute, then for four bytes in bounds.
pub record FetchOrder (pcc : Cap) : Type 0 where
  pub tag : pcc.tag ≡ false
      → first_failed (fetch_checks pcc) ≡ Some (capability_trap TAG_CODE PCC_REGISTER)
  pub seal : pcc.tag ≡ true → is_unsealed pcc ≡ false
      → first_failed (fetch_checks pcc) ≡ Some (capability_trap SEAL_CODE PCC_REGISTER)
  pub right : IsOpen pcc → has pcc execute ≡ false
      → first_failed (fetch_checks pcc) ≡ Some (capability_trap EXECUTE_CODE PCC_REGISTER)
  pub bounds : IsOpen pcc → has pcc execute ≡ true
      → is_range_inside pcc (cap_address pcc) (cap_address pcc + 4) ≡ false
      → first_failed (fetch_checks pcc) ≡ Some (capability_trap BOUNDS_CODE PCC_REGISTER)
  pub passes : IsOpen pcc → has pcc execute ≡ true
      → is_range_inside pcc (cap_address pcc) (cap_address pcc + 4) ≡ true
      → first_failed (fetch_checks pcc) ≡ None

-- A load through x asks for the tag, no seal, the right to load, its bytes in bounds, and an address that is a multiple
-- of its width.
pub record LoadOrder (a : Access) (x y : Cap) (at : ℕ) : Type 0 where
  pub tag : x.tag ≡ false
      → first_failed (access_checks a x y at) ≡ Some (capability_trap TAG_CODE a.by)
  pub seal : x.tag ≡ true → is_unsealed x ≡ false
      → first_failed (access_checks a x y at) ≡ Some (capability_trap SEAL_CODE a.by)
  pub right : IsOpen x → has x load_data ≡ false
      → first_failed (access_checks a x y at) ≡ Some (capability_trap LOAD_CODE a.by)
  pub bounds : IsOpen x → has x load_data ≡ true
      → is_range_inside x at (at + a.width) ≡ false
      → first_failed (access_checks a x y at) ≡ Some (capability_trap BOUNDS_CODE a.by)
  pub aligned : IsOpen x → has x load_data ≡ true → is_range_inside x at (at + a.width) ≡ true
      → (at % a.width == 0) ≡ false
      → first_failed (access_checks a x y at) ≡ Some (plain_trap MISALIGNED_LOAD)
  pub passes : IsOpen x → has x load_data ≡ true → is_range_inside x at (at + a.width) ≡ true
      → (at % a.width == 0) ≡ true
      → first_failed (access_checks a x y at) ≡ None

-- A store of y through x asks for the tag, no seal, the right to store, where a capability is stored with its tag the
-- right to store capabilities, its bytes in bounds, and an address that is a multiple of its width.
pub record StoreOrder (a : Access) (x y : Cap) (at : ℕ) : Type 0 where
  pub tag : x.tag ≡ false
      → first_failed (access_checks a x y at) ≡ Some (capability_trap TAG_CODE a.by)
  pub seal : x.tag ≡ true → is_unsealed x ≡ false
      → first_failed (access_checks a x y at) ≡ Some (capability_trap SEAL_CODE a.by)
  pub right : IsOpen x → has x store_data ≡ false
      → first_failed (access_checks a x y at) ≡ Some (capability_trap STORE_CODE a.by)
  pub capability : IsOpen x → has x store_data ≡ true → a.whole ≡ true → y.tag ≡ true
      → has x memory_capability ≡ false
      → first_failed (access_checks a x y at)
      ≡ Some (capability_trap STORE_CAPABILITY_CODE a.by)
  pub bounds : IsOpen x → has x store_data ≡ true
      → (a.whole ≡ true → y.tag ≡ true → has x memory_capability ≡ true)
      → is_range_inside x at (at + a.width) ≡ false
      → first_failed (access_checks a x y at) ≡ Some (capability_trap BOUNDS_CODE a.by)
  pub aligned : IsOpen x → has x store_data ≡ true
      → (a.whole ≡ true → y.tag ≡ true → has x memory_capability ≡ true)
      → is_range_inside x at (at + a.width) ≡ true → (at % a.width == 0) ≡ false
      → first_failed (access_checks a x y at) ≡ Some (plain_trap MISALIGNED_STORE)
  pub passes : IsOpen x → has x store_data ≡ true
      → (a.whole ≡ true → y.tag ≡ true → has x memory_capability ≡ true)
      → is_range_inside x at (at + a.width) ≡ true → (at % a.width == 0) ≡ true
      → first_failed (access_checks a x y at) ≡ None

-- a jump by register `at` that leaves its link in register `to` may open x's seal, and has no offset n under one
abbrev pub may_open : ℕ → ℕ → Cap → ℕ → Bool
may_open to at x n = is_jump_taken to at (cap_seal x) && (is_unsealed x || (n == 0))

-- A jump by a register asks for the tag, a seal that it may open and no offset under one, the right to execute, and a
-- target that is a multiple of 4.
pub record JumpOrder (to at : ℕ) (x : Cap) (n : ℕ) : Type 0 where
  pub tag : x.tag ≡ false
      → first_failed (register_jump_checks to at x n) ≡ Some (capability_trap TAG_CODE at)
  pub seal : x.tag ≡ true
      → may_open to at x n ≡ false
      → first_failed (register_jump_checks to at x n) ≡ Some (capability_trap SEAL_CODE at)
  pub right : x.tag ≡ true
      → may_open to at x n ≡ true
      → has x execute ≡ false
      → first_failed (register_jump_checks to at x n) ≡ Some (capability_trap EXECUTE_CODE at)
  pub aligned : x.tag ≡ true
      → may_open to at x n ≡ true
      → has x execute ≡ true → (register_target x n % 4 == 0) ≡ false
      → first_failed (register_jump_checks to at x n) ≡ Some (plain_trap MISALIGNED_FETCH)
  pub passes : x.tag ≡ true
      → may_open to at x n ≡ true
      → has x execute ≡ true → (register_target x n % 4 == 0) ≡ true
      → first_failed (register_jump_checks to at x n) ≡ None

-- The way back, c1, is asked for the tag, then to be a return sentry.
pub record ReturnOrder (c : Cap) : Type 0 where
  pub tag : c.tag ≡ false → first_failed (return_checks c) ≡ Some (capability_trap TAG_CODE 1)
  pub seal : c.tag ≡ true → is_in_range RETURN_DISABLE RETURN_ENABLE (cap_seal c) ≡ false
      → first_failed (return_checks c) ≡ Some (capability_trap SEAL_CODE 1)
  pub passes : c.tag ≡ true → is_in_range RETURN_DISABLE RETURN_ENABLE (cap_seal c) ≡ true
      → first_failed (return_checks c) ≡ None

-- The import of a call, c6, is asked for the tag, then for its type.
pub record GateOrder (c : Cap) : Type 0 where
  pub tag : c.tag ≡ false → first_failed (gate_checks c) ≡ Some (capability_trap TAG_CODE 6)
  pub seal : c.tag ≡ true → (cap_seal c == EXPORT_TYPE) ≡ false
      → first_failed (gate_checks c) ≡ Some (capability_trap SEAL_CODE 6)
  pub passes : c.tag ≡ true → (cap_seal c == EXPORT_TYPE) ≡ true
      → first_failed (gate_checks c) ≡ None

-- The stack, c2, is asked for the tag, no seal, the right to store local capabilities, and for the base of the thread's
-- stack and an address no further than the frame's top.
pub record StackOrder (base top : ℕ) (c : Cap) : Type 0 where
  pub tag : c.tag ≡ false
      → first_failed (stack_checks base top c) ≡ Some (capability_trap TAG_CODE 2)
  pub seal : c.tag ≡ true → is_unsealed c ≡ false
      → first_failed (stack_checks base top c) ≡ Some (capability_trap SEAL_CODE 2)
  pub right : IsOpen c → has c store_local ≡ false
      → first_failed (stack_checks base top c) ≡ Some (capability_trap STORE_CODE 2)
  pub bounds : IsOpen c → has c store_local ≡ true
      → ((cap_base c == base) && is_in_range base top (cap_address c)) ≡ false
      → first_failed (stack_checks base top c) ≡ Some (capability_trap BOUNDS_CODE 2)
  pub passes : IsOpen c → has c store_local ≡ true
      → ((cap_base c == base) && is_in_range base top (cap_address c)) ≡ true
      → first_failed (stack_checks base top c) ≡ None

-- A call looks at its way back first, then at its import, then at its stack.
pub record CallOrder (base top : ℕ) (caller : Thread) : Type 0 where
  pub back : (why : Trap) → first_failed (return_checks (register caller 1)) ≡ Some why
      → first_failed (switch_checks base top caller) ≡ Some why
  pub gate : (why : Trap) → first_failed (return_checks (register caller 1)) ≡ None
      → first_failed (gate_checks (register caller 6)) ≡ Some why
      → first_failed (switch_checks base top caller) ≡ Some why
  pub stack : first_failed (return_checks (register caller 1)) ≡ None
      → first_failed (gate_checks (register caller 6)) ≡ None
      → first_failed (switch_checks base top caller)
      ≡ first_failed (stack_checks base top (register caller 2))

-- The word of a wait or a wake, c10, is asked for the tag, no seal, the right to load, four bytes in bounds and in RAM,
-- and an address that is a multiple of 4.
pub record WordOrder (i : Image) (s : State) (c : Cap) : Type 0 where
  pub tag : c.tag ≡ false
      → first_failed (word_checks i s c) ≡ Some (capability_trap TAG_CODE 10)
  pub seal : c.tag ≡ true → is_unsealed c ≡ false
      → first_failed (word_checks i s c) ≡ Some (capability_trap SEAL_CODE 10)
  pub right : IsOpen c → has c load_data ≡ false
      → first_failed (word_checks i s c) ≡ Some (capability_trap LOAD_CODE 10)
  pub bounds : IsOpen c → has c load_data ≡ true
      → (is_range_inside c (cap_address c) (cap_address c + 4)
      && lies_in_ram i s (cap_address c) 4) ≡ false
      → first_failed (word_checks i s c) ≡ Some (capability_trap BOUNDS_CODE 10)
  pub aligned : IsOpen c → has c load_data ≡ true
      → (is_range_inside c (cap_address c) (cap_address c + 4)
      && lies_in_ram i s (cap_address c) 4) ≡ true
      → (cap_address c % 4 == 0) ≡ false
      → first_failed (word_checks i s c) ≡ Some (plain_trap MISALIGNED_LOAD)
  pub passes : IsOpen c → has c load_data ≡ true
      → (is_range_inside c (cap_address c) (cap_address c + 4)
      && lies_in_ram i s (cap_address c) 4) ≡ true
      → (cap_address c % 4 == 0) ≡ true
      → first_failed (word_checks i s c) ≡ None

-- A wait and a wake, routine n of thread t, look at their way back first, then at their word.
pub record WaitOrder (i : Image) (s : State) (t n : ℕ) : Type 0 where
  pub back : (why : Trap)
      → first_failed (return_checks (register (thread s t) 1)) ≡ Some why
      → first_failed (routine_checks i s t n) ≡ Some why
  pub word : first_failed (return_checks (register (thread s t) 1)) ≡ None
      → first_failed (routine_checks i s t n)
      ≡ first_failed (word_checks i s (register (thread s t) 10))
