-- A call whose checks passed, and the stack that its callee gets.
use Rattle.std.specs.Prelude.{ℕ, ◌≡◌, ◌-◌, true, List}
use Rattle.def_profile.specs.declared.rights.TheConstants.{STACK_RIGHTS}
use Rattle.def_words.specs.declared.Cap.{Cap}
use Rattle.def_words.specs.declared.Shadow.{Shadow}
use Rattle.def_words.specs.Derive.{derive, memory_root}
use Rattle.def_words.specs.Permissions.{has, store_local}
use Rattle.def_machine.specs.Image.{Image, stack_base}
use Rattle.def_machine.specs.State.{State, Frame, register, thread}
use Rattle.def_confined.specs.Changes.{IsCall}

-- a thread's stack from its base up to an address
abbrev pub stack_up_to : Image → ℕ → ℕ → Shadow → Cap
stack_up_to i t high from =
    derive memory_root (stack_base i t) (high - stack_base i t) STACK_RIGHTS high 0 from

-- a call whose checks passed: c2 may store what is local
pub record PassesChecks (i : Image) (s : State) (t : ℕ) (g : Frame) (gs : List Frame)
    (callee export high : ℕ) : Type 0 where
  pub call : IsCall i s t g gs callee export high
  pub stack_tagged : (register (thread s t) 2).tag ≡ true
  pub stack_local : has (register (thread s t) 2) store_local ≡ true
