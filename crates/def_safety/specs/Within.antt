-- *Machine stays inside*: where what a thread holds lies.
use Rattle.std.specs.Prelude.{ℕ, ◌≡◌, ◌+◌, ◌≤◌, ◌<◌, ◌⊎◌, true}
use Rattle.def_words.specs.declared.Cap.{Cap}
use Rattle.def_words.specs.Authority.{cap_base, cap_top}
use Rattle.def_words.specs.Permissions.{has, load_data, store_data, execute}
use Rattle.def_machine.specs.Heap.{ram_size}
use Rattle.def_machine.specs.State.{State, register, thread}
use Rattle.def_machine.specs.Platform.{Platform}
use Rattle.def_safety.specs.Inside.{IsReachable}

-- something may be loaded, stored or run through a capability
abbrev pub MayTouch : Cap → Type 0
MayTouch c =
    (has c load_data ≡ true) ⊎ (has c store_data ≡ true) ⊎ (has c execute ≡ true)

-- where something may be touched through it, each address of its bounds is one of RAM, of a device, or of a native
-- routine's entry
abbrev pub StaysWithin : Platform → State → Cap → Type 0
StaysWithin b s c =
    c.tag ≡ true → MayTouch c
    → (x : ℕ) → cap_base c ≤ x → x < cap_top c → IsReachable b (b.image.ram + ram_size s) x

-- each register and program counter of a thread
pub record ThreadsWithin (b : Platform) (s : State) : Type 0 where
  pub registers : (t n : ℕ) → StaysWithin b s (register (thread s t) n)
  pub counters : (t : ℕ) → StaysWithin b s (thread s t).pcc
