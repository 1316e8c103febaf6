-- What the laws of stores and loads take of the register that authorises them.
use Rattle.std.specs.Prelude.{ℕ, ◌≡◌, ◌≤◌, ◌<◌, true, Some}
use Rattle.def_words.specs.Authority.{cap_base, cap_top}
use Rattle.def_words.specs.Permissions.{has}
use Rattle.def_machine.specs.Image.{Image}
use Rattle.def_machine.specs.State.{State, register, thread}

-- register `at` of the running thread t authorises an access with this right at an address of RAM
pub record Authorises (i : Image) (s : State) (t at right x : ℕ) : Type 0 where
  pub runs : s.running ≡ Some t
  pub inside : i.ram ≤ x
  pub tagged : (register (thread s t) at).tag ≡ true
  pub may : has (register (thread s t) at) right ≡ true
  pub low : cap_base (register (thread s t) at) ≤ x
  pub high : x < cap_top (register (thread s t) at)
