-- A script that may come to a machine.
use Rattle.std.specs.Prelude.{◌<◌, ◌≤◌, List, length, All}
use Rattle.def_profile.specs.declared.limits.TheConstants.{MOST_STEPS}
use Rattle.def_machine.specs.State.{State}
use Rattle.def_script.specs.Script.{Due}

-- no more bytes than may come, each to one of the machine's devices
pub record IsPlayable (script : List Due) (s : State) : Type 0 where
  pub few : length script ≤ MOST_STEPS
  pub named : All (λ (d : Due). d.given.device < length s.devices) script
