-- What an image's machine is after events.
use Rattle.std.specs.Prelude.{List}
use Rattle.def_machine.specs.State.{State}
use Rattle.def_step.specs.declared.Event.{Event}
use Rattle.def_step.specs.Events.{run}
use Rattle.def_image.specs.Parts.{PartsRow}
use Rattle.def_boot.specs.Boot.{platform_of, boot_state}

-- what an image's machine is after these events from its boot
abbrev pub state_after : PartsRow → List Event → State
state_after p es = run (platform_of p) (boot_state p) es
