-- The clockwork's own course.
use Rattle.def_machine.specs.State.{State}
use Rattle.def_machine.specs.Threads.{Clockwork}

abbrev pub with_clock : State → Clockwork → State
with_clock s w =
    record s {
      pending = w.pending;
      devices = w.devices;
      time = w.time;
      picks = w.picks;
      counts = w.counts;
    }
