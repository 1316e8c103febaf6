-- A state whose frames have 0 in place of their exports' numbers, which is no export and passes none. All that the
-- invariant says of a frame's export is that a frame whose export passes capabilities is joined to its caller; so it holds
-- of such a state where all of it but that fact holds of the state.
use Rattle.std.specs.Prelude.{map}
use Rattle.def_machine.specs.State.{State, Thread, Frame}

abbrev pub without_export : Frame → Frame
without_export f = record f { export = 0 }

abbrev pub without_exports : State → State
without_exports s = record s {
  threads = map (λ (t : Thread). record t { frames = map without_export t.frames }) s.threads;
}
