-- A thread that starts: as the machine's state has it, and its row.
use Rattle.std.specs.Prelude.{◌+◌, false}
use Rattle.def_machine.specs.State.{Thread}
use Rattle.ct_areas.specs.declared.thread.Fresh.{Fresh}
use Rattle.ct_areas.specs.declared.thread.Thread as row
use Rattle.ct_areas.specs.Threads.{first}

-- its one frame's top is the stack's end
abbrev pub first_of : Fresh → Thread
first_of f =
    first f.first.pcc f.first.regs f.first.posture f.first.actor f.first.export
    (f.area.stack + f.area.stack_length)

abbrev pub first_row : Fresh → row.Thread
first_row f = record {
  pcc = f.first.pcc;
  regs = f.first.regs;
  posture = f.first.posture;
  depth = 1;
  top = f.area.stack + f.area.stack_length;
  actor = f.first.actor;
  handling = false;
  area = f.area;
}
