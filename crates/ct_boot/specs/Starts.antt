-- How a thread starts, as the state at boot says it.
use Rattle.std.specs.Prelude.{ℕ, List, [], ◌∷◌}
use Rattle.def_machine.specs.State as state
use Rattle.def_machine.specs.State.{Frame}
use Rattle.def_step.specs.Instructions.{actor_of}
use Rattle.ct_areas.specs.declared.thread.First.{First}

-- the number of the export that a thread's innermost frame entered
abbrev pub export_in : List Frame → ℕ
export_in [] = 0
export_in (f ∷ fs) = f.export

-- how a thread starts that stands so
abbrev pub start_of : state.Thread → First
start_of t = record {
  pcc = t.pcc;
  regs = t.registers;
  posture = t.posture;
  actor = actor_of t.frames;
  export = export_in t.frames;
}
