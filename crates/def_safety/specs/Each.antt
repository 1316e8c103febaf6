-- What holds of each event of a run.
use Rattle.std.specs.Prelude.{List, [], ◌∷◌}
use Rattle.def_machine.specs.State.{State}
use Rattle.def_step.specs.declared.Event.{Event}
use Rattle.def_step.specs.Events.{happens, one_more_step, preempted, scheduled}
use Rattle.def_machine.specs.Platform.{Platform}

-- the state in which the thread of a step carries on
abbrev pub ready : Platform → State → State
ready b s = scheduled b (preempted (one_more_step s))

-- of each event of a list, in the state that it finds
abbrev pub EachEvent : (State → Event → Type 0) → Platform → State → List Event → Type 0
EachEvent P b s [] = Unit {0}
EachEvent P b s (e ∷ es) = P s e × EachEvent P b (happens b s e).0 es
