-- Lists of events, one after the other.
use Rattle.std.proofs.Common.{◌≡◌, List, [], ◌∷◌, ◌++◌, refl, ap}
use Rattle.def_machine.specs.State.{State}
use Rattle.def_step.specs.declared.Event.{Event}
use Rattle.def_machine.specs.Platform.{Platform}
use Rattle.def_step.specs.Events.{happens, run, happenings_of}

pub run_append : (b : Platform) (s : State) (es fs : List Event) → run b s (es ++ fs) ≡ run b (run b s es) fs
unfolding run
run_append b s [] fs = refl
run_append b s (e ∷ es) fs = run_append b (happens b s e).0 es fs

pub told_append : (b : Platform) (s : State) (es fs : List Event) → happenings_of b s (es ++ fs) ≡ happenings_of b s es ++ happenings_of b (run b s es) fs
unfolding happenings_of run
told_append b s [] fs = refl
told_append b s (e ∷ es) fs = ap (λ hs. (happens b s e).1 ∷ hs) (told_append b (happens b s e).0 es fs)
