-- *Secrecy* between two images: two runs that are told moment by moment, each by a machine of its own, in which one
-- other thread acts in between.
use Rattle.std.specs.Prelude.{ℕ, ◌≡◌, List, [], ◌∷◌, Some}
use Rattle.def_machine.specs.Platform.{Platform}
use Rattle.def_machine.specs.State.{State}
use Rattle.def_step.specs.declared.Event.{Event}
use Rattle.def_step.specs.declared.Event.TheVariants.{Step, Tick, Sweep, Input}
use Rattle.def_step.specs.Events.{happens, run}
use Rattle.def_safety.specs.Each.{EachEvent, ready}
use Rattle.def_secrecy.specs.Agreeing.{Agree, SamePublic}
use Rattle.def_secrecy.specs.Runs.{Moment, Both, Others}
use Rattle.def_secrecy.specs.Secrecy.{NoOtherRuns, StaysIn}

-- by this event thread u carries on, or the time, or a byte comes to a port
abbrev pub ByThread : Platform → ℕ → State → Event → Type 0
ByThread b u s Step = (ready b s).running ≡ Some u
ByThread b u s Tick = Unit {0}
ByThread b u s Sweep = ⊥
ByThread b u s (Input n byte) = Unit {0}

-- What is asked of the events, of thread t. By one that comes to both runs no thread but t carries on; of what follows
-- nothing is asked where t leaves its frame by it. In between thread u acts, in each run by a list of events of its own,
-- and what is public of both is the same when it has.
abbrev pub TakesTurns : Platform → Platform → ℕ → ℕ → State → State → List Moment → Type 0
TakesTurns b c t u s z [] = Unit {0}
TakesTurns b c t u s z (Both e ∷ ms) =
    NoOtherRuns b s t e
    × (StaysIn s (happens b s e).0 t
    → TakesTurns b c t u (happens b s e).0 (happens c z e).0 ms)
TakesTurns b c t u s z (Others es fs ∷ ms) =
    EachEvent (ByThread b u) b s es × EachEvent (ByThread c u) c z fs
    × SamePublic (run b s es) (run c z fs)
    × TakesTurns b c t u (run b s es) (run c z fs) ms

-- What is concluded. Thread t sees the same of what each moment finds: its registers, its program counter, and every byte
-- of RAM in its view. What comes to both tells the same deed in both, a trap that ends t too; where t stays in its frame
-- all that is told is the same, and so on with what is left.
abbrev pub TellsAlike : Platform → Platform → ℕ → State → State → List Moment → Type 0
TellsAlike b c t s z [] = Agree b t s z
TellsAlike b c t s z (Both e ∷ ms) =
    Agree b t s z × ((happens b s e).1.deed ≡ (happens c z e).1.deed)
    × (StaysIn s (happens b s e).0 t → ((happens b s e).1 ≡ (happens c z e).1)
    × TellsAlike b c t (happens b s e).0 (happens c z e).0 ms)
TellsAlike b c t s z (Others es fs ∷ ms) =
    Agree b t s z × TellsAlike b c t (run b s es) (run c z fs) ms
