-- *Secrecy* over runs: two runs of one machine that a thread sees the same of, moment by moment.
use Rattle.std.specs.Prelude.{ℕ, ◌≡◌, List, [], ◌∷◌}
use Rattle.def_boot.specs.Boot.{boot_state, platform_of}
use Rattle.def_image.specs.Parts.{PartsRow}
use Rattle.def_machine.specs.Platform.{Platform}
use Rattle.def_machine.specs.State.{State}
use Rattle.def_step.specs.declared.Event.{Event}
use Rattle.def_step.specs.Events.{happens, run}
use Rattle.def_safety.specs.Each.{EachEvent}
use Rattle.def_secrecy.specs.Agreeing.{Agree, SamePublic}
use Rattle.def_secrecy.specs.Others.{ByOthers}
use Rattle.def_secrecy.specs.Secrecy.{NoOtherRuns, StaysIn}

-- A moment of two runs: the same event comes to both, or others act, by a list of events in each.
pub data Moment : Type 0 where
  Both : Event → Moment
  Others : List Event → List Event → Moment

-- What is asked of two runs from these states. What comes to both lets no thread but t carry on; of what follows
-- something is asked only where that leaves t in its frame. When others have acted, whatever they did, thread t sees the
-- same of both again; so a call of its own stands among those, with what its callee does.
abbrev pub AlikeForOne : Platform → ℕ → State → State → List Moment → Type 0
AlikeForOne b t s z [] = Unit {0}
AlikeForOne b t s z (Both e ∷ ms) =
    NoOtherRuns b s t e
    × (StaysIn s (happens b s e).0 t
    → AlikeForOne b t (happens b s e).0 (happens b z e).0 ms)
AlikeForOne b t s z (Others es fs ∷ ms) =
    Agree b t (run b s es) (run b z fs) × AlikeForOne b t (run b s es) (run b z fs) ms

-- The same, where what others do is said of each run alone: they act away from what thread t sees, and when they have
-- acted what is public of both runs agrees.
abbrev pub OthersStayAway : Platform → ℕ → State → State → List Moment → Type 0
OthersStayAway b t s z [] = Unit {0}
OthersStayAway b t s z (Both e ∷ ms) =
    NoOtherRuns b s t e
    × (StaysIn s (happens b s e).0 t
    → OthersStayAway b t (happens b s e).0 (happens b z e).0 ms)
OthersStayAway b t s z (Others es fs ∷ ms) =
    EachEvent (ByOthers b t) b s es × EachEvent (ByOthers b t) b z fs
    × SamePublic (run b s es) (run b z fs)
    × OthersStayAway b t (run b s es) (run b z fs) ms

-- What is concluded: thread t sees the same of what each moment finds, and whatever comes to both tells the same deed
-- of both, calls, returns and traps of t too. Where t stays in its frame all that is told is the same, and so on with
-- what is left.
abbrev pub AlikeInAll : Platform → ℕ → State → State → List Moment → Type 0
AlikeInAll b t s z [] = Agree b t s z
AlikeInAll b t s z (Both e ∷ ms) =
    Agree b t s z × ((happens b s e).1.deed ≡ (happens b z e).1.deed)
    × (StaysIn s (happens b s e).0 t → ((happens b s e).1 ≡ (happens b z e).1)
    × AlikeInAll b t (happens b s e).0 (happens b z e).0 ms)
AlikeInAll b t s z (Others es fs ∷ ms) =
    Agree b t s z × AlikeInAll b t (run b s es) (run b z fs) ms

-- what a list of events makes of the state that a sound image boots
abbrev pub after_boot : PartsRow → List Event → State
after_boot p es = run (platform_of p) (boot_state p) es
