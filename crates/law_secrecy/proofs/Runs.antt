-- Two runs that one thread can't tell apart, moment by moment.
use Rattle.std.proofs.Common.{ℕ, List, [], ◌∷◌}
use Rattle.def_machine.specs.Platform.{Platform}
use Rattle.def_machine.specs.State.{State}
use Rattle.def_confined.specs.Facts.{Facts}
use Rattle.def_confined.specs.Keeps.{Keeps}
use Rattle.def_confined.specs.Partitioned.{Partitioned}
use Rattle.def_hidden.specs.Hidden.{Blank, Shut}
use Rattle.def_step.specs.Events.{happens, run}
use Rattle.def_safety.specs.Wired.{Wired}
use Rattle.def_secrecy.specs.Agreeing.{Agree}
use Rattle.def_secrecy.specs.Runs.{Moment, Both, Others, AlikeForOne, AlikeInAll, OthersStayAway}
use Rattle.def_secrecy.specs.Secrecy.{EventSecret}
use Rattle.law_events.proofs.BlankEvents.{event_blank, run_blank}
use Rattle.law_events.proofs.Events.{event_keeps}
use Rattle.law_events.proofs.Running.{run_keeps}
use Rattle.law_secrecy.proofs.Events.{event_secret}
use Rattle.law_secrecy.proofs.Others.{run_stays, stays_agree}

module _ (b : Platform) (t : ℕ) (parts : Partitioned b.image) (facts : Facts b.image) (wired : Wired b) (shut : Shut b.image) where
  pub runs_alike : (ms : List Moment) (s z : State) → Keeps b.image s → Keeps b.image z → Blank b.image s → Blank b.image z → Agree b t s z → AlikeForOne b t s z ms → AlikeInAll b t s z ms
  runs_alike [] s z one two zeros zeros_too agree h = agree
  runs_alike (Both e ∷ ms) s z one two zeros zeros_too agree h =
      let secret : EventSecret b s z t e = event_secret b s z t parts wired one.confined two.confined zeros zeros_too agree e h.0 in (
        agree,
        secret.deed,
        λ stays. (
          secret.happening stays,
          runs_alike ms (happens b s e).0 (happens b z e).0 (event_keeps b s e parts facts wired one) (event_keeps b z e parts facts wired two) (event_blank b s e parts wired shut one zeros) (event_blank b z e parts wired shut two zeros_too) (secret.view stays) (h.1 stays),
        ),
      )
  runs_alike (Others es fs ∷ ms) s z one two zeros zeros_too agree h = (
    agree,
    runs_alike ms (run b s es) (run b z fs) (run_keeps b s es parts facts wired one) (run_keeps b z fs parts facts wired two) (run_blank b s es parts facts wired shut one zeros) (run_blank b z fs parts facts wired shut two zeros_too) h.0 h.1,
  )

  -- where others stay away
  pub runs_away : (ms : List Moment) (s z : State) → Keeps b.image s → Keeps b.image z → Blank b.image s → Blank b.image z → Agree b t s z → OthersStayAway b t s z ms → AlikeInAll b t s z ms
  runs_away [] s z one two zeros zeros_too agree h = agree
  runs_away (Both e ∷ ms) s z one two zeros zeros_too agree h =
      let secret : EventSecret b s z t e = event_secret b s z t parts wired one.confined two.confined zeros zeros_too agree e h.0 in (
        agree,
        secret.deed,
        λ stays. (
          secret.happening stays,
          runs_away ms (happens b s e).0 (happens b z e).0 (event_keeps b s e parts facts wired one) (event_keeps b z e parts facts wired two) (event_blank b s e parts wired shut one zeros) (event_blank b z e parts wired shut two zeros_too) (secret.view stays) (h.1 stays),
        ),
      )
  runs_away (Others es fs ∷ ms) s z one two zeros zeros_too agree h =
      let first = run_stays b t es s parts facts wired one h.0 in
      let second = run_stays b t fs z parts facts wired two h.1 in (
        agree,
        runs_away ms (run b s es) (run b z fs) (run_keeps b s es parts facts wired one) (run_keeps b z fs parts facts wired two) (run_blank b s es parts facts wired shut one zeros) (run_blank b z fs parts facts wired shut two zeros_too)
            (stays_agree b t s z (run b s es) (run b z fs) agree first.0 second.0 h.2 first.1) h.3,
      )
