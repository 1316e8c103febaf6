-- The end of a thread: of its only frame.
use Rattle.std.specs.Prelude.{ℕ, ◌≡◌, false, [], ◌∷◌, Some, None}
use Rattle.def_words.specs.declared.Trap.{Trap}
use Rattle.def_words.specs.Authority.{cap_address}
use Rattle.def_machine.specs.Image.{stack_base}
use Rattle.def_machine.specs.Platform.{Platform}
use Rattle.def_machine.specs.State.{State, Frame, nobody, thread}
use Rattle.def_step.specs.declared.Event.TheVariants.{Step}
use Rattle.def_step.specs.declared.Next.TheVariants.{Returning}
use Rattle.def_step.specs.Checks.{first_failed}
use Rattle.def_step.specs.Events.{happens}
use Rattle.def_step.specs.Handlers.{is_handled}
use Rattle.def_step.specs.Instructions.{fetch_checks, next_at, space_of}
use Rattle.def_safety.specs.Clean.{StackZero}
use Rattle.def_safety.specs.Each.{ready}
use Rattle.def_safety.specs.Traps.{step_checks}

-- none runs, the thread holds nothing, and its stack is zero and untagged up to the frame's top
pub record IsOver (b : Platform) (s : State) (t : ℕ) (f : Frame) (after : State) : Type 0 where
  pub idle : after.running ≡ None
  pub gone : thread after t ≡ nobody
  pub stack : StackZero b.image s after t f.top

-- A thread whose only frame is f ends where it may fetch and stands at the return, of which no
-- deed is told; and where it traps and no error handler is entered.
pub record EndsThread (b : Platform) (s : State) : Type 0 where
  pub returns : (t : ℕ) (f : Frame)
      → (ready b s).running ≡ Some t → (thread (ready b s) t).frames ≡ f ∷ []
      → first_failed (fetch_checks (thread (ready b s) t).pcc) ≡ None
      → next_at (space_of b (ready b s)) (cap_address (thread (ready b s) t).pcc) ≡ Returning
      → ((happens b s Step).1.deed ≡ None) × IsOver b (ready b s) t f (happens b s Step).0
  pub traps : (t : ℕ) (f : Frame) (why : Trap)
      → (ready b s).running ≡ Some t → (thread (ready b s) t).frames ≡ f ∷ []
      → first_failed (step_checks b (ready b s) t) ≡ Some why
      → is_handled b.image (stack_base b.image t) (thread (ready b s) t) f ≡ false
      → IsOver b (ready b s) t f (happens b s Step).0
