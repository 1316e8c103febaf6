-- *Handler law*, of one event: which frames of threads are handling, and where an error handler is entered.
use Rattle.std.specs.Prelude.{ℕ, ◌≡◌, true, false, List, [], ◌∷◌, Option, Some}
use Rattle.ct_entry.specs.declared.acts.Act.TheVariants.{Trap}
use Rattle.ct_entry.specs.declared.acts.Deed.{Deed}
use Rattle.def_machine.specs.Platform.{Platform}
use Rattle.def_machine.specs.State.{State, Frame, thread}
use Rattle.def_step.specs.declared.Event.{Event}
use Rattle.def_step.specs.Events.{happens}
use Rattle.def_safety.specs.Calls.{enters_handler}
use Rattle.def_safety.specs.Each.{ready}
use Rattle.def_safety.specs.Handling.{HandlingGoes, OneHandles, handling}

-- of every thread the innermost frame alone comes to be handling, which wasn't before, and stops by its end alone
abbrev pub HandlesOnce : Platform → State → Event → Type 0
HandlesOnce b s e = (t : ℕ) → HandlingGoes (handling s t) (handling (happens b s e).0 t)

-- a trap of thread t is told, and enters the error handler of the compartment of its innermost frame
pub record TrapEnters (b : Platform) (s : State) (told : Option Deed) (t : ℕ) : Type 0 where
  pub deed : Deed
  pub told_is : told ≡ Some deed
  pub thread_is : deed.thread ≡ t
  pub cause : ℕ
  pub code : ℕ
  pub register : ℕ
  pub act_is : deed.act ≡ Trap cause code register
  pub frame : Frame
  pub below : List Frame
  pub frames_are : (thread s t).frames ≡ frame ∷ below
  pub enters : enters_handler b s t frame ≡ true

-- a frame comes to be handling by nothing else
abbrev pub HandlesByTraps : Platform → State → Event → Type 0
HandlesByTraps b s e =
    (t : ℕ) → OneHandles (handling s t) (handling (happens b s e).0 t)
    → TrapEnters b (ready b s) (happens b s e).1.deed t

-- a trap that is told, and enters an error handler, is of a frame that wasn't handling
abbrev pub EntersFresh : Platform → State → Event → Type 0
EntersFresh b s e =
    (d : Deed) (cause code register : ℕ) (f : Frame) (fs : List Frame)
    → (happens b s e).1.deed ≡ Some d → d.act ≡ Trap cause code register
    → (thread (ready b s) d.thread).frames ≡ f ∷ fs
    → enters_handler b (ready b s) d.thread f ≡ true → f.handling ≡ false

-- a trap that is told of a thread's only frame, and enters no error handler, leaves the thread without a frame
abbrev pub LastEnds : Platform → State → Event → Type 0
LastEnds b s e =
    (d : Deed) (cause code register : ℕ) (f : Frame)
    → (happens b s e).1.deed ≡ Some d → d.act ≡ Trap cause code register
    → (thread (ready b s) d.thread).frames ≡ f ∷ []
    → enters_handler b (ready b s) d.thread f ≡ false
    → (thread (happens b s e).0 d.thread).frames ≡ []
