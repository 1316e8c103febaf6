-- *Clean calls*, of one event: by the deeds that it tells, by the native return, and by the frames that end.
use Rattle.std.specs.Prelude.{ℕ, ◌≡◌, ◌⊎◌, Bool, true, false, List, ◌∷◌, Option, Some}
use Rattle.ct_entry.specs.declared.acts.Act.TheVariants.{Call, Trap}
use Rattle.ct_entry.specs.declared.acts.Deed.{Deed}
use Rattle.def_machine.specs.Image.{root, stack_base}
use Rattle.def_machine.specs.State.{State, Frame, thread}
use Rattle.def_step.specs.declared.Event.{Event}
use Rattle.def_step.specs.declared.Event.TheVariants.{Step}
use Rattle.def_step.specs.Events.{happens}
use Rattle.def_step.specs.Handlers.{is_handled}
use Rattle.def_machine.specs.Platform.{Platform}
use Rattle.def_safety.specs.Clean.{CleanEntry, CleanReturn, HandsBack, AnswersNumber, AnswersHandled, AnswersPlainly, minus_one}
use Rattle.def_safety.specs.Handlers.{HandlerBegins}
use Rattle.def_safety.specs.Each.{ready}
use Rattle.def_safety.specs.Routine.{RunsReturn}

-- whether the trap of a thread's frame enters its compartment's error handler
abbrev pub enters_handler : Platform → State → ℕ → Frame → Bool
enters_handler b s t f = is_handled b.image (stack_base b.image t) (thread s t) f

-- what a frame's end hands back is untagged: its export passes plain values, or its error handler was entered
abbrev pub HandsPlain : Platform → Frame → Type 0
HandsPlain b f = ((root b.image f.export).passes ≡ false) ⊎ (f.handling ≡ true)

-- Of an event that carries on in the state s, leads to the state `after` and tells this deed. A call that is told
-- enters its callee clean. The native return ends the innermost frame, and its caller goes on clean, with what the
-- export lets through, or with the answer of the error handler where that was entered. A step that tells a trap
-- enters the error handler of the frame's compartment, or ends the frame, and its caller goes on with -1 and 0. By
-- whatever step a frame ends that isn't its thread's only one, its caller goes on clean, with results that are
-- untagged where it hands back plain values.
pub record CleanFrom (b : Platform) (s : State) (e : Event) (after : State)
    (told : Option Deed) : Type 0 where
  pub enters : (d : Deed) (export : ℕ) → told ≡ Some d → d.act ≡ Call export
      → CleanEntry b.image s d.thread export after
  pub returns : (t : ℕ) (f g : Frame) (gs : List Frame) → e ≡ Step → RunsReturn b s t
      → (thread s t).frames ≡ f ∷ g ∷ gs → f.handling ≡ false
      → CleanReturn b.image s t f (g ∷ gs) after × HandsBack b.image s t f after
  pub answers : (t : ℕ) (f g : Frame) (gs : List Frame) → e ≡ Step → RunsReturn b s t
      → (thread s t).frames ≡ f ∷ g ∷ gs → f.handling ≡ true
      → CleanReturn b.image s t f (g ∷ gs) after × AnswersHandled s t after
  pub leaves : (t : ℕ) (f g : Frame) (gs : List Frame) → e ≡ Step → s.running ≡ Some t
      → (thread s t).frames ≡ f ∷ g ∷ gs → (thread after t).frames ≡ g ∷ gs
      → CleanReturn b.image s t f (g ∷ gs) after × (HandsPlain b f → AnswersPlainly after t)
  pub unwinds : (d : Deed) (cause code register : ℕ) (f g : Frame) (gs : List Frame)
      → told ≡ Some d → d.act ≡ Trap cause code register
      → (thread s d.thread).frames ≡ f ∷ g ∷ gs → enters_handler b s d.thread f ≡ false
      → CleanReturn b.image s d.thread f (g ∷ gs) after × AnswersNumber after d.thread minus_one
  pub handles : (d : Deed) (cause code register : ℕ) (f : Frame) (fs : List Frame)
      → told ≡ Some d → d.act ≡ Trap cause code register
      → (thread s d.thread).frames ≡ f ∷ fs → enters_handler b s d.thread f ≡ true
      → HandlerBegins b.image s d.thread
      (record { cause = cause; code = code; register = register }) f fs after

abbrev pub CleanEvent : Platform → State → Event → Type 0
CleanEvent b s e = CleanFrom b (ready b s) e (happens b s e).0 (happens b s e).1.deed
