-- A step whose check fails does nothing but trap.
use Rattle.std.specs.Prelude.{ℕ, ◌≡◌, Option, Some}
use Rattle.ct_entry.specs.declared.acts.Act.TheVariants as acts
use Rattle.ct_entry.specs.declared.acts.Deed.{Deed}
use Rattle.def_words.specs.declared.Trap.{Trap}
use Rattle.def_machine.specs.Platform.{Platform}
use Rattle.def_machine.specs.State.{State, thread}
use Rattle.def_step.specs.declared.Event.TheVariants.{Step}
use Rattle.def_step.specs.Checks.{first_failed}
use Rattle.def_step.specs.Events.{happens, with_deed}
use Rattle.def_step.specs.Handlers.{trap_taken}
use Rattle.def_step.specs.Instructions.{actor_of}
use Rattle.def_safety.specs.Each.{ready}
use Rattle.def_safety.specs.Traps.{step_checks}

-- the deed of thread t's trap
abbrev pub trap_of : State → ℕ → Trap → Option Deed
trap_of s t why = Some (record {
  thread = t;
  actor = actor_of (thread s t).frames;
  entry = 0;
  act = acts.Trap why.cause why.code why.register;
})

-- Where the running thread's first check that fails is this trap, it is told, and the step does
-- what the trap does: it enters an error handler, or unwinds.
pub record OnlyTraps (b : Platform) (s : State) (t : ℕ) (why : Trap) : Type 0 where
  pub told : (happens b s Step).1.deed ≡ trap_of (ready b s) t why
  pub does : (happens b s Step).0
      ≡ record (trap_taken b.image (ready b s) t why (thread (ready b s) t).frames) {
        counts =
            with_deed
            (trap_taken b.image (ready b s) t why (thread (ready b s) t).frames).counts
            (trap_of (ready b s) t why);
      }

abbrev pub FailsTrap : Platform → State → Type 0
FailsTrap b s =
    (t : ℕ) (why : Trap)
    → (ready b s).running ≡ Some t → first_failed (step_checks b (ready b s) t) ≡ Some why
    → OnlyTraps b s t why
