-- A step of the running thread, from what its instruction came to and what was left to do.
use Rattle.std.proofs.Common.{ℕ, ◌≡◌, ◌<◌, List, length, Option, Some, sym, ap, ◌∙◌, subst}
use Rattle.ct_entry.specs.declared.acts.Deed.{Deed}
use Rattle.def_machine.specs.State.{State, Frame, thread}
use Rattle.def_step.specs.Instructions.{actor_of, executed}
use Rattle.def_machine.specs.Platform.{Platform, MachineRow}
use Rattle.def_step.specs.Events.{continued, run_on, noted}
use Rattle.ct_engine.specs.Seen as engine
use Rattle.ct_execute.specs.declared.ran.Ran.{Ran}
use Rattle.ct_execute.specs.Deciding.{finished, IfUnfinished}
use Rattle.ct_machine.specs.declared.parts.Parts.TheInside.{Inside}
use Rattle.ct_machine.specs.Going.{MayGoOn, Runs, MayEnd, CameTo}
use Rattle.ct_machine.proofs.Keeping.{unfinished_map}
use Rattle.ct_machine.proofs.Taking.{frames_with, machine_in}

-- of a machine of these parts
module _ {M : Type 0} (i : Inside M) (t : ℕ) {now : MachineRow} (is : machine_in i ≡ now) where
  pub runs_by : i.engine.state.running ≡ Some t → 0 < length (engine.thread i.engine t).frames → Runs now t
  runs_by runs some =
      subst (λ (m : MachineRow). Runs m t) is
      (record { runs = runs; some = subst (λ (fs : List Frame). 0 < length fs) (sym (frames_with i.engine.state.threads i.sched.statuses t)) some })

  pub acts_by : (actor : ℕ) → actor ≡ actor_of (engine.thread i.engine t).frames → actor ≡ actor_of (thread now.state t).frames
  acts_by actor acts = acts ∙ ap actor_of (sym (frames_with i.engine.state.threads i.sched.statuses t)) ∙ ap (λ (m : MachineRow). actor_of (thread m.state t).frames) is

pub ends_by : (m n : MachineRow) (t actor : ℕ) (ran : Ran) (whole : State × Option Deed) → MayGoOn m → Runs m t → actor ≡ actor_of (thread m.state t).frames → CameTo m n t ran whole → IfUnfinished ran (MayEnd n t actor)
ends_by m n t actor ran whole may runs acts came =
    unfinished_map ran (n ≡ m) (MayEnd n t actor) (λ same. subst (λ (x : MachineRow). MayEnd x t actor) (sym same) (record { may = may; runs = runs; acts = acts })) came.unfinished

pub carried_so : (m n : MachineRow) (t actor : ℕ) (ran : Ran) (after : State) (d : Option Deed) → Runs m t → actor ≡ actor_of (thread m.state t).frames
    → CameTo m n t ran (executed m.board m.state t) → (after, d) ≡ noted (finished n.board t actor n.state ran) → (after, d) ≡ run_on m.board m.state
carried_so m n t actor ran after d runs acts came left =
    left
    ∙ ap (λ (b : Platform). noted (finished b t actor n.state ran)) came.board
    ∙ ap (λ k. noted (finished m.board t k n.state ran)) acts
    ∙ ap noted came.is
    ∙ ap (continued m.board m.state) (sym runs.runs)
