-- What an instruction that is carried out leaves of its thread.
use Rattle.std.specs.Prelude.{ℕ, ◌≡◌, None, Some}
use Rattle.ct_entry.specs.declared.acts.Act.{Act}
use Rattle.ct_entry.specs.declared.acts.Act.TheVariants.{Trap}
use Rattle.def_words.specs.Authority.{cap_address}
use Rattle.def_instr.specs.declared.Instr.{Instr}
use Rattle.def_machine.specs.Platform.{Platform}
use Rattle.def_machine.specs.State.{State, Thread, thread, register}
use Rattle.def_step.specs.declared.Class.TheVariants as class
use Rattle.def_step.specs.declared.Event.TheVariants.{Step}
use Rattle.def_step.specs.declared.Next.TheVariants.{Instruction}
use Rattle.def_step.specs.Checks.{first_failed}
use Rattle.def_step.specs.Events.{happens}
use Rattle.def_step.specs.Instructions.{fetch_checks, next_at, space_of}
use Rattle.def_step.specs.Operands.{class_of, operands_of}
use Rattle.def_safety.specs.Each.{ready}
use Rattle.def_truly.specs.Changes.{TellsSuch}

abbrev pub IsTrapAct : Act → Type 0
IsTrapAct (Trap cause code register) = Unit {0}
IsTrapAct _ = ⊥

-- Each register but the one that the instruction names, the frames and the status are as they were; and so is the
-- posture, unless it is a jump: so nothing else turns interrupts off or on.
pub record OnlyItsRegister (k : Instr) (old new : Thread) : Type 0 where
  pub registers : (n : ℕ) → (n ≡ (operands_of k).to → ⊥) → register new n ≡ register old n
  pub posture : (class_of k ≡ class.Jump → ⊥) → new.posture ≡ old.posture
  pub frames : new.frames ≡ old.frames
  pub status : new.status ≡ old.status

-- Of each instruction at which the thread that carries on stands, which it may fetch, and that doesn't trap.
abbrev pub InstructionsKeep : Platform → State → Type 0
InstructionsKeep b s =
    (t : ℕ) (k : Instr)
    → (ready b s).running ≡ Some t → first_failed (fetch_checks (thread (ready b s) t).pcc) ≡ None
    → next_at (space_of b (ready b s)) (cap_address (thread (ready b s) t).pcc) ≡ Instruction k
    → (TellsSuch IsTrapAct (happens b s Step).1.deed → ⊥)
    → OnlyItsRegister k (thread (ready b s) t) (thread (happens b s Step).0 t)
