-- What the running thread may do where its fetch passed, away from native entries.
use Rattle.std.proofs.Common.{ℕ, ◌≡◌, false, Result, Ok, Err}
use Rattle.std.specs.Prelude.{unwrap_or}
use Rattle.def_words.specs.declared.Cap.{Cap}
use Rattle.def_words.specs.declared.Trap.{Trap}
use Rattle.def_words.specs.Capability.{raised}
use Rattle.def_words.specs.Jumped.{return_link}
use Rattle.def_memory.specs.Granules.{plain}
use Rattle.def_reach.specs.Roots.{is_native}
use Rattle.def_machine.specs.Image.{Image, root}
use Rattle.def_machine.specs.State.{State, thread}
use Rattle.def_step.specs.Jumps.{Flowed}
use Rattle.def_confined.specs.Confined.{Confined}
use Rattle.def_confined.specs.Partitioned.{Partitioned}
use Rattle.def_confined.specs.Facts.{Facts}
use Rattle.def_confined.specs.Made.{Derived}
use Rattle.def_confined.specs.Jumping.{IsRunnable}
use Rattle.law_moves.proofs.JumpsMoves.{onward_jumps, link_puts}
use Rattle.law_moves.proofs.Results.{raised_derived, raised_runs, linked_links}
use Rattle.def_confined.specs.Changes.{Puts, Jumps}
use Rattle.law_moves.proofs.Checks.{MayTell}
use Rattle.law_events.proofs.Checking.{Fetched}

-- what a jump leaves may stand, and a trap may be told
abbrev pub FlowFits : Image → State → ℕ → Result Flowed Trap → Type 0
FlowFits i s t (Err w) = MayTell w
FlowFits i s t (Ok f) = Jumps i s t f.pcc f.posture (unwrap_or f.link (plain 0))

-- what the running thread has when its fetch passed, away from native entries
pub record Fetching (i : Image) (s : State) (t : ℕ) : Type 0 where
  pub parts : Partitioned i
  pub facts : Facts i
  pub held : Confined i s
  pub fetched : Fetched (thread s t).pcc
  pub other : is_native (root i (thread s t).pcc.shadow.root).origin ≡ false

-- a new program counter derived from the old one, with what a register gets
pub goes_to : (i : Image) (s : State) (t : ℕ) (p l : Cap) → Fetching i s t → Puts i s t l → Derived (thread s t).pcc p → IsRunnable p → Jumps i s t p (thread s t).posture l
goes_to i s t p l x puts derived says = onward_jumps i s t p l x.parts x.held x.other derived says puts

-- the program counter goes on after the instruction
pub goes_on : (i : Image) (s : State) (t : ℕ) (l : Cap) → Fetching i s t → Puts i s t l → Jumps i s t (raised (thread s t).pcc 4) (thread s t).posture l
goes_on i s t l x puts = goes_to i s t (raised (thread s t).pcc 4) l x puts (raised_derived (thread s t).pcc 4) (raised_runs (thread s t).pcc 4 x.fetched.executes)

pub leaves_link : (i : Image) (s : State) (t : ℕ) → Fetching i s t → Puts i s t (return_link (thread s t).pcc (thread s t).posture)
leaves_link i s t x = link_puts i s t (return_link (thread s t).pcc (thread s t).posture) x.held x.other x.fetched.some (linked_links (thread s t).pcc (thread s t).posture x.fetched.executes)
