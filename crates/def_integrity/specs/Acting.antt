-- Who acts, in the state in which the thread of a step carries on, and through what.
use Rattle.std.specs.Prelude.{ℕ, ◌≡◌, ◌+◌, ◌≤◌, true, List, ◌∷◌, Option, Some}
use Rattle.def_words.specs.declared.Cap.{Cap}
use Rattle.def_words.specs.Authority.{cap_base, cap_top}
use Rattle.def_words.specs.Permissions.{has}
use Rattle.def_words.specs.Seals.{cap_seal}
use Rattle.ct_entry.specs.declared.acts.Act.{Act}
use Rattle.ct_entry.specs.declared.acts.Deed.{Deed}
use Rattle.def_machine.specs.State.{State, Frame, thread}

-- the running thread, with its frames: its actor is the compartment of the innermost
pub record Acting (s : State) : Type 0 where
  pub thread_is : ℕ
  pub frame : Frame
  pub below : List Frame
  pub running : s.running ≡ Some thread_is
  pub frames : (thread s thread_is).frames ≡ frame ∷ below

-- a deed of this act is told, by the actor
pub record TellsAct (s : State) (a : Acting s) (told : Option Deed) (act : Act) : Type 0 where
  pub deed : Deed
  pub is_told : told ≡ Some deed
  pub by_thread : deed.thread ≡ a.thread_is
  pub by_actor : deed.actor ≡ a.frame.actor
  pub act_is : deed.act ≡ act

-- What an access goes through, as it stands, whatever its root may: a tagged, unsealed capability that has the right
-- itself, and in whose own bounds these bytes lie.
pub record IsAuthority (c : Cap) (at width right : ℕ) : Type 0 where
  pub tagged : c.tag ≡ true
  pub unsealed : cap_seal c ≡ 0
  pub may : has c right ≡ true
  pub low : cap_base c ≤ at
  pub high : at + width ≤ cap_top c
