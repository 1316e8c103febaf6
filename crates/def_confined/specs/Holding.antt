-- What an ended thread is: beside *Confined*, by which it holds no capability where it has no frames.
use Rattle.std.specs.Prelude.{ℕ, ◌≡◌, false, []}
use Rattle.def_sched.specs.declared.Status.TheVariants.{Ended}
use Rattle.def_machine.specs.State.{State, Thread, thread}

-- it has ended exactly where it has no frames, and holds no interrupts off then
pub record EndFits (t : Thread) : Type 0 where
  pub over : t.status ≡ Ended → t.frames ≡ []
  pub none : t.frames ≡ [] → (t.status ≡ Ended) × (t.posture.off ≡ false)

abbrev pub EndsFit : State → Type 0
EndsFit s = (t : ℕ) → EndFits (thread s t)

-- a thread without frames holds no interrupts off
abbrev pub EndedOn : State → Type 0
EndedOn s = (t : ℕ) → (thread s t).frames ≡ [] → (thread s t).posture.off ≡ false
