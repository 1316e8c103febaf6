-- What an answer of a native routine is, in plain facts.
use Rattle.std.specs.Prelude.{ℕ, ◌≡◌}
use Rattle.def_words.specs.declared.Cap.{Cap}
use Rattle.def_words.specs.Jumped.{opened}
use Rattle.def_words.specs.Seals.{cap_seal}
use Rattle.def_memory.specs.Granules.{plain}
use Rattle.def_machine.specs.State.{State, Thread, register, thread}
use Rattle.def_truly.specs.Postures.{IsPostureThrough}
use Rattle.def_truly.specs.Turns.{SameBeside}

-- c10 is the value, c11 zero, and every other register as it was; the thread goes on where its c1 leads, with
-- interrupts as that leaves them; its frames and status stay.
pub record IsAnswered (old : Thread) (value : Cap) (new : Thread) : Type 0 where
  pub c10 : register new 10 ≡ value
  pub c11 : register new 11 ≡ plain 0
  pub others : (n : ℕ) → (n ≡ 10 → ⊥) → (n ≡ 11 → ⊥) → register new n ≡ register old n
  pub pcc : new.pcc ≡ opened (register old 1)
  pub posture : IsPostureThrough old.posture (cap_seal (register old 1)) 0
      (register old 1).shadow.source new.posture
  pub frames : new.frames ≡ old.frames
  pub status : new.status ≡ old.status

-- thread t is answered, and all else is as it was
pub record AnswersNoMore (s : State) (t : ℕ) (value : Cap) (after : State) : Type 0 where
  pub answered : IsAnswered (thread s t) value (thread after t)
  pub others : (u : ℕ) → (u ≡ t → ⊥) → thread after u ≡ thread s u
  pub running : after.running ≡ s.running
  pub pending : after.pending ≡ s.pending
  pub picks : after.picks ≡ s.picks
  pub time : after.time ≡ s.time
  pub counts : after.counts ≡ s.counts
  pub rest : SameBeside s after
