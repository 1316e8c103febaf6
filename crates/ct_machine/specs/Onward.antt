-- Rounds, each a slice of a sweep and a step, one after another, of which the last alone may tell something.
use Rattle.std.specs.Prelude.{ℕ, zero, suc, ◌≡◌, ◌<◌, ◌||◌, Bool, is_some, List, [], ◌∷◌, None}
use Rattle.ct_entry.specs.declared.acts.Happened.{Happened}
use Rattle.def_machine.specs.Platform.{MachineRow}
use Rattle.def_step.specs.declared.Event.{Event}
use Rattle.def_step.specs.declared.Event.TheVariants.{Step, Sweep}
use Rattle.def_step.specs.Events.{run, happenings_of, end_of}
use Rattle.ct_machine.specs.Going.{silence}

-- so many rounds: a slice of a sweep and a step each
abbrev pub rounds : ℕ → List Event
rounds zero = []
rounds (suc n) = Sweep ∷ Step ∷ rounds n

-- the machine after so many of them
abbrev pub after_rounds : MachineRow → ℕ → MachineRow
after_rounds m n = record { board = m.board; state = run m.board m.state (rounds n) }

-- what so many rounds tell of which the last step alone may tell something
abbrev pub told_last : ℕ → Happened → List Happened
told_last zero h = []
told_last (suc zero) h = silence ∷ h ∷ []
told_last (suc (suc n)) h = silence ∷ silence ∷ told_last (suc n) h

-- it tells a deed, or a span with interrupts off
abbrev pub tells : Happened → Bool
tells h = is_some h.deed || is_some h.off

-- So many rounds of machine m left machine n. All but the last step told nothing, and the last told this; and before
-- each round but the first the machine had come to no end.
pub record RanOn (m n : MachineRow) (count : ℕ) (last : Happened) : Type 0 where
  pub board : n.board ≡ m.board
  pub state : n.state ≡ run m.board m.state (rounds count)
  pub told : happenings_of m.board m.state (rounds count) ≡ told_last count last
  pub going : (k : ℕ) → 0 < k → k < count → end_of (after_rounds m k).state ≡ None
