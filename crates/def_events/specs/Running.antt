-- What holds of the thread that runs, beside what every event keeps.
use Rattle.std.specs.Prelude.{ℕ, ◌≡◌, [], Some}
use Rattle.def_machine.specs.State.{State, thread}

-- a thread that runs has a frame
abbrev pub RunsFramed : State → Type 0
RunsFramed s = (t : ℕ) → s.running ≡ Some t → (thread s t).frames ≡ [] → ⊥
