-- Rounds that tell nothing: slices of a sweep that has no work, each with a quiet step after it or with one of a
-- dormant machine.
use Rattle.std.specs.Prelude.{ℕ, ◌+◌, ◌-◌, ◌≡◌, ◌<◌, ◌&&◌, ◌||◌, Bool, is_some, is_none, cond, Option, None}
use Rattle.def_events.specs.Guarded.{Guarded}
use Rattle.def_machine.specs.Objects.{has_quarantined}
use Rattle.def_machine.specs.Platform.{MachineRow}
use Rattle.def_machine.specs.State.{State, Counts, thread}
use Rattle.def_machine.specs.Threads.{statuses_of}
use Rattle.def_sched.specs.Picks.{pick}
use Rattle.def_step.specs.Events.{end_of, holder, run_on}
use Rattle.ct_threads.specs.declared.window.Window.{Window}
use Rattle.ct_threads.specs.Windows.{IsWindowOf}
use Rattle.ct_machine.specs.Going.{silence}
use Rattle.ct_machine.specs.Onward.{RanOn}

-- a sweep runs, or is to begin
abbrev pub has_sweep : State → Bool
has_sweep s = is_some s.front || has_quarantined s.objects

-- who runs, where no tick is pending
abbrev pub undisturbed : State → Option ℕ
undisturbed s = cond s.pending None s.running

-- no thread is ready
abbrev pub none_is_ready : MachineRow → Bool
none_is_ready m =
    is_none (pick m.board.image.priorities (statuses_of m.state.threads) m.state.picks)

-- no thread runs and none is ready, but one sleeps: up to a tick a step only counts
abbrev pub is_dormant : MachineRow → Bool
is_dormant m = is_none m.state.running && is_none (end_of m.state) && none_is_ready m

-- a window of the thread, in the image's RAM
abbrev pub IsThreadWindow : MachineRow → ℕ → Window → Type 0
IsThreadWindow m t w =
    IsWindowOf (thread m.state t) m.board.image.ram m.state.granules w

-- whatever was counted
abbrev pub with_counts : State → Counts → State
with_counts s c = record s { counts = c }

-- so many sweeps and steps more
abbrev pub with_rounds : State → ℕ → State
with_rounds s n = record s {
  counts = record s.counts { steps = s.counts.steps + n; sweeps = s.counts.sweeps + n };
}

-- Board and counts are as they were, and so are whether a sweep has work, whether a tick is pending, who runs, and who
-- holds interrupts off.
pub record StaysAside (m n : MachineRow) : Type 0 where
  pub board : n.board ≡ m.board
  pub counts : n.state.counts ≡ m.state.counts
  pub sweep : has_sweep n.state ≡ has_sweep m.state
  pub pending : n.state.pending ≡ m.state.pending
  pub running : n.state.running ≡ m.state.running
  pub holder : holder n.state ≡ holder m.state

-- So many rounds of machine m left machine n, guarded. They told nothing; and where there are any, m had come to no
-- end.
pub record WentRounds (m n : MachineRow) (count : ℕ) : Type 0 where
  pub ran : RanOn m n count silence
  pub going : 0 < count → end_of m.state ≡ None
  pub guarded : Guarded n

-- Where the machine's running thread carries on and that tells nothing, what is left is guarded.
pub record GuardsNext (m : MachineRow) : Type 0 where
  pub each : (s : State) → (s, None) ≡ run_on m.board m.state
      → Guarded (record { board = m.board; state = s })

-- The running thread of machine m carried on, which told nothing; after it none holds interrupts off, and there is no
-- end. Rounds that told nothing followed, so many in all with it. The machine that is left is n, guarded.
pub record CarriedOn (m n : MachineRow) (count : ℕ) : Type 0 where
  pub after : State
  pub first : (after, None) ≡ run_on m.board m.state
  pub on : holder after ≡ None
  pub going : end_of after ≡ None
  pub rest : WentRounds (record { board = m.board; state = after }) n (count - 1)
