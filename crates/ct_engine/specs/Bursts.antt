-- A thread of an engine that goes on by instructions that tell nothing, one after another.
use Rattle.std.specs.Prelude.{ℕ, zero, suc, ◌-◌, ◌/◌, ◌≡◌, ◌≤◌, ◌<◌, ◌⊎◌, true, false, List}
use Rattle.def_memory.specs.declared.Granule.{Granule}
use Rattle.def_words.specs.Authority.{cap_base, cap_top}
use Rattle.def_words.specs.Permissions.{has, load_data, store_data}
use Rattle.def_machine.specs.State.{Thread, register}
use Rattle.ct_burst.specs.Going as raw
use Rattle.ct_engine.specs.Seen.{thread, EngineRow, hides, with_granules, with_thread}

-- Nothing is hidden that a thread may load or store through a register, and nothing in the bounds of its program
-- counter capability. All x are addresses of RAM or past it.
pub record IsOpen (s : EngineRow) (t : ℕ) : Type 0 where
  pub registers : (n x : ℕ) → s.region.ram ≤ x
      → (register (thread s t) n).tag ≡ true
      → (has (register (thread s t) n) load_data ≡ true)
      ⊎ (has (register (thread s t) n) store_data ≡ true)
      → cap_base (register (thread s t) n) ≤ x
      → x < cap_top (register (thread s t) n)
      → hides s ((x - s.region.ram) / 8) ≡ false
  pub fetches : (x : ℕ) → s.region.ram ≤ x → (thread s t).pcc.tag ≡ true
      → cap_base (thread s t).pcc ≤ x → x < cap_top (thread s t).pcc
      → hides s ((x - s.region.ram) / 8) ≡ false

-- the instruction at thread t's program counter, over what is seen of memory, leaves the engine so
pub record GoesOnce (t : ℕ) (s new : EngineRow) : Type 0 where
  pub to : Thread
  pub after : List Granule
  pub goes : raw.GoesOnce s.region.ram (thread s t) s.state.granules to after
  pub is : new ≡ with_granules (with_thread s t to) after

-- so many instructions do, one after another
abbrev pub GoesFor : ℕ → ℕ → EngineRow → EngineRow → Type 0
GoesFor t zero s new = new ≡ s
GoesFor t (suc n) s new = (mid : EngineRow) × GoesFor t n s mid × GoesOnce t mid new

-- while thread t goes on by fewer instructions than so many, nothing is hidden that it may reach
abbrev pub StaysOpen : ℕ → ℕ → EngineRow → Type 0
StaysOpen t most s = (n : ℕ) (mid : EngineRow) → n < most → GoesFor t n s mid → IsOpen mid t
