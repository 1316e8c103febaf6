-- What an instruction of the running thread may reach isn't hidden.
use Rattle.std.specs.Prelude.{ℕ, ◌≡◌, Some}
use Rattle.def_machine.specs.Image.{Image}
use Rattle.def_machine.specs.State.{State}
use Rattle.def_machine.specs.State as state
use Rattle.ct_engine.specs.Bursts.{IsOpen}
use Rattle.ct_engine.specs.Seen.{region_of, thread, EngineRow}
use Rattle.ct_engine.specs.Steps.{HeapLies}

-- Thread t runs, nothing is hidden that it may reach, and the heap lies from an address to RAM's end.
pub record MayGo (s : EngineRow) (t base : ℕ) : Type 0 where
  pub runs : s.state.running ≡ Some t
  pub opened : IsOpen s t
  pub heap : HeapLies s base

-- Thread t runs in the state, and an engine whose region and heap are the image's holds for it what the state does, and
-- the same objects.
pub record Runs (i : Image) (s : State) (v : EngineRow) (t : ℕ) : Type 0 where
  pub running : s.running ≡ Some t
  pub region : v.region ≡ region_of i
  pub heap_base : v.heap_base ≡ i.heap_base
  pub heap_end : v.heap_end ≡ i.heap_end
  pub objects : v.state.objects ≡ s.objects
  pub registers : (thread v t).registers ≡ (state.thread s t).registers
  pub pcc : (thread v t).pcc ≡ (state.thread s t).pcc
