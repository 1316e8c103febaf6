-- What is asked of a thread that starts.
use Rattle.std.specs.Prelude.{ℕ, ◌+◌, ◌≡◌, ◌≤◌, slice_index_or}
use Rattle.def_profile.specs.declared.limits.TheConstants.{RAM_END}
use Rattle.def_memory.specs.Granules.{plain}
use Rattle.ct_areas.specs.Threads.{HasArea}
use Rattle.ct_areas.specs.declared.thread.Fresh.{Fresh}

-- its area lies in RAM of so many bytes, register 0 is zero, and its stack ends below the last granules of addresses
pub record IsFresh (size : ℕ) (f : Fresh) : Type 0 where
  pub area : HasArea size f.area
  pub zero : slice_index_or f.first.regs 0 (plain 0) ≡ plain 0
  pub stack : f.area.stack + f.area.stack_length ≤ RAM_END
