-- Where RAM and the heap are: RAM is as long as memory, and the heap lies in it.
use Rattle.std.specs.Prelude.{ℕ, ◌≡◌, ◌+◌, ◌%◌, ◌≤◌}
use Rattle.ct_loadstore.specs.declared.moving.Map.{Map}

pub record IsMap (m : Map) (size : ℕ) : Type 0 where
  pub ram : m.ram % 16 ≡ 0
  pub whole : m.size ≡ size
  pub heap : (m.heap % 16 ≡ 0) × (m.length % 16 ≡ 0)
  pub low : m.ram ≤ m.heap
  pub high : m.heap + m.length ≤ m.ram + m.size
