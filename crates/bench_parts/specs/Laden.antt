-- A heap that is laid over memory in which nothing is tagged.
use Rattle.std.specs.Prelude.{ℕ, ◌+◌, ◌≡◌, ◌≤◌, false, List, length}
use Rattle.def_memory.specs.declared.Granule.{Granule}
use Rattle.def_memory.specs.Ranges.{is_tagged}
use Rattle.def_chunks.specs.Heaps.{HeapRow, Laid}

pub record LadenRow : Type 0 where
  pub heap : HeapRow
  pub granules : List Granule
  pub quotas : ℕ
  pub made : ℕ

pub record IsLaden (l : LadenRow) : Type 0 where
  pub laid : Laid l.heap l.granules
  pub quotas : length l.heap.accounts ≡ l.quotas
  pub made : l.heap.next ≤ l.made + 1
  pub untagged : (k : ℕ) → is_tagged l.granules k ≡ false
