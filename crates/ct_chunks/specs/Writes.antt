-- What a write of a head asks.
use Rattle.std.specs.Prelude.{ℕ, ◌+◌, ◌-◌, ◌*◌, ◌%◌, ◌^◌, ◌≡◌, ◌≤◌, ◌<◌, false, nat_eq}
use Rattle.def_chunks.specs.declared.heads.TheConstants.{NO_CHUNK}
use Rattle.def_chunks.specs.declared.rows.Range.{Range}

-- the free chunk at an offset lies in memory, where there is one
pub record Linkable (r : Range) (granules before : ℕ) : Type 0 where
  pub above : r.ram ≤ r.base
  pub even : nat_eq before NO_CHUNK ≡ false → (r.base + before - r.ram) % 8 ≡ 0
  pub inside : nat_eq before NO_CHUNK ≡ false → r.base + before + 8 ≤ r.ram + 8 * granules
  pub small : nat_eq before NO_CHUNK ≡ false → r.base + before < 2 ^ 32
