-- What joining does to heads, chunk by chunk.
use Rattle.std.specs.Prelude.{ℕ, ◌+◌, ◌-◌, ◌*◌, ◌%◌, ◌^◌, ◌≡◌, ◌≤◌, ◌<◌, ◌&&◌, ◌||◌, Bool, true, false, not, cond, nat_eq, List}
use Rattle.def_memory.specs.declared.Granule.{Granule}
use Rattle.def_memory.specs.Granules.{plain}
use Rattle.def_memory.specs.Accesses.{stored_cap}
use Rattle.def_chunks.specs.declared.heads.TheConstants.{FREE, PAINTED, NO_CHUNK}
use Rattle.def_chunks.specs.declared.rows.Range.{Range}
use Rattle.def_chunks.specs.declared.rows.Head.{Head}
use Rattle.ct_chunks.specs.declared.joining.Last.{Last}
use Rattle.def_chunks.specs.Changes.{with_link}

-- the chunk of this head is free, or is let go
abbrev pub goes : Head → Bool
goes h = nat_eq h.state FREE || nat_eq h.state PAINTED

-- the last free chunk ends at an address
abbrev pub touches : Range → Last → ℕ → Bool
touches r last at =
    not (nat_eq last.offset NO_CHUNK) && nat_eq (last.offset + last.size) (at - r.base)

-- memory, the last free chunk and the first one after a chunk became free
abbrev pub absorbed : List Granule → Range → Last → ℕ → ℕ → List Granule
absorbed gs r last at size =
    cond (touches r last at)
    (stored_cap gs (r.base + last.offset - r.ram) (plain (last.size + size + NO_CHUNK * 2 ^ 32)))
    (with_link (stored_cap gs (at - r.ram) (plain (size + NO_CHUNK * 2 ^ 32))) r.ram r.base last.offset
    last.size (at - r.base))

abbrev pub last_after : Range → Last → ℕ → ℕ → Last
last_after r last at size =
    cond (touches r last at)
    (record { offset = last.offset; size = last.size + size })
    (record { offset = at - r.base; size = size })

abbrev pub first_after : Range → Last → ℕ → ℕ
first_after r last at =
    cond (touches r last at) r.first (cond (nat_eq last.offset NO_CHUNK) (at - r.base) r.first)

-- the chunk lies in the heap, behind the last free one
pub record Absorbs (r : Range) (granules : ℕ) (last : Last) (at size : ℕ) : Type 0 where
  pub above : r.ram ≤ r.base
  pub low : r.base ≤ at
  pub even : (at - r.ram) % 8 ≡ 0
  pub some : 8 ≤ size
  pub fits : at + size ≤ r.base + r.length
  pub short : r.length < 2 ^ 32
  pub small : r.base + r.length ≤ 2 ^ 32
  pub inside : r.base + r.length ≤ r.ram + 8 * granules
  pub last_even : nat_eq last.offset NO_CHUNK ≡ false → (r.base + last.offset - r.ram) % 8 ≡ 0
  pub last_some : nat_eq last.offset NO_CHUNK ≡ false → 8 ≤ last.size
  pub last_fits : nat_eq last.offset NO_CHUNK ≡ false → r.base + last.offset + last.size ≤ at

-- a chunk that goes is absorbed; else nothing changes
pub record Visits (r q : Range) (gs hs : List Granule) (last next : Last) (at : ℕ) (h : Head) : Type
    0 where
  pub memory : hs ≡ cond (goes h) (absorbed gs r last at h.size) gs
  pub last_is : next ≡ cond (goes h) (last_after r last at h.size) last
  pub range : q ≡ cond (goes h) (record r { first = first_after r last at }) r
