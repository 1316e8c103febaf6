-- What stores do, and the load filter.
use Rattle.std.specs.Prelude.{ℕ, ◌+◌, ◌-◌, ◌*◌, ◌/◌, ◌&&◌, nat_le, Bool, List, length, cond}
use Rattle.def_words.specs.declared.Cap.{Cap}
use Rattle.def_words.specs.Authority.{cap_base}
use Rattle.def_words.specs.Capability.{untagged}
use Rattle.def_words.specs.Loaded.{stored_through}
use Rattle.def_memory.specs.declared.Granule.{Granule}
use Rattle.def_memory.specs.Granules.{granule_at}
use Rattle.def_memory.specs.Accesses.{stored, stored_cap}
use Rattle.def_machine.specs.Image.{Image}
use Rattle.def_machine.specs.State.{State}

-- so many bytes at an address lie in the memory that begins at `ram`
abbrev pub lies_in : ℕ → List Granule → ℕ → ℕ → Bool
lies_in ram gs at width = nat_le ram at && nat_le (at + width) (ram + 8 * length gs)

-- a capability is stored at an address of RAM: what is stored is what `by` lets through
abbrev pub cap_stored : Image → State → ℕ → Cap → Cap → State
cap_stored i s x by c =
    record s { granules = stored_cap s.granules (x - i.ram) (stored_through by c) }

-- plain bytes are stored at an address of RAM
abbrev pub bytes_stored : Image → State → ℕ → ℕ → ℕ → State
bytes_stored i s x width value = record s { granules = stored s.granules (x - i.ram) width value }

-- whether an address lies in a marked granule of the memory that begins at `ram`
abbrev pub is_marked_in : ℕ → List Granule → ℕ → Bool
is_marked_in ram gs x = nat_le ram x && (granule_at gs ((x - ram) / 8)).mark

-- The load filter: a capability whose base lies in a marked granule loses its tag, and nothing else of its
-- word.
abbrev pub filtered_in : ℕ → List Granule → Cap → Cap
filtered_in ram gs c = cond (c.tag && is_marked_in ram gs (cap_base c)) (untagged c) c

-- the same of a state's memory
abbrev pub is_marked : Image → State → ℕ → Bool
is_marked i s = is_marked_in i.ram s.granules

abbrev pub filtered : Image → State → Cap → Cap
filtered i s = filtered_in i.ram s.granules
