-- Places of a state, and which of them hold a tag at boot.
use Rattle.std.specs.Prelude.{ℕ, ◌≡◌, ◌+◌, ◌*◌, ◌<◌, ◌⊎◌, false, Some, slice_get, length}
use Rattle.def_profile.specs.declared.layout.TheConstants.{GRANULE, SLOT_SIZE}
use Rattle.def_words.specs.declared.Cap.{Cap}
use Rattle.def_machine.specs.State.{State, Frame, thread, register, granule}
use Rattle.def_image.specs.Parts.{CodeRow, CompartmentRow, PartsRow}

-- a granule of RAM, the program counter of a thread, a register of a thread
pub data Place : Type 0 where
  InRam : ℕ → Place
  InCounter : ℕ → Place
  InRegister : ℕ → ℕ → Place

abbrev pub cap_at : State → Place → Cap
cap_at s (InRam k) = (granule s k).cap
cap_at s (InCounter t) = (thread s t).pcc
cap_at s (InRegister t n) = register (thread s t) n

-- what a frame saved holds no tag
pub record IsBareFrame (f : Frame) : Type 0 where
  pub c1 : f.c1.tag ≡ false
  pub c2 : f.c2.tag ≡ false
  pub c3 : f.c3.tag ≡ false
  pub c8 : f.c8.tag ≡ false
  pub c9 : f.c9.tag ≡ false

-- ---- the granules that hold a tag at boot, by their addresses

-- the slots of an owner's code
abbrev pub IsSlot : CodeRow → ℕ → Type 0
IsSlot c x = (j : ℕ) × (j < length c.slots) × (x ≡ c.base + SLOT_SIZE * j)

-- the head of an export table: the capabilities of code and of globals
abbrev pub IsTableHead : CompartmentRow → ℕ → Type 0
IsTableHead c x = (x ≡ c.table) ⊎ (x ≡ c.table + GRANULE)

-- a slot, an export table's head, or the first granule of the trusted region
abbrev pub HoldsTag : PartsRow → ℕ → Type 0
HoldsTag p x =
    ((b : ℕ) × (c : CompartmentRow) × (slice_get p.compartments b ≡ Some c)
    × (IsSlot c.code x ⊎ IsTableHead c x))
    ⊎ ((l : ℕ) × (c : CodeRow) × (slice_get p.libraries l ≡ Some c) × IsSlot c x)
    ⊎ (x ≡ p.trusted)
