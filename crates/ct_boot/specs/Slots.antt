-- What boot puts in the slots of an owner.
use Rattle.std.specs.Prelude.{ℕ, ◌+◌, ◌*◌, ◌≡◌, Some, slice_get}
use Rattle.ct_entry.specs.declared.rows.Owner.{Owner}
use Rattle.def_profile.specs.declared.layout.TheConstants.{SLOT_SIZE}
use Rattle.def_words.specs.declared.Cap.{Cap}
use Rattle.def_image.specs.declared.ImportRow.{ImportRow}
use Rattle.def_image.specs.Parts.{SlotRow, CodeRow, PartsRow}
use Rattle.def_image.specs.Sound.{SlotFits}
use Rattle.def_boot.specs.Entries.{slot_entry}
use Rattle.def_boot.specs.Made.{entry_cap}
use Rattle.def_boot.specs.Booting.{BootPuts}

-- the capability of the slot at an address, by its row, as entry n
abbrev pub slot_cap : PartsRow → Owner → ℕ → ℕ → ImportRow → Cap
slot_cap p o n at r = entry_cap p n (slot_entry p o at r r.kind) (slot_entry p o at r r.kind).kind

-- each slot's row fits, and boot puts its capability where it stands; the first has number `first`
pub record SlotPut (p : PartsRow) (n at : ℕ) (r : ImportRow) : Type 0 where
  pub fits : SlotFits p r
  pub owner : Owner
  pub puts : BootPuts p at (slot_cap p owner n at r)

abbrev pub SlotsPut : PartsRow → ℕ → CodeRow → Type 0
SlotsPut p first c =
    (j : ℕ) (s : SlotRow) → slice_get c.slots j ≡ Some s
    → SlotPut p (first + j) (c.base + SLOT_SIZE * j) s.row
