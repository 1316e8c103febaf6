-- What the parts of an image owe so that the numbers of its entries have 32 bits.
use Rattle.std.specs.Prelude.{ℕ, ◌≡◌, ◌+◌, ◌*◌, ◌^◌, ◌≤◌, ◌<◌, Some, List, length, option_map, position, unwrap_or, slice_get}
use Rattle.std.specs.List.{AllByRecursion}
use Rattle.def_profile.specs.declared.layout.TheConstants.{SLOT_SIZE, TABLE_HEAD, TABLE_ROW}
use Rattle.def_profile.specs.declared.limits.TheConstants as most
use Rattle.def_image.specs.Parts.{SlotRow, GateRow, CodeRow, CompartmentRow, PartsRow}
use Rattle.def_image.specs.Members.{is_handler}
use Rattle.def_image.specs.Sound.{SlotFits}

abbrev pub HasFit : PartsRow → SlotRow → Type 0
HasFit p s = SlotFits p s.row

-- an export's code is in a text of this length
abbrev pub Starts : ℕ → GateRow → Type 0
Starts text x = x.row.offset < text

-- slots and text lie in the code's region
pub record CodeStands (p : PartsRow) (c : CodeRow) : Type 0 where
  pub end : c.base + c.length < 2 ^ 32
  pub room : SLOT_SIZE * length c.slots + length c.text ≤ c.length
  pub few : length c.slots ≤ most.MOST_SLOTS
  pub exports : length c.exports ≤ most.MOST_EXPORTS
  pub fit : AllByRecursion (HasFit p) c.slots
  pub starts : AllByRecursion (Starts (length c.text)) c.exports

pub record CompartmentStands (p : PartsRow) (c : CompartmentRow) : Type 0 where
  pub code : CodeStands p c.code
  pub table : c.table + TABLE_HEAD + TABLE_ROW * length c.code.exports < 2 ^ 32

pub record PartsFit (p : PartsRow) : Type 0 where
  pub compartments : AllByRecursion (CompartmentStands p) p.compartments
  pub libraries : AllByRecursion (CodeStands p) p.libraries
  pub few : length p.compartments ≤ most.MOST_COMPARTMENTS
  pub some : length p.libraries ≤ most.MOST_LIBRARIES
  pub threads : length p.threads ≤ most.MOST_THREADS_2

-- the number in an export's row
abbrev pub entry_at : List GateRow → ℕ → ℕ
entry_at xs j = unwrap_or (option_map (λ (x : GateRow). x.row.entry) (slice_get xs j)) 0

-- the number in the row of a compartment's error handler; 0 where it has none
abbrev pub handler_in : CompartmentRow → ℕ
handler_in c =
    unwrap_or
    (option_map (λ j. entry_at c.code.exports j) (position is_handler c.code.exports))
    0

-- there is a compartment of this index, with an export of this one
abbrev pub HasExport : PartsRow → ℕ → ℕ → Type 0
HasExport p b j =
    (c : CompartmentRow) × (x : GateRow)
    × (slice_get p.compartments b ≡ Some c) × (slice_get c.code.exports j ≡ Some x)
