-- What each answer of `read` says.
use Rattle.std.specs.Prelude.{◌≡◌, ℕ, List, Some, None}
use Rattle.serde_json.specs.Data.{Data}
use Rattle.def_desc.specs.Rows.{DescRow}
use Rattle.def_desc.specs.Reading.{description_of}
use Rattle.def_desc.specs.Walk.{place}
use Rattle.def_desc.specs.WellFormed.{IsFaulty, fault, fault_of}
use Rattle.ct_json.specs.declared.unread.Unread.{Unread}
use Rattle.ct_json.specs.declared.unread.Unread.TheVariants as unread
use Rattle.def_desc.specs.declared.faults.PartWord.TheVariants.{Firmware}
use Rattle.ct_desc.specs.declared.DescFault.{DescFault}
use Rattle.ct_desc.specs.declared.DescFault.TheVariants.{At, NoMemory}

abbrev pub Refused : List ℕ → DescFault → Type 0
Refused bytes (At number part index item) = IsFaulty bytes (fault number (place part index item))
Refused bytes NoMemory = Unit {0}

-- the same, of a value that was read
abbrev pub Good : Data → DescRow → Type 0
Good d rows = (fault_of d ≡ None) × (rows ≡ description_of d)

abbrev pub Faulty : Data → DescFault → Type 0
Faulty d (At number part index item) = fault_of d ≡ Some (fault number (place part index item))
Faulty d NoMemory = Unit {0}

-- why a text isn't read: F1, or want of memory
abbrev pub unread_fault : Unread → DescFault
unread_fault unread.Invalid = At 1 Firmware 0 0
unread_fault unread.NoMemory = NoMemory
