-- Bytes that are a description of some rows, and bytes that have some fault.
use Rattle.std.specs.Prelude.{ℕ, List}
use Rattle.def_desc.specs.declared.faults.Fault.{Fault}
use Rattle.def_desc.specs.Rows.{DescRow}
use Rattle.def_desc.specs.WellFormed.{WellFormed, IsFaulty}

abbrev pub IsDescribed : List ℕ → Type 0
IsDescribed bytes = (rows : DescRow) × WellFormed bytes rows

abbrev pub DescriptionHasFault : List ℕ → Type 0
DescriptionHasFault bytes = (f : Fault) × IsFaulty bytes f
