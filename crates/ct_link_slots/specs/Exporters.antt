-- What the rows of a lawful description ask of those that write tables of them: lists that 32 bits
-- can count, numbers that a row's field can hold.
use Rattle.std.specs.Prelude.{ℕ, ◌==◌, ◌<◌, ◌^◌, List, [], ◌∷◌, length, take, drop, bytes_eq, Option, Some, None, if◌then◌else◌}
use Rattle.std.specs.List.{AllByRecursion}
use Rattle.def_desc.specs.Named.{export_names, library_export_names}
use Rattle.def_desc.specs.Rows.{DescCompartment, LibraryRow, DescRow}
use Rattle.def_link.specs.Slots.{Exporter}

-- ---- owners by the names of their exports

abbrev pub exporter : DescCompartment → Exporter
exporter c = record { name = c.name; exports = export_names c }

abbrev pub library_exporter : LibraryRow → Exporter
library_exporter l = record { name = l.name; exports = library_export_names l }

abbrev pub IsExporter : DescCompartment → Type 0
IsExporter c = length c.exports < 2 ^ 32

abbrev pub IsLibraryExporter : LibraryRow → Type 0
IsLibraryExporter l = length l.exports < 2 ^ 32

-- ---- a text `owner.export`

-- what follows a point
abbrev pub after_point : List ℕ → Option (List ℕ)
after_point [] = None
after_point (b ∷ bs) = if b == 46 then Some bs else None

-- what follows `owner.`
abbrev pub after_owner : List ℕ → List ℕ → Option (List ℕ)
after_owner text owner =
    if bytes_eq (take (length owner) text) owner
    then after_point (drop (length owner) text)
    else None

-- ---- numbers that a row's fields hold

-- lists in which a name has an index of 32 bits
pub record AreCounted (d : DescRow) : Type 0 where
  pub devices : length d.devices < 2 ^ 32
  pub shared : length d.shared < 2 ^ 32
  pub sealed : length d.sealed < 2 ^ 32
  pub compartments : length d.compartments < 2 ^ 32
  pub libraries : length d.libraries < 2 ^ 32
  pub exporter : AllByRecursion IsExporter d.compartments
  pub library_exporter : AllByRecursion IsLibraryExporter d.libraries

-- keys of 32 bits
abbrev pub AreKeys : List ℕ → Type 0
AreKeys keys = AllByRecursion (λ k. k < 2 ^ 32) keys
