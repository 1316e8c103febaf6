-- Rights in rows are six packed bits.
use Rattle.std.specs.Prelude.{◌<◌, ◌&&◌, Bool, List, All}
use Rattle.def_image.specs.declared.ImportRow.{ImportRow}
use Rattle.def_image.specs.Rights.{fits_kind, rights_of, is_library}
use Rattle.def_image.specs.Parts.{SlotRow, CodeRow, CompartmentRow}

abbrev pub ArePacked : List SlotRow → Type 0
ArePacked slots = All (λ (s : SlotRow). s.row.rights < 64) slots

abbrev pub OwnersPacked : List CompartmentRow → Type 0
OwnersPacked cs = All (λ (c : CompartmentRow). ArePacked c.code.slots) cs

abbrev pub LibrariesPacked : List CodeRow → Type 0
LibrariesPacked cs = All (λ (c : CodeRow). ArePacked c.slots) cs

-- a row of a library, with the rights of one
abbrev pub is_library_right : ImportRow → Bool
is_library_right r = fits_kind r.kind (rights_of r) && is_library r.kind
