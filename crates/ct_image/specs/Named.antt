-- What slots and threads name, by indexes.
use Rattle.std.specs.Prelude.{ℕ, ◌&&◌, ◌==◌, Bool, nat_lt, List, slice_get}
use Rattle.def_image.specs.declared.ImportRow.{ImportRow}
use Rattle.def_image.specs.Parts.{CodeRow, CompartmentRow}
use Rattle.def_image.specs.Indexes.{exports_of, code_in, is_service}

-- a compartment of this index has an export of that one
abbrev pub has_own : List CompartmentRow → ℕ → ℕ → Bool
has_own cs b j = nat_lt j (exports_of (code_in cs b))

abbrev pub has_shared : List CodeRow → ℕ → ℕ → Bool
has_shared cs l j = nat_lt j (exports_of (slice_get cs l))

-- the service of this number
abbrev pub is_of : ImportRow → ℕ → Bool
is_of r n = is_service r.kind && r.first == n
