-- Regions without their holders, as the code keeps them; and what is asked of a list of them.
use Rattle.std.specs.Prelude.{ℕ, ◌≤◌, ◌+◌, List, [], ◌∷◌, ◌++◌, map, length, All}
use Rattle.def_profile.specs.declared.limits.TheConstants.{RAM_END, MOST_THREADS_2, MOST_FRAMES, MOST_EXPORTS}
use Rattle.def_image.specs.declared.format.TheConstants.{SHARED, THREAD}
use Rattle.def_image.specs.Parts.{SharedRow, SealedRow, CodeRow, CompartmentRow, ThreadRow, PartsRow}
use Rattle.def_image.specs.Regions.{RegionRow, TrustedPart, region_row, table_length}
use Rattle.ct_image_parts.specs.Places.{sealed_bytes, compartment_bytes, library_bytes, shared_place, sealed_place, compartments_place, libraries_place, threads_place}
use Rattle.ct_image.specs.declared.spans.Span.{Span}

abbrev pub row_of : Span → RegionRow
row_of s = region_row TrustedPart s.place s.base s.length

abbrev pub rows_of : List Span → List RegionRow
rows_of spans = map row_of spans

abbrev pub unheld : RegionRow → RegionRow
unheld r = record r { holder = TrustedPart }

-- how much threads and compartments may ask for, so that the lengths of their regions are small
pub record AreSmall (p : PartsRow) : Type 0 where
  pub threads : length p.threads ≤ MOST_THREADS_2
  pub frames : All (λ (t : ThreadRow). t.frames ≤ MOST_FRAMES) p.threads
  pub exports : All (λ (c : CompartmentRow). length c.code.exports ≤ MOST_EXPORTS) p.compartments
  pub ram : p.ram + p.size ≤ RAM_END

-- the regions of a compartment at this place
abbrev pub three_rows : ℕ → CompartmentRow → List RegionRow
three_rows at c =
    region_row TrustedPart (at + 32) c.code.base c.code.length
    ∷ region_row TrustedPart (at + 44) c.table (table_length c)
    ∷ region_row TrustedPart (at + 48) c.globals c.globals_length
    ∷ []

-- the regions of each list, the first member of which stands at this place
abbrev pub shared_rows : ℕ → List SharedRow → List RegionRow
shared_rows at [] = []
shared_rows at (s ∷ ss) =
    region_row TrustedPart (at + 32) s.base s.length ∷ shared_rows (at + SHARED) ss

abbrev pub sealed_rows : ℕ → List SealedRow → List RegionRow
sealed_rows at [] = []
sealed_rows at (s ∷ ss) =
    region_row TrustedPart (at + 32) s.base s.length ∷ sealed_rows (at + sealed_bytes s) ss

abbrev pub compartment_rows : ℕ → List CompartmentRow → List RegionRow
compartment_rows at [] = []
compartment_rows at (c ∷ cs) = three_rows at c ++ compartment_rows (at + compartment_bytes c) cs

abbrev pub library_rows : ℕ → List CodeRow → List RegionRow
library_rows at [] = []
library_rows at (c ∷ cs) =
    region_row TrustedPart (at + 32) c.base c.length ∷ library_rows (at + library_bytes c) cs

abbrev pub stack_rows : ℕ → List ThreadRow → List RegionRow
stack_rows at [] = []
stack_rows at (t ∷ ts) =
    region_row TrustedPart (at + 32) t.stack t.stack_length ∷ stack_rows (at + THREAD) ts

-- all but the trusted region
abbrev pub later_rows : PartsRow → List RegionRow
later_rows p =
    shared_rows (shared_place p) p.shared ++ sealed_rows (sealed_place p) p.sealed
    ++ compartment_rows (compartments_place p) p.compartments
    ++ library_rows (libraries_place p) p.libraries ++ stack_rows (threads_place p) p.threads
