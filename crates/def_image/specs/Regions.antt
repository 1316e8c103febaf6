-- The regions of an image, in the order in which their bases stand in its bytes. The heap is none of them: it is the
-- rest of RAM from its base on.
use Rattle.std.specs.Prelude.{ℕ, ◌+◌, ◌*◌, List, [], ◌∷◌, ◌++◌, length}
use Rattle.ct_entry.specs.declared.rows.Owner.{Owner}
use Rattle.ct_entry.specs.declared.rows.Owner.TheVariants.{Compartment, Library}
use Rattle.def_profile.specs.declared.layout.TheConstants.{TABLE_HEAD, TABLE_ROW, TRUSTED_HEAD}
use Rattle.def_profile.specs.Areas.{area_length}
use Rattle.def_layout.specs.Placement.{region_length}
use Rattle.def_image.specs.declared.format.TheConstants.{SHARED, THREAD}
use Rattle.def_image.specs.Parts.{SharedRow, SealedRow, CodeRow, CompartmentRow, ThreadRow, PartsRow}
use Rattle.def_image.specs.Sizes.{sum_of, sealed_size, compartment_size, library_size, shared_at, sealed_at, compartments_at, libraries_at, threads_at}
use Rattle.def_image.specs.Spelling.{raw_sealed, raw_compartment, raw_code, raw_of}

-- what a region is of: the slots and text of a compartment or library, the export table and the globals of a
-- compartment, a shared object, a sealed one, a thread's stack, the trusted region
pub data Holder : Type 0 where
  CodeOf : Owner → Holder
  TableOf : ℕ → Holder
  GlobalsOf : ℕ → Holder
  SharedOf : ℕ → Holder
  SealedOf : ℕ → Holder
  StackOf : ℕ → Holder
  TrustedPart : Holder

-- `place` is where its base stands in the image
pub record RegionRow : Type 0 where
  pub holder : Holder
  pub place : ℕ
  pub base : ℕ
  pub length : ℕ

abbrev pub region_row : Holder → ℕ → ℕ → ℕ → RegionRow
region_row holder place base length = record {
  holder = holder;
  place = place;
  base = base;
  length = length;
}

-- ---- lengths that the image doesn't say

-- the head, and a row for each export
abbrev pub table_size : CodeRow → ℕ
table_size c = TABLE_HEAD + TABLE_ROW * length c.exports

abbrev pub table_length : CompartmentRow → ℕ
table_length c = region_length (table_size c.code)

-- a thread's saved registers and frames
abbrev pub area_size : ThreadRow → ℕ
area_size t = area_length t.frames

abbrev pub trusted_size : List ThreadRow → ℕ
trusted_size threads = TRUSTED_HEAD + sum_of area_size threads

abbrev pub trusted_length : PartsRow → ℕ
trusted_length p = region_length (trusted_size p.threads)

-- ---- the regions

abbrev pub shared_regions : ℕ → ℕ → List SharedRow → List RegionRow
shared_regions at n [] = []
shared_regions at n (s ∷ ss) =
    region_row (SharedOf n) (at + 32) s.base s.length ∷ shared_regions (at + SHARED) (n + 1) ss

abbrev pub sealed_regions : ℕ → ℕ → List SealedRow → List RegionRow
sealed_regions at n [] = []
sealed_regions at n (s ∷ ss) =
    region_row (SealedOf n) (at + 32) s.base s.length
    ∷ sealed_regions (at + sealed_size (raw_sealed s)) (n + 1) ss

abbrev pub compartment_regions : ℕ → ℕ → List CompartmentRow → List RegionRow
compartment_regions at b [] = []
compartment_regions at b (c ∷ cs) =
    region_row (CodeOf (Compartment b)) (at + 32) c.code.base c.code.length
    ∷ region_row (TableOf b) (at + 44) c.table (table_length c)
    ∷ region_row (GlobalsOf b) (at + 48) c.globals c.globals_length
    ∷ compartment_regions (at + compartment_size (raw_compartment c)) (b + 1) cs

abbrev pub library_regions : ℕ → ℕ → List CodeRow → List RegionRow
library_regions at l [] = []
library_regions at l (c ∷ cs) =
    region_row (CodeOf (Library l)) (at + 32) c.base c.length
    ∷ library_regions (at + library_size (raw_code c)) (l + 1) cs

abbrev pub stack_regions : ℕ → ℕ → List ThreadRow → List RegionRow
stack_regions at t [] = []
stack_regions at t (x ∷ xs) =
    region_row (StackOf t) (at + 32) x.stack x.stack_length ∷ stack_regions (at + THREAD) (t + 1) xs

abbrev pub trusted_region : PartsRow → RegionRow
trusted_region p = region_row TrustedPart 44 p.trusted (trusted_length p)

-- all but the trusted region
abbrev pub later_regions : PartsRow → List RegionRow
later_regions p =
    shared_regions (shared_at (raw_of p)) 0 p.shared
    ++ sealed_regions (sealed_at (raw_of p)) 0 p.sealed
    ++ compartment_regions (compartments_at (raw_of p)) 0 p.compartments
    ++ library_regions (libraries_at (raw_of p)) 0 p.libraries
    ++ stack_regions (threads_at (raw_of p)) 0 p.threads

unfoldable pub regions_of : PartsRow → List RegionRow
regions_of p = trusted_region p ∷ later_regions p
