-- What the regions of an image are of, and which regions there are.
use Rattle.std.specs.Prelude.{ℕ, ◌≡◌, Some, slice_get}
use Rattle.ct_entry.specs.declared.rows.Owner.TheVariants.{Trusted, Compartment, Library, Thread}
use Rattle.def_image.specs.Parts.{CodeRow, CompartmentRow, SharedRow, SealedRow, ThreadRow, PartsRow}
use Rattle.def_image.specs.Regions.{Holder, CodeOf, TableOf, GlobalsOf, SharedOf, SealedOf, StackOf, TrustedPart, RegionRow, table_length, trusted_length}

-- a region with this base and length
pub record Spans (r : RegionRow) (base length : ℕ) : Type 0 where
  pub base_is : r.base ≡ base
  pub length_is : r.length ≡ length

-- a region has the base and the length of what it is of
abbrev pub IsOf : PartsRow → RegionRow → Holder → Type 0
IsOf p r (CodeOf (Compartment b)) =
    (c : CompartmentRow) × (slice_get p.compartments b ≡ Some c) × Spans r c.code.base c.code.length
IsOf p r (CodeOf (Library l)) =
    (c : CodeRow) × (slice_get p.libraries l ≡ Some c) × Spans r c.base c.length
IsOf p r (CodeOf Trusted) = ⊥
IsOf p r (CodeOf (Thread t)) = ⊥
IsOf p r (TableOf b) =
    (c : CompartmentRow) × (slice_get p.compartments b ≡ Some c) × Spans r c.table (table_length c)
IsOf p r (GlobalsOf b) =
    (c : CompartmentRow) × (slice_get p.compartments b ≡ Some c)
    × Spans r c.globals c.globals_length
IsOf p r (SharedOf n) =
    (s : SharedRow) × (slice_get p.shared n ≡ Some s) × Spans r s.base s.length
IsOf p r (SealedOf n) =
    (s : SealedRow) × (slice_get p.sealed n ≡ Some s) × Spans r s.base s.length
IsOf p r (StackOf t) =
    (x : ThreadRow) × (slice_get p.threads t ≡ Some x) × Spans r x.stack x.stack_length
IsOf p r TrustedPart = Spans r p.trusted (trusted_length p)
