-- Where the parts of a sound image lie: each is one of its regions.
use Rattle.std.proofs.Common.{ℕ, ◌≡◌, Some, slice_get, refl}
use Rattle.ct_entry.specs.declared.rows.Owner.TheVariants.{Compartment, Library}
use Rattle.def_image.specs.Parts.{SharedRow, SealedRow, CodeRow, CompartmentRow, ThreadRow, PartsRow}
use Rattle.def_image.specs.Regions.{Holder, CodeOf, TableOf, GlobalsOf, SharedOf, SealedOf, StackOf, TrustedPart, region_row, regions_of, table_length, trusted_length}
use Rattle.def_image.specs.Sound.{Sound}
use Rattle.law_boot.proofs.Regions as listed
use Rattle.law_boot.proofs.Regions.{Among}
use Rattle.def_boot.specs.Fits.{Lies}

-- a compartment's three regions
pub record OwnLies (p : PartsRow) (c : CompartmentRow) : Type 0 where
  pub code : Lies p c.code.base c.code.length
  pub table : Lies p c.table (table_length c)
  pub globals : Lies p c.globals c.globals_length

module _ (p : PartsRow) (s : Sound p) where
  lies : (h : Holder) (base size : ℕ) → Among (regions_of p) h base size → Lies p base size
  lies h base size a =
      let l = s.laid.each a.index (region_row h a.place base size) a.is in
      record { low = l.low; high = l.high; even = l.even; whole = l.whole; exact = l.exact }

  pub trusted_there : Lies p p.trusted (trusted_length p)
  unfolding regions_of
  trusted_there = lies TrustedPart p.trusted (trusted_length p) (record { index = 0; place = 44; is = refl })

  pub shared_there : (n : ℕ) (o : SharedRow) → slice_get p.shared n ≡ Some o → Lies p o.base o.length
  shared_there n o is = lies (SharedOf n) o.base o.length (listed.shared_there p n o is)

  pub sealed_there : (n : ℕ) (o : SealedRow) → slice_get p.sealed n ≡ Some o → Lies p o.base o.length
  sealed_there n o is = lies (SealedOf n) o.base o.length (listed.sealed_there p n o is)

  pub own_there : (b : ℕ) (c : CompartmentRow) → slice_get p.compartments b ≡ Some c → OwnLies p c
  own_there b c is = record {
    code = lies (CodeOf (Compartment b)) c.code.base c.code.length (listed.code_there p b c is);
    table = lies (TableOf b) c.table (table_length c) (listed.table_there p b c is);
    globals = lies (GlobalsOf b) c.globals c.globals_length (listed.globals_there p b c is);
  }

  pub library_there : (l : ℕ) (c : CodeRow) → slice_get p.libraries l ≡ Some c → Lies p c.base c.length
  library_there l c is = lies (CodeOf (Library l)) c.base c.length (listed.library_there p l c is)

  pub stack_there : (t : ℕ) (x : ThreadRow) → slice_get p.threads t ≡ Some x → Lies p x.stack x.stack_length
  stack_there t x is = lies (StackOf t) x.stack x.stack_length (listed.stack_there p t x is)
