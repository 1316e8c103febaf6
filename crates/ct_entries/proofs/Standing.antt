-- The parts of a sound image stand in 32 bits.
use Rattle.std.proofs.Common.{ℕ, zero, suc, ◌≡◌, ◌+◌, ◌^◌, ◌<◌, List, [], ◌∷◌, ◌++◌, length, drop, get_or, Some, slice_get, refl, sym, subst, arith}
use Rattle.std.specs.List.{AllByRecursion}
use Rattle.law_lists.proofs.Alls.{all_left, all_right}
use Rattle.def_image.specs.Parts.{CodeRow, CompartmentRow, PartsRow}
use Rattle.def_image.specs.Sizes.{compartment_size, library_size, compartments_at, libraries_at, threads_at, shared_at, sealed_at}
use Rattle.def_image.specs.Spelling.{raw_code, raw_compartment, raw_of}
use Rattle.def_image.specs.Regions.{RegionRow, table_size, table_length, regions_of, shared_regions, sealed_regions, compartment_regions, library_regions, stack_regions}
use Rattle.def_image.specs.Sound.{Sound}
use Rattle.law_image.proofs.Members.{all_at}
use Rattle.law_image.proofs.Sounds.{sound}
use Rattle.def_image.specs.Accepted.{IsFaultless}
use Rattle.law_image.proofs.Limited.{few_threads}
use Rattle.ct_entries.specs.Fits.{HasFit, Starts, CodeStands, CompartmentStands, PartsFit}
use Rattle.law_layout.proofs.Placing.{size_fits}

pub faultless_is_sound : (p : PartsRow) → IsFaultless p → Sound p
faultless_is_sound p f = sound p f

-- ---- from indexes to all

pub all_of : {A : Type 0} (P : A → Type 0) (xs : List A) → ((i : ℕ) (x : A) → slice_get xs i ≡ Some x → P x) → AllByRecursion P xs
all_of P [] each = tt
all_of P (x ∷ xs) each = (each zero x refl, all_of P xs (λ i y is. each (suc i) y is))

-- the first of those that are left
pub first_of : {A : Type 0} (P : A → Type 0) (xs : List A) (i : ℕ) (x : A) → i < length xs → x ≡ get_or xs i x → AllByRecursion P (drop i xs) → P x
first_of P [] i x lt is h = absurd (omega (arith, lt))
first_of P (y ∷ ys) zero x lt is h = subst P (sym is) h.0
first_of P (y ∷ ys) (suc i) x lt is h = first_of P ys i x (omega (arith, lt)) is h

-- ---- regions end below 2^32

Ends : RegionRow → Type 0
Ends r = r.base + r.length < 2 ^ 32

-- of each compartment its code and its export table, of each library its code
abbrev CompartmentEnds : CompartmentRow → Type 0
CompartmentEnds c = (c.code.base + c.code.length < 2 ^ 32) × (c.table + table_length c < 2 ^ 32)

compartments_end : (cs : List CompartmentRow) (at b : ℕ) → AllByRecursion Ends (compartment_regions at b cs) → AllByRecursion CompartmentEnds cs
unfolding Ends
compartments_end [] at b h = tt
compartments_end (c ∷ cs) at b h = ((h.0, h.1.0), compartments_end cs (at + compartment_size (raw_compartment c)) (b + 1) h.1.1.1)

abbrev CodeEnds : CodeRow → Type 0
CodeEnds c = c.base + c.length < 2 ^ 32

libraries_end : (cs : List CodeRow) (at l : ℕ) → AllByRecursion Ends (library_regions at l cs) → AllByRecursion CodeEnds cs
unfolding Ends
libraries_end [] at l h = tt
libraries_end (c ∷ cs) at l h = (h.0, libraries_end cs (at + library_size (raw_code c)) (l + 1) h.1)

regions_end : (p : PartsRow) → Sound p → AllByRecursion Ends (regions_of p)
unfolding Ends
regions_end p s = all_of Ends (regions_of p) (λ i r is. let high = (s.laid.each i r is).high in let inside = s.heap.inside in let end = s.ram.end in omega (arith, high, inside, end))

module _ (p : PartsRow) (s : Sound p) where
  one : List RegionRow
  one = shared_regions (shared_at (raw_of p)) 0 p.shared

  two : List RegionRow
  two = sealed_regions (sealed_at (raw_of p)) 0 p.sealed

  three : List RegionRow
  three = compartment_regions (compartments_at (raw_of p)) 0 p.compartments

  four : List RegionRow
  four = library_regions (libraries_at (raw_of p)) 0 p.libraries

  five : List RegionRow
  five = stack_regions (threads_at (raw_of p)) 0 p.threads

  later : AllByRecursion Ends (one ++ two ++ three ++ four ++ five)
  unfolding regions_of one two three four five
  later = (regions_end p s).1

  first_four : AllByRecursion Ends (one ++ two ++ three ++ four)
  first_four = all_left Ends (one ++ two ++ three ++ four) five later

  codes_end : AllByRecursion CodeEnds p.libraries
  unfolding four
  codes_end = libraries_end p.libraries (libraries_at (raw_of p)) 0 (all_right Ends (one ++ two ++ three) four first_four)

  parts_end : AllByRecursion CompartmentEnds p.compartments
  unfolding three
  parts_end = compartments_end p.compartments (compartments_at (raw_of p)) 0 (all_right Ends (one ++ two) three (all_left Ends (one ++ two ++ three) four first_four))

  own_code : (b : ℕ) (c : CompartmentRow) → slice_get p.compartments b ≡ Some c → CodeStands p c.code
  own_code b c is =
      let f = s.compartment b c is in
      let ends = all_at CompartmentEnds p.compartments b c parts_end is in
      record {
        end = ends.0;
        room = f.code.fits;
        few = f.slots.1;
        exports = f.code.exports;
        fit = all_of (HasFit p) c.code.slots (λ j x at. (f.slot j x at).fits);
        starts = all_of (Starts (length c.code.text)) c.code.exports (λ j x at. (f.export j x at).offset.inside);
      }

  compartment_stands : (b : ℕ) (c : CompartmentRow) → slice_get p.compartments b ≡ Some c → CompartmentStands p c
  compartment_stands b c is =
      let ends = (all_at CompartmentEnds p.compartments b c parts_end is).1 in
      let long = size_fits (table_size c.code) in
      record { code = own_code b c is; table = omega (arith, ends, long) }

  library_stands : (l : ℕ) (c : CodeRow) → slice_get p.libraries l ≡ Some c → CodeStands p c
  library_stands l c is =
      let f = s.library l c is in
      record {
        end = all_at CodeEnds p.libraries l c codes_end is;
        room = f.code.fits;
        few = (let few = f.slots in omega (arith, few));
        exports = f.code.exports;
        fit = all_of (HasFit p) c.slots (λ j x at. (f.slot j x at).fits);
        starts = all_of (Starts (length c.text)) c.exports (λ j x at. (f.export j x at).offset.inside);
      }

  pub stands : PartsFit p
  stands = record {
    compartments = all_of (CompartmentStands p) p.compartments compartment_stands;
    libraries = all_of (CodeStands p) p.libraries library_stands;
    few = s.few.compartments;
    some = s.few.libraries;
    threads = few_threads p s.few;
  }
