-- The regions and devices of an image whose checks of regions pass.
use Rattle.std.proofs.Common.{ℕ, zero, suc, ◌≡◌, ◌+◌, ◌%◌, ◌<◌, ◌≤◌, ◌&&◌, not, true, false, nat_le, List, [], ◌∷◌, ◌++◌, take, Some, None, slice_get, refl, sym, ap, ◌∙◌, subst, arith, inl, inr}
use Rattle.std.specs.List.{list_any}
use Rattle.std.proofs.lemmas.Bool.{leb-true, lt-ltb, eqb-true, not-true, not-false}
use Rattle.ct_entry.specs.Listed.{DeviceRow}
use Rattle.law_lists.proofs.Tests.{le_tells, lt_tells, both_left, both_right}
use Rattle.law_lists.proofs.Places.{any_not}
use Rattle.def_words.specs.LeastBounds.{rounded_of}
use Rattle.def_image.specs.declared.Check.{Check}
use Rattle.def_image.specs.declared.format.TheConstants.{DEVICE}
use Rattle.def_image.specs.Parts.{PartsRow}
use Rattle.def_image.specs.Regions.{RegionRow, regions_of, trusted_region, later_regions}
use Rattle.def_image.specs.Checks.{first, walked, check}
use Rattle.def_image.specs.Lying.{region_checks, device_asked, region_asked, is_device_laid, is_laid, is_laid_below, is_in_ram, is_even, is_heap_laid, overlaps, overlaps_native, overlaps_device, meets_region, trusted_region_end}
use Rattle.def_image.specs.Sizes.{header_size}
use Rattle.def_image.specs.Laid.{IsLaid, AreLaid, IsIn}
use Rattle.def_image.specs.Sound.{IsAway, DeviceFits}
use Rattle.law_image.proofs.Tells.{among_taken}
use Rattle.law_image.proofs.Passing.{left_none, right_none, head_none, passes}

-- ---- ranges that don't meet

meet : (a m b n : ℕ) → 0 < m → 0 < n → a < b + n → b < a + m → overlaps a m b n ≡ true
meet a m b n some any low high = rw (lt-ltb 0 m some, lt-ltb 0 n any, lt-ltb a (b + n) low, lt-ltb b (a + m) high) refl

pub away : (a m b n : ℕ) → 0 < m → 0 < n → overlaps a m b n ≡ false → IsAway a m b (b + n)
away a m b n some any e = elim (le_tells (b + n) a) [
  | inl h ↦ inr h.1
  | inr h ↦ elim (le_tells (a + m) b) [
    | inl k ↦ inl k.1
    | inr k ↦ absurd (let no : true ≡ false = sym (meet a m b n some any h.1 k.1) ∙ e in cc)
  ]
]

-- ---- one region

-- laid, with those before it
pub record Stands (p : PartsRow) (earlier : List RegionRow) (r : RegionRow) : Type 0 where
  pub laid : IsLaid p r
  pub apart : (i : ℕ) (q : RegionRow) → slice_get earlier i ≡ Some q → meets_region r q ≡ false

stands : (p : PartsRow) (earlier : List RegionRow) (r : RegionRow) → is_laid p earlier r ≡ true → r.base + r.length ≤ p.heap → Stands p earlier r
stands p earlier r e heap =
    let low = nat_le p.ram r.base in
    let high = nat_le (r.base + r.length) (p.ram + p.size) in
    let exact = (rounded_of r.base (r.base + r.length)).exact in
    let alone = not (list_any (meets_region r) earlier) in
    let c1 = is_in_ram p r in
    let c2 = is_in_ram p r && is_even r.base in
    let c3 = is_in_ram p r && is_even r.base && is_even r.length in
    let c4 = is_in_ram p r && is_even r.base && is_even r.length && exact in
    let f4 = both_left c4 alone e in
    let f3 = both_left c3 exact f4 in
    let f2 = both_left c2 (is_even r.length) f3 in
    let f1 = both_left c1 (is_even r.base) f2 in
    record {
      laid = record {
        low = leb-true p.ram r.base (both_left low high f1);
        high = heap;
        even = eqb-true (r.base % 16) 0 (both_right c1 (is_even r.base) f2);
        whole = eqb-true (r.length % 16) 0 (both_right c2 (is_even r.length) f3);
        exact = both_right c3 exact f4;
      };
      apart = λ i q is. any_not (meets_region r) earlier i q (not-true (list_any (meets_region r) earlier) (both_right c4 alone e)) is;
    }

-- what doesn't meet has no address in common
pub no_address : (r q : RegionRow) (x : ℕ) → meets_region r q ≡ false → IsIn r x → IsIn q x → ⊥
no_address r q x apart a b = absurd (let no : true ≡ false = sym all ∙ apart in cc)
  where
    some : (low n : ℕ) → low ≤ x → x < low + n → 0 < n
    some low n le lt = omega (arith, le, lt)

    all : meets_region r q ≡ true
    all =
        let a0 = a.0 in
        let a1 = a.1 in
        let b0 = b.0 in
        let b1 = b.1 in
        rw (lt-ltb 0 r.length (some r.base r.length a0 a1), lt-ltb 0 q.length (some q.base q.length b0 b1), lt-ltb r.base (q.base + q.length) (omega (arith, a0, b1)), lt-ltb q.base (r.base + r.length) (omega (arith, b0, a1))) refl

-- ---- all of them

devices_walk : PartsRow → List Check
devices_walk p = walked (device_asked p) (λ d. DEVICE) (header_size p.version) [] p.devices

regions_walk : PartsRow → List Check
regions_walk p = walked (region_asked p) (λ r. 0) 0 [] (later_regions p)

pub record Checked (p : PartsRow) : Type 0 where
  pub ram : overlaps_native p.ram p.size ≡ false
  pub trusted : is_laid p [] (trusted_region p) ≡ true
  pub heap : is_heap_laid p ≡ true
  pub devices : first (walked (device_asked p) (λ d. DEVICE) (header_size p.version) [] p.devices) ≡ None
  pub regions : first (walked (region_asked p) (λ r. 0) 0 [] (later_regions p)) ≡ None

pub checked : (p : PartsRow) → first (region_checks p) ≡ None → Checked p
unfolding region_checks devices_walk regions_walk
checked p e =
    let a = head_none (check 36 (overlaps_native p.ram p.size)) (check 44 (not (is_laid p [] (trusted_region p))) ∷ check 48 (not (is_heap_laid p)) ∷ devices_walk p ++ regions_walk p) e in
    let b = head_none (check 44 (not (is_laid p [] (trusted_region p)))) (check 48 (not (is_heap_laid p)) ∷ devices_walk p ++ regions_walk p) a.1 in
    let c = head_none (check 48 (not (is_heap_laid p))) (devices_walk p ++ regions_walk p) b.1 in
    record {
      ram = a.0;
      trusted = not-false (is_laid p [] (trusted_region p)) b.0;
      heap = not-false (is_heap_laid p) c.0;
      devices = left_none (devices_walk p) (regions_walk p) c.1;
      regions = right_none (devices_walk p) (regions_walk p) c.1;
    }

module _ (p : PartsRow) (h : Checked p) where
  pub trusted_below : trusted_region_end p ≤ p.heap
  trusted_below = leb-true (trusted_region_end p) p.heap (both_right (is_even p.heap && nat_le p.heap (p.ram + p.size)) (nat_le (trusted_region_end p) p.heap) h.heap)

  pub heap_even : p.heap % 16 ≡ 0
  heap_even = eqb-true (p.heap % 16) 0 (both_left (is_even p.heap) (nat_le p.heap (p.ram + p.size)) (both_left (is_even p.heap && nat_le p.heap (p.ram + p.size)) (nat_le (trusted_region_end p) p.heap) h.heap))

  pub heap_inside : p.heap ≤ p.ram + p.size
  heap_inside = leb-true p.heap (p.ram + p.size) (both_right (is_even p.heap) (nat_le p.heap (p.ram + p.size)) (both_left (is_even p.heap && nat_le p.heap (p.ram + p.size)) (nat_le (trusted_region_end p) p.heap) h.heap))

  later_stand : (i : ℕ) (r : RegionRow) → slice_get (later_regions p) i ≡ Some r → Stands p (trusted_region p ∷ take i (later_regions p)) r
  later_stand i r is =
      let asked = passes (region_asked p) (λ r. 0) 0 (later_regions p) h.regions i r is in
      let one = (head_none (check r.place (not (is_laid_below p (take i (later_regions p)) r))) [] asked.1).0 in
      let both = not-false (is_laid_below p (take i (later_regions p)) r) one in
      let laid = is_laid p (trusted_region p ∷ take i (later_regions p)) r in
      let below = nat_le (r.base + r.length) p.heap in
      stands p (trusted_region p ∷ take i (later_regions p)) r (both_left laid below both) (leb-true (r.base + r.length) p.heap (both_right laid below both))

  region_stands : (i : ℕ) (r : RegionRow) → slice_get (trusted_region p ∷ later_regions p) i ≡ Some r → Stands p (take i (trusted_region p ∷ later_regions p)) r
  region_stands zero r is =
      let same : trusted_region p ≡ r = cc in
      subst (λ z. Stands p [] z) same (stands p [] (trusted_region p) h.trusted trusted_below)
  region_stands (suc i) r is = later_stand i r is

  one_of : (i j x : ℕ) (r q : RegionRow) → slice_get (trusted_region p ∷ later_regions p) i ≡ Some r → slice_get (trusted_region p ∷ later_regions p) j ≡ Some q → IsIn r x → IsIn q x → i ≡ j
  one_of i j x r q at_i at_j in_r in_q = elim (lt_tells i j) [
    | inl h ↦ absurd (let lt = h.1 in no_address q r x ((region_stands j q at_j).apart i r (among_taken (trusted_region p ∷ later_regions p) i j r lt at_i)) in_q in_r)
    | inr h ↦ elim (lt_tells j i) [
      | inl k ↦ absurd (let lt = k.1 in no_address r q x ((region_stands i r at_i).apart j q (among_taken (trusted_region p ∷ later_regions p) j i q lt at_j)) in_r in_q)
      | inr k ↦ let le = h.1 in let ge = k.1 in omega (arith, le, ge)
    ]
  ]

  pub are_laid : AreLaid p
  unfolding regions_of
  are_laid = record { each = λ i r is. (region_stands i r is).laid; one = λ i j x r q a b c d. one_of i j x r q a b c d }

  pub trusted_low : p.ram ≤ p.trusted
  trusted_low = (region_stands zero (trusted_region p) refl).laid.low

  -- ---- devices

  record Alone (earlier : List DeviceRow) (d : DeviceRow) : Type 0 where
    pub even : d.base % 16 ≡ 0
    pub ram : overlaps d.base 16 p.ram p.size ≡ false
    pub native : overlaps_native d.base 16 ≡ false
    pub others : list_any (overlaps_device d.base) earlier ≡ false

  alone : (i : ℕ) (d : DeviceRow) → slice_get p.devices i ≡ Some d → Alone (take i p.devices) d
  alone i d is =
      let asked = passes (device_asked p) (λ d. DEVICE) (header_size p.version) p.devices h.devices i d is in
      let one = (head_none (check (asked.0 + 36) (not (is_device_laid p (take i p.devices) d))) [] asked.1).0 in
      let all = not-false (is_device_laid p (take i p.devices) d) one in
      let c1 = is_even d.base in
      let c2 = not (overlaps d.base 16 p.ram p.size) in
      let c3 = not (overlaps_native d.base 16) in
      let c4 = not (list_any (overlaps_device d.base) (take i p.devices)) in
      let f3 = both_left (c1 && c2 && c3) c4 all in
      let f2 = both_left (c1 && c2) c3 f3 in
      record {
        even = eqb-true (d.base % 16) 0 (both_left c1 c2 f2);
        ram = not-true (overlaps d.base 16 p.ram p.size) (both_right c1 c2 f2);
        native = not-true (overlaps_native d.base 16) (both_right (c1 && c2) c3 f3);
        others = not-true (list_any (overlaps_device d.base) (take i p.devices)) (both_right (c1 && c2 && c3) c4 all);
      }

  pub device_fits : 0 < p.size → (i : ℕ) (d : DeviceRow) → d.base < 4294967296 → slice_get p.devices i ≡ Some d → DeviceFits p d
  device_fits some i d small is =
      let a = alone i d is in
      let even = a.even in
      record {
        even = a.even;
        small = omega (arith, even, small);
        ram = away d.base 16 p.ram p.size (omega arith) some a.ram;
        native = away d.base 16 65536 4096 (omega arith) (omega arith) a.native;
      }

  same_meets : (b : ℕ) → overlaps b 16 b 16 ≡ true
  same_meets b = rw (lt-ltb b (b + 16) (omega arith)) refl

  pub devices_apart : (i j : ℕ) (d e : DeviceRow) → slice_get p.devices i ≡ Some d → slice_get p.devices j ≡ Some e → d.base ≡ e.base → i ≡ j
  devices_apart i j d e at_i at_j same = elim (lt_tells i j) [
    | inl k ↦ absurd (clash e d (any_not (overlaps_device e.base) (take j p.devices) i d (alone j e at_j).others (among_taken p.devices i j d k.1 at_i)) (sym same))
    | inr k ↦ elim (lt_tells j i) [
      | inl l ↦ absurd (clash d e (any_not (overlaps_device d.base) (take i p.devices) j e (alone i d at_i).others (among_taken p.devices j i e l.1 at_j)) same)
      | inr l ↦ let le = k.1 in let ge = l.1 in omega (arith, le, ge)
    ]
  ]
    where
      clash : (x y : DeviceRow) → overlaps_device x.base y ≡ false → x.base ≡ y.base → ⊥
      clash x y apart is = absurd (let both : true ≡ false = sym (same_meets x.base) ∙ ap (λ n. overlaps x.base 16 n 16) is ∙ apart in cc)
