-- I4: where the regions, the devices and RAM itself may lie.
use Rattle.std.specs.Prelude.{ℕ, ◌+◌, ◌-◌, ◌%◌, ◌==◌, ◌&&◌, Bool, not, nat_le, nat_lt, List, [], ◌∷◌, ◌++◌}
use Rattle.std.specs.List.{list_any}
use Rattle.ct_entry.specs.Listed.{DeviceRow}
use Rattle.def_profile.specs.declared.layout.TheConstants.{REGION_UNIT, DEVICE_SIZE}
use Rattle.def_profile.specs.declared.native.TheConstants.{NATIVE_BASE, NATIVE_END}
use Rattle.def_words.specs.LeastBounds.{rounded_of}
use Rattle.def_image.specs.declared.Check.{Check}
use Rattle.def_image.specs.declared.format.TheConstants.{DEVICE}
use Rattle.def_image.specs.Parts.{PartsRow}
use Rattle.def_image.specs.Sizes.{header_size}
use Rattle.def_image.specs.Regions.{RegionRow, trusted_region, later_regions}
use Rattle.def_image.specs.Checks.{check, walked}

abbrev pub is_even : ℕ → Bool
is_even n = n % REGION_UNIT == 0

-- an address lies in both ranges, each given by its base and length; in an empty one lies none
abbrev pub overlaps : ℕ → ℕ → ℕ → ℕ → Bool
overlaps a m b n = nat_lt 0 m && nat_lt 0 n && nat_lt a (b + n) && nat_lt b (a + m)

-- the range in which native routines stand
abbrev pub overlaps_native : ℕ → ℕ → Bool
overlaps_native a m = overlaps a m NATIVE_BASE (NATIVE_END - NATIVE_BASE)

abbrev pub meets_region : RegionRow → RegionRow → Bool
meets_region r q = overlaps r.base r.length q.base q.length

abbrev pub is_in_ram : PartsRow → RegionRow → Bool
is_in_ram p r = nat_le p.ram r.base && nat_le (r.base + r.length) (p.ram + p.size)

-- in RAM, at multiples of 16, with bounds that a word can spell, and apart from those before it
abbrev pub is_laid : PartsRow → List RegionRow → RegionRow → Bool
is_laid p earlier r =
    is_in_ram p r && is_even r.base && is_even r.length
    && (rounded_of r.base (r.base + r.length)).exact
    && not (list_any (meets_region r) earlier)

abbrev pub trusted_region_end : PartsRow → ℕ
trusted_region_end p = (trusted_region p).base + (trusted_region p).length

-- the heap begins in RAM, or at its end, and after the trusted region
abbrev pub is_heap_laid : PartsRow → Bool
is_heap_laid p = is_even p.heap && nat_le p.heap (p.ram + p.size) && nat_le (trusted_region_end p) p.heap

-- a region whose base stands after the heap's: laid, and below the heap
abbrev pub is_laid_below : PartsRow → List RegionRow → RegionRow → Bool
is_laid_below p earlier r =
    is_laid p (trusted_region p ∷ earlier) r && nat_le (r.base + r.length) p.heap

abbrev pub region_asked : PartsRow → ℕ → List RegionRow → RegionRow → List Check
region_asked p at earlier r = check r.place (not (is_laid_below p earlier r)) ∷ []

abbrev pub overlaps_device : ℕ → DeviceRow → Bool
overlaps_device base d = overlaps base DEVICE_SIZE d.base DEVICE_SIZE

abbrev pub is_device_laid : PartsRow → List DeviceRow → DeviceRow → Bool
is_device_laid p earlier d =
    is_even d.base && not (overlaps d.base DEVICE_SIZE p.ram p.size)
    && not (overlaps_native d.base DEVICE_SIZE)
    && not (list_any (overlaps_device d.base) earlier)

abbrev pub device_asked : PartsRow → ℕ → List DeviceRow → DeviceRow → List Check
device_asked p at earlier d = check (at + 36) (not (is_device_laid p earlier d)) ∷ []

unfoldable pub region_checks : PartsRow → List Check
region_checks p =
    check 36 (overlaps_native p.ram p.size)
    ∷ check 44 (not (is_laid p [] (trusted_region p)))
    ∷ check 48 (not (is_heap_laid p))
    ∷ walked (device_asked p) (λ d. DEVICE) (header_size p.version) [] p.devices
    ++ walked (region_asked p) (λ r. 0) 0 [] (later_regions p)
