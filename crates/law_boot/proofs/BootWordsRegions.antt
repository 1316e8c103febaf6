-- What boots at an address of a region is what stands there in the region.
use Rattle.std.proofs.Common.{ℕ, ◌≡◌, ◌+◌, ◌-◌, ◌%◌, ◌<◌, refl, ap, sym, ◌∙◌, arith}
use Rattle.def_image.specs.Parts.{PartsRow}
use Rattle.def_image.specs.Regions.{Holder, TrustedPart, RegionRow, region_row, regions_of, trusted_length}
use Rattle.def_image.specs.Sound.{Sound}
use Rattle.def_boot.specs.Contents.{content, content_at, boot_cap}
use Rattle.law_boot.proofs.Regions.{Among}
use Rattle.law_boot.proofs.Found.{found}
use Rattle.def_boot.specs.Booting.{BootPuts}

-- ---- the trusted region

pub trusted_there : (p : PartsRow) → Among (regions_of p) TrustedPart p.trusted (trusted_length p)
unfolding regions_of
trusted_there p = record { index = 0; place = 44; is = refl }

-- ---- at an offset of a region

pub at_offset : (p : PartsRow) (s : Sound p) (h : Holder) (base size k : ℕ) → Among (regions_of p) h base size → k < size → k % 8 ≡ 0 → BootPuts p (base + k) (content p h k)
unfolding boot_cap
at_offset p s h base size k a lt unit =
    let r : RegionRow = region_row h a.place base size in
    let laid = s.laid.each a.index r a.is in
    let low = laid.low in
    let high = laid.high in
    let even = laid.even in
    let whole = laid.whole in
    let inside = s.heap.inside in
    let there = found p s a.index (base + k) r a.is (omega arith, omega (arith, lt)) in
    let offset : k ≡ base + k - base = omega arith in
    record {
      low = omega (arith, low);
      high = omega (arith, lt, unit, high, inside, whole);
      even = omega (arith, even, unit);
      is = ap (λ n. content p h n) offset ∙ ap (λ o. content_at p o (base + k)) (sym there);
    }
