-- I4: where regions and devices lie doesn't depend on where their bases stand in the bytes.
use Rattle.std.proofs.Common.{ℕ, ◌≡◌, ◌+◌, ◌&&◌, ◌||◌, not, nat_le, List, [], ◌∷◌, ◌++◌, map, None, refl, sym, ap, ◌∙◌}
use Rattle.std.specs.List.{list_any}
use Rattle.std.proofs.lemmas.List.{map-append}
use Rattle.ct_entry.specs.Listed.{DeviceRow}
use Rattle.def_image.specs.declared.Check.{Check}
use Rattle.def_image.specs.declared.format.TheConstants.{DEVICE, SHARED, THREAD}
use Rattle.def_image.specs.Parts.{SharedRow, SealedRow, CodeRow, CompartmentRow, ThreadRow, PartsRow, upgraded}
use Rattle.def_image.specs.Sizes.{sealed_size, compartment_size, library_size, header_size, shared_at, sealed_at, compartments_at, libraries_at, threads_at}
use Rattle.def_image.specs.Spelling.{raw_sealed, raw_compartment, raw_code, raw_of}
use Rattle.def_image.specs.Regions.{RegionRow, shared_regions, sealed_regions, compartment_regions, library_regions, stack_regions, trusted_region, later_regions}
use Rattle.def_image.specs.Checks.{first, walked, check}
use Rattle.def_image.specs.Lying.{region_checks, device_asked, region_asked, is_laid, is_laid_below, is_in_ram, is_even, is_heap_laid, meets_region, overlaps_native}
use Rattle.def_words.specs.LeastBounds.{rounded_of}
use Rattle.law_image.proofs.Flags.{flags, joined, none_alike, walks_alike}

-- ---- regions without their places

abbrev pub unplaced : RegionRow → RegionRow
unplaced r = record r { place = 0 }

abbrev pub Alike : List RegionRow → List RegionRow → Type 0
Alike rs qs = map unplaced rs ≡ map unplaced qs

meets_alike : (r : RegionRow) (rs : List RegionRow) → list_any (meets_region r) (map unplaced rs) ≡ list_any (meets_region r) rs
meets_alike r [] = refl
meets_alike r (q ∷ qs) = ap (λ b. meets_region r q || b) (meets_alike r qs)

below_alike : (p : PartsRow) (earlier : List RegionRow) (r : RegionRow) → is_laid_below p (map unplaced earlier) (unplaced r) ≡ is_laid_below p earlier r
below_alike p earlier r =
    ap (λ m. is_in_ram p r && is_even r.base && is_even r.length && (rounded_of r.base (r.base + r.length)).exact && not (meets_region r (trusted_region p) || m) && nat_le (r.base + r.length) p.heap)
    (meets_alike r earlier)

-- flags of a walk, which are those of the walk without places
abbrev walk : PartsRow → List RegionRow → List RegionRow → List Check
walk p earlier rs = walked (region_asked p) (λ r. 0) 0 earlier rs

unplaced_walk : (p : PartsRow) (earlier rs : List RegionRow) → flags (walk p (map unplaced earlier) (map unplaced rs)) ≡ flags (walk p earlier rs)
unfolding walked
unplaced_walk p earlier [] = refl
unplaced_walk p earlier (r ∷ rs) =
    let one : not (is_laid_below p (map unplaced earlier) (unplaced r)) ≡ not (is_laid_below p earlier r) = ap (λ b. not b) (below_alike p earlier r) in
    let grown : map unplaced earlier ++ unplaced r ∷ [] ≡ map unplaced (earlier ++ r ∷ []) = sym (map-append unplaced earlier (r ∷ [])) in
    ap (λ b. b ∷ flags (walk p (map unplaced earlier ++ unplaced r ∷ []) (map unplaced rs))) one
    ∙ ap (λ l. not (is_laid_below p earlier r) ∷ l) (ap (λ e. flags (walk p e (map unplaced rs))) grown ∙ unplaced_walk p (earlier ++ r ∷ []) rs)

walk_alike : (p : PartsRow) (rs qs : List RegionRow) → Alike rs qs → flags (walk p [] rs) ≡ flags (walk p [] qs)
walk_alike p rs qs e = sym (unplaced_walk p [] rs) ∙ ap (λ l. flags (walk p [] l)) e ∙ unplaced_walk p [] qs

-- ---- the regions of an image

pub same_tail : {x : RegionRow} {l m : List RegionRow} → l ≡ m → (x ∷ l) ≡ (x ∷ m)
same_tail {x = x} e = ap (λ (l : List RegionRow). x ∷ l) e

shared_moved : (at place n : ℕ) (ss : List SharedRow) → Alike (shared_regions at n ss) (shared_regions place n ss)
shared_moved at place n [] = refl
shared_moved at place n (s ∷ ss) = same_tail (shared_moved (at + SHARED) (place + SHARED) (n + 1) ss)

sealed_moved : (at place n : ℕ) (ss : List SealedRow) → Alike (sealed_regions at n ss) (sealed_regions place n ss)
sealed_moved at place n [] = refl
sealed_moved at place n (s ∷ ss) = same_tail (sealed_moved (at + sealed_size (raw_sealed s)) (place + sealed_size (raw_sealed s)) (n + 1) ss)

compartments_moved : (at place b : ℕ) (cs : List CompartmentRow) → Alike (compartment_regions at b cs) (compartment_regions place b cs)
compartments_moved at place b [] = refl
compartments_moved at place b (c ∷ cs) =
    same_tail (same_tail (same_tail (compartments_moved (at + compartment_size (raw_compartment c)) (place + compartment_size (raw_compartment c)) (b + 1) cs)))

libraries_moved : (at place l : ℕ) (cs : List CodeRow) → Alike (library_regions at l cs) (library_regions place l cs)
libraries_moved at place l [] = refl
libraries_moved at place l (c ∷ cs) = same_tail (libraries_moved (at + library_size (raw_code c)) (place + library_size (raw_code c)) (l + 1) cs)

stacks_moved : (at place t : ℕ) (xs : List ThreadRow) → Alike (stack_regions at t xs) (stack_regions place t xs)
stacks_moved at place t [] = refl
stacks_moved at place t (x ∷ xs) = same_tail (stacks_moved (at + THREAD) (place + THREAD) (t + 1) xs)

both_alike : (a b x y : List RegionRow) → Alike a x → Alike b y → Alike (a ++ b) (x ++ y)
both_alike a b x y e f =
    map-append unplaced a b ∙ ap (λ l. l ++ map unplaced b) e ∙ ap (λ l. map unplaced x ++ l) f ∙ sym (map-append unplaced x y)

pub later_alike : (p : PartsRow) → Alike (later_regions p) (later_regions (upgraded p))
later_alike p =
    let r = raw_of p in
    let q = raw_of (upgraded p) in
    let a = shared_regions (shared_at r) 0 p.shared in
    let b = sealed_regions (sealed_at r) 0 p.sealed in
    let c = compartment_regions (compartments_at r) 0 p.compartments in
    let d = library_regions (libraries_at r) 0 p.libraries in
    let e = stack_regions (threads_at r) 0 p.threads in
    let v = shared_regions (shared_at q) 0 p.shared in
    let w = sealed_regions (sealed_at q) 0 p.sealed in
    let x = compartment_regions (compartments_at q) 0 p.compartments in
    let y = library_regions (libraries_at q) 0 p.libraries in
    let z = stack_regions (threads_at q) 0 p.threads in
    let s1 = both_alike a b v w (shared_moved (shared_at r) (shared_at q) 0 p.shared) (sealed_moved (sealed_at r) (sealed_at q) 0 p.sealed) in
    let s2 = both_alike (a ++ b) c (v ++ w) x s1 (compartments_moved (compartments_at r) (compartments_at q) 0 p.compartments) in
    let s3 = both_alike (a ++ b ++ c) d (v ++ w ++ x) y s2 (libraries_moved (libraries_at r) (libraries_at q) 0 p.libraries) in
    both_alike (a ++ b ++ c ++ d) e (v ++ w ++ x ++ y) z s3 (stacks_moved (threads_at r) (threads_at q) 0 p.threads)

-- ---- the checks

devices_alike : (p : PartsRow) (at place : ℕ) (earlier : List DeviceRow) (d : DeviceRow) → flags (device_asked p at earlier d) ≡ flags (device_asked (upgraded p) place earlier d)
devices_alike p at place earlier d = refl

-- a walk asks of an image's regions what it asks of the upgraded one's
walk_upgraded : (p : PartsRow) (earlier rs : List RegionRow) → flags (walk p earlier rs) ≡ flags (walk (upgraded p) earlier rs)
walk_upgraded p earlier rs = walks_alike (region_asked p) (region_asked (upgraded p)) (λ r. 0) (λ r. 0) (λ at place before r. refl) 0 0 earlier rs

-- all but the regions after the trusted one
abbrev head : PartsRow → List Check
head p =
    check 36 (overlaps_native p.ram p.size) ∷ check 44 (not (is_laid p [] (trusted_region p))) ∷ check 48 (not (is_heap_laid p))
    ∷ walked (device_asked p) (λ d. DEVICE) (header_size p.version) [] p.devices

head_alike : (p : PartsRow) → flags (head p) ≡ flags (head (upgraded p))
head_alike p =
    ap (λ l. overlaps_native p.ram p.size ∷ not (is_laid p [] (trusted_region p)) ∷ not (is_heap_laid p) ∷ l)
    (walks_alike (device_asked p) (device_asked (upgraded p)) (λ d. DEVICE) (λ d. DEVICE) (devices_alike p) (header_size p.version) (header_size (upgraded p).version) [] p.devices)

pub regions_stay : (p : PartsRow) → first (region_checks p) ≡ None → first (region_checks (upgraded p)) ≡ None
unfolding region_checks
regions_stay p none =
    let regions : flags (walk p [] (later_regions p)) ≡ flags (walk (upgraded p) [] (later_regions (upgraded p))) =
    walk_alike p (later_regions p) (later_regions (upgraded p)) (later_alike p) ∙ walk_upgraded p [] (later_regions (upgraded p)) in
    none_alike (region_checks p) (region_checks (upgraded p))
    (joined (head p) (walk p [] (later_regions p)) (head (upgraded p)) (walk (upgraded p) [] (later_regions (upgraded p))) (head_alike p) regions) none
