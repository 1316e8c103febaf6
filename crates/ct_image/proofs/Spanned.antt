-- The regions of an image without their holders, as the code lists them.
use Rattle.std.proofs.Common.{ℕ, ◌≡◌, ◌+◌, List, [], ◌∷◌, ◌++◌, map, refl, ap, ◌∙◌, append_assoc}
use Rattle.std.proofs.lemmas.List.{map-append}
use Rattle.def_image.specs.declared.format.TheConstants.{SHARED, THREAD}
use Rattle.def_image.specs.Parts.{SharedRow, SealedRow, CodeRow, CompartmentRow, ThreadRow, PartsRow}
use Rattle.def_image.specs.Spelling.{raw_sealed, raw_code, raw_compartment, raw_of}
use Rattle.def_image.specs.Sizes.{sealed_size, compartment_size, library_size, shared_at, sealed_at, compartments_at, libraries_at, threads_at}
use Rattle.def_image.specs.Regions.{RegionRow, shared_regions, sealed_regions, compartment_regions, library_regions, stack_regions, later_regions}
use Rattle.ct_image_parts.specs.Places.{shared_place, sealed_place, compartments_place, libraries_place, threads_place}
use Rattle.ct_image.specs.Spans.{unheld, shared_rows, sealed_rows, compartment_rows, library_rows, stack_rows, later_rows}
use Rattle.ct_image_parts.proofs.Sized.{sealed_is, library_is, compartment_is, shared_is, sealed_there, compartments_there, libraries_there, threads_there}
use Rattle.law_image.proofs.Regions.{same_tail}

-- ---- one more region

pub grows : (front : List RegionRow) (r : RegionRow) (rest total : List RegionRow) → front ++ r ∷ rest ≡ total → (front ++ r ∷ []) ++ rest ≡ total
grows front r rest total e = append_assoc front (r ∷ []) rest ∙ e

-- ---- lists without holders

shared_same : (at n : ℕ) (ss : List SharedRow) → map unheld (shared_regions at n ss) ≡ shared_rows at ss
shared_same at n [] = refl
shared_same at n (s ∷ ss) = same_tail (shared_same (at + SHARED) (n + 1) ss)

sealed_same : (at n : ℕ) (ss : List SealedRow) → map unheld (sealed_regions at n ss) ≡ sealed_rows at ss
sealed_same at n [] = refl
sealed_same at n (s ∷ ss) = same_tail (sealed_same (at + sealed_size (raw_sealed s)) (n + 1) ss ∙ ap (λ k. sealed_rows (at + k) ss) (sealed_is s))

compartments_same : (at b : ℕ) (cs : List CompartmentRow) → map unheld (compartment_regions at b cs) ≡ compartment_rows at cs
compartments_same at b [] = refl
compartments_same at b (c ∷ cs) =
    same_tail (same_tail (same_tail (compartments_same (at + compartment_size (raw_compartment c)) (b + 1) cs ∙ ap (λ k. compartment_rows (at + k) cs) (compartment_is c))))

libraries_same : (at l : ℕ) (cs : List CodeRow) → map unheld (library_regions at l cs) ≡ library_rows at cs
libraries_same at l [] = refl
libraries_same at l (c ∷ cs) = same_tail (libraries_same (at + library_size (raw_code c)) (l + 1) cs ∙ ap (λ k. library_rows (at + k) cs) (library_is c))

stacks_same : (at t : ℕ) (xs : List ThreadRow) → map unheld (stack_regions at t xs) ≡ stack_rows at xs
stacks_same at t [] = refl
stacks_same at t (x ∷ xs) = same_tail (stacks_same (at + THREAD) (t + 1) xs)

both : (a b x y : List RegionRow) → map unheld a ≡ x → map unheld b ≡ y → map unheld (a ++ b) ≡ x ++ y
both a b x y e f = map-append unheld a b ∙ ap (λ l. l ++ map unheld b) e ∙ ap (λ l. x ++ l) f

pub later_same : (p : PartsRow) → map unheld (later_regions p) ≡ later_rows p
later_same p =
    let r = raw_of p in
    let a = shared_regions (shared_at r) 0 p.shared in
    let b = sealed_regions (sealed_at r) 0 p.sealed in
    let c = compartment_regions (compartments_at r) 0 p.compartments in
    let d = library_regions (libraries_at r) 0 p.libraries in
    let e = stack_regions (threads_at r) 0 p.threads in
    let v = shared_rows (shared_place p) p.shared in
    let w = sealed_rows (sealed_place p) p.sealed in
    let x = compartment_rows (compartments_place p) p.compartments in
    let y = library_rows (libraries_place p) p.libraries in
    let z = stack_rows (threads_place p) p.threads in
    let ea : map unheld a ≡ v = shared_same (shared_at r) 0 p.shared ∙ ap (λ k. shared_rows k p.shared) (shared_is p) in
    let eb : map unheld b ≡ w = sealed_same (sealed_at r) 0 p.sealed ∙ ap (λ k. sealed_rows k p.sealed) (sealed_there p) in
    let ec : map unheld c ≡ x = compartments_same (compartments_at r) 0 p.compartments ∙ ap (λ k. compartment_rows k p.compartments) (compartments_there p) in
    let ed : map unheld d ≡ y = libraries_same (libraries_at r) 0 p.libraries ∙ ap (λ k. library_rows k p.libraries) (libraries_there p) in
    let ee : map unheld e ≡ z = stacks_same (threads_at r) 0 p.threads ∙ ap (λ k. stack_rows k p.threads) (threads_there p) in
    both (a ++ b ++ c ++ d) e (v ++ w ++ x ++ y) z (both (a ++ b ++ c) d (v ++ w ++ x) y (both (a ++ b) c (v ++ w) x (both a b v w ea eb) ec) ed) ee
