-- Walks by other sizes that are the same, and the first fault of several walks.
use Rattle.std.proofs.Common.{ℕ, ◌≡◌, ◌+◌, List, [], ◌∷◌, ◌++◌, refl, ap, ◌∙◌}
use Rattle.def_image.specs.declared.Check.{Check}
use Rattle.def_image.specs.declared.format.TheConstants.{THREAD}
use Rattle.def_image.specs.Parts.{CodeRow, CompartmentRow, PartsRow}
use Rattle.def_image.specs.Spelling.{raw_of}
use Rattle.def_image.specs.Sizes.{compartments_at, libraries_at, threads_at}
use Rattle.def_image.specs.Checks.{first, walked}
use Rattle.def_image.specs.Indexes.{compartment_asked, library_asked, thread_asked, part_size, code_size, index_checks}
use Rattle.def_image.specs.Rights.{compartment_rights, library_rights, right_checks}
use Rattle.def_image.specs.First.{first_some}
use Rattle.law_image.proofs.Walks.{first_both, or_later}
use Rattle.ct_image_parts.specs.Places.{compartment_bytes, library_bytes, compartments_place, libraries_place, threads_place}
use Rattle.ct_image_parts.proofs.Sized.{compartment_is, library_is, compartments_there, libraries_there, threads_there}

resized : {A : Type 0} (asked : ℕ → List A → A → List Check) (size other : A → ℕ) → ((x : A) → size x ≡ other x) → (at : ℕ) (earlier xs : List A) → walked asked size at earlier xs ≡ walked asked other at earlier xs
unfolding walked
resized asked size other same at earlier [] = refl
resized {A = A} asked size other same at earlier (x ∷ xs) =
    ap (λ k. asked at earlier x ++ walked asked size (at + k) (earlier ++ x ∷ []) xs) (same x)
    ∙ ap (λ (l : List Check). asked at earlier x ++ l) (resized asked size other same (at + other x) (earlier ++ x ∷ []) xs)

abbrev pub owners_walk : (ℕ → List CompartmentRow → CompartmentRow → List Check) → PartsRow → List Check
owners_walk asked p = walked asked compartment_bytes (compartments_place p) [] p.compartments

abbrev pub libraries_walk : (ℕ → List CodeRow → CodeRow → List Check) → PartsRow → List Check
libraries_walk asked p = walked asked library_bytes (libraries_place p) [] p.libraries

abbrev pub threads_walk : PartsRow → List Check
threads_walk p = walked (thread_asked p) (λ t. THREAD) (threads_place p) [] p.threads

owners_same : (asked : ℕ → List CompartmentRow → CompartmentRow → List Check) (p : PartsRow) → walked asked part_size (compartments_at (raw_of p)) [] p.compartments ≡ owners_walk asked p
owners_same asked p =
    ap (λ k. walked asked part_size k [] p.compartments) (compartments_there p) ∙ resized asked part_size compartment_bytes compartment_is (compartments_place p) [] p.compartments

libraries_same : (asked : ℕ → List CodeRow → CodeRow → List Check) (p : PartsRow) → walked asked code_size (libraries_at (raw_of p)) [] p.libraries ≡ libraries_walk asked p
libraries_same asked p =
    ap (λ k. walked asked code_size k [] p.libraries) (libraries_there p) ∙ resized asked code_size library_bytes library_is (libraries_place p) [] p.libraries

pub indexes_first : (p : PartsRow) → first (index_checks p) ≡ first_some (first (owners_walk (compartment_asked p) p)) (first_some (first (libraries_walk (library_asked p) p)) (first (threads_walk p)))
unfolding index_checks
indexes_first p =
    let c = walked (compartment_asked p) part_size (compartments_at (raw_of p)) [] p.compartments in
    let l = walked (library_asked p) code_size (libraries_at (raw_of p)) [] p.libraries in
    let t = walked (thread_asked p) (λ t. THREAD) (threads_at (raw_of p)) [] p.threads in
    let ec : first c ≡ first (owners_walk (compartment_asked p) p) = ap first (owners_same (compartment_asked p) p) in
    let el : first l ≡ first (libraries_walk (library_asked p) p) = ap first (libraries_same (library_asked p) p) in
    let et : first t ≡ first (threads_walk p) = ap (λ k. first (walked (thread_asked p) (λ t. THREAD) k [] p.threads)) (threads_there p) in
    first_both (c ++ l) t ∙ ap (λ o. first_some o (first t)) (first_both c l) ∙ or_later (first c) (first l) (first t)
    ∙ ap (λ o. first_some o (first_some (first l) (first t))) ec ∙ ap (λ o. first_some (first (owners_walk (compartment_asked p) p)) (first_some o (first t))) el
    ∙ ap (λ o. first_some (first (owners_walk (compartment_asked p) p)) (first_some (first (libraries_walk (library_asked p) p)) o)) et

pub rights_first : (p : PartsRow) → first (right_checks p) ≡ first_some (first (owners_walk compartment_rights p)) (first (libraries_walk library_rights p))
unfolding right_checks
rights_first p =
    let c = walked compartment_rights part_size (compartments_at (raw_of p)) [] p.compartments in
    let l = walked library_rights code_size (libraries_at (raw_of p)) [] p.libraries in
    first_both c l ∙ ap (λ o. first_some o (first l)) (ap first (owners_same compartment_rights p))
    ∙ ap (λ o. first_some (first (owners_walk compartment_rights p)) o) (ap first (libraries_same library_rights p))
