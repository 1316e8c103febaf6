-- The first failing check of a whole, by its parts.
use Rattle.std.proofs.Common.{ℕ, ◌≡◌, ◌+◌, ◌<◌, ◌^◌, ◌||◌, Bool, List, [], ◌∷◌, ◌++◌, Option, Some, None, refl, ap, ◌∙◌}
use Rattle.std.specs.Prelude.{bytes_eq}
use Rattle.std.proofs.lemmas.List.Folds.{list_any-append}
use Rattle.def_texts.specs.Names.{among}
use Rattle.def_image.specs.declared.Check.{Check}
use Rattle.def_image.specs.declared.format.TheConstants.{DEVICE, SHARED, THREAD, COMPARTMENT_HEAD, LIBRARY_HEAD}
use Rattle.def_image.specs.Raw.{RawCode, RawCompartment, RawImage}
use Rattle.def_image.specs.Sizes.{sealed_size, compartment_size, library_size, devices_at, shared_at, sealed_at, compartments_at, libraries_at, threads_at}
use Rattle.def_image.specs.Checks.{first, walked}
use Rattle.def_image.specs.Limits.{name_in_field, name_checks, own_slots_limits, own_gates, dirty_padding, slots_limits, library_gate_checks, count_limits, number_limits, header_limits, compartment_limits_by, library_limits_by, limit_checks, device_limits, shared_limits, sealed_limits, compartment_limits, library_limits, thread_limits}
use Rattle.def_image.specs.First.{first_some}
use Rattle.law_image.proofs.Walks.{first_both, or_later}
use Rattle.ct_image_limits.specs.Owners.{compartment_head, first_of_tables, library_head, first_of_library}
use Rattle.ct_image_limits.specs.Whole.{first_of_parts}

-- ---- the header

pub header_first : (r : RawImage) → first (header_limits r) ≡ first_some (first (count_limits r)) (first (number_limits r))
unfolding header_limits
header_first r = first_both (count_limits r) (number_limits r)

-- ---- owners

pub compartment_first : (entry at : ℕ) (seen : List (List ℕ)) (c : RawCompartment)
    → first (compartment_limits_by entry at seen c) ≡ first_some (first (compartment_head at (among (name_in_field c.code.name) seen) c)) (first_of_tables at entry c)
unfolding compartment_limits_by name_checks
compartment_first entry at seen c =
    let head = compartment_head at (among (name_in_field c.code.name) seen) c in
    let slots = own_slots_limits (at + COMPARTMENT_HEAD) c.code in
    let gates = own_gates entry at c.code in
    let padding = dirty_padding at c in
    first_both (head ++ slots ++ gates) padding
    ∙ ap (λ o. first_some o (first padding)) (first_both (head ++ slots) gates ∙ ap (λ o. first_some o (first gates)) (first_both head slots) ∙ or_later (first head) (first slots) (first gates))
    ∙ or_later (first head) (first_some (first slots) (first gates)) (first padding) ∙ ap (λ o. first_some (first head) o) (or_later (first slots) (first gates) (first padding))

pub library_first : (entry at : ℕ) (seen : List (List ℕ)) (c : RawCode)
    → first (library_limits_by entry at seen c) ≡ first_some (first (library_head at (among (name_in_field c.name) seen) c)) (first_of_library at entry c)
unfolding library_limits_by name_checks
library_first entry at seen c =
    let head = library_head at (among (name_in_field c.name) seen) c in
    let slots = slots_limits (at + LIBRARY_HEAD) c in
    let gates = library_gate_checks entry at c in
    first_both (head ++ slots) gates ∙ ap (λ o. first_some o (first gates)) (first_both head slots) ∙ or_later (first head) (first slots) (first gates)

-- ---- names of several lists

pub among_two : (name : List ℕ) (a b : List (List ℕ)) → among name (a ++ b) ≡ (among name a || among name b)
among_two name a b = list_any-append (bytes_eq name) a b

pub among_three : (name : List ℕ) (a b c : List (List ℕ)) → among name (a ++ b ++ c) ≡ (among name a || among name b || among name c)
among_three name a b c = among_two name (a ++ b) c ∙ ap (λ x. x || among name c) (among_two name a b)

-- ---- all

-- seven lists, one after the other
seven_first : (h d s x c l t : List Check)
    → first (h ++ d ++ s ++ x ++ c ++ l ++ t) ≡ first_some (first h) (first_some (first d) (first_some (first s) (first_some (first x) (first_some (first c) (first_some (first l) (first t))))))
seven_first h d s x c l t =
    onto (h ++ d ++ s ++ x ++ c ++ l) t _ (onto (h ++ d ++ s ++ x ++ c) l _ (onto (h ++ d ++ s ++ x) c _ (onto (h ++ d ++ s) x _ (onto (h ++ d) s _ (first_both h d)))))
    ∙ regrouped (first h) (first d) (first s) (first x) (first c) (first l) (first t)
  where
    onto : (cs more : List Check) (o : Option ℕ) → first cs ≡ o → first (cs ++ more) ≡ first_some o (first more)
    onto cs more o e = first_both cs more ∙ ap (λ p. first_some p (first more)) e

    regrouped : (h d s x c l t : Option ℕ) → first_some (first_some (first_some (first_some (first_some (first_some h d) s) x) c) l) t ≡ first_some h (first_some d (first_some s (first_some x (first_some c (first_some l t)))))
    regrouped None None None None None l t = refl
    regrouped None None None None (Some n) l t = refl
    regrouped None None None (Some n) c l t = refl
    regrouped None None (Some n) x c l t = refl
    regrouped None (Some n) s x c l t = refl
    regrouped (Some n) d s x c l t = refl

pub limits_first : (r : RawImage) → first (limit_checks r) ≡ first_some (first (header_limits r)) (first_of_parts r)
unfolding limit_checks
limits_first r =
    seven_first (header_limits r)
    (walked device_limits (λ d. DEVICE) (devices_at r) [] r.devices)
    (walked shared_limits (λ s. SHARED) (shared_at r) [] r.shared)
    (walked sealed_limits sealed_size (sealed_at r) [] r.sealed)
    (walked compartment_limits compartment_size (compartments_at r) [] r.compartments)
    (walked (library_limits r) library_size (libraries_at r) [] r.libraries)
    (walked (thread_limits r) (λ t. THREAD) (threads_at r) [] r.threads)
