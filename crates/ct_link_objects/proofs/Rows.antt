-- The owners of a description by their places, compartments first.
use Rattle.std.proofs.Common.{ℕ, zero, suc, ◌≡◌, ◌+◌, ◌-◌, ◌<◌, ◌≤◌, List, [], ◌∷◌, length, get_or, Some, slice_get, refl, ap, ◌∙◌, arith}
use Rattle.std.proofs.lemmas.List.{length-append, get_or_append_left, get_or-append_right}
use Rattle.std.proofs.lemmas.Option.{slice_get-get_or}
use Rattle.def_desc.specs.Rows.{DescCompartment, LibraryRow, DescRow}
use Rattle.def_link.specs.Owners.{numbered, compartment_unit, library_unit, units_of}

numbered_length : {A B : Type 0} (f : ℕ → A → B) (n : ℕ) (xs : List A) → length (numbered f n xs) ≡ length xs
numbered_length f n [] = refl
numbered_length f n (x ∷ xs) = ap suc (numbered_length f (n + 1) xs)

numbered_at : {A B : Type 0} (f : ℕ → A → B) (n : ℕ) (xs : List A) (k : ℕ) (d : A) (u : B) → k < length xs → get_or (numbered f n xs) k u ≡ f (n + k) (get_or xs k d)
numbered_at f n [] k d u low = absurd (omega (arith, low))
numbered_at f n (x ∷ xs) zero d u low = ap (λ m. f m x) (let e : n ≡ n + 0 = omega arith in e)
numbered_at f n (x ∷ xs) (suc k) d u low =
    numbered_at f (n + 1) xs k d u (omega (arith, low)) ∙ ap (λ m. f m (get_or xs k d)) (let e : n + 1 + k ≡ n + suc k = omega arith in e)

pub owners_counted : (d : DescRow) → length d.compartments + length d.libraries ≡ length (units_of d)
owners_counted d =
    let own = numbered_length compartment_unit 0 d.compartments in
    let lent = numbered_length library_unit 0 d.libraries in
    let both = length-append (numbered compartment_unit 0 d.compartments) (numbered library_unit 0 d.libraries) in
    omega (arith, own, lent, both)

pub own_at : (d : DescRow) (k : ℕ) (z : DescCompartment) → k < length d.compartments
    → slice_get (units_of d) k ≡ Some (compartment_unit k (get_or d.compartments k z))
own_at d k z low =
    let own = numbered compartment_unit 0 d.compartments in
    let u = compartment_unit k z in
    let count = numbered_length compartment_unit 0 d.compartments in
    let all = owners_counted d in
    let at : 0 + k ≡ k = omega arith in
    slice_get-get_or (units_of d) k u (omega (arith, low, all))
    ∙ ap (λ x. Some x) (get_or_append_left own (numbered library_unit 0 d.libraries) u k (omega (arith, low, count))
    ∙ numbered_at compartment_unit 0 d.compartments k z u low ∙ ap (λ m. compartment_unit m (get_or d.compartments k z)) at)

pub lent_at : (d : DescRow) (k : ℕ) (z : LibraryRow) → length d.compartments ≤ k → k < length (units_of d)
    → slice_get (units_of d) k ≡ Some (library_unit (k - length d.compartments) (get_or d.libraries (k - length d.compartments) z))
lent_at d k z past low =
    let i = k - length d.compartments in
    let u = library_unit i z in
    let count = numbered_length compartment_unit 0 d.compartments in
    let all = owners_counted d in
    let at : 0 + i ≡ i = omega arith in
    slice_get-get_or (units_of d) k u low
    ∙ ap (λ x. Some x) (get_or-append_right (numbered compartment_unit 0 d.compartments) (numbered library_unit 0 d.libraries) (length d.compartments) k u count past
    ∙ numbered_at library_unit 0 d.libraries i z u (omega (arith, past, low, all)) ∙ ap (λ m. library_unit m (get_or d.libraries i z)) at)
