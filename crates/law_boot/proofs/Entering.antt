-- A compartment's code is tagged at each word of it: a capability that was made stays tagged where its address moves within.
use Rattle.std.proofs.Common.{ℕ, ◌≡◌, ◌/◌, ◌%◌, ◌^◌, ◌<◌, ◌==◌, ◌&&◌, true, refl, sym, ap, ◌∙◌}
use Rattle.std.proofs.lemmas.Bool.{eq-eqb, and_from}
use Rattle.def_words.specs.declared.Cap.{Cap}
use Rattle.def_words.specs.declared.Shadow.{Shadow}
use Rattle.def_words.specs.Authority.{word_of, cap_high, cap_base, cap_top, cap_bounds}
use Rattle.def_words.specs.Capability.{with_address, is_representable, word_at, with_exact_bounds, masked}
use Rattle.def_words.specs.Derive.{derive, root_cap}
use Rattle.def_words.specs.Seals.{cap_seal, is_unsealed}
use Rattle.law_words.proofs.Words.{high_is}
use Rattle.law_words.proofs.Narrowing.{Addressed, addressed, bounds_word}

-- a capability that may have each of two addresses may have one after the other
pub moved_again : (c : Cap) (a x : ℕ) → a < 2 ^ 32 → x < 2 ^ 32 → (with_address c a).tag ≡ true → (with_address c x).tag ≡ true → (with_address (with_address c a) x).tag ≡ true
unfolding with_address
moved_again c a x small small_x first second =
    let f : Addressed c a = addressed c a small first in
    let g : Addressed c x = addressed c x small_x second in
    let there : cap_bounds (record (with_address c a) { word = word_at (with_address c a) x }) ≡ cap_bounds (with_address c x) = bounds_word (record (with_address c a) { word = word_at (with_address c a) x }) (with_address c x) (ap (λ h. word_of h x) (high_is (with_address c a) (cap_high c) a small refl)) in
    let same : cap_bounds (record (with_address c a) { word = word_at (with_address c a) x }) ≡ cap_bounds (with_address c a) = there ∙ g.bounds ∙ sym f.bounds in
    and_from ((with_address c a).tag && is_unsealed (with_address c a)) (is_representable (with_address c a) x)
    (and_from (with_address c a).tag (is_unsealed (with_address c a)) first (eq-eqb (cap_seal (with_address c a)) 0 f.after))
    (and_from (cap_base (record (with_address c a) { word = word_at (with_address c a) x }) == cap_base (with_address c a)) (cap_top (record (with_address c a) { word = word_at (with_address c a) x }) == cap_top (with_address c a))
    (eq-eqb (cap_base (record (with_address c a) { word = word_at (with_address c a) x })) (cap_base (with_address c a)) (ap (λ b. b.base) same))
    (eq-eqb (cap_top (record (with_address c a) { word = word_at (with_address c a) x })) (cap_top (with_address c a)) (ap (λ b. b.top) same)))

pub made_again : (high base size rights a x : ℕ) (from : Shadow) → a < 2 ^ 32 → x < 2 ^ 32 → (derive high base size rights a 0 from).tag ≡ true → (derive high base size rights x 0 from).tag ≡ true → (with_address (derive high base size rights a 0 from) x).tag ≡ true
unfolding derive
made_again high base size rights a x from small small_x first second = moved_again (masked (with_exact_bounds (with_address (root_cap high from) base) size) rights) a x small small_x first second
