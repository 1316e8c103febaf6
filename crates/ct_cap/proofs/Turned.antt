-- A capability at another address inside its bounds.
use Rattle.std.proofs.Common.{ℕ, ◌^◌, ◌<◌, ◌≤◌, ◌≡◌, ◌==◌, ◌&&◌, nat_le, true, refl, ap, sym, ◌∙◌}
use Rattle.std.proofs.lemmas.Bool.{leb-true, and_parts}
use Rattle.law_lists.proofs.Tests.{both_left, both_right}
use Rattle.def_words.specs.declared.Cap.{Cap}
use Rattle.def_words.specs.declared.Bounds.{Bounds}
use Rattle.def_words.specs.Authority.{base_of, bounds_of, cap_address, cap_base, cap_bounds, cap_high, cap_top, top_of, word_of}
use Rattle.def_words.specs.Capability.{cap_of, is_range_inside, is_representable, with_address, word_at}
use Rattle.def_words.specs.Seals.{cap_seal}
use Rattle.law_words.proofs.Words.{address_small, bounds_is}
use Rattle.law_words.proofs.Lowered.{own_bounds, representable}
use Rattle.ct_cap.proofs.Inside.{inside}

-- its bounds don't reach past the last address, and the address lies in them or at their top
pub record Stays (c : Cap) (a : ℕ) : Type 0 where
  pub small : a < 2 ^ 32
  pub low : cap_base c ≤ a
  pub high : a ≤ cap_top c
  pub fits : cap_top c ≤ 2 ^ 32

pub stays_by : (c : Cap) (a : ℕ) → a < 2 ^ 32 → (is_range_inside c a a && nat_le (cap_top c) (2 ^ 32)) ≡ true → Stays c a
stays_by c a small is =
    let within = both_left (is_range_inside c a a) (nat_le (cap_top c) (2 ^ 32)) is in
    let ends = and_parts (nat_le (cap_base c) a) (nat_le a (cap_top c)) within in
    record {
      small = small;
      low = leb-true (cap_base c) a ends.0;
      high = leb-true a (cap_top c) ends.1;
      fits = leb-true (cap_top c) (2 ^ 32) (both_right (is_range_inside c a a) (nat_le (cap_top c) (2 ^ 32)) is);
    }

pub bounds_stay : (c d : Cap) (a : ℕ) → Stays c a → d.word ≡ word_of (cap_high c) a → cap_bounds d ≡ cap_bounds c
bounds_stay c d a s is =
    let own = own_bounds c in
    let base : cap_base c ≡ base_of (cap_high c) (cap_address c) = ap (λ (b : Bounds). b.base) own in
    let top : cap_top c ≡ top_of (cap_high c) (cap_address c) = ap (λ (b : Bounds). b.top) own in
    let same = inside (cap_high c) (cap_address c) a (address_small c) (rw (← base) s.low) (rw (← top) s.high) (rw (← top) s.fits) in
    bounds_is d (cap_high c) a s.small is
    ∙ ap (λ n. record { exponent = (bounds_of (cap_high c) a).exponent; base = n; top = top_of (cap_high c) a }) same.0
    ∙ ap (λ n. record { exponent = (bounds_of (cap_high c) a).exponent; base = base_of (cap_high c) (cap_address c); top = n }) same.1
    ∙ sym own

pub turned : (c d : Cap) (a : ℕ) → Stays c a → c.tag ≡ true → cap_seal c ≡ 0 → d ≡ record c { word = word_at c a } → d ≡ with_address c a
unfolding with_address
turned c d a s tagged unsealed is =
    let same : cap_bounds (record c { word = word_at c a }) ≡ cap_bounds c = bounds_stay c (record c { word = word_at c a }) a s refl in
    let tests : (c.tag && (cap_seal c == 0) && is_representable c a) ≡ true =
    ap (λ t. t && (cap_seal c == 0) && is_representable c a) tagged
    ∙ ap (λ n. (n == 0) && is_representable c a) unsealed
    ∙ representable c (record c { word = word_at c a }) same in
    is
    ∙ ap (λ t. record { tag = t; word = word_at c a; shadow = c.shadow }) tagged
    ∙ sym (ap (λ b. cap_of b (word_at c a) c.shadow) tests)
