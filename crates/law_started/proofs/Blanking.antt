-- What is hidden is zero at boot: the threads' areas and the heap.
use Rattle.std.proofs.Common.{ℕ, ◌≡◌, ◌+◌, ◌-◌, ◌*◌, ◌≤◌, ◌<◌, ◌==◌, ◌&&◌, ◌||◌, ◌⊎◌, Bool, true, nat_le, nat_lt, inl, inr, [], Option, Some, None, refl, ap, ◌∙◌, arith, if◌then◌else◌}
use Rattle.std.proofs.lemmas.Bool.{leb-true, ltb-true, and_parts, or_cases}
use Rattle.law_lists.proofs.Tests.{lt_tells, eq_tells}
use Rattle.def_profile.specs.declared.layout.TheConstants.{TRUSTED_HEAD}
use Rattle.def_memory.specs.declared.Granule.{Granule}
use Rattle.def_memory.specs.Granules.{plain}
use Rattle.def_machine.specs.Image.{address_of}
use Rattle.def_machine.specs.State.{granule}
use Rattle.def_hidden.specs.Hidden.{Blank, is_hidden}
use Rattle.def_image.specs.Parts.{PartsRow}
use Rattle.def_image.specs.Regions.{RegionRow, trusted_region}
use Rattle.def_image.specs.Sound.{Sound}
use Rattle.def_boot.specs.Made.{return_sentry}
use Rattle.def_boot.specs.Contents.{content_at, boot_cap, region_at, granules_in}
use Rattle.def_boot.specs.Boot.{image_of, boot_state}
use Rattle.law_boot.proofs.Found.{found, none_there}
use Rattle.law_boot.proofs.Contents.{booted_in}
use Rattle.law_started.proofs.Granules.{past_none, same_granule}
use Rattle.law_started.proofs.Shutting.{Ends, ends_in, first_region}

-- hidden at boot: an area's address, or the heap's
abbrev HiddenAt : PartsRow → ℕ → Type 0
HiddenAt p x = ((p.trusted + TRUSTED_HEAD ≤ x) × (x < Ends p)) ⊎ (p.heap ≤ x)

module _ (p : PartsRow) (s : Sound p) where
  hidden_at : (k : ℕ) → is_hidden (image_of p) [] k ≡ true → HiddenAt p (address_of (image_of p) k)
  unfolding image_of
  hidden_at k h = elim (or_cases (nat_le (p.trusted + TRUSTED_HEAD) (p.ram + 8 * k) && nat_lt (p.ram + 8 * k) (Ends p)) (nat_le p.heap (p.ram + 8 * k) && nat_lt (p.ram + 8 * k) (p.ram + p.size) && true) h) [
    | inl area ↦ (let ends = and_parts (nat_le (p.trusted + TRUSTED_HEAD) (p.ram + 8 * k)) (nat_lt (p.ram + 8 * k) (Ends p)) area in inl (leb-true (p.trusted + TRUSTED_HEAD) (p.ram + 8 * k) ends.0, ltb-true (p.ram + 8 * k) (Ends p) ends.1))
    | inr heap ↦
        let first = and_parts (nat_le p.heap (p.ram + 8 * k) && nat_lt (p.ram + 8 * k) (p.ram + p.size)) true heap in
        let ends = and_parts (nat_le p.heap (p.ram + 8 * k)) (nat_lt (p.ram + 8 * k) (p.ram + p.size)) first.0 in
        inr (leb-true p.heap (p.ram + 8 * k) ends.0)
  ]

  past_head : (k : ℕ) → TRUSTED_HEAD ≤ k → (if k == 0 then return_sentry else plain 0) ≡ plain 0
  past_head k past = elim (eq_tells k 0) [
    | inl is ↦ absurd (let none = is.1 in omega (arith, none, past))
    | inr not ↦ rw not.0 refl
  ]

  content_zero : (x : ℕ) → HiddenAt p x → boot_cap p x ≡ plain 0
  unfolding boot_cap
  content_zero x (inl area) =
      let long = ends_in p s in
      let low = area.0 in
      let high = area.1 in
      let there : region_at p x ≡ Some (trusted_region p) = found p s 0 x (trusted_region p) (first_region p s) (omega (arith, low), omega (arith, high, long)) in
      ap (λ (o : Option RegionRow). content_at p o x) there ∙ past_head (x - p.trusted) (omega (arith, low))
  content_zero x (inr heap) =
      let none : region_at p x ≡ None = none_there p x (λ i r is lies. let end = (s.laid.each i r is).high in let lt = lies.1 in omega (arith, end, lt, heap)) in
      ap (λ (o : Option RegionRow). content_at p o x) none

  blank_at : (k : ℕ) → is_hidden (image_of p) [] k ≡ true → (granule (boot_state p) k).cap ≡ plain 0
  blank_at k h = ap (λ (g : Granule). g.cap) (same_granule p s k) ∙ elim (lt_tells k (granules_in p)) [
    | inl lt ↦ booted_in p k lt.1 ∙ content_zero (address_of (image_of p) k) (hidden_at k h)
    | inr past ↦ ap (λ (g : Granule). g.cap) (past_none p s k past.1)
  ]

  pub blank : Blank (image_of p) (boot_state p)
  unfolding boot_state
  blank k h = blank_at k h
