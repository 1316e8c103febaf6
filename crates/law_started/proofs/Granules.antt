-- The granules of a sound image at boot: what is tagged is fixed, and nothing is marked.
use Rattle.std.proofs.Common.{ℕ, zero, suc, ◌≡◌, ◌+◌, ◌*◌, ◌≤◌, inl, inr, true, false, length, slice_index_or, refl, sym, ap, ◌∙◌, subst, arith}
use Rattle.law_lists.proofs.Tests.{bool_tells, lt_tells}
use Rattle.def_profile.specs.declared.layout.TheConstants.{GRANULE}
use Rattle.def_words.specs.declared.Cap.{Cap}
use Rattle.def_memory.specs.declared.Granule.{Granule}
use Rattle.def_memory.specs.Granules.{nothing}
use Rattle.def_machine.specs.Image.{Region, Fixed, Globals, Shared, HeapRam, Stack, Bare, booted, made_cap, address_of}
use Rattle.def_machine.specs.Image as image
use Rattle.def_machine.specs.State.{granule}
use Rattle.def_confined.specs.Capabilities.{Kept}
use Rattle.def_confined.specs.Places.{InRegion}
use Rattle.def_image.specs.Parts.{PartsRow}
use Rattle.def_image.specs.Sound.{Sound}
use Rattle.def_boot.specs.Contents.{boot_granules, granules_from, granules_in}
use Rattle.def_boot.specs.Boot.{image_of, boot_state}
use Rattle.law_moves.proofs.Puts.{plain_region}
use Rattle.law_boot.proofs.Sets.{no_way}
use Rattle.law_boot.proofs.Granules.{in_ram}
use Rattle.law_boot.proofs.Contents.{booted_in, booted_made, granules_count, granules_past}
use Rattle.law_started.proofs.Tags.{tagged_fixed, kept_made}

none_marked : (p : PartsRow) (x n k : ℕ) → (slice_index_or (granules_from p x n) k nothing).mark ≡ false
none_marked p x zero k = refl
none_marked p x (suc n) zero = refl
none_marked p x (suc n) (suc k) = none_marked p (x + GRANULE) n k

module _ (p : PartsRow) (s : Sound p) where
  pub past_none : (k : ℕ) → granules_in p ≤ k → booted (image_of p) k ≡ nothing
  unfolding image_of boot_granules
  past_none k past = granules_past p p.ram (granules_in p) k past

  fixed_there : (k : ℕ) → (booted (image_of p) k).cap.tag ≡ true → image.region (image_of p) k ≡ Fixed
  fixed_there k tagged = elim (lt_tells k (granules_in p)) [
    | inl lt ↦ in_ram p k lt.1 ∙ tagged_fixed p (address_of (image_of p) k) (ap (λ (c : Cap). c.tag) (sym (booted_in p k lt.1)) ∙ tagged)
    | inr past ↦ no_way (ap (λ (g : Granule). g.cap.tag) (sym (past_none k past.1)) ∙ tagged)
  ]

  pub same_granule : (k : ℕ) → granule (boot_state p) k ≡ booted (image_of p) k
  unfolding image_of boot_state
  same_granule k = refl

  pub unmarked : (k : ℕ) → (granule (boot_state p) k).mark ≡ false
  unfolding boot_state boot_granules
  unmarked k = none_marked p p.ram (granules_in p) k

  pub in_region : (k : ℕ) (g : Granule) → g ≡ booted (image_of p) k → InRegion (image_of p) (boot_state p) k (image.region (image_of p) k) g
  in_region k g e = elim (bool_tells g.cap.tag) [
    | inl is ↦ subst (λ r. InRegion (image_of p) (boot_state p) k r g) (sym (fixed_there k (ap (λ (z : Granule). z.cap.tag) (sym e) ∙ is))) (ap (λ (z : Granule). z.cap) e)
    | inr none ↦ by_region (image.region (image_of p) k) none
  ]
    where
      by_region : (r : Region) → g.cap.tag ≡ false → InRegion (image_of p) (boot_state p) k r g
      by_region Fixed none = ap (λ (z : Granule). z.cap) e
      by_region (Globals o) none = plain_region (image_of p) (boot_state p) k (Globals o) g (λ clash. cc) none
      by_region (Shared o) none = plain_region (image_of p) (boot_state p) k (Shared o) g (λ clash. cc) none
      by_region HeapRam none = plain_region (image_of p) (boot_state p) k HeapRam g (λ clash. cc) none
      by_region (Stack t) none = plain_region (image_of p) (boot_state p) k (Stack t) g (λ clash. cc) none
      by_region Bare none = plain_region (image_of p) (boot_state p) k Bare g (λ clash. cc) none

  made_there : (k : ℕ) → (booted (image_of p) k).cap.tag ≡ true → (n : ℕ) × ((booted (image_of p) k).cap ≡ made_cap (image_of p) n)
  unfolding image_of
  made_there k tagged = booted_made p k tagged

  kept_booted : (k : ℕ) → Kept (image_of p) (booted (image_of p) k).cap
  kept_booted k tagged =
      let found = made_there k tagged in
      subst (λ c. Kept (image_of p) c) (sym found.1) (kept_made p s found.0) tagged

  pub kept_there : (k : ℕ) → Kept (image_of p) (granule (boot_state p) k).cap
  kept_there k = subst (λ (g : Granule). Kept (image_of p) g.cap) (sym (same_granule k)) (kept_booted k)

  pub granules_end : (image_of p).ram + 8 * length (boot_state p).granules ≡ p.ram + p.size
  unfolding image_of boot_state boot_granules
  granules_end =
      let many = granules_count p p.ram (granules_in p) in
      let whole = s.ram.size in
      omega (arith, many, whole)
