-- The range of each root of a sound image through which something may be loaded, stored or run lies in RAM, is that of a
-- device, or is that of a native routine's entry.
use Rattle.std.proofs.Common.{ℕ, zero, suc, ◌≡◌, ◌+◌, ◌≤◌, ◌<◌, ◌⊎◌, inl, inr, true, false, List, [], ◌∷◌, map, Some, is_some, slice_get, refl, subst, arith}
use Rattle.law_lists.proofs.Tests.{le_tells, lt_tells, bool_tells}
use Rattle.ct_entry.specs.Listed.{DeviceRow}
use Rattle.ct_entry.specs.declared.rows.Kind.TheVariants as kind
use Rattle.def_profile.specs.declared.layout.TheConstants.{DEVICE_SIZE}
use Rattle.def_words.specs.Permissions.{bit, load_data, store_data, execute}
use Rattle.def_reach.specs.Roots.{Origin, Listing, is_root, is_code}
use Rattle.def_safety.specs.Inside.{IsReachable, Inside}
use Rattle.def_machine.specs.Image.{root}
use Rattle.def_step.specs.Devices.{found_from, is_of}
use Rattle.def_image.specs.Parts.{PartsRow}
use Rattle.def_image.specs.Sound.{Sound}
use Rattle.def_boot.specs.Boot.{image_of, platform_of}
use Rattle.law_boot.proofs.Sets.{RightsFit}
use Rattle.law_boot.proofs.Told.{LiesAs, of_nothing, in_ram, native, device, of_key}
use Rattle.law_boot.proofs.Clauses.{told_at}

-- ---- devices

is_one : (base x : ℕ) → base ≤ x → x < base + DEVICE_SIZE → is_of base x ≡ true
is_one base x low high = elim (le_tells base x) [
  | inl from ↦ elim (lt_tells x (base + DEVICE_SIZE)) [
    | inl to ↦ rw (from.0, to.0) refl
    | inr past ↦ let other = past.1 in absurd (omega (arith, other, high))
  ]
  | inr under ↦ let other = under.1 in absurd (omega (arith, other, low))
]

-- an address of a device is found
found_there : (ds : List DeviceRow) (k i x : ℕ) (d : DeviceRow) → slice_get ds i ≡ Some d
    → d.base ≤ x → x < d.base + DEVICE_SIZE
    → is_some (found_from k (map (λ (z : DeviceRow). z.base) ds) x) ≡ true
found_there [] k i x d is low high = absurd (let clash : is_some (Some d) ≡ false = cc in cc)
found_there (e ∷ ds) k zero x d is low high = let same : e ≡ d = cc in rw (same, is_one d.base x low high) refl
found_there (e ∷ ds) k (suc i) x d is low high = elim (bool_tells (is_of e.base x)) [
  | inl here ↦ rw here refl
  | inr other ↦ rw other (found_there ds (k + 1) i x d is low high)
]

-- ---- roots

-- rights to load, to store or to run
abbrev pub Touches : ℕ → Type 0
Touches s = (bit s load_data ≡ true) ⊎ (bit s store_data ≡ true) ⊎ (bit s execute ≡ true)

-- nothing is touched through a key
no_key : (o : Origin) (s : ℕ) → RightsFit o s → is_root o ≡ true → o ≡ Listing kind.Key → Touches s → ⊥
no_key o s fits from is (inl loads) = fits.no_data is (inl loads)
no_key o s fits from is (inr (inl stores)) = fits.no_data is (inr stores)
no_key o s fits from is (inr (inr runs)) =
    let code : is_code o ≡ true = fits.runs runs from in
    absurd (let clash : is_code (Listing kind.Key) ≡ true = subst (λ z. is_code z ≡ true) is code in cc)

module _ (p : PartsRow) (s : Sound p) where
  ram_within : (x : ℕ) → p.ram ≤ x → x < p.ram + p.size → IsReachable (platform_of p) (image_of p).heap_end x
  unfolding image_of
  ram_within x low high = inl (low, high)

  lies_within : (o : Origin) (rights base top x : ℕ) → RightsFit o rights → is_root o ≡ true → Touches rights
      → LiesAs p o base top → base ≤ x → x < top → IsReachable (platform_of p) (image_of p).heap_end x
  lies_within o rights base top x fits from any (of_nothing other none) low high = absurd (omega (arith, none, high))
  lies_within o rights base top x fits from any (in_ram other starts ends) low high =
      let inside = s.heap.inside in
      ram_within x (omega (arith, starts, low)) (omega (arith, ends, inside, high))
  lies_within o rights base top x fits from any (native other own entry) low high =
      let starts = entry.starts in
      let ends = entry.ends in
      inr (inr (record {
        number = entry.number;
        few = entry.few;
        from = omega (arith, starts, low);
        to = omega (arith, starts, ends, high);
      }))
  lies_within o rights base top x fits from any (device its at) low high =
      let starts = at.starts in
      let ends = at.ends in
      inr (inl (found_there p.devices 0 at.index x at.row at.there (omega (arith, starts, low)) (omega (arith, starts, ends, high))))
  lies_within o rights base top x fits from any (of_key its starts ends) low high = absurd (no_key o rights fits from its any)

  root_within : (n x : ℕ) → is_root (root (image_of p) n).origin ≡ true → Touches (root (image_of p) n).rights
      → (root (image_of p) n).base ≤ x → x < (root (image_of p) n).top → IsReachable (platform_of p) (image_of p).heap_end x
  root_within n x from any low high =
      let told = told_at p s n in
      lies_within _ _ _ _ x told.rights from any told.lies low high

  pub inside : Inside (platform_of p)
  inside = record { roots = root_within }
