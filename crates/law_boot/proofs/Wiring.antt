-- A sound image's board: devices are away from RAM and from the native routines, and reached by imports alone.
use Rattle.std.proofs.Common.{ℕ, suc, ◌≡◌, ◌+◌, ◌*◌, ◌%◌, ◌≤◌, ◌<◌, ◌⊎◌, inl, inr, true, false, List, [], ◌∷◌, map, Some, is_some, slice_get, refl, sym, ◌∙◌, subst, arith, eq-eqb}
use Rattle.std.proofs.lemmas.Bool.{le-leb, lt-ltb}
use Rattle.law_lists.proofs.Tests.{le_tells, lt_tells}
use Rattle.ct_entry.specs.Listed.{DeviceRow}
use Rattle.ct_entry.specs.declared.rows.Kind.TheVariants as kind
use Rattle.def_profile.specs.declared.layout.TheConstants.{DEVICE_SIZE}
use Rattle.def_native.specs.declared.TheConstants.{LAST_NATIVE}
use Rattle.def_profile.specs.declared.native.TheConstants.{NATIVE_BASE, NATIVE_END, NATIVE_UNIT, RETURN_ENTRY}
use Rattle.def_words.specs.Authority.{cap_address}
use Rattle.def_words.specs.Permissions.{bit, load_data, store_data}
use Rattle.def_reach.specs.Roots.{Origin, Listing, is_native}
use Rattle.def_machine.specs.Image.{root, made_cap}
use Rattle.def_step.specs.Devices.{found, found_from, is_of}
use Rattle.def_step.specs.Instructions.{is_native_entry}
use Rattle.def_safety.specs.Wired.{Wired}
use Rattle.def_image.specs.Parts.{PartsRow}
use Rattle.def_image.specs.Sound.{Sound}
use Rattle.def_boot.specs.Boot.{image_of, platform_of, bases_of}
use Rattle.def_boot.specs.Entries.{native_address}
use Rattle.law_boot.proofs.Sets.{clash_of}
use Rattle.law_boot.proofs.Told.{LiesAs, of_nothing, in_ram, native, device, of_key, native_low, native_high}
use Rattle.law_boot.proofs.Clauses.{told_at, interrupts}

not_of : (b x : ℕ) → (x < b) ⊎ (b + DEVICE_SIZE ≤ x) → is_of b x ≡ false
not_of b x out = elim (le_tells b x) [
  | inl from ↦ elim (lt_tells x (b + DEVICE_SIZE)) [
    | inl to ↦ let low = from.1 in let high = to.1 in absurd (elim out [ inl a ↦ omega (arith, a, low) | inr a ↦ omega (arith, a, high) ])
    | inr past ↦ rw (from.0, past.0) refl
  ]
  | inr under ↦ rw under.0 refl
]

none_from : (n x : ℕ) (ds : List DeviceRow) → ((i : ℕ) (d : DeviceRow) → slice_get ds i ≡ Some d → (x < d.base) ⊎ (d.base + DEVICE_SIZE ≤ x)) → is_some (found_from n (map (λ (d : DeviceRow). d.base) ds) x) ≡ false
none_from n x [] out = refl
none_from n x (d ∷ ds) out = rw (not_of d.base x (out 0 d refl)) (none_from (n + 1) x ds (λ i e is. out (suc i) e is))

entry_there : (k : ℕ) → k ≤ LAST_NATIVE → is_native_entry (native_address k) ≡ true
entry_there k few =
    rw (le-leb NATIVE_BASE (native_address k) (omega arith), lt-ltb (native_address k) (NATIVE_BASE + NATIVE_UNIT * (LAST_NATIVE + 1)) (omega (arith, few)), eq-eqb (native_address k % NATIVE_UNIT) 0 (omega arith)) refl

return_there : is_native_entry RETURN_ENTRY ≡ true
return_there = refl

module _ (p : PartsRow) (s : Sound p) where
  -- no device has an address of RAM, or of the native routines
  pub none_in_ram : (x : ℕ) → p.ram ≤ x → x < p.ram + p.size → is_some (found (bases_of p) x) ≡ false
  none_in_ram x low high = none_from 0 x p.devices (λ i d is. elim (s.device i d is).ram [ inl a ↦ inr (omega (arith, a, low)) | inr a ↦ inl (omega (arith, a, high)) ])

  pub none_native : (x : ℕ) → NATIVE_BASE ≤ x → x < NATIVE_END → is_some (found (bases_of p) x) ≡ false
  none_native x low high = none_from 0 x p.devices (λ i d is. elim (s.device i d is).native [ inl a ↦ inr (omega (arith, a, low)) | inr a ↦ inl (omega (arith, a, high)) ])

  natives : (n : ℕ) → is_native (root (image_of p) n).origin ≡ true → is_native_entry (cap_address (made_cap (image_of p) n)) ≡ true
  natives n is = elim (told_at p s n).made [
    | inl none ↦ clash_of (is_native (root (image_of p) n).origin) is none.other
    | inr f ↦ elim (f.native is) [
      | inl at ↦ subst (λ a. is_native_entry a ≡ true) (sym (f.made.made.address_is ∙ at)) return_there
      | inr at ↦ subst (λ a. is_native_entry a ≡ true) (sym (f.made.made.address_is ∙ at.at_entry)) (entry_there (root (image_of p) n).of at.few)
    ]
  ]

  reached : (o : Origin) (base top x : ℕ) → LiesAs p o base top → (o ≡ Listing kind.Key → ⊥) → base ≤ x → x < top → is_some (found (bases_of p) x) ≡ true → o ≡ Listing kind.Device
  reached o base top x (of_nothing no_key none) key low high is = absurd (omega (arith, none, high))
  reached o base top x (in_ram no_key from to) key low high is =
      let inside = s.heap.inside in
      clash_of (is_some (found (bases_of p) x)) is (none_in_ram x (omega (arith, from, low)) (omega (arith, to, high, inside)))
  reached o base top x (native no_key own entry) key low high is =
      let from = native_low base top entry in
      let to = native_high base top entry in
      clash_of (is_some (found (bases_of p) x)) is (none_native x (omega (arith, from, low)) (omega (arith, to, high)))
  reached o base top x (device its at) key low high is = its
  reached o base top x (of_key its from to) key low high is = absurd (key its)

  devices : (n x : ℕ) → (bit (root (image_of p) n).rights load_data ≡ true) ⊎ (bit (root (image_of p) n).rights store_data ≡ true)
      → (root (image_of p) n).base ≤ x → x < (root (image_of p) n).top → is_some (found (bases_of p) x) ≡ true → (root (image_of p) n).origin ≡ Listing kind.Device
  devices n x any low high is = reached _ _ _ x (told_at p s n).lies (λ key. (told_at p s n).rights.no_data key any) low high is

  heap_apart : (x : ℕ) → (image_of p).heap_base ≤ x → x < (image_of p).heap_end → is_some (found (bases_of p) x) ≡ false
  unfolding image_of
  heap_apart x low high = let below = s.heap.below in none_in_ram x (omega (arith, below, low)) high

  pub wired : Wired (platform_of p)
  wired = record { natives = natives; devices = devices; apart = heap_apart; gates = interrupts p s }
